use Rattle.grib_select.proofs.Alone.{single_accepted, single_count, single_column}
use Rattle.grib_select.proofs.laws.what_is_cut_out_keeps_its_column.Goals as goal

pub returns : goal.returns
returns c = record { accepted = single_accepted; one = single_count; column = single_column }
