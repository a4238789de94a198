use Rattle.grib_fewest.proofs.Steps.{fewest}
use Rattle.grib_fewest.proofs.laws.no_list_has_fewer_bits.Goals as goal

pub returns : goal.returns
returns c coding numbers items fits tells segments = fewest coding numbers items fits tells segments
