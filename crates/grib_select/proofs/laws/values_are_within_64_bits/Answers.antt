use Rattle.grib_select.proofs.Bounded.{values_within}
use Rattle.grib_select.proofs.laws.values_are_within_64_bits.Goals as goal

pub returns : goal.returns
returns c = values_within
