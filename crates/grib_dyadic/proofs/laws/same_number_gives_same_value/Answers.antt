use Rattle.grib_dyadic.proofs.Values.{value_of-same}
use Rattle.grib_dyadic.proofs.laws.same_number_gives_same_value.Goals as goal

pub returns : goal.returns
returns c = value_of-same
