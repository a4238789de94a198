use Rattle.grib_decimal.proofs.Orders.{bound_none}
use Rattle.grib_decimal.proofs.bounds.Greatest.none.Goals as goal

pub returns : goal.returns
returns c = λ points. bound_none _ _ points 0
