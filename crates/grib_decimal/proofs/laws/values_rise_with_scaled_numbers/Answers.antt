use Rattle.grib_decimal.proofs.Orders.{at_most}
use Rattle.grib_decimal.proofs.laws.values_rise_with_scaled_numbers.Goals as goal

pub returns : goal.returns
returns c = at_most
