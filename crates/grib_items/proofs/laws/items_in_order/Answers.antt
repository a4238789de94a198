use Rattle.grib_items.proofs.Orders.{in_order}
use Rattle.grib_items.proofs.laws.items_in_order.Goals as goal

pub returns : goal.returns
returns c = in_order
