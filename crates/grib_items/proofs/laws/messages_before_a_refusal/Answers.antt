use Rattle.grib_items.proofs.Orders.{messages_first}
use Rattle.grib_items.proofs.laws.messages_before_a_refusal.Goals as goal

pub returns : goal.returns
returns c = messages_first
