use Rattle.grib_items.proofs.Plain.{nothing_passed}
use Rattle.grib_items.proofs.laws.nothing_is_passed.Goals as goal

pub returns : goal.returns
returns c = nothing_passed
