use Rattle.grib_demote_law.proofs.WayBack.{nothing_lost}
use Rattle.grib_demote_law.proofs.laws.nothing_is_lost_on_the_way_back.Goals as goal

pub returns : goal.returns
returns c = nothing_lost
