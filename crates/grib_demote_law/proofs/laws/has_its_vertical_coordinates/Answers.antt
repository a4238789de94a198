use Rattle.grib_demote_law.proofs.Keys.{coordinates_come_back}
use Rattle.grib_demote_law.proofs.laws.has_its_vertical_coordinates.Goals as goal

pub returns : goal.returns
returns c = coordinates_come_back
