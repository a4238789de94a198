use Rattle.grib_rescan.specs.Points.{width, height}
use Rattle.grib_rescan.proofs.Rows.{box_length, box_at}
use Rattle.grib_rescan.proofs.laws.what_is_cropped_keeps_each_place.Goals as goal

pub returns-clause-length : goal.returns-clause-length
returns-clause-length c area ni nj points = box_length ni nj points area.i0 (width area) area.j0 (height area)

pub returns-clause-places : goal.returns-clause-places
returns-clause-places c area ni nj i j points = box_at ni nj points area.i0 (width area) area.j0 (height area) i j
