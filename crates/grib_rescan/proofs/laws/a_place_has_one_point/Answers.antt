use Rattle.grib_rescan.proofs.Turns.{point_at-lt, place-point_at, point_at-place}
use Rattle.grib_rescan.proofs.laws.a_place_has_one_point.Goals as goal

pub returns-clause-within : goal.returns-clause-within
returns-clause-within c = point_at-lt

pub returns-clause-place : goal.returns-clause-place
returns-clause-place c = place-point_at

pub returns-clause-point : goal.returns-clause-point
returns-clause-point c = point_at-place
