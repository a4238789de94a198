use Rattle.grib_same.proofs.Differences.{same_decides, points_decide}
use Rattle.grib_same.proofs.laws.tests_decide_sameness.Goals as goal

pub returns-clause-values : goal.returns-clause-values
returns-clause-values c = same_decides

pub returns-clause-points : goal.returns-clause-points
returns-clause-points c = points_decide
