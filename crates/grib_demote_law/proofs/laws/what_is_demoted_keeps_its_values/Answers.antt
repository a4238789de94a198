use Rattle.grib_demote_law.proofs.Meaning.{demoted_points, demoted_meaning}
use Rattle.grib_demote_law.proofs.laws.what_is_demoted_keeps_its_values.Goals as goal

pub returns-clause-points : goal.returns-clause-points
returns-clause-points c = demoted_points

pub returns-clause-meaning : goal.returns-clause-meaning
returns-clause-meaning c = demoted_meaning
