use Rattle.grib_demote_law.proofs.Meaning.{points_come_back, meaning_comes_back}
use Rattle.grib_demote_law.proofs.laws.means_what_it_meant.Goals as goal

pub returns-clause-points : goal.returns-clause-points
returns-clause-points c = points_come_back

pub returns-clause-meaning : goal.returns-clause-meaning
returns-clause-meaning c = meaning_comes_back
