use Rattle.grib_demote_law.proofs.Accepted.{demoted_is_message}
use Rattle.grib_demote_law.proofs.laws.what_is_demoted_is_accepted.Goals as goal

pub returns : goal.returns
returns c = demoted_is_message
