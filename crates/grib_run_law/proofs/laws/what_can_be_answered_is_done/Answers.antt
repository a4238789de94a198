use Rattle.grib_run_law.proofs.Complete.{job_done}
use Rattle.grib_run_law.proofs.laws.what_can_be_answered_is_done.Goals as goal

pub returns : goal.returns
returns c = job_done
