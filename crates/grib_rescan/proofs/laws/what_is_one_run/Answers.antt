use Rattle.grib_rescan.proofs.Members.{run_is, is_run}
use Rattle.grib_rescan.proofs.laws.what_is_one_run.Goals as goal

pub returns-clause-run : goal.returns-clause-run
returns-clause-run c = run_is

pub returns-clause-found : goal.returns-clause-found
returns-clause-found c = is_run
