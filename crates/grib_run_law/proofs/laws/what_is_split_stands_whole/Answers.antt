use Rattle.grib_run_law.proofs.Shelved.{stands_first, stands_all}
use Rattle.grib_run_law.proofs.laws.what_is_split_stands_whole.Goals as goal

pub returns-clause-first : goal.returns-clause-first
returns-clause-first c = stands_first

pub returns-clause-whole : goal.returns-clause-whole
returns-clause-whole c = stands_all
