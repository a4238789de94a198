use Rattle.grib_coding.proofs.Folds.{each}
use Rattle.grib_coding.proofs.laws.each_code_once.Goals as goal

pub returns-clause-each : goal.returns-clause-each
returns-clause-each c most before code b within = each most before code b within
