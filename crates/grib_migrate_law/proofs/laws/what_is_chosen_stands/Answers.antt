use Rattle.grib_migrate_law.proofs.Migrated.{chosen_parts, chosen_local}
use Rattle.grib_migrate_law.proofs.laws.what_is_chosen_stands.Goals as goal

pub returns-clause-identification : goal.returns-clause-identification
returns-clause-identification c = λ table surfaces local message may. (chosen_parts table surfaces local message may).0

pub returns-clause-product : goal.returns-clause-product
returns-clause-product c = λ table surfaces local message may. (chosen_parts table surfaces local message may).2

pub returns-clause-own : goal.returns-clause-own
returns-clause-own c = chosen_local
