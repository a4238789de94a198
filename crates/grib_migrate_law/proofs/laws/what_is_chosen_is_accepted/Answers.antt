use Rattle.grib_migrate_law.proofs.Migrated.{chosen_is_message, chosen_one_field}
use Rattle.grib_migrate_law.proofs.laws.what_is_chosen_is_accepted.Goals as goal

pub returns-clause-accepted : goal.returns-clause-accepted
returns-clause-accepted c = chosen_is_message

pub returns-clause-one_field : goal.returns-clause-one_field
returns-clause-one_field c = chosen_one_field
