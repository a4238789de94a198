use Rattle.grib_migrate_law.proofs.Migrated.{migrated_is_message, migrated_one_field}
use Rattle.grib_migrate_law.proofs.laws.what_is_migrated_is_accepted.Goals as goal

pub returns-clause-accepted : goal.returns-clause-accepted
returns-clause-accepted c = migrated_is_message

pub returns-clause-one_field : goal.returns-clause-one_field
returns-clause-one_field c = migrated_one_field
