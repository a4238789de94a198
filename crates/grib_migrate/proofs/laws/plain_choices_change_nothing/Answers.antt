use Rattle.grib_migrate.proofs.Plain.{plain_loss, plain_migrated}
use Rattle.grib_migrate.proofs.laws.plain_choices_change_nothing.Goals as goal

pub returns-clause-losses : goal.returns-clause-losses
returns-clause-losses c = plain_loss

pub returns-clause-octets : goal.returns-clause-octets
returns-clause-octets c = plain_migrated
