use Rattle.grib_migrate_law.proofs.Migrated.{migrated_points, migrated_meaning}
use Rattle.grib_migrate_law.proofs.laws.what_is_migrated_keeps_its_values.Goals as goal

pub returns-clause-points : goal.returns-clause-points
returns-clause-points c = migrated_points

pub returns-clause-meaning : goal.returns-clause-meaning
returns-clause-meaning c = migrated_meaning
