use Rattle.grib_migrate_law.proofs.Migrated.{chosen_points, chosen_meaning}
use Rattle.grib_migrate_law.proofs.laws.what_is_chosen_keeps_its_values.Goals as goal

pub returns-clause-points : goal.returns-clause-points
returns-clause-points c = chosen_points

pub returns-clause-meaning : goal.returns-clause-meaning
returns-clause-meaning c = chosen_meaning
