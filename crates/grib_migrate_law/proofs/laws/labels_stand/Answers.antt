use Rattle.grib_migrate_law.proofs.Labels.{chosen_labels}
use Rattle.grib_migrate_law.proofs.laws.labels_stand.Goals as goal

pub returns : goal.returns
returns c = chosen_labels
