use Rattle.grib_select.proofs.Kept.{can_be_set, changed_accepted, changed_fields, changed_column}
use Rattle.grib_select.proofs.Told.{stand_once, all_told}
use Rattle.grib_select.proofs.laws.what_is_set_keeps_each_column.Goals as goal

pub returns : goal.returns
returns c = record {
  accepted = λ profile m changes h set. changed_accepted profile m changes h (can_be_set changes set);
  fields = λ profile m changes h set. changed_fields profile m changes h (can_be_set changes set);
  columns = λ profile m changes i h set. changed_column profile m changes h (can_be_set changes set) i;
  values = λ profile m changes i h set once none low high. all_told profile m changes h (can_be_set changes set) i low high none (stand_once changes once);
}
