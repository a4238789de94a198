use Rattle.grib1_select.proofs.Set.{opens, length-with_keys1}
use Rattle.grib1_select.proofs.Accepted.{new_message, new_column}
use Rattle.grib1_select.proofs.laws.what_is_set_keeps_the_column.Goals as goal

pub returns : goal.returns
returns c = record {
  accepted = new_message;
  as_long = λ m changes h. length-with_keys1 m changes (opens m h);
  column = new_column;
}
