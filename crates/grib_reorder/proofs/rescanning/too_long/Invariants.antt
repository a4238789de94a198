use Rattle.std.proofs.Common.{◌≡◌, ◌≤◌, ◌<◌, ◌+◌, ◌*◌, map}
use Rattle.std.specs.List.{range_with_len}
use Rattle.grib_reorder.specs.Fields.{AreFieldsEdited, length_with}
use Rattle.grib_reorder.specs.Rescanned.{edited_field}
use Rattle.grib_reorder.proofs.rescanning.too_long.Given as goal

abbrev pub invariant-loop-before : goal.invariant-loop-before
invariant-loop-before l = record {
  edited : AreFieldsEdited l.edit l.message l.before (map (edited_field l.edit l.message) (range_with_len 1 l.before));
  whole : l.whole ≡ length_with l.edit l.message l.before;
  long : 268435456 < l.whole;
  few : l.whole ≤ 17179869184 * (l.before + 1);
}
