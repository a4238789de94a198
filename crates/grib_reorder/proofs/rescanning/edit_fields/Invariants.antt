use Rattle.std.proofs.Common.{◌≡◌, ◌≤◌}
use Rattle.grib_reorder.specs.Fields.{AreFieldsEdited, length_with}
use Rattle.grib_reorder.proofs.rescanning.edit_fields.Given as goal

abbrev pub invariant-loop-before : goal.invariant-loop-before
invariant-loop-before l = record {
  edited : AreFieldsEdited l.edit l.message l.before l.packed.items;
  total : l.total ≡ length_with l.edit l.message l.before;
  few : l.total ≤ 268435456;
}
