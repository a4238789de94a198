use Rattle.std.proofs.Common.{length, ap, ◌∙◌}
use Rattle.std.proofs.lemmas.List.FromFn.{length-map-range_with_len}
use Rattle.grib2_message.specs.Fields.{field_count}
use Rattle.grib_reorder.specs.Rescanned.{edited_field}
use Rattle.grib_reorder.proofs.Fields.{each_taken}
use Rattle.grib_reorder.proofs.rescanning.edit_message.Goals as goal

pub assemble_with-requires-clause-one_each : goal.assemble_with-requires-clause-one_each
assemble_with-requires-clause-one_each c =
    let m = c.args.message.now in
    ap length (c.deref.ensures.value ∙ c.in_ok-packed.ensures.are) ∙ length-map-range_with_len (edited_field c.args.edit.now m) 1 (field_count m)

pub assemble_with-requires-clause-grids : goal.assemble_with-requires-clause-grids
assemble_with-requires-clause-grids c i low high =
    let m = c.args.message.now in
    let taken = each_taken c.args.edit.now m (field_count m) _ c.in_ok-packed.ensures i low high in
    (c.requires, taken.0, taken.1)
