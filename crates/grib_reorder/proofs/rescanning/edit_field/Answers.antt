use Rattle.std.proofs.Common.{ℕ, List, ap, ◌∙◌, subst}
use Rattle.grib2_grids.specs.Grid.{grid_points}
use Rattle.grib_packing.specs.Entries.{packing_fault}
use Rattle.grib_packing.specs.Misfits.{first_misfit}
use Rattle.grib_packing.specs.Packing.{packing_template}
use Rattle.grib_packing.specs.declared.written.PackFault.{PackFault}
use Rattle.grib_packing.specs.Written.{IsPackFault}
use Rattle.grib2_message.specs.Fields.{part_octets}
use Rattle.grib_reorder.specs.Fields.{IsBitmapTemplate}
use Rattle.grib_reorder.specs.Rescanned.{own_target}
use Rattle.grib_reorder.proofs.Edits.{field_edited}
use Rattle.grib_reorder.proofs.Packs.{no_secondary}
use Rattle.grib_reorder.proofs.rescanning.edit_field.Goals as goal

pub pack_as-requires-clause-accepted : goal.pack_as-requires-clause-accepted
pack_as-requires-clause-accepted c =
    let points = grid_points (part_octets c.args.message.now c.args.field 3) in
    (points, ap (λ (s : List ℕ). packing_fault s points) c.in-Some.ensures.part.1 ∙ c.in-Some.ensures.passes.packing)

pub returns-in-Ok : goal.returns-in-Ok
returns-in-Ok c =
    field_edited c.args.edit.now c.args.message.now c.args.field c.one_packing_is_written.ensures c.in-Some.section5.octets.now c.in_ok-column.column c.in-Ok.packed
    c.in-Some.ensures.part.1 c.in_ok-column.ensures c.in-Ok.ensures

pub unreachable-requires-in-Err-SecondaryMissing : goal.unreachable-requires-in-Err-SecondaryMissing
unreachable-requires-in-Err-SecondaryMissing c =
    let s5 = c.in-Some.section5.octets.now in
    let column = c.in_ok-column.column in
    let told =
    subst (λ (fault : PackFault). IsPackFault (first_misfit (own_target s5) column.points) fault) c.in-Err-SecondaryMissing.field-0-is
    c.in-Err-SecondaryMissing.ensures in
    no_secondary s5 column.points c.in-Err-SecondaryMissing.field-0-0
    (λ bitmap. c.in_ok-column.ensures.no_secondary (subst (λ (s : List ℕ). IsBitmapTemplate (packing_template s)) c.in-Some.ensures.part.1 bitmap)) told
