use Rattle.std.proofs.Common.{◌≡◌, ◌≤◌, Option, IfSome, length, sym, ◌∙◌, arith, subst}
use Rattle.grib_base.specs.declared.profile.Profile.TheVariants.{Open}
use Rattle.grib2_grids.specs.Grid.{grid_points}
use Rattle.grib2_message.specs.Fields.{part_octets, column_of}
use Rattle.grib2_message.proofs.Masks.{points_bounds}
use Rattle.grib_rescan.specs.Sections.{HasTemplate}
use Rattle.grib_rescan.specs.Source.{number_points}
use Rattle.grib_rescan.proofs.Added.{all_added}
use Rattle.grib_reorder.specs.declared.plain.PlainField.{PlainField}
use Rattle.grib_reorder.specs.Plain.{plain_column, PlainStands}
use Rattle.grib_reorder.proofs.Edits.{rules_stated, column_edited}
use Rattle.grib_reorder.proofs.rescanning.edit_column.Goals as goal

pub cause-requires : goal.cause-requires
cause-requires c =
    subst HasTemplate (sym c.in-Some.ensures.part.1)
    (c.what_has_no_cause.ensures.template Open (part_octets c.args.message.now c.args.field 3) c.in-Some.ensures.passes.grid)

pub takes_numbers-requires-clause-accepted : goal.takes_numbers-requires-clause-accepted
takes_numbers-requires-clause-accepted c =
    rules_stated c.args.edit.now c.args.message.now c.args.field c.in-Some.section3.octets.now c.in-Some.ensures.part.1 c.in-Some.ensures.passes (sym c.cause.ensures ∙ c.in_default-cause.is)

pub plain_column-requires-clause-accepted : goal.plain_column-requires-clause-accepted
plain_column-requires-clause-accepted c =
    rules_stated c.args.edit.now c.args.message.now c.args.field c.in-Some.section3.octets.now c.in-Some.ensures.part.1 c.in-Some.ensures.passes (sym c.cause.ensures ∙ c.in_default-cause.is)

pub column-requires-2-clause-accepted : goal.column-requires-2-clause-accepted
column-requires-2-clause-accepted c =
    rules_stated c.args.edit.now c.args.message.now c.args.field c.in-Some.section3.octets.now c.in-Some.ensures.part.1 c.in-Some.ensures.passes (sym c.cause.ensures ∙ c.in_default-cause.is)

pub returns-in-Some-2 : goal.returns-in-Some-2
returns-in-Some-2 c =
    let m = c.args.message.now in
    let i = c.args.field in
    let points = grid_points (part_octets m i 3) in
    let plain = c.in-Some-2.plain in
    let stands = subst (λ (found : Option PlainField). IfSome found (λ field. PlainStands points field)) c.in-Some-2.is c.in_ok-plain.ensures.stands in
    let column = subst (λ (found : Option PlainField). IfSome found (λ field. plain_column field ≡ column_of m i)) c.in-Some-2.is c.in_ok-plain.ensures.column in
    let bounds = points_bounds Open (part_octets m i 3) c.in-Some.ensures.passes.grid in
    let long : length (number_points plain.numbers) ≡ points = all_added plain.numbers ∙ stands.count in
    let some : 1 ≤ length (number_points plain.numbers) = omega (arith, long, bounds.0) in
    let few : length (number_points plain.numbers) ≤ 33554432 = omega (arith, long, bounds.1) in
    column_edited c.args.edit.now m i c.in-Some.section3.octets.now (plain_column plain) c.in_ok-plain_column.field-0
    c.requires.stands c.in-Some.ensures.part.1 c.in-Some.ensures.passes (sym c.cause.ensures ∙ c.in_default-cause.is) column some few c.in_ok-plain_column.ensures

pub returns : goal.returns
returns c =
    let e = c.in_ok-column.ensures in
    column_edited c.args.edit.now c.args.message.now c.args.field c.in-Some.section3.octets.now c.in_ok-column.column c.in_ok-column-2.field-0
    c.requires.stands c.in-Some.ensures.part.1 c.in-Some.ensures.passes (sym c.cause.ensures ∙ c.in_default-cause.is) e.column e.some e.few c.in_ok-column-2.ensures
