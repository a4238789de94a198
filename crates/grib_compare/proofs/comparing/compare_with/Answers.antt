use Rattle.std.proofs.Common.{◌≡◌, None, sym, ap, ◌∙◌, subst}
use Rattle.grib_file.specs.Filed.{field_of}
use Rattle.grib_compare.specs.Command.{opaque_cause, packing_of}
use Rattle.grib_compare.specs.Fields.{compared}
use Rattle.grib_compare.specs.Seen.{readable_octets, readable_field}
use Rattle.grib_compare.proofs.Itself.{compared_itself}
use Rattle.grib_compare.proofs.comparing.compare_with.Goals as goal

pub returns-in_ok-comparison-in-Ok : goal.returns-in_ok-comparison-in-Ok
returns-in_ok-comparison-in-Ok c =
    let other = c.args.other.now in (
      subst (λ m. opaque_cause m (λ o. packing_of other.message o c.args.field) ≡ None) c.requires.octets (c.in-Ok.ensures.1 (λ o. packing_of other.message o c.args.field)),
      c.in_ok-comparison-in-Ok.ensures
          ∙ ap (λ m. compared c.args.sections (readable_field c.args.message.now c.args.field) (field_of m c.number-other_field.result)) (c.in-Ok.ensures.0 ∙ c.requires.octets)
          ∙ ap (λ n. compared c.args.sections (readable_field c.args.message.now c.args.field) (field_of other.message n)) c.number-other_field.ensures.number,
    )

pub returns-then-field-other_field : goal.returns-then-field-other_field
returns-then-field-other_field c =
    let message = readable_octets c.args.message.now in
    let other = c.args.other.now in
    let same : message ≡ other.message = c.requires.same c.if-read.true in
    let field : c.args.field ≡ other.number = c.if-field-other_field.true ∙ c.number-other_field.ensures.number in
    let as_other : field_of message c.args.field ≡ other = ap (λ m. field_of m c.args.field) same ∙ ap (field_of other.message) field in (
      subst (λ m. opaque_cause m (λ o. packing_of other.message o c.args.field) ≡ None) same (c.requires.clear (λ o. packing_of other.message o c.args.field)),
      sym (compared_itself c.args.sections (field_of message c.args.field)) ∙ ap (compared c.args.sections (field_of message c.args.field)) as_other,
    )
