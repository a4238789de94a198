use Rattle.std.proofs.Common.{◌≡◌, ℕ, Some, is_some, List, sym, ap, ◌∙◌, subst, arith}
use Rattle.grib2_sections.specs.Frame.{placed_at}
use Rattle.grib2_message.specs.Fields.{field_sections, part, part_octets}
use Rattle.grib2_message.specs.Kept.{IsField}
use Rattle.grib2_message.proofs.Latest.{none_in_force, kept_in_force, in_force_stands, in_force_placed}
use Rattle.grib2_message.proofs.message.Message.part.Goals as goal

pub returns-then-places-section-eq0-clause-part : goal.returns-then-places-section-eq0-clause-part
returns-then-places-section-eq0-clause-part c =
    let m = c.args.self.now in
    none_in_force m (field_sections m c.args.field) c.places-places.result.now c.args.section c.places-places.ensures.kept.stand (omega (arith, c.requires.high)) c.if-places-section-eq0.true

pub returns-then-places-section-eq0-clause-present : goal.returns-then-places-section-eq0-clause-present
returns-then-places-section-eq0-clause-present c = λ other same.
    let m = c.args.self.now in
    let field = c.places-places.ensures.kept in
    let none = none_in_force m (field_sections m c.args.field) c.places-places.result.now c.args.section field.stand (omega (arith, c.requires.high)) c.if-places-section-eq0.true in
    let some = field.stand.force.sound.present c.args.section c.requires.low (omega (arith, field.ends, c.requires.high)) other in
    let clash = sym (ap is_some none) ∙ some in
    absurd (cc)

pub section-requires-clause-stands : goal.section-requires-clause-stands
section-requires-clause-stands c =
    let m = c.self.inside.octets.now in
    let i = c.args.field in
    let places = c.places-places.result.now in
    let before = field_sections m i in
    let field = subst (λ (x : List ℕ). IsField x (field_sections x i) places) (sym c.self.view_is) c.places-places.ensures.kept in
    in_force_stands m before places c.args.section field.stand (omega (arith, c.requires.high))
    (kept_in_force m before places c.args.section field.stand (omega (arith, c.requires.high)) (omega (arith, c.if-places-section-eq0.false)))

pub returns-clause-part : goal.returns-clause-part
returns-clause-part c =
    let m = c.self.inside.octets.now in
    let i = c.args.field in
    let places = c.places-places.result.now in
    let before = field_sections m i in
    let field = subst (λ (x : List ℕ). IsField x (field_sections x i) places) (sym c.self.view_is) c.places-places.ensures.kept in
    let found = in_force_placed m before places c.args.section field.stand (omega (arith, c.requires.high)) (omega (arith, c.if-places-section-eq0.false)) in (
      subst (λ (x : List ℕ). part x i c.args.section ≡ Some (placed_at c.section.result.start c.section.result.octets.now)) c.self.view_is
          (found ∙ (λ j. Some (placed_at (sym c.section.ensures.start j) (sym (c.section.ensures.octets before field.stand) j)))),
      subst (λ (x : List ℕ). c.section.result.octets.now ≡ part_octets x i c.args.section) c.self.view_is (c.section.ensures.octets before field.stand),
      c.section.ensures.number,
    )
