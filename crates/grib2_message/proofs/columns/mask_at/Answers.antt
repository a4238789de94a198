use Rattle.std.proofs.Common.{◌≡◌, ℕ, Bool, None, Result, IfOk, List, length, sym, ap, ◌∙◌, arith}
use Rattle.std.proofs.lemmas.Result.{IfOk-weaker}
use Rattle.grib_base.specs.Rules.{first_fault}
use Rattle.grib_bitmap.specs.Mask.{bitmap_indicator, bitmap_rules, mask_of, present_count}
use Rattle.grib_packing.specs.Packing.{value_count}
use Rattle.grib2_sections.specs.Frame.{Placed}
use Rattle.grib2_message.specs.View.{octets_in_force, points_in_force, mask_in_force}
use Rattle.grib2_message.proofs.Checked.{stands_below}
use Rattle.grib2_message.proofs.Masks.{IsFieldMask, mask_without, bitmap_there, repeated, mask_repeated}
use Rattle.grib2_message.proofs.columns.mask_at.Goals as goal

told : {E : Type 0} → (before : List Placed) (result : Result (List Bool) E) (expected : List Bool) → ((found : List Bool) → found ≡ expected → IsFieldMask before found)
    → IfOk result (λ mask. mask ≡ expected)
    → IfOk result (λ mask. (mask ≡ mask_in_force before) × (length mask ≡ points_in_force before) × (present_count mask ≡ value_count (octets_in_force 5 before)))
told before result expected each h =
    IfOk-weaker result (λ mask. mask ≡ expected)
    (λ mask. (mask ≡ mask_in_force before) × (length mask ≡ points_in_force before) × (present_count mask ≡ value_count (octets_in_force 5 before)))
    (λ found is. (let r = each found is in (r.is, r.long, r.values))) h

pub section-section-requires-clause-stands : goal.section-section-requires-clause-stands
section-section-requires-clause-stands c =
    stands_below c.args.octets.now c.requires.0 c.args.places.now 6 c.requires.1.stand (omega arith) (omega arith) (omega (arith, c.requires.1.ends))

pub representation-requires : goal.representation-requires
representation-requires c = (c.requires.0, c.requires.1.stand.force, omega (arith, c.requires.1.ends))

pub returns-then-u8_at : goal.returns-then-u8_at
returns-then-u8_at c = λ before h.
    let section = c.section-section.ensures.octets before h.stand in
    let indicator : bitmap_indicator (octets_in_force 6 before) ≡ c.u8_at.result = ap bitmap_indicator (sym section) ∙ sym c.u8_at.ensures in
    told before c.accepted_mask.result (mask_of c.section-section.result.octets.now c.args.places.now.force.points None)
    (λ found is. mask_without c.args.octets.now before c.args.places.now h found (omega (arith, indicator, c.u8_at.type_inv)) (λ e. c.if-u8_at.true (sym indicator ∙ e))
    (is ∙ (λ i. mask_of (section i) (h.stand.force.points i) None)))
    c.accepted_mask.ensures

pub unreachable-requires : goal.unreachable-requires
unreachable-requires c =
    let section = c.section-section.ensures.octets c.requires.0 c.requires.1.stand in
    bitmap_there c.args.octets.now c.requires.0 c.args.places.now c.requires.1
    (ap bitmap_indicator (sym section) ∙ sym c.u8_at.ensures ∙ c.if-u8_at.false) c.in_default.is

pub section_from-earlier-requires : goal.section_from-earlier-requires
section_from-earlier-requires c =
    (repeated c.args.octets.now c.requires.0 c.args.places.now c.requires.1 c.in-Some.bitmap c.in-Some.is).stands

pub accepted_mask-requires-2 : goal.accepted_mask-requires-2
accepted_mask-requires-2 c =
    let bitmap = c.in-Some.bitmap in
    let r = repeated c.args.octets.now c.requires.0 c.args.places.now c.requires.1 bitmap c.in-Some.is in
    record { accepted = ap (λ (x : List ℕ). first_fault (bitmap_rules x bitmap.points bitmap.present None)) (c.section_from-earlier.ensures.octets ∙ r.octets_are) ∙ r.kept.rules }

pub returns : goal.returns
returns c = λ before h.
    let section = c.section-section.ensures.octets before h.stand in
    let indicator : bitmap_indicator (octets_in_force 6 before) ≡ 254 = ap bitmap_indicator (sym section) ∙ sym c.u8_at.ensures ∙ c.if-u8_at.false in
    let bitmap = c.in-Some.bitmap in
    let r = repeated c.args.octets.now before c.args.places.now h bitmap c.in-Some.is in
    told before c.accepted_mask-2.result (mask_of c.section_from-earlier.result.octets.now bitmap.points None)
    (λ found is. mask_repeated c.args.octets.now before c.args.places.now h bitmap found indicator r
    (is ∙ ap (λ x. mask_of x bitmap.points None) c.section_from-earlier.ensures.octets))
    c.accepted_mask-2.ensures
