use Rattle.std.proofs.Common.{ℕ, length, refl, sym, ap₂, ◌∙◌, arith, ltb-false}
use Rattle.std.proofs.lemmas.Result.{err_from_is_err_and}
use Rattle.grib_base.specs.Rules.{first_fault, first_fault_at}
use Rattle.grib_bitmap.specs.Mask.{bitmap_rules}
use Rattle.grib2_sections.specs.Frame.{placed_at}
use Rattle.grib2_message.specs.View.{earlier_bitmap, earlier_mask}
use Rattle.grib2_message.proofs.After.{fault_by_number, bitmap_again, bitmap_new}
use Rattle.grib2_message.proofs.Checked.{keeps_tells}
use Rattle.grib2_message.proofs.Passed.{passes_from_none}
use Rattle.grib2_message.proofs.Sound.{none_located}
use Rattle.grib2_message.proofs.in_force.InForce.bitmap_after.Goals as goal

pub representation-requires : goal.representation-requires
representation-requires c = (c.requires.follows.0, c.requires.follows.1, omega (arith, c.requires.follows.2))

pub u8_at-requires-clause-within : goal.u8_at-requires-clause-within
u8_at-requires-clause-within c =
    let before = c.requires.follows.0 in
    let s = c.args.section.now.octets.now in
    let force = c.args.self.now in
    let tried = c.in_ok-check_bitmap.ensures (earlier_mask before) (keeps_tells force.bitmap (earlier_bitmap before) c.requires.follows.1.bitmap) in
    let rules = bitmap_rules s force.points c.values-values.result (earlier_mask before) in
    ltb-false (length s) 6 (passes_from_none rules (none_located c.args.section.now.start (first_fault rules) tried)).0

pub returns-in_err-check_bitmap : goal.returns-in_err-check_bitmap
returns-in_err-check_bitmap c = λ before h.
    let section = c.args.section.now in
    let s = section.octets.now in
    let force = c.args.self.now in
    let is = fault_by_number before (placed_at section.start s) section.number section.itself.number_stands force.profile 6 c.requires.number
    ∙ ap₂ (λ (p v : ℕ). first_fault_at section.start (bitmap_rules s p v (earlier_mask before))) (sym h.points) (sym (c.values-values.ensures _ (c.representation.ensures before h))) in
    let p = err_from_is_err_and c.from_residual.result c.from_residual.ensures.1 in
    rw (p.1, p.2, is) (c.in_err-check_bitmap.ensures (earlier_mask before) (keeps_tells force.bitmap (earlier_bitmap before) h.bitmap))

pub returns-then-u8_at-ne-OWN_BITS : goal.returns-then-u8_at-ne-OWN_BITS
returns-then-u8_at-ne-OWN_BITS c = λ before h.
    let section = c.args.section.now in
    let s = section.octets.now in
    let force = c.args.self.now in
    let at = placed_at section.start s in
    let is = fault_by_number before at section.number section.itself.number_stands force.profile 6 c.requires.number
    ∙ ap₂ (λ (p v : ℕ). first_fault_at section.start (bitmap_rules s p v (earlier_mask before))) (sym h.points) (sym (c.values-values.ensures _ (c.representation.ensures before h))) in (
      is ∙ c.in_ok-check_bitmap.ensures (earlier_mask before) (keeps_tells force.bitmap (earlier_bitmap before) h.bitmap),
      bitmap_again before at section.number section.itself.number_stands force h c.requires.number
          (λ own. c.if-u8_at-ne-OWN_BITS.true (c.u8_at.ensures ∙ own)),
    )

pub returns : goal.returns
returns c = λ before h.
    let section = c.args.section.now in
    let s = section.octets.now in
    let force = c.args.self.now in
    let at = placed_at section.start s in
    let values = c.values-values.ensures _ (c.representation.ensures before h) in
    let is = fault_by_number before at section.number section.itself.number_stands force.profile 6 c.requires.number
    ∙ ap₂ (λ (p v : ℕ). first_fault_at section.start (bitmap_rules s p v (earlier_mask before))) (sym h.points) (sym values) in
    let none = is ∙ c.in_ok-check_bitmap.ensures (earlier_mask before) (keeps_tells force.bitmap (earlier_bitmap before) h.bitmap) in (
      none,
      bitmap_new before at section.number section.itself.number_stands force h c.requires.number
          (sym c.u8_at.ensures ∙ c.if-u8_at-ne-OWN_BITS.false) none
          (record { start = section.start; points = force.points; present = c.values-values.result }) refl refl values,
    )
