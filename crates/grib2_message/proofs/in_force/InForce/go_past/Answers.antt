use Rattle.std.proofs.Common.{◌≡◌, ◌+◌, ℕ, sym, ap, ◌∙◌, subst, arith}
use Rattle.std.proofs.lemmas.Result.{err_from_is_err_and}
use Rattle.grib_base.specs.Rules.{first_fault_at, located}
use Rattle.grib2_grids.proofs.Under.{grid_header_length}
use Rattle.grib2_products.specs.Opaque.{product_rules_under}
use Rattle.grib_packing.specs.Entries.{packing_fault_under}
use Rattle.grib2_sections.specs.Frame.{placed_at, may_follow}
use Rattle.grib2_message.specs.View.{last_number, octets_in_force}
use Rattle.grib2_message.proofs.After.{fault_by_number, number_in_range, number_below, force_other, force_grid, force_read, force_bitmap}
use Rattle.grib2_message.proofs.Checked.{products_are_fields, tried_as}
use Rattle.grib2_message.proofs.Masks.{points_bounds}
use Rattle.grib2_message.proofs.Order.{Follows, follows_tells}
use Rattle.grib2_message.proofs.Sound.{none_located}
use Rattle.grib2_message.proofs.in_force.InForce.go_past.Goals as goal

pub returns-in-1-clause-tried : goal.returns-in-1-clause-tried
returns-in-1-clause-tried c = λ before h follows.
    let section = c.args.section.now in
    let at = placed_at section.start section.octets.now in
    let numbered = section.itself.number_stands in
    tried_as _ _ c.check_identification.result _ (fault_by_number before at section.number numbered c.args.self.now.profile 1 c.in-1.is) c.check_identification.ensures
    (λ none. force_other before at section.number numbered follows c.args.self.now h none
    (λ x. absurd (omega (arith, c.in-1.is))) (λ x. absurd (omega (arith, c.in-1.is))) (λ x. absurd (omega (arith, c.in-1.is))) (λ x. absurd (omega (arith, c.in-1.is))))

pub u32_at-self-requires-clause-within : goal.u32_at-self-requires-clause-within
u32_at-self-requires-clause-within c =
    let section = c.args.section.now in
    omega (arith, grid_header_length c.args.self.now.profile section.octets.now (none_located section.start _ c.in_ok-check_grid-in-3.ensures))

pub returns-in_ok-check_grid-in-3-clause-tried : goal.returns-in_ok-check_grid-in-3-clause-tried
returns-in_ok-check_grid-in-3-clause-tried c = λ before h follows.
    let section = c.args.section.now in
    let at = placed_at section.start section.octets.now in
    let numbered = section.itself.number_stands in
    let none = fault_by_number before at section.number numbered c.args.self.now.profile 3 c.in-3.is ∙ c.in_ok-check_grid-in-3.ensures in
    (none, force_grid before at section.number numbered follows c.args.self.now h none c.in-3.is _ c.u32_at-self.ensures)

pub returns-in-4-clause-tried : goal.returns-in-4-clause-tried
returns-in-4-clause-tried c = λ before h follows.
    let section = c.args.section.now in
    let s = section.octets.now in
    let at = placed_at section.start s in
    let numbered = section.itself.number_stands in
    let f = subst (λ (n : ℕ). Follows (last_number before) n) c.in-4.is (follows_tells (last_number before) section.number follows) in
    let count = products_are_fields c.args.self.now.profile before h.sound f ∙ sym h.fields in
    tried_as _ _ c.check_product.result _
    (fault_by_number before at section.number numbered c.args.self.now.profile 4 c.in-4.is ∙ ap (λ (n : ℕ). first_fault_at section.start (product_rules_under c.args.self.now.profile s (n + 1))) count) c.check_product.ensures
    (λ none. force_other before at section.number numbered follows c.args.self.now h none
    (λ x. absurd (omega (arith, c.in-4.is))) (λ x. absurd (omega (arith, c.in-4.is))) (λ x. absurd (omega (arith, c.in-4.is))) (λ x. absurd (omega (arith, c.in-4.is))))

pub read-requires : goal.read-requires
read-requires c =
    let r = c.requires.follows in
    let section = c.args.section.now in
    let below = number_below r.0 (placed_at section.start section.octets.now) section.number section.itself.number_stands r.2 (omega (arith, c.in-5.is)) in
    let bounds = points_bounds c.args.self.now.profile (octets_in_force 3 r.0) (r.1.sound.grid (omega (arith, below, c.in-5.is))) in
    omega (arith, bounds.1, r.1.points)

pub returns-in_ok-read-in-5-clause-tried : goal.returns-in_ok-read-in-5-clause-tried
returns-in_ok-read-in-5-clause-tried c = λ before h follows.
    let section = c.args.section.now in
    let s = section.octets.now in
    let at = placed_at section.start s in
    let numbered = section.itself.number_stands in
    let read = c.in_ok-read-in-5.ensures in
    let none = fault_by_number before at section.number numbered c.args.self.now.profile 5 c.in-5.is ∙ ap (λ (n : ℕ). located section.start (packing_fault_under c.args.self.now.profile s n)) (sym h.points) ∙ ap (located section.start) read.0 in
    (none, force_read before at section.number numbered follows c.args.self.now h none c.in-5.is _ read.1)

pub bitmap_after-requires : goal.bitmap_after-requires
bitmap_after-requires c =
    let r = c.requires.follows in
    let section = c.args.section.now in
    let below = number_below r.0 (placed_at section.start section.octets.now) section.number section.itself.number_stands r.2 (omega (arith, c.in-6.is)) in
    record { follows = (r.0, r.1, omega (arith, below, c.in-6.is)); number = c.in-6.is }

pub returns-in_err-self-in-6-clause-tried : goal.returns-in_err-self-in-6-clause-tried
returns-in_err-self-in-6-clause-tried c = λ before h follows.
    let p = err_from_is_err_and c.from_residual-in_err-self-in-6.result c.from_residual-in_err-self-in-6.ensures.1 in
    rw (p.1, p.2) (c.in_err-self-in-6.ensures before h)

pub returns-in_ok-self-in-6-clause-tried : goal.returns-in_ok-self-in-6-clause-tried
returns-in_ok-self-in-6-clause-tried c = λ before h follows.
    let section = c.args.section.now in
    let tried = c.in_ok-self-in-6.ensures before h in
    (tried.0, force_bitmap before (placed_at section.start section.octets.now) section.number section.itself.number_stands follows c.args.self.now h tried.0 c.in-6.is _ tried.1)

pub representation-requires : goal.representation-requires
representation-requires c =
    let r = c.requires.follows in
    let section = c.args.section.now in
    let below = number_below r.0 (placed_at section.start section.octets.now) section.number section.itself.number_stands r.2 (omega (arith, c.in-7.is)) in
    (r.0, r.1, omega (arith, below, c.in-7.is))

pub check_data-requires : goal.check_data-requires
check_data-requires c =
    let r = c.requires.follows in
    (octets_in_force 5 r.0, c.representation.ensures r.0 r.1)

pub returns-in_err-check_data-in-7-clause-tried : goal.returns-in_err-check_data-in-7-clause-tried
returns-in_err-check_data-in-7-clause-tried c = λ before h follows.
    let section = c.args.section.now in
    let is = fault_by_number before (placed_at section.start section.octets.now) section.number section.itself.number_stands c.args.self.now.profile 7 c.in-7.is in
    let p = err_from_is_err_and c.from_residual-in_err-check_data-in-7.result c.from_residual-in_err-check_data-in-7.ensures.1 in
    rw (p.1, p.2, is) (c.in_err-check_data-in-7.ensures (octets_in_force 5 before) (c.representation.ensures before h))

pub end_field-requires : goal.end_field-requires
end_field-requires c = (let r = c.requires.follows in record { few = (r.0, r.1) })

pub returns-in_ok-check_data-in-7-clause-tried : goal.returns-in_ok-check_data-in-7-clause-tried
returns-in_ok-check_data-in-7-clause-tried c = λ before h follows.
    let section = c.args.section.now in
    let at = placed_at section.start section.octets.now in
    let numbered = section.itself.number_stands in
    let none = fault_by_number before at section.number numbered c.args.self.now.profile 7 c.in-7.is ∙ c.in_ok-check_data-in-7.ensures (octets_in_force 5 before) (c.representation.ensures before h) in
    (none, c.end_field.ensures.force before at h (numbered ∙ c.in-7.is) (ap (may_follow (last_number before)) (sym c.in-7.is) ∙ follows) none)

pub returns-in_default-clause-tried : goal.returns-in_default-clause-tried
returns-in_default-clause-tried c = λ before h follows.
    let section = c.args.section.now in
    let at = placed_at section.start section.octets.now in
    let numbered = section.itself.number_stands in
    let range = number_in_range before at section.number numbered follows in
    let two : section.number ≡ 2 = omega arith in
    let none = fault_by_number before at section.number numbered c.args.self.now.profile 2 two in (
      none,
      force_other before at section.number numbered follows c.args.self.now h none
          (λ x. absurd (omega (arith, two))) (λ x. absurd (omega (arith, two))) (λ x. absurd (omega (arith, two))) (λ x. absurd (omega (arith, two))),
    )
