use Rattle.std.proofs.Common.{◌≡◌, ◌-◌, ◌+◌, ℕ, Bool, cond, Some, None, ap, sym, ◌∙◌, arith, subst}
use Rattle.grib_base.specs.Rules.{first_place}
use Rattle.grib_packing.specs.Misfits.{Misfit, OutOfRange, is_scaled_outside, misfit_at, greatest_code, management_of}
use Rattle.grib_complex.proofs.CodeByCode.{inside_more, outside_here, none_outside}
use Rattle.grib_complex.proofs.coding.first_outside.Goals as goal

most : (k j from : ℕ) → k ≡ j → from ≡ k → 4294967295 - from ≡ greatest_code j
most k j from same is = omega arith

pub returns-then-is_point_outside : goal.returns-then-is_point_outside
returns-then-is_point_outside c =
    let points = c.args.points.now in
    let i = c.loop-index.index in
    let limit = most c.management.result (management_of points) c.from-greatest.result c.management.ensures.is c.from-greatest.ensures in
    subst (λ (m : ℕ). misfit_at OutOfRange (is_scaled_outside m) points ≡ Some (OutOfRange (i + 1))) limit
    (outside_here points i _ c.loop-index-test.true (4294967295 - c.from-greatest.result) (sym c.is_point_outside.ensures ∙ c.if-is_point_outside.true) c.loop-index.invariant)

pub loop-index-preserved : goal.loop-index-preserved
loop-index-preserved c =
    inside_more c.args.points.now c.loop-index.index _ c.loop-index-test.true (4294967295 - c.from-greatest.result) (sym c.is_point_outside.ensures ∙ c.if-is_point_outside.false) c.loop-index.invariant

some_none : (misfit : Misfit) → Some misfit ≡ None → ⊥
some_none misfit e = absurd (cc)

pub unreachable-requires : goal.unreachable-requires
unreachable-requires c =
    let points = c.args.points.now in
    let limit = most c.management.result (management_of points) c.from-greatest.result c.management.ensures.is c.from-greatest.ensures in
    let test = is_scaled_outside (greatest_code (management_of points)) in
    let none : misfit_at OutOfRange test points ≡ None =
    subst (λ (m : ℕ). misfit_at OutOfRange (is_scaled_outside m) points ≡ None) limit
    (none_outside points c.loop-index.index c.loop-index-test.false (4294967295 - c.from-greatest.result) c.loop-index.invariant) in
    let some : misfit_at OutOfRange test points ≡ Some (OutOfRange (first_place test points)) =
    ap (λ (b : Bool). cond b (Some (OutOfRange (first_place test points))) None) c.requires.some in
    some_none (OutOfRange (first_place test points)) (sym some ∙ none)
