use Rattle.std.proofs.Common.{◌≡◌, ◌∙◌, ℕ, ◌+◌, ◌≤◌, ◌++◌, List, Bool, true, false, length, drop, replicate, refl, ap, arith, subst}
use Rattle.std.proofs.lemmas.List.{length-append, length-replicate}
use Rattle.grib_packing.specs.declared.column.Point.{Point}
use Rattle.grib_packing.specs.declared.column.Point.TheVariants.{Missing}
use Rattle.grib_packing.proofs.Masks.{are_missing, are_present, some_ahead}
use Rattle.grib_packing.proofs.keeping.Points.skip_missing.Goals as goal

-- a run of the mask that is kept, as one of that which is meant
run_of : (mask kept : List Bool) (place at n : ℕ) (present expected : Bool) → kept ≡ mask → at ≡ place → present ≡ expected → drop at kept ≡ replicate n present ++ drop (at + n) kept
    → drop place mask ≡ replicate n expected ++ drop (place + n) mask
run_of mask kept place at n present expected is_mask is_place is_present same =
    let P : List Bool → ℕ → Bool → Type 0 = λ bs k b. drop k bs ≡ replicate n b ++ drop (k + n) bs in
    subst (λ (b : Bool). P mask place b) is_present (subst (λ (k : ℕ). P mask k present) is_place (subst (λ (bs : List Bool). P bs at present) is_mask same))

pub loop-place-preserved : goal.loop-place-preserved
loop-place-preserved c = record {
  none = c.loop-place.invariant.none;
  are = λ mask seen are.
      let before = c.loop-place.self in
      let n = c.run-run.result.length in
      let known = c.loop-place.invariant.are mask seen are in
      let now = known.0 in
      let place = length before.points.items in
      let run = run_of mask c.deref-in-loop-place.result.now place c.loop-place.place n c.run-run.result.present false (c.deref-in-loop-place.ensures ∙ now.mask_stays) known.1 c.if-run.false c.run-run.ensures.same in
      let within : place + n ≤ length mask = omega (arith, known.1, c.run-run.ensures.within, ap length (c.deref-in-loop-place.ensures ∙ now.mask_stays)) in
      let points = c.push_missing.ensures.points (omega (arith, within, now.memory, before.points.ok.0)) in (
        are_missing mask seen before (record before { points = c.push_missing.new.points }) now c.loop-place.invariant.none n within refl run c.loop-place.invariant.none points c.push_missing.ensures.capacity,
        omega (arith, known.1, ap length points, length-append before.points.items (replicate n Missing), length-replicate {A = Point} n Missing),
      );
}

pub returns-then-run : goal.returns-then-run
returns-then-run c = λ mask seen more are.
    let before = c.loop-place.self in
    let n = c.run-run.result.length in
    let known = c.loop-place.invariant.are mask seen are in
    let now = known.0 in
    let place = length before.points.items in
    let run = run_of mask c.deref-in-loop-place.result.now place c.loop-place.place n c.run-run.result.present true (c.deref-in-loop-place.ensures ∙ now.mask_stays) known.1 c.if-run.true c.run-run.ensures.same in
    let within : place + n ≤ length mask = omega (arith, known.1, c.run-run.ensures.within, ap length (c.deref-in-loop-place.ensures ∙ now.mask_stays)) in (
      are_present mask seen before (record before { left = n }) now c.loop-place.invariant.none n within refl run refl refl,
      c.run-run.ensures.some,
    )

pub returns : goal.returns
returns c = λ mask seen more are.
    let known = c.loop-place.invariant.are mask seen are in
    absurd (omega (arith, known.1, some_ahead mask seen c.loop-place.self known.0 more, c.len.ensures, ap length (c.deref.ensures ∙ known.0.mask_stays)))
