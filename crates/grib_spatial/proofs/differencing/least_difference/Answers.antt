use Rattle.std.proofs.Common.{◌≡◌, ◌≤◌, ◌^◌, nat_abs, ap₂, refl, sym, ◌∙◌, subst, ℤ, arith, to_z, of_z, w64}
use Rattle.std.proofs.lemmas.Int.{ints}
use Rattle.grib_packing.specs.Differences.{difference_at, lesser}
use Rattle.grib_spatial.proofs.Least.{least-more, small-lesser}
use Rattle.grib_spatial.proofs.differencing.least_difference.Goals as goal

pub loop-place-preserved : goal.loop-place-preserved
loop-place-preserved c =
    let i = c.loop-place.invariant in
    let x = to_z w64 c.loop-place.minimum-bits in
    let next = c.lesser_of-minimum.result in
    let same : to_z w64 (of_z w64 next) ≡ next = omega (arith, ints) in
    let y : to_z w64 (of_z w64 c.difference_of.result) ≡ c.difference_of.result = omega (arith, ints) in
    let least : to_z w64 (of_z w64 next) ≡ lesser x c.difference_of.result = same ∙ (c.lesser_of-minimum.ensures ∙ ap₂ lesser refl y) in
    let Small : ℤ → Type 0 = λ n. nat_abs n ≤ 2 ^ 62 in
    record {
      is = least ∙ (ap₂ lesser i.is c.difference_of.ensures.is
          ∙ sym (least-more (difference_at c.args.order c.args.values.now) c.args.order c.loop-place.place c.loop-place.auto.place));
      small = subst Small (sym least) (small-lesser x c.difference_of.result (2 ^ 62) i.small c.difference_of.ensures.small);
    }
