use Rattle.std.proofs.Common.{◌≡◌, ap, sym, ◌∙◌, arith, subst, to_z, of_z, w64}
use Rattle.std.proofs.lemmas.Int.{ints}
use Rattle.grib_packing.specs.Misfits.{scaled_numbers}
use Rattle.grib_spatial.specs.Trail.{IsNear, IsToldBy}
use Rattle.grib_spatial.specs.declared.trail.FirstAndLeast.{FirstAndLeast}
use Rattle.grib_complex.proofs.PointByPoint.{seen_none, seen_other, seen_number, seen_all, number_is, number_small}
use Rattle.grib_complex.proofs.difference_coding.differences_of.Goals as goal
use Rattle.grib_complex.proofs.difference_coding.differences_of.Goals.{in-Scaled, in_default}

pub loop-point-init : goal.loop-point-init
loop-point-init c = record {
  seen = seen_none c.args.points.now c.none-told.result.trail.count c.none-told.ensures.count c.requires.within;
  near = c.none-told.ensures.near;
  told = c.none-told.ensures.told c.args.order (scaled_numbers c.args.points.now);
}

pub loop-point-preserved : goal.loop-point-preserved
loop-point-preserved c =
    let points = c.args.points.now in
    let numbers = scaled_numbers points in
    let i = c.loop-point.point-index in
    let before = c.loop-point.told in
    let n = before.trail.count in
    let h = c.loop-point.invariant in
    elim c.match-point.branch [
      | in-Scaled w ↦
          let same = w.told-is in
          let x = w.in-Scaled.x in
          let small = number_small points i n _ c.loop-point-test.true h.seen x w.in-Scaled.is in
          let back : to_z w64 (of_z w64 x) ≡ x = omega (arith, ints, small) in
          record {
            seen = seen_number points i n _ c.loop-point-test.true h.seen x w.in-Scaled.is c.match-point.told.trail.count (ap (λ (t : FirstAndLeast). t.trail.count) same ∙ w.and-told.ensures.count);
            near = subst (λ (t : FirstAndLeast). IsNear t.trail) (sym same) w.and-told.ensures.near;
            told = subst (λ (t : FirstAndLeast). IsToldBy c.args.order t numbers) (sym same) (w.and-told.ensures.told numbers h.told (number_is points i n _ c.loop-point-test.true h.seen x w.in-Scaled.is ∙ sym back));
          }
      | in_default w ↦
          let same = w.told-is in
          let other = w.in_default.not-Scaled in
          record {
            seen = seen_other points i n _ c.loop-point-test.true h.seen c.match-point.told.trail.count (ap (λ (t : FirstAndLeast). t.trail.count) same) other;
            near = subst (λ (t : FirstAndLeast). IsNear t.trail) (sym same) h.near;
            told = subst (λ (t : FirstAndLeast). IsToldBy c.args.order t numbers) (sym same) h.told;
          }
    ]

pub returns : goal.returns
returns c =
    let points = c.args.points.now in
    let i = c.loop-point.point-index in
    let n = c.loop-point.told.trail.count in
    c.differences.ensures c.args.order (scaled_numbers points) c.loop-point.invariant.told (seen_all points i n (omega arith) c.loop-point.invariant.seen)
