use Rattle.std.proofs.Common.{◌≡◌, ℕ, ◌-◌, ◌<◌, ◌≤◌, nat_abs, nat_lt, length, false, refl, ap, sym, ◌∙◌, arith, subst, to_z, of_z, to_z-of_z, w64}
use Rattle.std.proofs.lemmas.Int.{ints}
use Rattle.std.specs.List.{list_any}
use Rattle.grib_base.specs.declared.code.Code.TheVariants.{Primary, Secondary}
use Rattle.grib_codes.specs.Words.{codes_of}
use Rattle.grib_packing.specs.declared.column.Point.TheVariants.{Missing, Missing2}
use Rattle.grib_packing.specs.Differences.{difference_codes}
use Rattle.grib_packing.specs.Misfits.{greatest_code, is_missing, is_missing2, scaled_numbers}
use Rattle.grib_packing.specs.Packed.{placed_codes}
use Rattle.grib_spatial.specs.Trail.{IsNear, IsTrail}
use Rattle.grib_spatial.specs.declared.trail.Trail.{Trail}
use Rattle.grib_codes.proofs.Reserved.{management-few, reserved_1, reserved_2}
use Rattle.grib_complex.proofs.Differing.{length-codes}
use Rattle.grib_complex.proofs.DifferencesCoded.{Forward, forward_number, forward_mark, any_here, out_of_range, none_outside, placed_whole}
use Rattle.grib_complex.proofs.PointByPoint.{number_is, number_left, number_small, code_there}
use Rattle.grib_codes.proofs.Worded.{any_at, whole_more}
use Rattle.grib_complex.proofs.difference_coding.codes_of_differences.Goals as goal
use Rattle.grib_complex.proofs.difference_coding.codes_of_differences.Goals.{in-Scaled+else-code-greatest, in-Missing, in-Missing2}

most : (k from to : ℕ) → from ≡ k → to ≡ 4294967295 - from → to ≡ greatest_code k
most k from to is same = omega arith

pub and-trail-requires-clause-small : goal.and-trail-requires-clause-small
and-trail-requires-clause-small c =
    let small = number_small c.args.points.now c.loop-point.point-index c.loop-point.trail.count _ c.loop-point-test.true c.loop-point.invariant.seen c.in-Scaled.x c.in-Scaled.is in
    let back : to_z w64 (of_z w64 c.in-Scaled.x) ≡ c.in-Scaled.x = omega (arith, ints, small) in
    omega (arith, small, ap nat_abs back)

pub returns-then-code-greatest : goal.returns-then-code-greatest
returns-then-code-greatest c =
    let points = c.args.points.now in
    let order = c.args.order in
    let k = c.args.management in
    let numbers = scaled_numbers points in
    let codes = difference_codes order numbers in
    let i = c.loop-point.point-index in
    let n = c.loop-point.trail.count in
    let h = c.loop-point.invariant in
    let m = c.from-greatest.result in
    let is_m : m ≡ greatest_code k = most k c.from.result m c.from.ensures c.from-greatest.ensures in
    let x = c.in-Scaled.x in
    let here = c.in-Scaled.is in
    let small = number_small points i n _ c.loop-point-test.true h.seen x here in
    let back : to_z w64 (of_z w64 x) ≡ x = omega (arith, ints, small) in
    let low : to_z w64 (of_z w64 c.args.minimum) ≡ c.args.minimum = to_z-of_z c.ranges.minimum in
    let some = number_left points i n _ c.loop-point-test.true h.seen x here in
    let code = code_there order numbers n some ∙ sym (c.code-code.ensures numbers h.trail (number_is points i n _ c.loop-point-test.true h.seen x here ∙ sym back) (low ∙ c.requires.minimum)) in
    let within : n < length codes = omega (arith, some, length-codes order numbers) in
    out_of_range k m codes is_m (sym h.outside ∙ any_here m n codes within (omega (arith, code, c.if-code-greatest.true)))

pub loop-point-preserved : goal.loop-point-preserved
loop-point-preserved c =
    let points = c.args.points.now in
    let order = c.args.order in
    let k = c.args.management in
    let numbers = scaled_numbers points in
    let codes = difference_codes order numbers in
    let i = c.loop-point.point-index in
    let n = c.loop-point.trail.count in
    let h = c.loop-point.invariant in
    let m = c.from-greatest.result in
    let is_m : m ≡ greatest_code k = most k c.from.result m c.from.ensures c.from-greatest.ensures in
    let few : k ≤ 2 = omega (arith, c.requires.management, management-few points) in
    let low : to_z w64 (of_z w64 c.args.minimum) ≡ c.args.minimum = to_z-of_z c.ranges.minimum in
    let before = c.loop-point.trail in
    let after = c.match-point.trail in
    let code = c.match-point.code in
    let forward : Forward order k m points i before after code =
    elim c.match-point.branch [
      | in-Scaled+else-code-greatest w ↦
          let x = w.in-Scaled.x in
          let here = w.in-Scaled.is in
          let small = number_small points i n _ c.loop-point-test.true h.seen x here in
          let back : to_z w64 (of_z w64 x) ≡ x = omega (arith, ints, small) in
          let is = number_is points i n _ c.loop-point-test.true h.seen x here ∙ sym back in
          let number = w.code-code.ensures numbers h.trail is (low ∙ c.requires.minimum) in
          let near = subst IsNear (sym w.trail-is) w.and-trail.ensures.near in
          let trail = subst (λ (t : Trail). IsTrail t numbers) (sym w.trail-is) (w.and-trail.ensures.is numbers h.trail is) in
          forward_number order k m points i _ c.loop-point-test.true before after code h.seen x w.code-code.result here w.code-is number
          (ap (λ (t : Trail). t.count) w.trail-is ∙ w.and-trail.ensures.count) near trail (omega (arith, w.if-code-greatest.false)) (omega (arith, few, is_m, w.if-code-greatest.false))
      | in-Missing w ↦
          let one : 1 ≤ k = omega (arith, c.requires.management, reserved_1 points (any_at is_missing points i _ c.loop-point-test.true (ap is_missing w.in-Missing.is))) in
          forward_mark order k m points i _ c.loop-point-test.true before after code h.seen Missing Primary w.in-Missing.is w.code-is w.trail-is h.near h.trail one (λ ps ns. refl) (λ ps. refl) (λ ps. refl)
      | in-Missing2 w ↦
          let two : 2 ≤ k = omega (arith, c.requires.management, reserved_2 points (any_at is_missing2 points i _ c.loop-point-test.true (ap is_missing2 w.in-Missing2.is))) in
          forward_mark order k m points i _ c.loop-point-test.true before after code h.seen Missing2 Secondary w.in-Missing2.is w.code-is w.trail-is h.near h.trail two (λ ps ns. refl) (λ ps. refl) (λ ps. refl)
    ] in
    record {
      seen = forward.seen;
      near = forward.near;
      trail = forward.trail;
      codes = whole_more k _ _ code forward.step.placed c.loop-point.words.items c.push.new.self.items c.word_of.result _ h.codes c.in-Ok.ensures.items (c.word_of.ensures k few forward.told);
      outside = forward.outside ∙ h.outside;
    }

pub returns : goal.returns
returns c =
    let points = c.args.points.now in
    let order = c.args.order in
    let k = c.args.management in
    let numbers = scaled_numbers points in
    let codes = difference_codes order numbers in
    let i = c.loop-point.point-index in
    let n = c.loop-point.trail.count in
    let h = c.loop-point.invariant in
    let m = c.from-greatest.result in
    let is_m : m ≡ greatest_code k = most k c.from.result m c.from.ensures c.from-greatest.ensures in
    let past : length points ≤ i = omega arith in (
      subst (λ (j : ℕ). list_any (λ code. nat_lt j code) codes ≡ false) is_m (none_outside order points i n past h.seen m h.outside),
      c.of.ensures ∙ placed_whole order points i n past h.seen (codes_of k c.loop-point.words.items) (placed_codes points codes) _ h.codes,
    )
