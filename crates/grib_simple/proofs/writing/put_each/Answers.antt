use Rattle.std.proofs.Common.{◌≡◌, ◌^◌, ◌<◌, List, ℕ, nat_abs, ap, ◌∙◌, subst, arith, w64, SFits, to_z-of_z, rules, ◌++◌}
use Rattle.grib_bits.specs.Bits.{bits_of}
use Rattle.grib_packing.specs.Packed.{fields, simple_numbers}
use Rattle.grib_packing.proofs.Left.{Left}
use Rattle.grib_simple.proofs.PointByPoint.{numbers_here, numbers_later, number_more, number_room, number_fits, left_numbers}
use Rattle.grib_simple.proofs.writing.put_each.Goals as goal
use Rattle.grib_simple.proofs.writing.put_each.Goals.{in-Scaled, in_default}

pub put-requires-clause-fits : goal.put-requires-clause-fits
put-requires-clause-fits c =
    let points = c.args.points.now in
    let i = c.loop-point.point-index in
    let back : SFits w64 c.in-Scaled.x = search rules in
    let is = numbers_here points i _ c.loop-point-test.true c.in-Scaled.x c.in-Scaled.is in
    let fits = number_fits c.args.bits (nat_abs c.in-Scaled.x) _ _ is (left_numbers (λ n. n < 2 ^ c.args.bits) i points c.requires.fits) in
    omega (arith, fits, c.unsigned_abs.ensures.value, ap nat_abs (to_z-of_z back))

pub put-requires-clause-room : goal.put-requires-clause-room
put-requires-clause-room c =
    let points = c.args.points.now in
    let i = c.loop-point.point-index in
    number_room c.args.bits c.args.out.now c.loop-point.out (fields c.args.bits (simple_numbers points)) (nat_abs c.in-Scaled.x) _ _
    (numbers_here points i _ c.loop-point-test.true c.in-Scaled.x c.in-Scaled.is) c.loop-point.invariant c.requires.room

pub loop-point-preserved : goal.loop-point-preserved
loop-point-preserved c =
    let points = c.args.points.now in
    let i = c.loop-point.point-index in
    let whole = fields c.args.bits (simple_numbers points) in
    elim c.match-point.branch [
      | in-Scaled w ↦
          let back : SFits w64 w.in-Scaled.x = search rules in
          let value : w.unsigned_abs.result ≡ nat_abs w.in-Scaled.x = w.unsigned_abs.ensures.value ∙ ap nat_abs (to_z-of_z back) in
          let bits = w.put.ensures.bits ∙ ap (λ (n : ℕ). c.loop-point.out.bits ++ bits_of c.args.bits n) value in
          rw w.out-is (number_more c.args.bits c.args.out.now c.loop-point.out w.put.new.self whole (nat_abs w.in-Scaled.x) _ _
          (numbers_here points i _ c.loop-point-test.true w.in-Scaled.x w.in-Scaled.is) c.loop-point.invariant bits w.put.ensures.spare)
      | in_default w ↦
          let later = numbers_later points i _ c.loop-point-test.true w.in_default.not-Scaled in
          rw w.out-is (subst (λ (ns : List ℕ). Left c.args.out.now c.loop-point.out whole (fields c.args.bits ns)) later c.loop-point.invariant)
    ]
