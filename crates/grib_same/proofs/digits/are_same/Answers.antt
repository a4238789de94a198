use Rattle.std.proofs.Common.{◌≡◌, ◌<◌, ◌^◌, true, false, get_or, to_z-of_z, arith}
use Rattle.grib_same.proofs.Wholes.{both_same, both_differ, same_end}
use Rattle.grib_same.proofs.digits.are_same.Goals as goal

pub loop-i-preserved : goal.loop-i-preserved
loop-i-preserved c =
    let i = c.loop-i.i in
    let invariant = rw (to_z-of_z c.ranges.few_top, to_z-of_z c.ranges.many_top) at c.loop-i.invariant in
    let small : get_or c.args.few.now i 0 < 2 ^ 32 = omega (arith, c.type_inv.few i) in
    let small' : get_or c.args.many.now i 0 < 2 ^ 32 = omega (arith, c.type_inv.many i) in
    let step = both_same c.args.few.now c.args.many.now c.args.few_top c.args.many_top i c.loop-i-test.true (omega arith) small small' c.if-few-i.false in
    rw (to_z-of_z c.ranges.few_top, to_z-of_z c.ranges.many_top) (λ e. step.0 (invariant.0 e), λ e. invariant.1 (step.1 e))

pub returns-then-few-i : goal.returns-then-few-i
returns-then-few-i c =
    let i = c.loop-i.i in
    let invariant = rw (to_z-of_z c.ranges.few_top, to_z-of_z c.ranges.many_top) at c.loop-i.invariant in
    let small : get_or c.args.few.now i 0 < 2 ^ 32 = omega (arith, c.type_inv.few i) in
    let small' : get_or c.args.many.now i 0 < 2 ^ 32 = omega (arith, c.type_inv.many i) in (
      λ e. absurd (let f : false ≡ true = e in cc),
      λ e. absurd (both_differ c.args.few.now c.args.many.now c.args.few_top c.args.many_top i c.loop-i-test.true (omega arith) small small' c.if-few-i.true (invariant.0 e)),
    )

pub returns : goal.returns
returns c =
    let invariant = rw (to_z-of_z c.ranges.few_top, to_z-of_z c.ranges.many_top) at c.loop-i.invariant in
    let rest = rw (to_z-of_z c.ranges.few_top, to_z-of_z c.ranges.many_top) at c.is_number.ensures in
    same_end c.args.few.now c.args.many.now c.args.few_top c.args.many_top c.loop-i.i c.is_number.result (omega arith) c.loop-i-test.false rest invariant
