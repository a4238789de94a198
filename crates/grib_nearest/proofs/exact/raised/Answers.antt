use Rattle.std.proofs.Common.{◌≡◌, ◌<◌, ◌^◌, pos, nat_abs, FitsSigned, to_z, of_z, to_z-of_z, ap, ◌∙◌, arith, rules}
use Rattle.std.specs.Int.{w128}
use Rattle.grib_nearest.proofs.Parts.{raised_few, raised_fits}
use Rattle.grib_nearest.proofs.exact.raised.Goals as goal

pub overflow_mul-result : goal.overflow_mul-result
overflow_mul-result c =
    let from : FitsSigned w128 c.from.result = search rules in
    let number : to_z w128 (of_z w128 c.args.number) ≡ c.args.number = to_z-of_z c.ranges.number in
    let power : to_z w128 (of_z w128 c.from.result) ≡ pos (10 ^ c.args.tens) = to_z-of_z from ∙ c.from.ensures ∙ ap pos c.pow.ensures in
    let small : nat_abs c.args.number < 2 ^ 62 = omega (arith, c.unsigned_abs-else-tens-gt19.ensures.value, ap nat_abs number, c.if-unsigned_abs-2.false) in
    rw (number, power) (raised_fits c.args.number c.args.tens small c.if-tens-gt19.false)

pub returns-clause-value : goal.returns-clause-value
returns-clause-value c =
    let from : FitsSigned w128 c.from.result = search rules in
    let number : to_z w128 (of_z w128 c.args.number) ≡ c.args.number = to_z-of_z c.ranges.number in
    let power : to_z w128 (of_z w128 c.from.result) ≡ pos (10 ^ c.args.tens) = to_z-of_z from ∙ c.from.ensures ∙ ap pos c.pow.ensures in
    let small : nat_abs c.args.number < 2 ^ 62 = omega (arith, c.unsigned_abs-else-tens-gt19.ensures.value, ap nat_abs number, c.if-unsigned_abs-2.false) in
    rw (number, power) (to_z-of_z (raised_fits c.args.number c.args.tens small c.if-tens-gt19.false))

pub returns-clause-few : goal.returns-clause-few
returns-clause-few c =
    let from : FitsSigned w128 c.from.result = search rules in
    let number : to_z w128 (of_z w128 c.args.number) ≡ c.args.number = to_z-of_z c.ranges.number in
    let power : to_z w128 (of_z w128 c.from.result) ≡ pos (10 ^ c.args.tens) = to_z-of_z from ∙ c.from.ensures ∙ ap pos c.pow.ensures in
    let small : nat_abs c.args.number < 2 ^ 62 = omega (arith, c.unsigned_abs-else-tens-gt19.ensures.value, ap nat_abs number, c.if-unsigned_abs-2.false) in
    rw (number, power, to_z-of_z (raised_fits c.args.number c.args.tens small c.if-tens-gt19.false)) (raised_few c.args.number c.args.tens small c.if-tens-gt19.false)
