use Rattle.std.proofs.Common.{◌≡◌, ℕ, ◌<◌, ◌%◌, ◌*◌, ◌^◌, pos, FitsSigned, to_z, of_z, to_z-of_z, ap, ◌∙◌, arith, rules}
use Rattle.std.specs.Int.{w128}
use Rattle.std.proofs.lemmas.Int.{to_z_pos}
use Rattle.std.proofs.lemmas.Nat.{one_shl, pow_below}
use Rattle.grib_decimal.proofs.Fields.{small_number}
use Rattle.grib_nearest.proofs.Parts.{near_fits, near_sum_fits}
use Rattle.grib_nearest.proofs.sums.near_sum.Goals as goal

power : (gap : ℕ) → gap < 64 → to_z w128 (1 * 2 ^ gap % 2 ^ 128) ≡ pos (2 ^ gap)
power gap near = ap (to_z w128) (one_shl gap 128 (omega arith)) ∙ to_z_pos w128 (2 ^ gap) (let less = pow_below gap 64 near in omega (arith, less))

pub overflow_mul-result : goal.overflow_mul-result
overflow_mul-result c =
    let from : FitsSigned w128 c.from.result = search rules in
    let high : to_z w128 (of_z w128 c.from.result) ≡ c.args.high = to_z-of_z from ∙ c.from.ensures ∙ to_z-of_z c.ranges.high in
    rw (high, power c.args.gap c.requires) (near_fits c.args.high c.args.gap (small_number c.args.high c.ranges.high) c.requires)

pub overflow_add-result : goal.overflow_add-result
overflow_add-result c =
    let from : FitsSigned w128 c.from.result = search rules in
    let from' : FitsSigned w128 c.from-2.result = search rules in
    let high : to_z w128 (of_z w128 c.from.result) ≡ c.args.high = to_z-of_z from ∙ c.from.ensures ∙ to_z-of_z c.ranges.high in
    let low : to_z w128 (of_z w128 c.from-2.result) ≡ c.args.low = to_z-of_z from' ∙ c.from-2.ensures ∙ to_z-of_z c.ranges.low in
    let few = small_number c.args.high c.ranges.high in
    rw (high, power c.args.gap c.requires, low, to_z-of_z (near_fits c.args.high c.args.gap few c.requires))
    (near_sum_fits c.args.high c.args.low c.args.gap few (small_number c.args.low c.ranges.low) c.requires)

pub returns : goal.returns
returns c =
    let from : FitsSigned w128 c.from.result = search rules in
    let from' : FitsSigned w128 c.from-2.result = search rules in
    let high : to_z w128 (of_z w128 c.from.result) ≡ c.args.high = to_z-of_z from ∙ c.from.ensures ∙ to_z-of_z c.ranges.high in
    let low : to_z w128 (of_z w128 c.from-2.result) ≡ c.args.low = to_z-of_z from' ∙ c.from-2.ensures ∙ to_z-of_z c.ranges.low in
    let few = small_number c.args.high c.ranges.high in
    rw (high, power c.args.gap c.requires, low, to_z-of_z (near_fits c.args.high c.args.gap few c.requires))
    (to_z-of_z (near_sum_fits c.args.high c.args.low c.args.gap few (small_number c.args.low c.ranges.low) c.requires))
