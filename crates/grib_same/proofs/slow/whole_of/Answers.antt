use Rattle.std.proofs.Common.{◌^◌, pos, ◌+ℤ◌, ◌-ℤ◌, ◌*ℤ◌, nat_abs, FitsSigned, to_z-of_z, ap, ◌∙◌, rules}
use Rattle.std.specs.Int.{w32, w64}
use Rattle.grib_same.proofs.slow.whole_of.Goals as goal

pub returns : goal.returns
returns c =
    let side = c.args.side.now in
    let level = c.args.level.now in
    let m : FitsSigned w64 side.mantissa = search rules in
    let k : FitsSigned w32 side.exponent = search rules in
    let e : FitsSigned w32 side.e = search rules in
    let d : FitsSigned w32 side.d = search rules in
    let t : FitsSigned w32 level.binary = search rules in
    let z : FitsSigned w32 level.decimal = search rules in
    let ten_gap = rw (to_z-of_z z, to_z-of_z d) at c.abs_diff-tens.ensures in
    let two_gap = rw (to_z-of_z k, to_z-of_z t) at c.abs_diff-mantissa_twos.ensures in
    let step_gap = rw (to_z-of_z e, to_z-of_z t) at c.abs_diff-x_twos.ensures in
    let sum = rw (to_z-of_z m, to_z-of_z c.ranges.x) at c.in_ok-sum.ensures in
    let sum_is = sum ∙ ap (λ n. (side.mantissa *ℤ pos (2 ^ n)) +ℤ (c.args.x *ℤ pos (2 ^ c.abs_diff-x_twos.result))) two_gap
    ∙ ap (λ n. (side.mantissa *ℤ pos (2 ^ nat_abs (side.exponent -ℤ level.binary))) +ℤ (c.args.x *ℤ pos (2 ^ n))) step_gap in
    let whole = (side.mantissa *ℤ pos (2 ^ nat_abs (side.exponent -ℤ level.binary))) +ℤ (c.args.x *ℤ pos (2 ^ nat_abs (side.e -ℤ level.binary))) in
    c.in_ok-whole.ensures ∙ ap (λ n. n *ℤ pos (10 ^ c.abs_diff-tens.result)) sum_is ∙ ap (λ n. whole *ℤ pos (10 ^ n)) ten_gap
