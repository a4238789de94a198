use Rattle.std.proofs.Common.{◌≡◌, ◌^◌, pos, ◌*ℤ◌, ◌-ℤ◌, nat_abs, FitsSigned, to_z, of_z, to_z-of_z, ap, ◌∙◌, rules}
use Rattle.std.specs.Int.{w32, w64, w128}
use Rattle.grib_same.proofs.Lines.{product_fits, line_is}
use Rattle.grib_same.proofs.quick.Line.of.Goals as goal

pub returns : goal.returns
returns c = λ x.
    let side = c.args.side.now in
    let level = c.args.level.now in
    let m : FitsSigned w64 side.mantissa = search rules in
    let k : FitsSigned w32 side.exponent = search rules in
    let e : FitsSigned w32 side.e = search rules in
    let d : FitsSigned w32 side.d = search rules in
    let t : FitsSigned w32 level.binary = search rules in
    let z : FitsSigned w32 level.decimal = search rules in
    let from : FitsSigned w128 c.from.result = search rules in
    let from' : FitsSigned w128 c.from-2.result = search rules in
    let tens : FitsSigned w64 c.in_ok-tens.tens = search rules in
    let origin : FitsSigned w128 c.in_ok-origin.origin = search rules in
    let stride : FitsSigned w64 c.in_ok-stride.stride = search rules in
    let ten_gap = rw (to_z-of_z z, to_z-of_z d) at c.abs_diff.ensures in
    let two_gap = rw (to_z-of_z k, to_z-of_z t) at c.abs_diff-2.ensures in
    let step_gap = rw (to_z-of_z e, to_z-of_z t) at c.abs_diff-3.ensures in
    let power = 10 ^ nat_abs (level.decimal -ℤ side.d) in
    let tens_is : c.in_ok-tens.tens ≡ pos power = c.in_ok-tens.ensures.value ∙ ap (λ n. pos (10 ^ n)) ten_gap in
    let mantissa_is : to_z w128 (of_z w128 c.from.result) ≡ side.mantissa = to_z-of_z from ∙ c.from.ensures ∙ to_z-of_z m in
    let power_is : to_z w128 (of_z w128 c.from-2.result) ≡ c.in_ok-tens.tens = to_z-of_z from' ∙ c.from-2.ensures ∙ to_z-of_z tens in
    let product = product_fits side.mantissa c.in_ok-tens.tens m tens in
    let first = rw (mantissa_is, power_is, to_z-of_z product) at c.in_ok-origin.ensures.value in
    let step = rw (to_z-of_z tens) at c.in_ok-stride.ensures in
    rw (to_z-of_z origin, to_z-of_z stride) (line_is side.mantissa x c.in_ok-origin.origin c.in_ok-stride.stride (2 ^ nat_abs (side.exponent -ℤ level.binary)) (2 ^ nat_abs (side.e -ℤ level.binary)) power
    (first ∙ ap (λ n. (side.mantissa *ℤ n) *ℤ pos (2 ^ c.abs_diff-2.result)) tens_is ∙ ap (λ n. (side.mantissa *ℤ pos power) *ℤ pos (2 ^ n)) two_gap)
    (step ∙ ap (λ n. n *ℤ pos (2 ^ c.abs_diff-3.result)) tens_is ∙ ap (λ n. pos power *ℤ pos (2 ^ n)) step_gap))
