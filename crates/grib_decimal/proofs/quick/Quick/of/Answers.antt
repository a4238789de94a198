use Rattle.std.proofs.Common.{◌≡◌, ◌*◌, ◌^◌, ◌<◌, ◌*ℤ◌, pos, nat_abs, FitsSigned, to_z, of_z, to_z-of_z, ap, ◌∙◌, arith, rules}
use Rattle.std.specs.Int.{w64, w128}
use Rattle.std.proofs.Math.Nat.{mul-pos}
use Rattle.std.proofs.lemmas.Nat.{pow_pos}
use Rattle.std.proofs.lemmas.Int.{ints}
use Rattle.grib_decimal.proofs.Quicks.{quick_of}
use Rattle.grib_decimal.proofs.quick.Quick.of.Goals as goal

pub within-requires-clause-stride : goal.within-requires-clause-stride
within-requires-clause-stride c =
    let fits : FitsSigned w64 c.in_ok-factor.factor = search rules in
    let fits' : FitsSigned w128 c.in_ok-shifted.field-0 = search rules in
    let fits'' : FitsSigned w64 c.in_ok-stride.stride = search rules in
    let size = 2 ^ nat_abs c.args.shift in
    let stride : to_z w64 (of_z w64 c.in_ok-stride.stride) ≡ pos (c.args.factor * size) = to_z-of_z fits'' ∙ c.in_ok-stride.ensures ∙ to_z-of_z fits' ∙ c.in_ok-shifted.ensures ∙ ap (λ z. z *ℤ pos (2 ^ nat_abs (to_z w64 (of_z w64 c.args.shift)))) (to_z-of_z fits ∙ c.in_ok-factor.ensures) ∙ ap (λ z. pos c.args.factor *ℤ pos (2 ^ nat_abs z)) (to_z-of_z c.ranges.shift) in
    let some : 0 < c.args.factor * size = mul-pos c.requires.factor (pow_pos (nat_abs c.args.shift)) in
    rw stride (omega (arith, ints))

pub within-requires-clause-divisor : goal.within-requires-clause-divisor
within-requires-clause-divisor c =
    let fits : FitsSigned w64 c.in_ok-divisor.divisor = search rules in
    let some = c.requires.divisor in
    rw (to_z-of_z fits, c.in_ok-divisor.ensures) (omega (arith, ints))

pub returns : goal.returns
returns c =
    let fits : FitsSigned w64 c.in_ok-factor.factor = search rules in
    let fits' : FitsSigned w128 c.in_ok-shifted.field-0 = search rules in
    let fits'' : FitsSigned w64 c.in_ok-stride.stride = search rules in
    let wide : FitsSigned w128 c.from.result = search rules in
    let wide' : FitsSigned w128 c.in_ok-checked_mul.field-0 = search rules in
    let fits''' : FitsSigned w64 c.in_ok-origin.origin = search rules in
    let fits'''' : FitsSigned w64 c.in_ok-divisor.divisor = search rules in
    let factor : to_z w64 (of_z w64 c.in_ok-factor.factor) ≡ pos c.args.factor = to_z-of_z fits ∙ c.in_ok-factor.ensures in
    let stride : to_z w64 (of_z w64 c.in_ok-stride.stride) ≡ pos (c.args.factor * 2 ^ nat_abs c.args.shift) = to_z-of_z fits'' ∙ c.in_ok-stride.ensures ∙ to_z-of_z fits' ∙ c.in_ok-shifted.ensures ∙ ap (λ z. z *ℤ pos (2 ^ nat_abs (to_z w64 (of_z w64 c.args.shift)))) factor ∙ ap (λ z. pos c.args.factor *ℤ pos (2 ^ nat_abs z)) (to_z-of_z c.ranges.shift) in
    let from : to_z w128 (of_z w128 c.from.result) ≡ pos c.args.factor = to_z-of_z wide ∙ c.from.ensures ∙ factor in
    let product : c.in_ok-checked_mul.field-0 ≡ c.args.base *ℤ pos c.args.factor = c.in_ok-checked_mul.ensures.1 ∙ ap (λ z. z *ℤ to_z w128 (of_z w128 c.from.result)) (to_z-of_z c.ranges.base) ∙ ap (λ z. c.args.base *ℤ z) from in
    let origin : to_z w64 (of_z w64 c.in_ok-origin.origin) ≡ c.args.base *ℤ pos c.args.factor = to_z-of_z fits''' ∙ c.in_ok-origin.ensures ∙ to_z-of_z wide' ∙ product in
    quick_of c.within.result c.args.base c.args.shift _ _ _ c.args.factor c.args.divisor c.within.ensures.origin c.within.ensures.stride c.within.ensures.divisor origin stride (to_z-of_z fits'''' ∙ c.in_ok-divisor.ensures)
