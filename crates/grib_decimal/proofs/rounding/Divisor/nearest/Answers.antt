use Rattle.std.proofs.Common.{◌<◌, refl, sym, ap, ◌∙◌, arith}
use Rattle.std.proofs.lemmas.Nat.{one_shl, and_mask}
use Rattle.grib_decimal.specs.Rounding.{nearest}
use Rattle.grib_decimal.specs.Divisors.{divisor_of}
use Rattle.grib_decimal.proofs.Powers.{bits_below}
use Rattle.grib_decimal.proofs.rounding.Divisor.nearest.Goals as goal

pub overflow_shl-divisor : goal.overflow_shl-divisor
overflow_shl-divisor c =
    let few : c.in-PowerOfTwo.bits < 63 = bits_below c.in-PowerOfTwo.bits 63 (omega (arith, ap divisor_of c.in-PowerOfTwo.is)) in
    omega arith

pub overflow_shr-numerator : goal.overflow_shr-numerator
overflow_shr-numerator c =
    let few : c.in-PowerOfTwo.bits < 63 = bits_below c.in-PowerOfTwo.bits 63 (omega (arith, ap divisor_of c.in-PowerOfTwo.is)) in
    omega arith

pub returns-in-PowerOfTwo : goal.returns-in-PowerOfTwo
returns-in-PowerOfTwo c =
    let bits = c.in-PowerOfTwo.bits in
    let few : bits < 63 = bits_below bits 63 (omega (arith, ap divisor_of c.in-PowerOfTwo.is)) in
    let size = one_shl bits 64 (omega arith) in
    let is = rw size at c.round.ensures in
    is c.args.numerator refl (and_mask c.args.numerator bits) ∙ ap (λ x. nearest c.args.numerator (divisor_of x)) (sym c.in-PowerOfTwo.is)
