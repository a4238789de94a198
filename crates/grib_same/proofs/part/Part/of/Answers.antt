use Rattle.std.proofs.Common.{◌≡◌, pos, ◌+ℤ◌, ◌*ℤ◌, FitsSigned, to_z, of_z, to_z-of_z, refl, ◌∙◌, arith, rules}
use Rattle.std.specs.Int.{w128}
use Rattle.grib_same.proofs.Wholes.{part_is, part_fits, sum_fits}
use Rattle.grib_same.proofs.part.Part.of.Goals as goal

pub overflow_cast-result-2 : goal.overflow_cast-result-2
overflow_cast-result-2 c =
    let from : FitsSigned w128 c.from.result = search rules in
    let from' : FitsSigned w128 c.from-2.result = search rules in
    let from'' : FitsSigned w128 c.from-3.result = search rules in
    let number : to_z w128 (of_z w128 c.from.result) ≡ c.args.number = to_z-of_z from ∙ c.from.ensures ∙ to_z-of_z c.ranges.number in
    let factor : to_z w128 (of_z w128 c.from-2.result) ≡ pos c.args.factor = to_z-of_z from' ∙ c.from-2.ensures in
    let carry : to_z w128 (of_z w128 c.from-3.result) ≡ c.args.carry = to_z-of_z from'' ∙ c.from-3.ensures ∙ to_z-of_z c.ranges.carry in
    let fits = sum_fits c.args.number c.args.carry c.args.factor c.ranges.number c.ranges.carry (omega arith) in
    let quotient = rw (number, factor, carry, to_z-of_z fits.0, to_z-of_z fits.1) at c.div_euclid.ensures in
    let fits' : FitsSigned w128 c.div_euclid.result = search rules in
    rw (to_z-of_z fits') (part_fits ((c.args.number *ℤ pos c.args.factor) +ℤ c.args.carry) c.args.number c.args.carry c.div_euclid.result c.args.factor refl quotient c.ranges.number c.ranges.carry (omega arith))

pub returns : goal.returns
returns c =
    let from : FitsSigned w128 c.from.result = search rules in
    let from' : FitsSigned w128 c.from-2.result = search rules in
    let from'' : FitsSigned w128 c.from-3.result = search rules in
    let number : to_z w128 (of_z w128 c.from.result) ≡ c.args.number = to_z-of_z from ∙ c.from.ensures ∙ to_z-of_z c.ranges.number in
    let factor : to_z w128 (of_z w128 c.from-2.result) ≡ pos c.args.factor = to_z-of_z from' ∙ c.from-2.ensures in
    let carry : to_z w128 (of_z w128 c.from-3.result) ≡ c.args.carry = to_z-of_z from'' ∙ c.from-3.ensures ∙ to_z-of_z c.ranges.carry in
    let fits = sum_fits c.args.number c.args.carry c.args.factor c.ranges.number c.ranges.carry (omega arith) in
    let quotient = rw (number, factor, carry, to_z-of_z fits.0, to_z-of_z fits.1) at c.div_euclid.ensures in
    let remainder = rw (number, factor, carry, to_z-of_z fits.0, to_z-of_z fits.1) at c.rem_euclid.ensures.value in
    let wide : FitsSigned w128 c.div_euclid.result = search rules in
    let wide' : FitsSigned w128 c.rem_euclid.result = search rules in
    let narrow = part_fits ((c.args.number *ℤ pos c.args.factor) +ℤ c.args.carry) c.args.number c.args.carry c.div_euclid.result c.args.factor refl quotient c.ranges.number c.ranges.carry (omega arith) in
    rw (to_z-of_z wide, to_z-of_z wide', to_z-of_z narrow) (part_is ((c.args.number *ℤ pos c.args.factor) +ℤ c.args.carry) c.div_euclid.result c.rem_euclid.result quotient remainder)
