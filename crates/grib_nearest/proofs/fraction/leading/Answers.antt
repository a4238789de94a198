use Rattle.std.proofs.Common.{◌-◌, ◌*◌, ◌/◌, ◌^◌, arith}
use Rattle.std.proofs.lemmas.Bool.Decides.{nat_tests}
use Rattle.grib_nearest.proofs.Fractions.{division, leading_is}
use Rattle.grib_nearest.proofs.Numbers.{is_shifted, steps_many, steps_few, exponent_is}
use lib.Count.{count_leading_zeros}
use Rattle.grib_nearest.proofs.fraction.leading.Goals as goal

pub overflow_sub-zeros : goal.overflow_sub-zeros
overflow_sub-zeros c = (is_shifted c.args.number c.requires.some c.requires.few).many

pub invariant_of-result : goal.invariant_of-result
invariant_of-result c =
    let s = is_shifted c.args.number c.requires.some c.requires.few in
    rw (s.whole) (record {
      many = steps_many _ c.args.divisor s.from c.requires.divisor c.requires.small;
      few = steps_few _ c.args.divisor s.below;
    })

pub returns : goal.returns
returns c =
    let zeros = count_leading_zeros 128 c.args.number - 2 in
    let s = is_shifted c.args.number c.requires.some c.requires.few in
    let number = c.args.number * 2 ^ zeros in
    rw (s.whole) (leading_is c.args.number c.args.divisor zeros (number / c.args.divisor) _ c.args.exponent _ (exponent_is c.args.exponent zeros c.ranges.exponent c.requires.exponent s.few)
    (division number c.args.divisor _ c.requires.divisor (λ none. grind (arith, nat_tests)) (λ some. grind (arith, nat_tests))))
