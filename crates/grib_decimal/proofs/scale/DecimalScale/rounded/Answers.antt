use Rattle.std.proofs.Common.{◌*ℤ◌, pos, nat_abs, FitsSigned, to_z-of_z, ap, subst, ◌∙◌, rules}
use Rattle.std.specs.Int.{w64, is_negative}
use Rattle.grib_decimal.specs.Divisors.{divisor_of}
use Rattle.grib_decimal.specs.Rounding.{nearest}
use Rattle.grib_dyadic.specs.Value.{value_of}
use Rattle.grib_decimal.specs.Decimal.{factor, denominator_of}
use Rattle.grib_decimal.specs.Parts.{IsKnown, unit_of, base_of}
use Rattle.grib_decimal.proofs.Fields.{value_number, small_number, one_small, rounded_quick, some_known}
use Rattle.grib_decimal.proofs.Roundings.{denominator_some}
use Rattle.grib_decimal.proofs.scale.DecimalScale.rounded.Goals as goal

pub returns : goal.returns
returns c =
    let s = c.self.inside in
    let i = c.self.invariant in
    let f = factor (unit_of s.reference s.e) s.d s.places in
    let d = denominator_of (unit_of s.reference s.e) s.d s.places in
    let n = c.in-Some-numerator.numerator in
    let fits : FitsSigned w64 n = search rules in
    let quick = rw c.in-Some.is at i.quick_is in
    let is = rw (to_z-of_z c.ranges.x) at (c.in-Some-numerator.ensures.exact (base_of s.reference s.e) s.shift f d quick) in
    let is' = is ∙ ap (λ z. z *ℤ pos f) (value_number s.reference s.e s.d c.args.x s.shift i.shift_is) in
    let v = value_of s.reference s.e s.d c.args.x in
    let small = c.in-Some.quick.divisor_small in
    let few = c.in-Some-numerator.ensures.small in
    let r = c.rounded.ensures in
    let e = ap is_negative (to_z-of_z fits) in
    let e' = ap nat_abs (to_z-of_z fits) in
    rw (← c.self.view_is) (rounded_quick v s.places n (divisor_of c.in-Some.quick.divisor) c.rounded.result is' few quick.divisor_is small (r.negative ∙ e) (r.number ∙ ap (λ k. nearest k (divisor_of c.in-Some.quick.divisor)) e') r.small)

pub round_wide-requires-clause-some : goal.round_wide-requires-clause-some
round_wide-requires-clause-some c =
    let s = c.self.inside in
    let i = c.self.invariant in
    some_known s.divisor (denominator_of (unit_of s.reference s.e) s.d s.places) (denominator_some (unit_of s.reference s.e) s.d s.places) i.divisor_is

pub returns-2 : goal.returns-2
returns-2 c =
    let s = c.self.inside in
    let i = c.self.invariant in
    let fits : FitsSigned w64 s.shift = search rules in
    let known = (rw (to_z-of_z c.ranges.x, to_z-of_z fits) at (c.number.ensures (base_of s.reference s.e))) i.base_known (one_small s.reference s.e c.args.x s.shift i.shift_is i.mantissa (small_number c.args.x c.ranges.x)) in
    let known' = subst (λ z. IsKnown 126 c.number.result z) (value_number s.reference s.e s.d c.args.x s.shift i.shift_is) known in
    rw (← c.self.view_is) (c.round_wide.ensures (value_of s.reference s.e s.d c.args.x) s.places known' i.factor_is i.divisor_is)
