use Rattle.std.proofs.Common.{◌≡◌, ◌-ℤ◌, neg_ℤ, pos, FitsSigned, to_z, of_z, to_z-of_z, ap, ◌∙◌, arith, rules}
use Rattle.std.specs.Int.{w32, w64, int_min}
use Rattle.grib_bits.specs.Bits.{bits_of, signed}
use Rattle.grib_decimal.specs.Decimal.{scale}
use Rattle.grib_decimal.specs.Parts.{unit_of, base_of}
use Rattle.grib_decimal.proofs.Fields.{some_known, power_some, power_along, base_along, minus_is}
use Rattle.std.proofs.lemmas.Int.{ints, clamps, fits_signed_from_abs}
use Rattle.grib_decimal.proofs.scale.DecimalScale.of.Goals as goal

pub overflow_sub-exponent : goal.overflow_sub-exponent
overflow_sub-exponent c = fits_signed_from_abs w64 _ (omega (arith, ints, clamps))

pub shifted-base-requires : goal.shifted-base-requires
shifted-base-requires c = omega (arith, ints, clamps)

pub overflow_sub-shift : goal.overflow_sub-shift
overflow_sub-shift c = fits_signed_from_abs w64 _ (omega (arith, ints, clamps))

pub overflow_sub-from : goal.overflow_sub-from
overflow_sub-from c = fits_signed_from_abs w64 _ (omega (arith, ints, clamps))

pub overflow_sub-unit : goal.overflow_sub-unit
overflow_sub-unit c = fits_signed_from_abs w64 _ (omega (arith, ints, clamps))

pub overflow_sub-d : goal.overflow_sub-d
overflow_sub-d c = fits_signed_from_abs w64 _ (omega (arith, ints, clamps))

pub quick_of-requires-clause-shift : goal.quick_of-requires-clause-shift
quick_of-requires-clause-shift c = omega (arith, ints, clamps)

pub quick_of-requires-clause-factor : goal.quick_of-requires-clause-factor
quick_of-requires-clause-factor c = some_known c.power-factor.result _ (power_some _ _) c.power-factor.ensures

pub quick_of-requires-clause-divisor : goal.quick_of-requires-clause-divisor
quick_of-requires-clause-divisor c = some_known c.power-divisor.result _ (power_some _ _) c.power-divisor.ensures

pub invariant_of-result : goal.invariant_of-result
invariant_of-result c =
    let r = c.args.reference.now in
    let e = to_z w64 (of_z w64 c.from-e.result) in
    let d = to_z w64 (of_z w64 c.from-d.result) in
    let min = to_z w64 (of_z w64 c.min-unit.result) in
    let difference_fits : FitsSigned w64 (to_z w64 (of_z w64 c.from-exponent.result) -ℤ min) = fits_signed_from_abs w64 _ (omega (arith, ints, clamps)) in
    let shift_fits : FitsSigned w64 (e -ℤ min) = fits_signed_from_abs w64 _ (omega (arith, ints, clamps)) in
    let tens_fits : FitsSigned w64 (to_z w64 (of_z w64 c.from.result) -ℤ d) = fits_signed_from_abs w64 _ (omega (arith, ints)) in
    let tens_fits' : FitsSigned w64 (d -ℤ to_z w64 (of_z w64 c.from-2.result)) = fits_signed_from_abs w64 _ (omega (arith, ints)) in
    let minus_fits : FitsSigned w64 (pos 0 -ℤ min) = fits_signed_from_abs w64 _ (omega (arith, ints, clamps)) in
    let unit_fits : FitsSigned w64 c.min-unit.result = search rules in
    let exponent_fits : FitsSigned w64 c.from-exponent.result = search rules in
    let exponent_fits' : FitsSigned w32 c.exponent.result = search rules in
    let mantissa_fits : FitsSigned w64 c.signed_mantissa.result = search rules in
    let places_fits : FitsSigned w64 c.from.result = search rules in
    let places_fits' : FitsSigned w64 c.from-2.result = search rules in
    let exponent : to_z w64 (of_z w64 c.from-exponent.result) ≡ r.exponent = to_z-of_z exponent_fits ∙ c.from-exponent.ensures ∙ to_z-of_z exponent_fits' ∙ c.exponent.ensures in
    let unit : min ≡ unit_of r e = to_z-of_z unit_fits ∙ c.min-unit.ensures.value ∙ ap (λ z. int_min z e) exponent in
    let mantissa : to_z w64 (of_z w64 c.signed_mantissa.result) ≡ r.mantissa = to_z-of_z mantissa_fits ∙ c.signed_mantissa.ensures in
    let difference = to_z-of_z difference_fits ∙ ap (λ z. z -ℤ min) exponent ∙ ap (λ z. r.exponent -ℤ z) unit in
    let shift = to_z-of_z shift_fits ∙ ap (λ z. e -ℤ z) unit in
    let places : to_z w64 (of_z w64 c.from.result) ≡ pos c.args.places = to_z-of_z places_fits ∙ c.from.ensures in
    let places' : to_z w64 (of_z w64 c.from-2.result) ≡ pos c.args.places = to_z-of_z places_fits' ∙ c.from-2.ensures in
    let tens = to_z-of_z tens_fits ∙ ap (λ z. z -ℤ d) places in
    let tens' = to_z-of_z tens_fits' ∙ ap (λ z. d -ℤ z) places' in
    let minus : to_z w64 (of_z w64 (pos 0 -ℤ min)) ≡ neg_ℤ (unit_of r e) = to_z-of_z minus_fits ∙ minus_is min (unit_of r e) unit in
    let base_known = base_along c.shifted-base.result r (unit_of r e) _ _ mantissa difference c.shifted-base.ensures in
    let factor_is = power_along c.power-factor.result _ _ (unit_of r e) (pos c.args.places -ℤ d) unit tens c.power-factor.ensures in
    let divisor_is = power_along c.power-divisor.result _ _ (neg_ℤ (unit_of r e)) (d -ℤ pos c.args.places) minus tens' c.power-divisor.ensures in
    record {
      mantissa = c.requires.mantissa;
      few = c.requires.places;
      base_known = base_known;
      shift_is = shift;
      factor_is = factor_is;
      divisor_is = divisor_is;
      quick_is = c.quick_of.ensures (base_of r e) _ _ base_known factor_is divisor_is;
    }

pub returns : goal.returns
returns c =
    let e_fits : FitsSigned w64 c.from-e.result = search rules in
    let d_fits : FitsSigned w64 c.from-d.result = search rules in
    let e_fits' : FitsSigned w32 c.scale_factor.result = search rules in
    let d_fits' : FitsSigned w32 c.scale_factor-2.result = search rules in
    let d = to_z w64 (of_z w64 c.from-d.result) in
    ap (λ z. scale c.args.reference.now z d c.args.places) (to_z-of_z e_fits ∙ c.from-e.ensures ∙ to_z-of_z e_fits' ∙ c.scale_factor.ensures.value)
    ∙ ap (λ z. scale c.args.reference.now (signed (bits_of 16 c.args.e)) z c.args.places) (to_z-of_z d_fits ∙ c.from-d.ensures ∙ to_z-of_z d_fits' ∙ c.scale_factor-2.ensures.value)
