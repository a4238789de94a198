-- The nearest word is no NaN.
use Rattle.std.proofs.Common.{◌≡◌, ℕ, ◌%◌, ◌≤◌, Bool, true, false, T, not, ◌-ℤ◌, pos, refl, arith}
use Rattle.std.proofs.lemmas.Float.{not_nan_f64_bits}
use Rattle.std.specs.Int.{is_negative}
use lib.Ieee.{binary64, nan_bits}
use Rattle.grib_dyadic.specs.Value.{Exact}
use Rattle.grib_decimal.specs.Decimal.{or_0, numerator, denominator}
use Rattle.grib_nearest.specs.declared.format.Format.TheVariants.{Binary64}
use Rattle.grib_nearest.specs.Nearest.{infinity, nearest_word}
use Rattle.grib_nearest.specs.Values.{signed_word}
use Rattle.grib_nearest.proofs.Nearness.{is_nearest}
use Rattle.grib_nearest.proofs.Words.{below_some}
use Rattle.grib_arrays.specs.Values.{value_word}

infinity_is : infinity binary64 ≡ 0x7ff0_0000_0000_0000
infinity_is = refl

-- with any sign it is no more than the word of infinity
below_infinity : (negative : Bool) (word : ℕ) → word ≤ infinity binary64 → signed_word binary64 negative word % 0x8000_0000_0000_0000 ≤ 0x7ff0_0000_0000_0000
below_infinity false word within = omega (arith, infinity_is, within)
below_infinity true word within = omega (arith, infinity_is, within)

pub not_nan : (v : Exact) → T (not (nan_bits binary64 (value_word Binary64 v)))
not_nan v =
    let near = is_nearest binary64 (numerator v 0) (denominator v 0) (below_some v.binary (or_0 (v.decimal -ℤ pos 0))) in
    not_nan_f64_bits (value_word Binary64 v)
    (below_infinity (is_negative v.number) (nearest_word binary64 (numerator v 0) (denominator v 0)) near.within)
