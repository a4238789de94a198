-- What is worked out once for all points of a field.
use Rattle.std.specs.Prelude.{◌≡◌, ℕ, ◌*◌, ◌^◌, ◌<◌, ◌≤◌, ℤ, pos, ◌-ℤ◌, ◌*ℤ◌, nat_abs, Option, Some, None, SomeIff, IfSome}
use Rattle.std.specs.Int.{int_min}
use Rattle.grib_dyadic.specs.Reference.{Binary, two_to_difference}
use Rattle.grib_decimal.specs.declared.quick.Quick.{Quick}
use Rattle.grib_decimal.specs.Decimal.{factor, denominator_of}
use Rattle.grib_decimal.specs.Divisors.{divisor_of}

-- An integer is known, or it has a magnitude of 2 ^ k or more.
abbrev pub IsKnown : ℕ → Option ℤ → ℤ → Type 0
IsKnown k (Some n) exact = n ≡ exact
IsKnown k None exact = 2 ^ k ≤ nat_abs exact

-- R and X * 2 ^ E as multiples of 2 ^ t, where t is the lesser of their exponents
abbrev pub unit_of : Binary → ℤ → ℤ
unit_of r e = int_min r.exponent e

abbrev pub base_of : Binary → ℤ → ℤ
base_of r e = r.mantissa *ℤ pos (two_to_difference r.exponent (unit_of r e))

-- With numbers of 64 bits: the numerator of a point, with its sign, is origin + X * stride.
pub record IsQuick (q : Quick) (base : ℤ) (shift : ℤ) (factor divisor : ℕ) : Type 0 where
  pub origin_is : q.origin ≡ base *ℤ pos factor
  pub stride_is : q.stride ≡ pos (factor * 2 ^ nat_abs shift)
  pub divisor_is : divisor_of q.divisor ≡ divisor

pub record IsPrepared (r : Binary) (e d : ℤ) (places : ℕ) (base : Option ℤ) (shift : ℤ) (factor' divisor : Option ℕ) (quick : Option Quick) : Type 0 where
  pub mantissa : nat_abs r.mantissa < 2 ^ 24
  pub few : places ≤ 18
  pub base_known : IsKnown 127 base (base_of r e)
  pub shift_is : shift ≡ e -ℤ unit_of r e
  pub factor_is : SomeIff factor' (factor (unit_of r e) d places < 2 ^ 126) (factor (unit_of r e) d places)
  pub divisor_is : SomeIff divisor (denominator_of (unit_of r e) d places < 2 ^ 126) (denominator_of (unit_of r e) d places)
  pub quick_is : IfSome quick (λ q. IsQuick q (base_of r e) shift (factor (unit_of r e) d places) (denominator_of (unit_of r e) d places))
