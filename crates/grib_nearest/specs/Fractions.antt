-- Values as fractions of whole numbers.
use Rattle.std.specs.Prelude.{ℕ, ◌*◌, ◌^◌, ℤ, neg_ℤ}
use Rattle.grib_decimal.specs.Decimal.{or_0}

-- a whole number times 2 ^ exponent / divisor as a fraction
abbrev pub numerator_at : ℤ → ℕ → ℕ
numerator_at exponent number = number * 2 ^ or_0 exponent

abbrev pub denominator_at : ℤ → ℕ → ℕ
denominator_at exponent divisor = divisor * 2 ^ or_0 (neg_ℤ exponent)
