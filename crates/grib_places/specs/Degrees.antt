-- Exact numbers of degrees, and what is told of them.
use Rattle.std.specs.Prelude.{ℕ, ◌*◌, cond, List, ℤ, pos, neg_ℤ, nat_abs}
use Rattle.std.specs.Int.{is_negative}
use Rattle.std.specs.Float.Ieee.{binary64}
use Rattle.grib_dyadic.specs.Reference.{binary}
use Rattle.grib_decimal.specs.Decimal.{Scale, scale}
use Rattle.grib_decimal.specs.Rounding.{nearest}
use Rattle.grib_decimal.specs.Text.{decimal_text}
use Rattle.grib_nearest.specs.Nearest.{nearest_word}
use Rattle.grib_nearest.specs.Values.{signed_word}

-- so many degrees: number / (1000000 * parts)
pub record Degrees : Type 0 where
  pub number : ℤ
  pub parts : ℕ

-- the word of binary64 whose number is nearest, ties to even
abbrev pub degrees_word : Degrees → ℕ
degrees_word x = signed_word binary64 (is_negative x.number) (nearest_word binary64 (nat_abs x.number) (1000000 * x.parts))

-- a magnitude with a sign
abbrev pub signed_by : ℤ → ℕ → ℤ
signed_by x magnitude = cond (is_negative x) (neg_ℤ (pos magnitude)) (pos magnitude)

-- in 10^-6 degree: the nearest whole number, the even one of two that are equally near
abbrev pub micro_degrees : Degrees → ℤ
micro_degrees x = signed_by x.number (nearest (nat_abs x.number) x.parts)

-- so many 10^-6 degree as a text in degrees, with six decimals; zero has no sign
abbrev pub degrees_text : ℤ → List ℕ
degrees_text micro = decimal_text (is_negative micro) (nat_abs micro) 6

-- how they are printed: as the values of points with the scale factors R = 0, E = 0 and D = 6
abbrev pub six_places : Scale
six_places = scale (binary (pos 0) (pos 0)) (pos 0) (pos 6) 6
