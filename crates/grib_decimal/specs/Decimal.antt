-- The value Y of a point as a decimal: Y * 10 ^ D = R + X * 2 ^ E (WMO-No. 306, Volume I.2, FM 92 GRIB, Section 7 and
-- data representation template 5.0).
use Rattle.std.specs.Prelude.{ℕ, ◌*◌, ◌^◌, Bool, not, ◌&&◌, ◌||◌, ◌==◌, nat_le, List, ℤ, pos, negsuc, neg_ℤ, ◌-ℤ◌, nat_abs}
use Rattle.std.specs.Int.{is_negative}
use Rattle.grib_dyadic.specs.Reference.{Binary}
use Rattle.grib_dyadic.specs.Value.{Exact, value_of}
use Rattle.grib_decimal.specs.Rounding.{nearest}
use Rattle.grib_decimal.specs.Text as text

-- the number, or 0 where it is below 0
abbrev pub or_0 : ℤ → ℕ
or_0 (pos n) = n
or_0 (negsuc n) = 0

-- 2 ^ binary / 10 ^ decimal * 10 ^ places as a fraction of whole numbers
abbrev pub factor : ℤ → ℤ → ℕ → ℕ
factor binary decimal places = 2 ^ or_0 binary * 10 ^ or_0 (pos places -ℤ decimal)

abbrev pub denominator_of : ℤ → ℤ → ℕ → ℕ
denominator_of binary decimal places = 2 ^ or_0 (neg_ℤ binary) * 10 ^ or_0 (decimal -ℤ pos places)

-- the magnitude of the value times 10 ^ places, as a fraction
abbrev pub numerator : Exact → ℕ → ℕ
numerator v places = nat_abs v.number * factor v.binary v.decimal places

abbrev pub denominator : Exact → ℕ → ℕ
denominator v places = denominator_of v.binary v.decimal places

-- The value is not 0, and the numerator or the denominator is not below 2 ^ 126.
abbrev pub is_too_large : Exact → ℕ → Bool
is_too_large v places =
    not (nat_abs v.number == 0) && (nat_le (2 ^ 126) (numerator v places) || nat_le (2 ^ 126) (denominator v places))

-- the value rounded once, half to even, to this many places
abbrev pub decimal_text : Exact → ℕ → List ℕ
decimal_text v places =
    text.decimal_text (is_negative v.number) (nearest (numerator v places) (denominator v places)) places

-- What the decimals of a field rest on: its reference value R, its scale factors E and D, and how many places are wanted.
pub record Scale : Type 0 where
  pub reference : Binary
  pub e : ℤ
  pub d : ℤ
  pub places : ℕ

abbrev pub scale : Binary → ℤ → ℤ → ℕ → Scale
scale r e d places = record { reference = r; e = e; d = d; places = places }

-- the value of the point with this scaled number
abbrev pub value_at : Scale → ℤ → Exact
value_at s x = value_of s.reference s.e s.d x
