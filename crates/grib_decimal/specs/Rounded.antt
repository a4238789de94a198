-- What rounding gives.
use Rattle.std.specs.Prelude.{◌≡◌, ℕ, ◌^◌, ◌≤◌, Option, Some, None, IsTrue, IsFalse}
use Rattle.std.specs.Int.{is_negative}
use Rattle.grib_dyadic.specs.Value.{Exact}
use Rattle.grib_decimal.specs.declared.rounded.Rounded.{Rounded}
use Rattle.grib_decimal.specs.Decimal.{numerator, denominator, is_too_large}
use Rattle.grib_decimal.specs.Rounding.{nearest}

-- the value times 10 ^ places, rounded
pub record IsRounded (v : Exact) (places : ℕ) (r : Rounded) : Type 0 where
  pub negative_is : r.negative ≡ is_negative v.number
  pub number_is : r.number ≡ nearest (numerator v places) (denominator v places)
  pub small : r.number ≤ 2 ^ 126

-- that, unless it is too large
abbrev pub IsRounding : Exact → ℕ → Option Rounded → Type 0
IsRounding v places (Some r) = IsFalse (is_too_large v places) × IsRounded v places r
IsRounding v places None = IsTrue (is_too_large v places)
