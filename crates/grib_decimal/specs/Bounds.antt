-- The least and the greatest scaled number of some points, and of their values.
use Rattle.std.specs.Prelude.{◌≡◌, ◌≢◌, ℕ, ◌+◌, ◌-◌, ◌^◌, ◌<◌, ◌≤◌, List, length, get_or, Option, Some, None, ℤ, pos, neg_ℤ, ◌≤ℤ◌}
use Rattle.grib_dyadic.specs.Reference.{Binary}
use Rattle.grib_dyadic.specs.Value.{value_of}
use Rattle.grib_decimal.specs.Order.{AtMost}
use Rattle.grib_packing.specs.declared.column.Point.{Point}
use Rattle.grib_packing.specs.declared.column.Point.TheVariants.{Scaled, Missing}
use Rattle.grib_decimal.specs.declared.bounds.Greatest.{Greatest}
use Rattle.grib_decimal.specs.declared.bounds.Least.{Least}
use Rattle.grib_decimal.specs.declared.extreme.Extremes.{Extremes}

-- None of the first n points has a scaled number.
abbrev pub HasNoNumber : List Point → ℕ → Type 0
HasNoNumber points n = (k : ℕ) (x : ℤ) → k < n → get_or points k Missing ≢ Scaled x

-- x stands before or beside each scaled number of the first n points, and itself first at this place, counted from 1.
pub record IsBound (Before : ℤ → ℤ → Type 0) (points : List Point) (n : ℕ) (x : ℤ) (place : ℕ) : Type 0 where
  pub counted : 1 ≤ place
  pub within : place ≤ n
  pub stands : get_or points (place - 1) Missing ≡ Scaled x
  pub first : (k : ℕ) → k + 1 < place → get_or points k Missing ≢ Scaled x
  pub bound : (k : ℕ) (y : ℤ) → k < n → get_or points k Missing ≡ Scaled y → Before x y

-- the least and the greatest scaled number of the first n points
pub record AreExtremes (points : List Point) (n : ℕ) (m : Extremes) : Type 0 where
  pub least : IsBound (λ x y. x ≤ℤ y) points n m.least m.least_place
  pub greatest : IsBound (λ x y. y ≤ℤ x) points n m.greatest m.greatest_place

-- the extremes of the first n points, or that they have no scaled number
abbrev pub AreExtremesSoFar : List Point → ℕ → Option Extremes → Type 0
AreExtremesSoFar points n (Some m) = AreExtremes points n m
AreExtremesSoFar points n None = HasNoNumber points n

-- For any reference value and scale factors, each value is at least that of the least number and at most that of the
-- greatest.
abbrev pub BoundAllValues : List Point → Extremes → Type 0
BoundAllValues points m =
    (r : Binary) (e d : ℤ) (k : ℕ) (x : ℤ) → k < length points → get_or points k Missing ≡ Scaled x
    → AtMost (value_of r e d m.least) (value_of r e d x) × AtMost (value_of r e d x) (value_of r e d m.greatest)

-- x stands before or beside each scaled number of the first n points; it is where it began while its place is 0, and
-- itself first at its place then.
pub record IsBoundSoFar (Before : ℤ → ℤ → Type 0) (begins : ℤ) (points : List Point) (n : ℕ) (x : ℤ) (place : ℕ) : Type 0 where
  pub bound : (k : ℕ) (y : ℤ) → k < n → get_or points k Missing ≡ Scaled y → Before x y
  pub none : place ≡ 0 → x ≡ begins
  pub some : 1 ≤ place → IsBound Before points n x place

abbrev pub IsLeastSoFar : List Point → ℕ → Least → Type 0
IsLeastSoFar points n m = IsBoundSoFar (λ x y. x ≤ℤ y) (pos (2 ^ 63 - 1)) points n m.number m.place

abbrev pub IsGreatestSoFar : List Point → ℕ → Greatest → Type 0
IsGreatestSoFar points n m = IsBoundSoFar (λ x y. y ≤ℤ x) (neg_ℤ (pos (2 ^ 63))) points n m.number m.place
