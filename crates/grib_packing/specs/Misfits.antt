-- What does not fit a packing: the columns that a packing refuses to write. Nothing is rounded or cut.
use Rattle.std.specs.Prelude.{ℕ, ◌-◌, ◌^◌, Bool, true, false, cond, ◌||◌, Option, Some, None, List, nat_lt, int_lt, ℤ, pos, nat_abs}
use Rattle.std.specs.List.{filter_map, list_any}
use Rattle.grib_base.specs.Rules.{first_place}
use Rattle.grib_packing.specs.declared.column.Point.{Point}
use Rattle.grib_packing.specs.declared.column.Point.TheVariants.{Scaled, Missing, Missing2}
use Rattle.grib_packing.specs.Differences.{descriptors_of, difference_codes}

-- what is packed to: simple packing; groups of codes, which are the scaled integers or their spatial differences of order
-- 1 or 2; or CCSDS packing, with so many values in a block and so many blocks from one reference to the next
pub data Target : Type 0 where
  ToSimple : Target
  ToComplex : Target
  ToSpatial : ℕ → Target
  ToCoded : ℕ → ℕ → Target

-- the number of its data representation template (code table 5.0)
abbrev pub template_of : Target → ℕ
template_of ToSimple = 0
template_of ToComplex = 2
template_of (ToSpatial order) = 3
template_of (ToCoded block interval) = 42

-- the first cause, with its point, counted from 1
pub data Misfit : Type 0 where
  SecondaryMissing : ℕ → Misfit
  OutOfRange : ℕ → Misfit
  DifferenceRange : Misfit

abbrev pub is_missing : Point → Bool
is_missing (Scaled x) = false
is_missing Missing = true
is_missing Missing2 = false

abbrev pub is_missing2 : Point → Bool
is_missing2 (Scaled x) = false
is_missing2 Missing = false
is_missing2 Missing2 = true

abbrev pub scaled_of : Point → Option ℤ
scaled_of (Scaled x) = Some x
scaled_of Missing = None
scaled_of Missing2 = None

-- the scaled integers of the points that are not missing
abbrev pub scaled_numbers : List Point → List ℤ
scaled_numbers points = filter_map scaled_of points

-- the missing value management: 2 where a point is secondary missing, else 1 where one is missing, else 0;
-- this many codes are reserved
abbrev pub management_of : List Point → ℕ
management_of points = cond (list_any is_missing2 points) 2 (cond (list_any is_missing points) 1 0)

-- whether a number is outside 0 to the greatest
abbrev pub is_outside : ℕ → ℤ → Bool
is_outside greatest x = int_lt x (pos 0) || nat_lt greatest (nat_abs x)

abbrev pub is_scaled_outside : ℕ → Point → Bool
is_scaled_outside greatest (Scaled x) = is_outside greatest x
is_scaled_outside greatest Missing = false
is_scaled_outside greatest Missing2 = false

-- the misfit at the first point that passes the test
abbrev pub misfit_at : (ℕ → Misfit) → (Point → Bool) → List Point → Option Misfit
misfit_at misfit test points = cond (list_any test points) (Some (misfit (first_place test points))) None

abbrev pub first_of : Option Misfit → Option Misfit → Option Misfit
first_of (Some misfit) later = Some misfit
first_of None later = later

-- the greatest code of 32 bits where k codes are reserved
abbrev pub greatest_code : ℕ → ℕ
greatest_code k = 2 ^ 32 - 1 - k

-- whether differences cannot be told: by their first values, their minimum or a code
abbrev pub are_differences_out : ℕ → ℕ → List ℤ → Bool
are_differences_out order k numbers =
    let d = descriptors_of order numbers in
    is_outside (2 ^ 31 - 1) d.first || is_outside (2 ^ 31 - 1) d.second || nat_lt (2 ^ 31 - 1) (nat_abs d.minimum)
    || list_any (λ code. nat_lt (greatest_code k) code) (difference_codes order numbers)

-- the misfit of packings that have a bitmap for missing points
abbrev pub plain_misfit : ℕ → List Point → Option Misfit
plain_misfit greatest points =
    first_of (misfit_at SecondaryMissing is_missing2 points) (misfit_at OutOfRange (is_scaled_outside greatest) points)

abbrev pub first_misfit : Target → List Point → Option Misfit
first_misfit ToSimple points = plain_misfit (2 ^ 48 - 1) points
first_misfit ToComplex points = misfit_at OutOfRange (is_scaled_outside (greatest_code (management_of points))) points
first_misfit (ToSpatial order) points =
    cond (are_differences_out order (management_of points) (scaled_numbers points)) (Some DifferenceRange) None
first_misfit (ToCoded block interval) points = plain_misfit (2 ^ 32 - 1) points
