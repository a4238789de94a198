-- What is summed up of the points of a field.
use Rattle.std.specs.Prelude.{◌≡◌, ℕ, Bool, true, false, Option, Some, None, List, [], ◌∷◌, length, take, fold, count_by, ℤ}
use Rattle.std.specs.Int.{int_min, int_max}
use Rattle.std.specs.Ordering.{int_eq}
use Rattle.grib_base.specs.Rules.{first_place}
use Rattle.grib_packing.specs.declared.column.Point.{Point}
use Rattle.grib_packing.specs.declared.column.Point.TheVariants.{Scaled, Missing, Missing2}
use Rattle.grib_packing.specs.Misfits.{is_missing, is_missing2, scaled_numbers}
use Rattle.grib_decimal.specs.Bounds.{AreExtremesSoFar, IsLeastSoFar, IsGreatestSoFar}
use Rattle.grib_decimal.specs.declared.extreme.Extremes.{Extremes}
use Rattle.grib_decimal.specs.declared.extreme.Summary.{Summary}
use Rattle.grib_decimal.specs.declared.tally.Tally.{Tally}

abbrev pub is_present : Point → Bool
is_present (Scaled x) = true
is_present Missing = false
is_present Missing2 = false

abbrev pub has_number : ℤ → Point → Bool
has_number x (Scaled y) = int_eq y x
has_number x Missing = false
has_number x Missing2 = false

-- the place, from 1, of the first point with this scaled number
abbrev pub place_of : ℤ → List Point → ℕ
place_of x points = first_place (has_number x) points

-- the least and the greatest of the scaled numbers of these points, each with its first place
abbrev pub extremes_among : List Point → List ℤ → Option Extremes
extremes_among points [] = None
extremes_among points (x ∷ xs) =
    let least = fold int_min x xs in
    let greatest = fold int_max x xs in
    Some (record {
      least = least;
      least_place = place_of least points;
      greatest = greatest;
      greatest_place = place_of greatest points;
    })

abbrev pub extremes_of : List Point → Option Extremes
extremes_of points = extremes_among points (scaled_numbers points)

abbrev pub summary_of : List Point → Summary
summary_of points = record {
  present = count_by is_present points;
  missing = count_by is_missing points;
  missing2 = count_by is_missing2 points;
  extremes = extremes_of points;
}

-- this is the tally of the first n points
pub record IsTally (points : List Point) (n : ℕ) (s : Tally) : Type 0 where
  pub count_is : s.count ≡ n
  pub missing_is : s.missing ≡ count_by is_missing (take n points)
  pub missing2_is : s.missing2 ≡ count_by is_missing2 (take n points)
  pub least_is : IsLeastSoFar points n s.least
  pub greatest_is : IsGreatestSoFar points n s.greatest

-- this is the summary of the points, and the extremes are their extremes
pub record SumUp (points : List Point) (s : Summary) : Type 0 where
  pub summary_is : s ≡ summary_of points
  pub extremes_are : AreExtremesSoFar points (length points) s.extremes
