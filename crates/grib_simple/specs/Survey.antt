-- What is seen of the points of a column before they are written, for private functions.
use Rattle.std.specs.Prelude.{◌≡◌, ℕ, ◌+◌, ◌==◌, Bool, true, false, cond, ◌||◌, List, length, replicate, max}
use Rattle.std.specs.List.{list_any}
use Rattle.grib_base.specs.Rules.{first_place}
use Rattle.grib_packing.specs.declared.column.Point.{Point}
use Rattle.grib_packing.specs.Groupings.{greatest}
use Rattle.grib_packing.specs.Misfits.{is_missing, is_missing2, is_scaled_outside}
use Rattle.grib_packing.specs.Packed.{simple_numbers}
use Rattle.grib_simple.specs.declared.survey.Survey.{Survey}

-- the greatest number and how many there are, whether a point is missing, and the places of the first point
-- that is secondary missing and of the first number that is negative or above the most, 0 for none; where it
-- says that the points are the same, each number is the greatest
pub record IsSurvey (most : ℕ) (survey : Survey) (points : List Point) : Type 0 where
  pub secondary : survey.secondary ≡ first_place is_missing2 points
  pub too_wide : survey.too_wide ≡ first_place (is_scaled_outside most) points
  pub greatest_is : survey.greatest ≡ greatest (simple_numbers points)
  pub present : survey.present ≡ length (simple_numbers points)
  pub missing : survey.missing ≡ list_any is_missing points
  pub same : survey.same ≡ true → simple_numbers points ≡ replicate survey.present survey.greatest

-- the place that was found, or that of the first point which passes a test among those after `seen` points
abbrev pub place_after : ℕ → ℕ → (Point → Bool) → List Point → ℕ
place_after found seen test rest =
    cond (found == 0) (cond (first_place test rest == 0) 0 (seen + first_place test rest)) found

-- so far: with what these points after the `seen` first ones will add, it is the survey of all, which does
-- not say that they are the same
pub record Surveys (most : ℕ) (survey : Survey) (seen : ℕ) (rest points : List Point) : Type 0 where
  pub secondary : place_after survey.secondary seen is_missing2 rest ≡ first_place is_missing2 points
  pub too_wide : place_after survey.too_wide seen (is_scaled_outside most) rest ≡ first_place (is_scaled_outside most) points
  pub greatest_is : max survey.greatest (greatest (simple_numbers rest)) ≡ greatest (simple_numbers points)
  pub present : survey.present + length (simple_numbers rest) ≡ length (simple_numbers points)
  pub missing : (survey.missing || list_any is_missing rest) ≡ list_any is_missing points
  pub same : survey.same ≡ false
