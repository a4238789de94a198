-- What the sections of an accepted message hold, for private functions.
use Rattle.std.specs.Prelude.{◌≡◌, ℕ, ◌+◌, ◌*◌, ◌≤◌, true, Option, Some, None, List, length}
use Rattle.grib_base.specs.declared.limits.TheConstants.{MOST_POINTS}
use Rattle.grib2_sections.specs.Template.{is_template, least_length}
use Rattle.grib1_sections.specs.Grid.{grid_types, grid_type, lists_rows, lists_end, list_place}
use Rattle.grib1_sections.specs.Frame.{section_length}
use Rattle.grib1_sections.specs.Data.{bit_width}

-- Section 2 is of a type of grid of the profile, and has its numbers and its lists as a whole
pub record HoldsGrid (s : List ℕ) : Type 0 where
  pub known : is_template grid_types (grid_type s) ≡ true
  pub long : least_length grid_types (grid_type s) ≤ length s
  pub least : 32 ≤ length s
  pub placed : lists_rows s ≡ true → 1 ≤ list_place s
  pub lists : lists_rows s ≡ true → lists_end s ≤ length s

-- Section 3, where there is one, has a bit for each point
abbrev pub HoldsBits : Option (List ℕ) → ℕ → Type 0
HoldsBits None points = Unit {0}
HoldsBits (Some s) points = points + 48 ≤ 8 * length s

-- all sections, with the number of points and of those that are present
pub record Holds (s1 s2 : List ℕ) (s3 : Option (List ℕ)) (s4 : List ℕ) (points values : ℕ) : Type 0 where
  pub identification : 28 ≤ length s1
  pub stands : section_length s1 ≡ length s1
  pub grid : HoldsGrid s2
  pub bitmap : HoldsBits s3 points
  pub head : 11 ≤ length s4
  pub numbers : values * bit_width s4 + 88 ≤ 8 * length s4
  pub stands_4 : section_length s4 ≡ length s4
  pub few : points ≤ MOST_POINTS
