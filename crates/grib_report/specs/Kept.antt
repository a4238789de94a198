-- The summary of the points of values, as these come.
use Rattle.std.specs.Prelude.{◌≡◌, ℕ, ◌+◌, ◌≤◌, List, ◌++◌, length, drop}
use Rattle.grib_base.specs.declared.limits.TheConstants.{MOST_POINTS}
use Rattle.grib_packing.specs.declared.column.Point.{Point}
use Rattle.grib_decimal.specs.Summary.{IsTally}
use Rattle.grib_report.specs.declared.keeping.Tallying.{Tallying}

-- After the summary of the first n points, the next ones were added, which are these.
pub record TallyKept (before : Tallying) (added : List Point) (after : Tallying) : Type 0 where
  pub keeps : (points rest : List Point) (n : ℕ) → length points ≤ MOST_POINTS → drop n points ≡ added ++ rest → IsTally points n before.tally
      → IsTally points (n + length added) after.tally

-- no point came
abbrev pub IsStart : Tallying → Type 0
IsStart start = (points : List Point) → IsTally points 0 start.tally
