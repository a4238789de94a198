-- What the sections of an accepted message hold, for private functions.
use Rattle.std.specs.Prelude.{◌≡◌, ℕ, ◌+◌, ◌*◌, ◌<◌, ◌≤◌, true, Option, Some, None, List, length}
use Rattle.grib1_sections.specs.Grid.{list_place, lists_rows, nv, nj}
use Rattle.grib1_sections.specs.Coordinates.{coordinate_count}

-- Section 2 has its lists as a whole
pub record HoldsLists (s : List ℕ) : Type 0 where
  pub whole : 10 ≤ length s
  pub words_placed : 0 < coordinate_count s → 1 ≤ list_place s
  pub words : 0 < coordinate_count s → list_place s + 4 * coordinate_count s ≤ length s + 1
  pub rows_placed : lists_rows s ≡ true → 1 ≤ list_place s
  pub rows : lists_rows s ≡ true → list_place s + 4 * nv s + 2 * nj s ≤ length s + 1

-- Section 3, where there is one, has a bit for each point
abbrev pub HoldsBits : Option (List ℕ) → ℕ → Type 0
HoldsBits None points = Unit {0}
HoldsBits (Some s) points = points + 48 ≤ 8 * length s
