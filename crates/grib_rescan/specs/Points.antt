-- The points of a grid in the order of scanning octet 0, all of them or those of a box.
use Rattle.std.specs.Prelude.{ℕ, ◌+◌, ◌-◌, ◌%◌, ◌<◌, ◌≤◌, List, map, slice_index_or}
use Rattle.std.specs.List.{range_with_len, flat_map}
use Rattle.grib_packing.specs.declared.column.Column.{Column}
use Rattle.grib_packing.specs.declared.column.Point.{Point}
use Rattle.grib_packing.specs.declared.column.Point.TheVariants.{Missing}
use Rattle.grib_rescan.specs.declared.scanning.Scanning.{Scanning}
use Rattle.grib_rescan.specs.declared.points.Area.{Area}
use Rattle.grib_rescan.specs.Scanning.{scanning_of, point_at}

-- point n, from 0
abbrev pub point : List Point → ℕ → Point
point points n = slice_index_or points n Missing

-- the points that lie in row j, from column i on, from the west
abbrev pub row_of : Scanning → ℕ → ℕ → List Point → ℕ → ℕ → ℕ → List Point
row_of scanning ni nj points i width j = map (λ i. point points (point_at scanning ni nj i j)) (range_with_len i width)

-- all rows from the north
abbrev pub rescanned_points : Scanning → ℕ → ℕ → List Point → List Point
rescanned_points scanning ni nj points = flat_map (row_of scanning ni nj points 0 ni) (range_with_len 0 nj)

abbrev pub width : Area → ℕ
width area = area.i1 + 1 - area.i0

abbrev pub height : Area → ℕ
height area = area.j1 + 1 - area.j0

-- the points of a box that lie in row j, from column i on, eastward, where the points are in the order of scanning octet 0: the first
-- column follows the last
abbrev pub box_row_of : ℕ → ℕ → List Point → ℕ → ℕ → ℕ → List Point
box_row_of ni nj points i width j = map (λ i. point points (point_at (scanning_of 0) ni nj (i % ni) j)) (range_with_len i width)

-- the rows of a box from the north
abbrev pub cropped_points : Area → ℕ → ℕ → List Point → List Point
cropped_points area ni nj points = flat_map (box_row_of ni nj points area.i0 (width area)) (range_with_len area.j0 (height area))

-- a column with its points in another order, or with those of a box; R, E and D stay
abbrev pub rescanned_column : Scanning → ℕ → ℕ → Column → Column
rescanned_column scanning ni nj column = record column { points = rescanned_points scanning ni nj column.points }

abbrev pub cropped_column : Area → ℕ → ℕ → Column → Column
cropped_column area ni nj column = record column { points = cropped_points area ni nj column.points }

-- The box lies in the grid, and has a point. Its columns may go on at the first of the grid behind the last, and none is taken twice.
pub record IsBox (area : Area) (ni nj : ℕ) : Type 0 where
  pub columns : area.i0 ≤ area.i1
  pub rows : area.j0 ≤ area.j1
  pub first_column : area.i0 < ni
  pub last_column : area.i1 < area.i0 + ni
  pub last_row : area.j1 < nj
