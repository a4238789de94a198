-- Where the points of a grid lie (WMO-No. 306, Volume I.2, FM 92 GRIB edition 2, flag table 3.4, scanning mode).
use Rattle.std.specs.Prelude.{ℕ, ◌+◌, ◌-◌, ◌*◌, ◌/◌, ◌%◌, Bool, false, cond, ◌&&◌, ◌==◌}
use Rattle.grib_rescan.specs.declared.scanning.Scanning.{Scanning}

-- Bits 1 to 4 of the octet: points of a row go westward, points of a column go northward, points of a column
-- are consecutive, adjacent rows go in opposite directions.
abbrev pub scanning_of : ℕ → Scanning
scanning_of octet = record {
  westward = octet / 128 % 2 == 1;
  northward = octet / 64 % 2 == 1;
  by_columns = octet / 32 % 2 == 1;
  alternates = octet / 16 % 2 == 1;
}

-- a place of a grid: its column, from the west, and its row, from the north, both from 0
pub record Place : Type 0 where
  pub column : ℕ
  pub row : ℕ

abbrev pub is_odd : ℕ → Bool
is_odd n = n % 2 == 1

-- the k-th of `count` places from 0, from the other end where it turns
abbrev pub turned : Bool → ℕ → ℕ → ℕ
turned turns count k = cond turns (count - 1 - k) k

-- Where the data are, before bits 1 and 2 are looked at: row after row, or column after column.
abbrev pub along_rows : Bool → ℕ → ℕ → Place
along_rows alternates ni n = let j = n / ni in record { column = turned (alternates && is_odd j) ni (n % ni); row = j }

abbrev pub along_columns : Bool → ℕ → ℕ → Place
along_columns alternates nj n = let i = n / nj in record { column = i; row = turned (alternates && is_odd i) nj (n % nj) }

abbrev pub along : Bool → Place → Place → Place
along by_columns columns rows = record {
  column = cond by_columns columns.column rows.column;
  row = cond by_columns columns.row rows.row;
}

-- the place of grid point n, from 0, of a grid of ni columns and nj rows
abbrev pub place : Scanning → ℕ → ℕ → ℕ → Place
place scanning ni nj n =
    let at = along scanning.by_columns (along_columns scanning.alternates nj n) (along_rows scanning.alternates ni n) in
    record { column = turned scanning.westward ni at.column; row = turned scanning.northward nj at.row }

-- the grid point, from 0, in column i and row j
abbrev pub point_at : Scanning → ℕ → ℕ → ℕ → ℕ → ℕ
point_at scanning ni nj i j =
    let column = turned scanning.westward ni i in
    let row = turned scanning.northward nj j in
    cond scanning.by_columns (column * nj + turned (scanning.alternates && is_odd column) nj row)
    (row * ni + turned (scanning.alternates && is_odd row) ni column)

-- the mode of the grid that has the columns, whose points are consecutive, for rows
abbrev pub exchanged : Scanning → Scanning
exchanged scanning = record {
  westward = scanning.northward;
  northward = scanning.westward;
  by_columns = false;
  alternates = scanning.alternates;
}
