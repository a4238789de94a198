-- What of a grid lies within bounds in degrees (WMO-No. 306, Volume I.2, FM 92 GRIB edition 2, grid definition template 3.0).
-- Latitudes and longitudes are in 10^-6 degree. Rows count from the north and columns from the west, both from 0.
use Rattle.std.specs.Prelude.{ℕ, ◌+◌, ◌-◌, ◌*◌, ◌%◌, Bool, cond, ◌&&◌, Option, Some, None, List, length, nat_le, ◌==◌, min, ℤ, pos, nat_abs, ◌-ℤ◌, int_le, slice_index_or}
use Rattle.std.specs.Int.{int_rem_euclid}
use Rattle.std.specs.List.{range_with_len, filter, list_all}
use Rattle.grib_bits.specs.Octets.{octets}
use Rattle.grib_rescan.specs.declared.points.Area.{Area}
use Rattle.grib_rescan.specs.declared.places.Run.{Run}
use Rattle.grib_rescan.specs.declared.bounds.Bounds.{Bounds}
use Rattle.grib_rescan.specs.declared.bounds.Bounds.TheVariants.{Box, Nearest}
use Rattle.grib_rescan.specs.Sections.{latitude_at, longitude_at}

-- ---- places that are counted from 0

-- those below n that hold
abbrev pub held : (ℕ → Bool) → ℕ → List ℕ
held holds n = filter holds (range_with_len 0 n)

-- Places in their order are one run if there are as many as from the first to the last. No places are none.
abbrev pub run_in : List ℕ → Option Run
run_in places =
    let first = slice_index_or places 0 0 in
    let last = slice_index_or places (length places - 1) 0 in
    cond (length places == last + 1 - first) (Some (record { first = first; count = length places })) None

abbrev pub run_of : (ℕ → Bool) → ℕ → Option Run
run_of holds n = run_in (held holds n)

-- the first of those below n that is no farther than any of them
abbrev pub nearest : (ℕ → ℕ) → ℕ → ℕ
nearest distance n = slice_index_or (held (λ k. list_all (λ m. nat_le (distance k) (distance m)) (range_with_len 0 n)) n) 0 0

-- ---- longitudes

-- how far east of a meridian a longitude lies, from 0 to below 360 degrees
abbrev pub east_of : ℤ → ℕ → ℕ
east_of meridian longitude = nat_abs (int_rem_euclid (pos longitude -ℤ meridian) (pos 360000000))

-- how far it is eastward from `west` to `east`: 360 degrees where they are as far from one another, or farther
abbrev pub span : ℤ → ℤ → ℕ
span west east = cond (int_le west east) (min (nat_abs (east -ℤ west)) 360000000) (nat_abs (int_rem_euclid (east -ℤ west) (pos 360000000)))

-- how far a longitude is from a meridian, the shorter way round
abbrev pub round_distance : ℤ → ℕ → ℕ
round_distance meridian longitude = let east = east_of meridian longitude in min east (360000000 - east)

-- Ni times Di is 360 degrees
abbrev pub goes_round : List ℕ → Bool
goes_round s = octets s 31 34 * octets s 64 67 == 360000000

-- ---- rows and columns of a grid with this Section 3

abbrev pub in_rows : ℤ → ℤ → List ℕ → ℕ → Bool
in_rows south north s j = int_le south (latitude_at s j) && int_le (latitude_at s j) north

abbrev pub in_columns : ℤ → ℤ → List ℕ → ℕ → Bool
in_columns west east s i = nat_le (east_of west (longitude_at s i)) (span west east)

abbrev pub row_distance : ℤ → List ℕ → ℕ → ℕ
row_distance latitude s j = nat_abs (latitude_at s j -ℤ latitude)

abbrev pub column_distance : ℤ → List ℕ → ℕ → ℕ
column_distance longitude s i = round_distance longitude (longitude_at s i)

-- the column from which a box is looked for: the first one eastward from `west` in a grid that goes round
abbrev pub first_column : ℤ → List ℕ → ℕ
first_column west s = cond (goes_round s) (nearest (λ i. east_of west (longitude_at s i)) (octets s 31 34)) 0

-- the rows of a box, and its columns, counted from `first` on, where the first column of the grid follows the last
abbrev pub rows_in : ℤ → ℤ → List ℕ → Option Run
rows_in south north s = run_of (in_rows south north s) (octets s 35 38)

abbrev pub columns_in : ℤ → ℤ → ℕ → List ℕ → Option Run
columns_in west east first s = run_of (λ k. in_columns west east s ((first + k) % octets s 31 34)) (octets s 31 34)

-- ---- boxes

abbrev pub area_of : ℕ → ℕ → Option Run → Option Run → Option Area
area_of ni first (Some rows) (Some columns) =
    let i0 = (first + columns.first) % ni in
    Some (record { i0 = i0; i1 = i0 + (columns.count - 1); j0 = rows.first; j1 = rows.first + (rows.count - 1) })
area_of ni first (Some rows) None = None
area_of ni first None columns = None

abbrev pub point_of : ℕ → ℕ → Area
point_of i j = record { i0 = i; i1 = i; j0 = j; j1 = j }

-- the points of a grid that lie within bounds, if they are a box
abbrev pub area_in : Bounds → List ℕ → Option Area
area_in (Box north south west east) s =
    let first = first_column west s in
    area_of (octets s 31 34) first (rows_in south north s) (columns_in west east first s)
area_in (Nearest latitude longitude) s =
    Some (point_of (nearest (column_distance longitude s) (octets s 31 34)) (nearest (row_distance latitude s) (octets s 35 38)))

-- that box; the first point, where there is none
abbrev pub or_first : Option Area → Area
or_first (Some area) = area
or_first None = point_of 0 0

abbrev pub area_within : Bounds → List ℕ → Area
area_within bounds s = or_first (area_in bounds s)
