-- The shape of the array of a field's values: a row for each row of the grid, or one for each column where the points of a
-- column are consecutive (WMO-No. 306, Volume I.2, FM 92 GRIB edition 2, flag table 3.4, and edition 1, code table 8: bit 3
-- of the scanning mode). The points of an opaque grid, and of one with a list of rows, are in one row.
use Rattle.std.specs.Prelude.{ℕ, Bool, not, cond, ◌||◌, ◌==◌, Option, Some, None, List}
use Rattle.grib_bits.specs.Octets.{octets}
use Rattle.grib2_grids.specs.Grid as grid2
use Rattle.grib2_grids.specs.Opaque.{is_opaque_grid}
use Rattle.grib1_sections.specs.Grid as grid1
use Rattle.grib_rescan.specs.Scanning.{scanning_of}
use Rattle.grib_arrays.specs.declared.shape.Shape.{Shape}
use Rattle.grib_arrays.specs.declared.shape.Shape.TheVariants.{Table, Points}

-- of a grid with this octet of the scanning mode, of ni columns and nj rows
abbrev pub table : ℕ → ℕ → ℕ → Shape
table scanning ni nj = cond (scanning_of scanning).by_columns (Table ni nj) (Table nj ni)

-- ---- edition 2, by Section 3

-- the octet of the scanning mode in templates 3.0, 3.1 and 3.40; 3.10; 3.20 and 3.30
abbrev pub scanning_place : ℕ → Option ℕ
scanning_place t =
    cond ((t == 0) || (t == 1) || (t == 40)) (Some 72)
    (cond (t == 10) (Some 60) (cond ((t == 20) || (t == 30)) (Some 65) None))

-- of a grid without a list of rows that is not opaque; the points of any other template are in one row
abbrev pub shape_by : Option ℕ → List ℕ → Shape
shape_by (Some place) s = table (octets s place place) (grid2.ni s) (grid2.nj s)
shape_by None s = Points (grid2.grid_points s)

-- whether the points of a grid are in rows or columns that are told
abbrev pub has_table : List ℕ → Bool
has_table s = not (is_opaque_grid s || not (grid2.list_octets s == 0))

abbrev pub shape_2 : List ℕ → Shape
shape_2 s = cond (has_table s) (shape_by (scanning_place (grid2.grid_template s)) s) (Points (grid2.grid_points s))

-- ---- edition 1, by Section 2

abbrev pub shape_1 : List ℕ → Shape
shape_1 s = cond (grid1.lists_rows s) (Points (grid1.grid_points s)) (table (octets s 28 28) (grid1.ni s) (grid1.nj s))
