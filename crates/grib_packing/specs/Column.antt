-- What a field holds: one entry for each grid point, in the grid's order.
use Rattle.std.specs.Prelude.{ℕ, Bool, true, false, List, [], ◌∷◌}
use Rattle.grib_packing.specs.declared.column.Point.{Point}
use Rattle.grib_packing.specs.declared.column.Point.TheVariants.{Missing}
use Rattle.grib_packing.specs.declared.column.Column.{Column}
use Rattle.grib_packing.specs.Packing.{reference_word, binary_scale, decimal_scale}

-- The present points take the entries in their order, and a point that the mask leaves out is missing.
-- A field that is accepted has an entry for each present point; one without would be missing too.
abbrev pub points_with_mask : List Bool → List Point → List Point
points_with_mask [] entries = []
points_with_mask (false ∷ mask) entries = Missing ∷ points_with_mask mask entries
points_with_mask (true ∷ mask) [] = Missing ∷ points_with_mask mask []
points_with_mask (true ∷ mask) (entry ∷ entries) = entry ∷ points_with_mask mask entries

-- the column with these points and the numbers of Section 5
abbrev pub column_with : List ℕ → List Point → Column
column_with s5 points = record { reference = reference_word s5; e = binary_scale s5; d = decimal_scale s5; points = points }
