-- The lines that `dump` prints of points with their values as decimals, with their newline (10).
use Rattle.std.specs.Prelude.{ℕ, List, [], ◌∷◌, ◌++◌, codes}
use Rattle.std.specs.Fmt.{decimal}
use Rattle.grib_packing.specs.declared.column.Point.{Point}
use Rattle.grib_packing.specs.declared.column.Point.TheVariants.{Scaled, Missing, Missing2}
use Rattle.grib_decimal.specs.Decimal.{Scale, value_at, decimal_text}
use Rattle.grib_text.specs.Lines.{point_text, lines_by}

abbrev pub value_text : Scale → Point → List ℕ
value_text s (Scaled x) = decimal_text (value_at s x) s.places
value_text s Missing = point_text Missing
value_text s Missing2 = point_text Missing2

-- the point at a place of the grid, counted from 1
abbrev pub value_line : Scale → ℕ → Point → List ℕ
value_line s place point = decimal place ++ codes " " ++ value_text s point ++ 10 ∷ []

-- the lines of points from a place on
abbrev pub value_lines : Scale → ℕ → List Point → List ℕ
value_lines s place points = lines_by (value_line s) place points
