-- The lines of points with their places, with their newline (10).
use Rattle.std.specs.Prelude.{ℕ, ◌-◌, List, [], ◌∷◌, ◌++◌, codes}
use Rattle.std.specs.Fmt.{decimal}
use Rattle.grib_bits.specs.Bits.{bits_of, signed}
use Rattle.grib_dyadic.specs.Reference.{Binary}
use Rattle.grib_packing.specs.declared.column.Column.{Column}
use Rattle.grib_packing.specs.declared.column.Point.{Point}
use Rattle.grib_places.specs.declared.coordinate.Coordinate.TheVariants.{Latitude, Longitude}
use Rattle.grib_places.specs.Degrees.{micro_degrees, degrees_text}
use Rattle.grib_places.specs.Places.{point_degrees}
use Rattle.grib_text.specs.Lines.{lines_by, reference_line}

-- the latitude and the longitude of point p, from 0, of a grid with this Section 3
abbrev pub place_text : List ℕ → ℕ → List ℕ
place_text s p =
    degrees_text (micro_degrees (point_degrees Latitude s p)) ++ codes " " ++ degrees_text (micro_degrees (point_degrees Longitude s p))

-- the point at a place of the grid, counted from 1, with what is told of it
abbrev pub placed_line : List ℕ → (Point → List ℕ) → ℕ → Point → List ℕ
placed_line s text n point = decimal n ++ codes " " ++ place_text s (n - 1) ++ codes " " ++ text point ++ 10 ∷ []

-- what is printed of a field with this Section 3, this list line and this reference value
abbrev pub placed : List ℕ → (Point → List ℕ) → List ℕ → Binary → Column → List ℕ
placed s text listed reference column =
    (listed ++ reference_line reference (signed (bits_of 16 column.e)) (signed (bits_of 16 column.d)))
    ++ lines_by (placed_line s text) 1 column.points
