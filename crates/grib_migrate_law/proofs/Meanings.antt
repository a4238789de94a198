-- Points with reference values that are the same number mean the same.
use Rattle.std.proofs.Common.{ℕ, List, [], ◌∷◌, map}
use Rattle.grib_dyadic.specs.Reference.{SameNumber, ieee, ibm}
use Rattle.grib_dyadic.specs.Meaning.{SamePoint, SameMeaning}
use Rattle.grib_dyadic.proofs.Values.{value_of-same}
use Rattle.grib_bits.specs.Bits.{bits_of, signed}
use Rattle.grib_packing.specs.declared.column.Column.{Column}
use Rattle.grib_packing.specs.declared.column.Point.{Point}
use Rattle.grib_packing.specs.declared.column.Point.TheVariants.{Scaled, Missing, Missing2}
use Rattle.grib1_sections.specs.Column as column1
use Rattle.grib2_message.specs.Fields as column2

-- a column with this reference and these factors
abbrev pub column_with : ℕ → ℕ → ℕ → List Point → Column
column_with reference e d points = record { reference = reference; e = e; d = d; points = points }

module _ (word number e d : ℕ) (points : List Point) (same : SameNumber (ieee word) (ibm number)) where
  point_stands : (point : Point) → SamePoint (column2.meaning_at (column_with word e d points) point) (column1.meaning_at (column_with number e d points) point)
  point_stands (Scaled x) = value_of-same (ieee word) (ibm number) (signed (bits_of 16 e)) (signed (bits_of 16 d)) x same
  point_stands Missing = tt
  point_stands Missing2 = tt

  pub points_mean : (some : List Point) → SameMeaning (map (column2.meaning_at (column_with word e d points)) some) (map (column1.meaning_at (column_with number e d points)) some)
  points_mean [] = tt
  points_mean (point ∷ some) = (point_stands point, points_mean some)
