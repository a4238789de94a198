-- Columns of which all points are the same, by differences.
use Rattle.std.specs.Prelude.{◌≡◌, ℕ, false, List}
use Rattle.grib_base.specs.declared.code.Code.{Code}
use Rattle.grib_packing.specs.declared.column.Point.{Point}
use Rattle.grib_packing.specs.Differences.{Descriptors, descriptors_of}
use Rattle.grib_packing.specs.Misfits.{ToSpatial, are_differences_out, management_of, scaled_numbers}
use Rattle.grib_packing.specs.Packed.{target_codes}

-- these descriptors, codes and missing value management tell the points, and have a place
pub record DifferencesOf (order : ℕ) (points : List Point) (d : Descriptors) (codes : List Code) (k : ℕ) : Type 0 where
  pub told : d ≡ descriptors_of order (scaled_numbers points)
  pub codes_are : codes ≡ target_codes (ToSpatial order) points
  pub management : k ≡ management_of points
  pub fit : are_differences_out order k (scaled_numbers points) ≡ false
