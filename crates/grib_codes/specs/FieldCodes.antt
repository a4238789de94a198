-- The codes of a field as they are kept.
use Rattle.std.specs.Prelude.{◌≡◌, ℕ, List, replicate}
use Rattle.grib_base.specs.declared.code.Code.{Code}
use Rattle.grib_packing.specs.declared.column.Column.{Column}
use Rattle.grib_packing.specs.Misfits.{ToComplex, management_of}
use Rattle.grib_packing.specs.Packed.{target_codes}
use Rattle.grib_codes.specs.declared.field_codes.FieldCodes.{FieldCodes}
use Rattle.grib_codes.specs.declared.field_codes.FieldCodes.TheVariants.{Each, Same}

-- one for each point
abbrev pub codes_in : FieldCodes → List Code
codes_in (Each codes) = codes
codes_in (Same code count) = replicate count code

-- the points of a column are packed by these codes, of which k are reserved for missing points
pub record HasCodes (column : Column) (k : ℕ) (codes : List Code) : Type 0 where
  pub management : k ≡ management_of column.points
  pub codes_are : codes ≡ target_codes ToComplex column.points
