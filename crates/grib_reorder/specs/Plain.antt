-- Fields whose points are packed numbers, one for each grid point, for private functions.
use Rattle.std.specs.Prelude.{◌≡◌, ℕ, ◌/◌, ◌%◌, Bool, true, List, ◌==◌}
use Rattle.grib_bits.specs.Octets.{octets}
use Rattle.grib_packing.specs.declared.column.Column.{Column}
use Rattle.grib_rescan.specs.Source.{number_points, NumbersStand}
use Rattle.grib_reorder.specs.declared.edit.GridEdit.{GridEdit}
use Rattle.grib_reorder.specs.declared.edit.GridEdit.TheVariants.{Rescan, Crop, Within}
use Rattle.grib_reorder.specs.declared.plain.PlainField.{PlainField}

-- points of a column are consecutive (bit 3 of the scanning octet), and adjacent columns go the same way (bit 4)
abbrev pub takes_numbers : GridEdit → List ℕ → Bool
takes_numbers Rescan s = octets s 72 72 / 16 % 4 == 2
takes_numbers (Crop area) s = true
takes_numbers (Within bounds) s = true

-- its column
abbrev pub plain_column : PlainField → Column
plain_column field = record { reference = field.simple.reference; e = field.simple.e; d = field.simple.d; points = number_points field.numbers }

-- the numbers can be read, and there are as many as grid points
pub record PlainStands (points : ℕ) (field : PlainField) : Type 0 where
  pub numbers : NumbersStand field.numbers
  pub count : field.numbers.count ≡ points
