-- What laws of packings say.
use Rattle.std.specs.Prelude.{◌≡◌, ℕ, Bool, Option, None, List, length}
use Rattle.grib_base.specs.Rules.{first_fault}
use Rattle.grib_bitmap.specs.Mask.{bitmap_rules, mask_of}
use Rattle.grib_packing.specs.declared.column.Column.{Column}
use Rattle.grib_packing.specs.Packing.{value_count}
use Rattle.grib_packing.specs.Entries.{packing_fault, data_fault, column_from}

-- Sections 5, 6 and 7 that are accepted for as many points as the column has, and whose column it is,
-- whatever bitmap stands earlier in the message.
pub record UnpackTo (column : Column) (s5 s6 s7 : List ℕ) : Type 0 where
  pub representation : packing_fault s5 (length column.points) ≡ None
  pub bitmap : (earlier : Option (List Bool)) → first_fault (bitmap_rules s6 (length column.points) (value_count s5) earlier) ≡ None
  pub values : data_fault s5 s7 ≡ None
  pub column_stands : (earlier : Option (List Bool)) → column_from s5 (mask_of s6 (length column.points) earlier) s7 ≡ column
