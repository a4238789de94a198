-- What a column has of a field, as it is printed, for private functions.
use Rattle.std.specs.Prelude.{ℕ, List, codes}
use Rattle.std.specs.Fmt.{decimal}
use Rattle.grib_keys.specs.Words.{value_text}
use Rattle.grib_text.specs.declared.cell.Cell.{Cell}
use Rattle.grib_text.specs.declared.cell.Cell.TheVariants.{Absent, Value, Count}

abbrev pub cell_text : Cell → List ℕ
cell_text Absent = codes "-"
cell_text (Value value) = value_text value
cell_text (Count count) = decimal count
