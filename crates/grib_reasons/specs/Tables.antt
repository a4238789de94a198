-- Why a parameter table is refused, as a note prints it.
use Rattle.std.specs.Prelude.{ℕ, List, ◌++◌, codes}
use Rattle.std.specs.Fmt.{decimal}
use Rattle.grib_reasons.specs.declared.table.TableRefusal.{TableRefusal}
use Rattle.grib_reasons.specs.declared.table.TableRefusal.TheVariants.{Absent, TooLarge, Row, Duplicate}

abbrev pub table_text : TableRefusal → List ℕ
table_text Absent = codes "table absent"
table_text TooLarge = codes "table too large"
table_text (Row number) = codes "table row " ++ decimal number
table_text (Duplicate number) = codes "table duplicate " ++ decimal number
