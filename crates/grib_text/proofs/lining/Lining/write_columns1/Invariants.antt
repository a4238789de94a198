use Rattle.std.proofs.Common.{◌≡◌, ◌++◌, drop}
use Rattle.std.specs.Prelude.{string_bytes}
use Rattle.grib_text.specs.Columns.{cell1_of, columns_text}
use Rattle.grib_text.proofs.lining.Lining.write_columns1.Given as goal

-- what was written, and the columns that are left, make the whole
abbrev pub invariant-loop-column : goal.invariant-loop-column
invariant-loop-column l =
    string_bytes l.line ++ columns_text l.self.form (cell1_of l.before l.message) (drop l.column-index l.self.columns.now)
    ≡ string_bytes l.fn.line ++ columns_text l.self.form (cell1_of l.before l.message) l.self.columns.now
