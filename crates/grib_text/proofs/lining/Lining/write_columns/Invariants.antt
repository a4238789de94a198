use Rattle.std.proofs.Common.{◌≡◌, ◌++◌, drop}
use Rattle.std.specs.Prelude.{string_bytes}
use Rattle.grib_text.specs.Columns.{cell_of, columns_text}
use Rattle.grib_text.proofs.lining.Lining.write_columns.Given as goal

-- what was written, and the columns that are left, make the whole
abbrev pub invariant-loop-column : goal.invariant-loop-column
invariant-loop-column l =
    string_bytes l.line ++ columns_text l.self.form (cell_of l.before l.message l.field) (drop l.column-index l.self.columns.now)
    ≡ string_bytes l.fn.line ++ columns_text l.self.form (cell_of l.before l.message l.field) l.self.columns.now
