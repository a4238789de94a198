-- `list` and `keys` with columns and names: a line for each field.
use Rattle.std.specs.Prelude.{List}
use Rattle.grib_names.specs.Table.{NameEntries}
use Rattle.grib_text.specs.declared.column.Column.{Column}
use Rattle.grib_text.specs.declared.column.LineForm.{LineForm}
use Rattle.grib_text.specs.Columns.{line1_of, line_of}
use Rattle.grib_command.specs.Command.{Command, printing_places}

abbrev pub lines_command : LineForm → List Column → NameEntries → Command
lines_command form columns names =
    printing_places (λ place message. line1_of form columns place.message place.before message)
    (λ place message. line_of form columns names place.message place.before message)
