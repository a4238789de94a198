-- `list`: a line for each field.
use Rattle.std.specs.Prelude.{true}
use Rattle.grib_text.specs.Lines.{list_line}
use Rattle.grib_text.specs.Lines1.{list_line1}
use Rattle.grib_command.specs.Command.{Command, printing_fields}

abbrev pub list_command : Command
list_command = record (printing_fields list_line1 list_line) { hears = true }
