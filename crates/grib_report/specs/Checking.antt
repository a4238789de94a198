-- `check`: a line for each message, and one on the whole input.
use Rattle.std.specs.Prelude.{ℕ, true, List, length}
use Rattle.grib2_message.specs.Fields.{field_count}
use Rattle.grib_stream.specs.declared.place.Place.{Place}
use Rattle.grib_text.specs.Lines.{check_line}
use Rattle.grib_command.specs.declared.ending.Ending.TheVariants.{Total}
use Rattle.grib_command.specs.Command.{Command, IsLawfulCommand, printing}
use Rattle.grib_command.specs.LawfulCommands.{heard_lawful, printing_lawful}

-- the line of a message of this edition, with this many fields
abbrev pub line_of : ℕ → ℕ → Place → List ℕ → List ℕ
line_of edition fields place message = check_line place.message place.before edition (length message) fields

abbrev pub line_2 : Place → List ℕ → List ℕ
line_2 place message = line_of 2 (field_count message) place message

abbrev pub check_command : Command
check_command = record (printing (line_of 1 1) line_2 Total) { hears = true }

pub check_lawful : IsLawfulCommand check_command
check_lawful = heard_lawful (printing (line_of 1 1) line_2 Total) true (printing_lawful (line_of 1 1) line_2 Total)
