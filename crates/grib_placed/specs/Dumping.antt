-- `dump place=yes`: as `dump`, with the latitude and the longitude of each point.
use Rattle.std.specs.Prelude.{ℕ, List}
use Rattle.grib_dyadic.specs.Reference.{ieee, reduced}
use Rattle.grib2_message.specs.Fields.{part_octets, column_of}
use Rattle.grib_text.specs.Lines.{list_line, point_text}
use Rattle.grib_command.specs.Command.{Command, IsLawfulCommand, reading_values}
use Rattle.grib_command.specs.LawfulCommands.{reading_lawful}
use Rattle.grib_placed.specs.Commands.{placed_command, placed_lawful}
use Rattle.grib_placed.specs.Lines.{placed}

-- of field i of message m
abbrev pub dump_placed_text : List ℕ → ℕ → ℕ → List ℕ
dump_placed_text message m i =
    let column = column_of message i in
    placed (part_octets message i 3) point_text (list_line message m i) (reduced (ieee column.reference)) column

abbrev pub dump_placed_command : Command
dump_placed_command = reading_values (placed_command dump_placed_text)

pub dump_placed_lawful : IsLawfulCommand dump_placed_command
dump_placed_lawful = reading_lawful (placed_command dump_placed_text) (placed_lawful dump_placed_text)
