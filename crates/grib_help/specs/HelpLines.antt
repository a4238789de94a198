-- What `help` says of the commands.
use Rattle.std.specs.Prelude.{ℕ, Bool, List, ◌++◌, length, take, codes}
use Rattle.grib_words.specs.declared.command.Command.{Command}
use Rattle.grib_words.specs.Reading.{is, row_of}

-- how a line on a command begins
abbrev pub front_of : Command → List ℕ
front_of command = codes "grib " ++ (row_of command).name ++ codes " "

abbrev pub is_line_on : Command → List ℕ → Bool
is_line_on command line = is (front_of command) (take (length (front_of command)) line)
