-- `keys`: for each field a line with each key that the field has.
use Rattle.grib_text.specs.KeyLines.{keys_line, keys_line1}
use Rattle.grib_command.specs.Command.{Command, printing_fields}

abbrev pub keys_command : Command
keys_command = printing_fields keys_line1 keys_line
