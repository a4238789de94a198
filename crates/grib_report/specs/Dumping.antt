-- `dump`: for each field its list line, the line on its reference value and its scale factors, and a line for each of
-- its points.
use Rattle.std.specs.Prelude.{ℕ, List, ◌++◌}
use Rattle.grib_bits.specs.Bits.{bits_of, signed}
use Rattle.grib_dyadic.specs.Reference.{Binary, ieee, ibm, reduced}
use Rattle.grib_packing.specs.declared.column.Column.{Column}
use Rattle.grib2_message.specs.Fields.{column_of}
use Rattle.grib1_sections.specs.Column.{column1_of}
use Rattle.grib_text.specs.Lines.{list_line, reference_line, point_lines}
use Rattle.grib_text.specs.Lines1.{list_line1}
use Rattle.grib_command.specs.Command.{Command, printing_fields, reading_values}

-- what is printed of a field with this list line and this reference value, in both editions
abbrev pub dumped : List ℕ → Binary → Column → List ℕ
dumped listed reference column =
    (listed ++ reference_line reference (signed (bits_of 16 column.e)) (signed (bits_of 16 column.d))) ++ point_lines 1 column.points

-- of message m, of edition 1; the word of its reference value is of the IBM single form
abbrev pub dump_text_1 : List ℕ → ℕ → List ℕ
dump_text_1 message m = let column = column1_of message in dumped (list_line1 message m) (reduced (ibm column.reference)) column

-- of field i of message m, of edition 2; the word is of the IEEE single form
abbrev pub dump_text : List ℕ → ℕ → ℕ → List ℕ
dump_text message m i =
    let column = column_of message i in dumped (list_line message m i) (reduced (ieee column.reference)) column

abbrev pub dump_command : Command
dump_command = reading_values (printing_fields dump_text_1 dump_text)
