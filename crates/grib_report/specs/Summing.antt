-- `stats`: for each field the line with the summary of its points, and the line on its reference
-- value and its scale factors.
use Rattle.std.specs.Prelude.{ℕ, List, ◌++◌}
use Rattle.grib_bits.specs.Bits.{bits_of, signed}
use Rattle.grib_dyadic.specs.Reference.{Binary, ieee, ibm, reduced}
use Rattle.grib_packing.specs.declared.column.Column.{Column}
use Rattle.grib2_message.specs.Fields.{column_of}
use Rattle.grib1_sections.specs.Column.{column1_of}
use Rattle.grib_decimal.specs.Summary.{summary_of}
use Rattle.grib_text.specs.Lines.{reference_line}
use Rattle.grib_text.specs.Stats.{stats_line}
use Rattle.grib_command.specs.Command.{Command, printing_fields, reading_values}

-- what is printed of field i of message m, with this reference value, in both editions
abbrev pub summed : ℕ → ℕ → Binary → Column → List ℕ
summed m i reference column =
    stats_line m i (summary_of column.points) ++ reference_line reference (signed (bits_of 16 column.e)) (signed (bits_of 16 column.d))

-- of message m, of edition 1; the word of its reference value is of the IBM single form
abbrev pub stats_text_1 : List ℕ → ℕ → List ℕ
stats_text_1 message m = let column = column1_of message in summed m 1 (reduced (ibm column.reference)) column

-- of field i of message m, of edition 2; the word is of the IEEE single form
abbrev pub stats_text : List ℕ → ℕ → ℕ → List ℕ
stats_text message m i = let column = column_of message i in summed m i (reduced (ieee column.reference)) column

abbrev pub stats_command : Command
stats_command = reading_values (printing_fields stats_text_1 stats_text)
