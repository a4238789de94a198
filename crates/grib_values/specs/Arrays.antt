-- `values`: for each field an array of the values of its points, in the form .npy 1.0 of NumPy.
use Rattle.std.specs.Prelude.{ℕ, List, ◌++◌, flat_map}
use Rattle.grib_bits.specs.Bits.{bits_of, signed}
use Rattle.grib_dyadic.specs.Reference.{Binary, ieee, ibm, reduced}
use Rattle.grib_packing.specs.declared.column.Column.{Column}
use Rattle.grib2_message.specs.Fields.{part_octets, column_of}
use Rattle.grib1_sections.specs.Acceptance.{grid}
use Rattle.grib1_sections.specs.Column.{column1_of}
use Rattle.grib_nearest.specs.declared.format.Format.{Format}
use Rattle.grib_arrays.specs.declared.shape.Shape.{Shape}
use Rattle.grib_arrays.specs.Header.{header}
use Rattle.grib_arrays.specs.Values.{point_octets}
use Rattle.grib_command.specs.Command.{Command, printing_fields, reading_values}
use Rattle.grib_values.specs.Shapes.{shape_1, shape_2}

-- the values of a column with this reference value, one after another
abbrev pub values : Format → Binary → Column → List ℕ
values f reference column =
    flat_map (point_octets f reference (signed (bits_of 16 column.e)) (signed (bits_of 16 column.d))) column.points

-- the array of a field, in both editions
abbrev pub array : Format → Shape → Binary → Column → List ℕ
array f shape reference column = header f shape ++ values f reference column

-- of a message of edition 1; the word of its reference value is of the IBM single form
abbrev pub array_1 : Format → List ℕ → List ℕ
array_1 f message = let column = column1_of message in array f (shape_1 (grid message)) (reduced (ibm column.reference)) column

-- of field i of a message of edition 2; the word is of the IEEE single form
abbrev pub array_2 : Format → List ℕ → ℕ → List ℕ
array_2 f message i =
    let column = column_of message i in array f (shape_2 (part_octets message i 3)) (reduced (ieee column.reference)) column

abbrev pub values_command : Format → Command
values_command f = reading_values (printing_fields (λ message m. array_1 f message) (λ message m i. array_2 f message i))
