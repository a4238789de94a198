-- The lines that `check`, `list` and `dump` print, with their newline (10).
use Rattle.std.specs.Prelude.{ℕ, ◌+◌, cond, Option, Some, None, option_map, List, [], ◌∷◌, ◌++◌, codes, ℤ}
use Rattle.std.specs.Fmt.{decimal, signed_decimal}
use Rattle.grib_bits.specs.Bits.{bits_of, signed}
use Rattle.grib_dyadic.specs.Reference.{Binary}
use Rattle.grib2_sections.specs.Instant.{instant_shift}
use Rattle.grib_packing.specs.Entries.{is_packing}
use Rattle.grib_packing.specs.declared.column.Point.{Point}
use Rattle.grib_packing.specs.declared.column.Point.TheVariants.{Scaled, Missing, Missing2}
use Rattle.grib2_sections.specs.declared.identification.Identification.{Identification}
use Rattle.grib2_message.specs.declared.summary.FieldSummary.{FieldSummary}
use Rattle.grib2_message.specs.Summary.{summary_of}
use Rattle.grib_text.specs.Words.{filled_decimal, number_or_none, signed_or_none, text_or_missing}

-- of message m, which stands after `before` octets of the input
abbrev pub check_line : ℕ → ℕ → ℕ → ℕ → ℕ → List ℕ
check_line m before edition total fields =
    codes "message " ++ decimal m ++ codes " at " ++ decimal before ++ codes " edition " ++ decimal edition
    ++ codes " octets " ++ decimal total ++ codes " fields " ++ decimal fields ++ 10 ∷ []

abbrev pub total_line : ℕ → ℕ → ℕ → List ℕ
total_line messages fields skipped =
    codes "messages " ++ decimal messages ++ codes " fields " ++ decimal fields ++ codes " skipped " ++ decimal skipped ++ 10 ∷ []

-- year, month and day, hour, minute and second
abbrev pub time_of : ℕ → ℕ → ℕ → ℕ → ℕ → ℕ → List ℕ
time_of year month day hour minute second =
    filled_decimal 4 year ++ codes "-" ++ filled_decimal 2 month ++ codes "-" ++ filled_decimal 2 day
    ++ codes "T" ++ filled_decimal 2 hour ++ codes ":" ++ filled_decimal 2 minute ++ codes ":" ++ filled_decimal 2 second

-- the reference time
abbrev pub time_text : Identification → List ℕ
time_text id = time_of id.year id.month id.day id.hour id.minute id.second

-- the type, the scale factor and the scaled value of a fixed surface
abbrev pub surface_of : Option ℤ → Option ℤ → Option ℤ → List ℕ
surface_of kind scale value =
    text_or_missing kind ++ codes ":" ++ text_or_missing scale ++ codes ":" ++ text_or_missing value

-- the first fixed surface; each number is missing where its bits are all ones
abbrev pub surface_text : FieldSummary → List ℕ
surface_text s = surface_of (number_or_none 8 s.surface) (signed_or_none 8 s.scale) (number_or_none 32 s.value)

-- discipline, parameter category and parameter number
abbrev pub parameter_of : ℕ → ℕ → ℕ → List ℕ
parameter_of discipline category number =
    decimal discipline ++ codes "." ++ decimal category ++ codes "." ++ decimal number

-- the centre and the text of the reference time
abbrev pub origin_of : ℕ → List ℕ → List ℕ
origin_of centre time = codes "centre=" ++ decimal centre ++ codes " time=" ++ time

-- the template and the number of points
abbrev pub grid_of : ℕ → ℕ → List ℕ
grid_of template points = codes "grid=3." ++ decimal template ++ codes " points=" ++ decimal points

-- the forecast time with its unit, and the text of the surface
abbrev pub instant_of : ℕ → ℤ → List ℕ → List ℕ
instant_of unit ahead surface =
    codes "unit=" ++ decimal unit ++ codes " ahead=" ++ signed_decimal ahead ++ codes " surface=" ++ surface

-- what a product that begins as template 4.0 says of time and surface; the forecast time has its sign in the
-- first of 32 bits
abbrev pub instant_text : FieldSummary → Option (List ℕ)
instant_text s =
    option_map (λ shift. instant_of s.unit (signed (bits_of 32 s.time)) (surface_text s)) (instant_shift s.product)

-- the template, the text of the parameter, and that of time and surface where the template has them
abbrev pub product_of : ℕ → List ℕ → Option (List ℕ) → List ℕ
product_of template parameter None = codes "product=4." ++ decimal template ++ codes " param=" ++ parameter
product_of template parameter (Some instant) =
    codes "product=4." ++ decimal template ++ codes " param=" ++ parameter ++ codes " " ++ instant

abbrev pub product_text : FieldSummary → List ℕ
product_text s = product_of s.product (parameter_of s.discipline s.category s.number) (instant_text s)

-- the bits of each number, which an opaque packing does not tell
abbrev pub known_bits : FieldSummary → Option ℕ
known_bits s = cond (is_packing s.packing) (Some s.bits) None

-- the template, the bits of each number where they are known, and how many values there are
abbrev pub packing_of : ℕ → Option ℕ → ℕ → List ℕ
packing_of template None values = codes "packing=5." ++ decimal template ++ codes " values=" ++ decimal values
packing_of template (Some bits) values =
    codes "packing=5." ++ decimal template ++ codes " bits=" ++ decimal bits ++ codes " values=" ++ decimal values

-- of field i of message m, by what describes it, without its newline and with it
abbrev pub summary_text : FieldSummary → ℕ → ℕ → List ℕ
summary_text s m i =
    decimal m ++ codes "." ++ decimal i ++ codes " ed=2 " ++ origin_of s.identification.centre (time_text s.identification)
    ++ codes " " ++ grid_of s.grid s.points ++ codes " " ++ product_text s
    ++ codes " " ++ packing_of s.packing (known_bits s) s.values

abbrev pub summary_line : FieldSummary → ℕ → ℕ → List ℕ
summary_line s m i = summary_text s m i ++ 10 ∷ []

-- of field i of message m
abbrev pub list_text : List ℕ → ℕ → ℕ → List ℕ
list_text message m i = summary_text (summary_of message i) m i

abbrev pub list_line : List ℕ → ℕ → ℕ → List ℕ
list_line message m i = list_text message m i ++ 10 ∷ []

-- a reduced reference value, and the scale factors E and D
abbrev pub reference_line : Binary → ℤ → ℤ → List ℕ
reference_line r e d =
    codes "reference " ++ signed_decimal r.mantissa ++ codes "*2^" ++ signed_decimal r.exponent
    ++ codes " binary " ++ signed_decimal e ++ codes " decimal " ++ signed_decimal d ++ 10 ∷ []

abbrev pub point_text : Point → List ℕ
point_text (Scaled x) = signed_decimal x
point_text Missing = codes "missing"
point_text Missing2 = codes "missing2"

-- the point at a place of the grid, counted from 1
abbrev pub point_line : ℕ → Point → List ℕ
point_line place point = decimal place ++ codes " " ++ point_text point ++ 10 ∷ []

-- the lines of points from a place on, each made of its place and the point
abbrev pub lines_by : (ℕ → Point → List ℕ) → ℕ → List Point → List ℕ
lines_by line place [] = []
lines_by line place (point ∷ points) = line place point ++ lines_by line (place + 1) points

abbrev pub point_lines : ℕ → List Point → List ℕ
point_lines place points = lines_by point_line place points
