-- The line that `list` prints of a message of edition 1, with its newline (10).
use Rattle.std.specs.Prelude.{ℕ, List, [], ◌∷◌, ◌++◌, codes, ℤ, pos, ◌+ℤ◌, ◌-ℤ◌, ◌*ℤ◌}
use Rattle.std.specs.Fmt.{decimal}
use Rattle.grib_keys.specs.declared.key1.Key1.TheVariants.{Version, Centre, Parameter, LevelType, Level, YearOfCentury, Month, Day, Hour, Minute, Unit as TimeUnit, P1, P2, TimeRange, Century}
use Rattle.grib1_sections.specs.Keys.{key1_of}
use Rattle.grib1_sections.specs.Grid.{grid_type}
use Rattle.grib1_sections.specs.Data.{bit_width}
use Rattle.grib1_sections.specs.Acceptance.{grid, data_section, points_of, values_of}
use Rattle.grib_text.specs.Words.{filled_decimal, filled_signed_decimal}
use Rattle.grib_text.specs.Lines.{origin_of}

-- 100 years for each century before this one, and the year of the century
abbrev pub year_of : ℕ → ℕ → ℤ
year_of century year_of_century = (pos 100 *ℤ (pos century -ℤ pos 1)) +ℤ pos year_of_century

-- year and month, day, hour and minute
abbrev pub time1_of : ℤ → ℕ → ℕ → ℕ → ℕ → List ℕ
time1_of year month day hour minute =
    filled_signed_decimal 4 year ++ codes "-" ++ filled_decimal 2 month ++ codes "-" ++ filled_decimal 2 day
    ++ codes "T" ++ filled_decimal 2 hour ++ codes ":" ++ filled_decimal 2 minute

-- the reference time
abbrev pub time1_text : List ℕ → List ℕ
time1_text message =
    let key = key1_of message in
    time1_of (year_of (key Century) (key YearOfCentury)) (key Month) (key Day) (key Hour) (key Minute)

-- the centre and the reference time
abbrev pub origin1_text : List ℕ → List ℕ
origin1_text message = origin_of (key1_of message Centre) (time1_text message)

-- the type and the number of points
abbrev pub grid1_of : ℕ → ℕ → List ℕ
grid1_of type points = codes "grid=" ++ decimal type ++ codes " points=" ++ decimal points

abbrev pub grid1_text : List ℕ → List ℕ
grid1_text message = grid1_of (grid_type (grid message)) (points_of message)

-- the parameter by the version of its table, the unit, the time range and its two periods, the level
abbrev pub product1_of : ℕ → ℕ → ℕ → ℕ → ℕ → ℕ → ℕ → ℕ → List ℕ
product1_of version parameter unit range p1 p2 level_type level =
    codes "param=" ++ decimal version ++ codes "." ++ decimal parameter
    ++ codes " unit=" ++ decimal unit ++ codes " range=" ++ decimal range
    ++ codes " p1=" ++ decimal p1 ++ codes " p2=" ++ decimal p2
    ++ codes " level=" ++ decimal level_type ++ codes ":" ++ decimal level

abbrev pub product1_text : List ℕ → List ℕ
product1_text message =
    let key = key1_of message in
    product1_of (key Version) (key Parameter) (key TimeUnit) (key TimeRange) (key P1) (key P2) (key LevelType) (key Level)

-- the bits of each number, and how many points are present
abbrev pub packing1_of : ℕ → ℕ → List ℕ
packing1_of bits values = codes "bits=" ++ decimal bits ++ codes " values=" ++ decimal values

abbrev pub packing1_text : List ℕ → List ℕ
packing1_text message = packing1_of (bit_width (data_section message)) (values_of message)

-- of message m, without its newline and with it
abbrev pub list_text1 : List ℕ → ℕ → List ℕ
list_text1 message m =
    decimal m ++ codes ".1 ed=1 " ++ origin1_text message ++ codes " " ++ grid1_text message
    ++ codes " " ++ product1_text message ++ codes " " ++ packing1_text message

abbrev pub list_line1 : List ℕ → ℕ → List ℕ
list_line1 message m = list_text1 message m ++ 10 ∷ []
