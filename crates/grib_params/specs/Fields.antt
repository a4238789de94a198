-- The records of a parameter table, and what a record says.
use Rattle.std.specs.Prelude.{ℕ, Bool, not, ◌==◌, ◌&&◌, ◌||◌, ◌+◌, ◌-◌, ◌*◌, if◌then◌else◌, nat_lt, Option, Some, None, List, [], ◌∷◌, length, slice_index, fold, codes}
use Rattle.std.specs.List.{filter_map, list_all}
use Rattle.std.specs.Str.{bytes_eq}
use Rattle.std.specs.Char.{is_ascii_digit}
use Rattle.std.specs.Option.{option_map}
use Rattle.csv.specs.Reading.{default_config, records, strip_bom}
use Rattle.grib_params.specs.declared.row.Target.{Target}

-- the octets of a field, and the fields of a record
abbrev pub Field : Type 0
Field = List ℕ

abbrev pub Fields : Type 0
Fields = List Field

-- the records of a text: those that `csv` states for it, past a byte order mark at its start, with commas,
-- double quotes, no header row, no comments and no trimming. An empty line is no record
abbrev pub records_of : List ℕ → List Fields
records_of text = records default_config (strip_bom text)

-- a number is spelled in digits, one at least, the first of them 0 (48) only where it is the only one
abbrev pub is_number : Field → Bool
is_number field =
    not (length field == 0) && list_all is_ascii_digit field
    && (not (slice_index field 0 == 48) || (length field == 1))

-- a number with one more digit behind it
abbrev pub with_digit : ℕ → ℕ → ℕ
with_digit number digit = number * 10 + (digit - 48)

-- the number that digits spell
abbrev pub decimal : Field → ℕ
decimal digits = fold with_digit 0 digits

-- the number of a field, none where it does not spell one below a limit
abbrev pub number_below : ℕ → Field → Option ℕ
number_below limit field = if is_number field && nat_lt (decimal field) limit then Some (decimal field) else None

-- a number of one octet, of two octets and of four octets
abbrev pub number_in : Field → Option ℕ
number_in field = number_below 256 field

abbrev pub short_number_in : Field → Option ℕ
short_number_in field = number_below 65536 field

abbrev pub long_number_in : Field → Option ℕ
long_number_in field = number_below 4294967296 field

-- the centre of a record: `*` stands for every centre, and is seen as none
abbrev pub centre_in : Field → Option (Option ℕ)
centre_in field = if bytes_eq field (codes "*") then Some None else option_map Some (number_in field)

-- what a target is kept under: the centre, none for every centre; the version; the parameter
abbrev pub Key : Type 0
Key = Option ℕ × ℕ × ℕ

-- a row, from its parts, where each is there
abbrev pub row_from : Option (Option ℕ) → Option ℕ → Option ℕ
    → Option ℕ → Option ℕ → Option ℕ → Option ℕ → Option ℕ → Option (Key × Target)
row_from (Some centre) (Some version) (Some parameter)
    (Some discipline) (Some category) (Some number) (Some master) (Some local) =
    Some (
      (centre, version, parameter),
      record {
        discipline = discipline;
        category = category;
        number = number;
        master = master;
        local = local;
      },
    )
row_from _ _ _ _ _ _ _ _ = None

-- what a record says, none where it does not have eight fields, the first a centre and each other a number
abbrev pub row_in : Fields → Option (Key × Target)
row_in (centre ∷ version ∷ parameter ∷ discipline ∷ category ∷ number ∷ master ∷ local ∷ []) =
    row_from (centre_in centre) (number_in version) (number_in parameter)
    (number_in discipline) (number_in category) (number_in number) (number_in master) (number_in local)
row_in _ = None

-- the rows of a text, in their order
abbrev pub rows_of : List ℕ → List (Key × Target)
rows_of text = filter_map row_in (records_of text)
