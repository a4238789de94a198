-- The records of a table of names, and what a record says.
use Rattle.std.specs.Prelude.{ℕ, Bool, ◌==◌, ◌&&◌, ◌||◌, if◌then◌else◌, nat_le, Option, Some, None, List, [], ◌∷◌, length}
use Rattle.std.specs.List.{filter_map, list_all}
use Rattle.std.specs.Char.{is_ascii_alphanumeric}
use Rattle.grib_params.specs.Fields.{Field, Fields, number_in, records_of}

-- what a name is kept under: discipline, category and number
abbrev pub Numbers : Type 0
Numbers = ℕ × ℕ × ℕ

-- the octets of a name
abbrev pub Name : Type 0
Name = List ℕ

-- a name is made of letters, digits, `_` (95) and `-` (45), from 1 to 32 of them
abbrev pub is_name_octet : ℕ → Bool
is_name_octet octet = is_ascii_alphanumeric octet || (octet == 95) || (octet == 45)

abbrev pub is_name : Field → Bool
is_name field = nat_le 1 (length field) && nat_le (length field) 32 && list_all is_name_octet field

-- the name of a field, none where it is none
abbrev pub name_in : Field → Option Name
name_in field = if is_name field then Some field else None

-- a row, from its parts, where each is there
abbrev pub name_row_from : Option ℕ → Option ℕ → Option ℕ → Option Name → Option (Numbers × Name)
name_row_from (Some discipline) (Some category) (Some number) (Some name) = Some ((discipline, category, number), name)
name_row_from _ _ _ _ = None

-- what a record says, none where it does not have four fields, the first three numbers and the last a name
abbrev pub name_row_in : Fields → Option (Numbers × Name)
name_row_in (discipline ∷ category ∷ number ∷ name ∷ []) =
    name_row_from (number_in discipline) (number_in category) (number_in number) (name_in name)
name_row_in _ = None

-- the rows of a text, in their order
abbrev pub name_rows_of : List ℕ → List (Numbers × Name)
name_rows_of text = filter_map name_row_in (records_of text)
