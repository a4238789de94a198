-- The names of the fields of a message of edition 2.
use Rattle.std.specs.Prelude.{ℕ, Bool, false, Option, List}
use Rattle.std.specs.List.{list_any}
use Rattle.std.specs.Option.{option_map_or}
use Rattle.std.specs.Str.{bytes_eq}
use Rattle.grib_bits.specs.Octets.{octets}
use Rattle.grib2_sections.specs.Head.{discipline}
use Rattle.grib2_message.specs.Fields.{part_octets}
use Rattle.grib_names.specs.Rows.{Name}
use Rattle.grib_names.specs.Table.{NameEntries, name_of}

-- the name of the parameter of field i: the discipline is octet 7 of Section 0, category and number are octets 10 and 11
-- of Section 4
abbrev pub field_name : NameEntries → List ℕ → ℕ → Option Name
field_name table message i =
    let s4 = part_octets message i 4 in
    name_of table (discipline message) (octets s4 10 10) (octets s4 11 11)

-- whether field i has this name
abbrev pub has_field_name : NameEntries → List ℕ → ℕ → Name → Bool
has_field_name table message i name = option_map_or (bytes_eq name) (field_name table message i) false

-- whether field i has one of some names
abbrev pub has_field_name_of : NameEntries → List ℕ → ℕ → List Name → Bool
has_field_name_of table message i names = list_any (has_field_name table message i) names
