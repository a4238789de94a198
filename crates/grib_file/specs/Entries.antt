-- Where the fields of a file stand in its octets.
use Rattle.std.specs.Prelude.{ℕ, ◌+◌, ◌≤◌, List, map, length, take, drop}
use Rattle.std.specs.List.{range_with_len}
use Rattle.grib_base.specs.declared.profile.Profile.{Profile}
use Rattle.grib_file.specs.Filed.{FieldOf, field_of}
use Rattle.grib_file.specs.Read.{IsFieldOf}
use Rattle.grib_file.specs.declared.entries.Entry.{Entry}

abbrev pub field_at : List ℕ → Entry → FieldOf
field_at octets entry = field_of (take entry.length (drop entry.start octets)) entry.number

abbrev pub fields_at : List ℕ → List Entry → List FieldOf
fields_at octets entries = map (field_at octets) entries

-- a field stands there, of a message that is accepted by a profile
pub record IsEntryOf (profile : Profile) (octets : List ℕ) (entry : Entry) : Type 0 where
  pub within : entry.start + entry.length ≤ length octets
  pub field : IsFieldOf profile (field_at octets entry)

-- this many fields of a message of this many octets that begins at this octet
abbrev pub entry_at : ℕ → ℕ → ℕ → Entry
entry_at start length number = record { start = start; length = length; number = number }

abbrev pub entries_in : ℕ → ℕ → ℕ → List Entry
entries_in start length count = map (entry_at start length) (range_with_len 1 count)
