-- A message of either edition, its fields, and why octets begin with none.
use Rattle.std.specs.Prelude.{◌≡◌, ℕ, true, false, Option, None, Some, List, map}
use Rattle.std.specs.List.{range_with_len}
use Rattle.grib_base.specs.declared.profile.Profile.TheVariants.{Stated}
use Rattle.grib_stream.specs.Stream.{Faulty, begins}
use Rattle.grib2_message.specs.Fields.{field_count}
use Rattle.grib_command.specs.Judging.{judge}
use Rattle.grib_dispatch.specs.Reading.{Holds}
use Rattle.grib_dispatch.specs.declared.reading.Held.{Held}
use Rattle.grib_dispatch.specs.declared.reading.Held.TheVariants.{One, Two}
use Rattle.grib.specs.declared.fault.ReadError.{ReadError}
use Rattle.grib.specs.declared.fault.ReadError.TheVariants.{NoMessage, Refused, Memory, Source, TooLong}

-- the octets begin with `GRIB`, and from there on with this message
abbrev pub BeginsWith : List ℕ → Held → Type 0
BeginsWith octets message = (begins octets ≡ true) × Holds Stated octets message

-- why octets that stand at this place of an input begin with no message; no memory says nothing of them
abbrev pub IsReadError : List ℕ → ℕ → ReadError → Type 0
IsReadError octets place NoMessage = begins octets ≡ false
IsReadError octets place (Refused p fault) = (begins octets ≡ true) × (judge octets ≡ Faulty fault) × (p ≡ place)
IsReadError octets place Memory = Unit {0}
IsReadError octets place Source = ⊥
IsReadError octets place TooLong = ⊥

abbrev pub edition_of : Held → ℕ
edition_of (One message) = 1
edition_of (Two message) = 2

-- its octets, where it is of edition 1
abbrev pub first_of : Held → Option (List ℕ)
first_of (One message) = Some message
first_of (Two message) = None

-- and where it is of edition 2
abbrev pub second_of : Held → Option (List ℕ)
second_of (One message) = None
second_of (Two message) = Some message

-- how many fields it has
abbrev pub field_count_in : Held → ℕ
field_count_in (One message) = 1
field_count_in (Two message) = field_count message

-- a field: its message, and its number in it, from 1
pub record FieldOf : Type 0 where
  pub message : Held
  pub number : ℕ

abbrev pub field_of : Held → ℕ → FieldOf
field_of message number = record { message = message; number = number }

-- this many fields of a message from the one with this number on
abbrev pub fields_from : Held → ℕ → ℕ → List FieldOf
fields_from message first count = map (field_of message) (range_with_len first count)

abbrev pub fields_in : Held → List FieldOf
fields_in message = fields_from message 1 (field_count_in message)
