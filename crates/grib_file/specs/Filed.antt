-- A file as the fields of its messages, one after another.
use Rattle.std.specs.Prelude.{ℕ, List, map, flat_map, length, Option, Some, None}
use Rattle.std.specs.List.{range_with_len}
use Rattle.grib_base.specs.declared.profile.Profile.{Profile}
use Rattle.grib_stream.specs.declared.outcome.FileRefusal.{FileRefusal}
use Rattle.grib_stream.specs.declared.outcome.FileRefusal.TheVariants as refusals
use Rattle.grib_stream.specs.Answer.{refusal_after}
use Rattle.grib_stream.specs.Stream.{Found, End, Over, Refusing, Stream, stream}
use Rattle.grib_command.specs.Judging.{judge_under, fields_of}

-- a field: the octets of its message, and its number in it, from 1
pub record FieldOf : Type 0 where
  pub message : List ℕ
  pub number : ℕ

abbrev pub field_of : List ℕ → ℕ → FieldOf
field_of message number = record { message = message; number = number }

-- the fields of a file that was read by a profile
pub record FileFields : Type 0 where
  pub profile : Profile
  pub fields : List FieldOf

-- the fields of a message; one of edition 1 has one
abbrev pub fields_in : Found → List FieldOf
fields_in found = map (field_of found.octets) (range_with_len 1 (fields_of found.octets))

-- a file, or why it is refused: it is absent, or the first of its messages that is refused
pub data Filed : Type 0 where
  Good : List FieldOf → Filed
  Refused : FileRefusal → Filed

abbrev pub filed_by : List Found → End → Filed
filed_by messages (Over skipped) = Good (flat_map fields_in messages)
filed_by messages (Refusing fault) = Refused (refusals.Refused (refusal_after (length messages) fault))

abbrev pub filed_as : Stream → Filed
filed_as found = filed_by found.messages found.end

-- what stands under the name of a file, as the messages of an input are found in it; those of edition 2 are accepted by a profile
abbrev pub filed : Profile → Option (List ℕ) → Filed
filed profile None = Refused refusals.Absent
filed profile (Some octets) = filed_as (stream (judge_under profile) octets)
