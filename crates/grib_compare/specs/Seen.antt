-- What is read of messages to compare their fields.
use Rattle.std.specs.Prelude.{◌≡◌, ℕ, Bool, Option, Some, None, IsSomeAnd, IsTrue, List, map, slice_get}
use Rattle.grib2_sections.specs.Head.{edition}
use Rattle.grib2_message.specs.Message.{IsFirstOpaque}
use Rattle.grib2_message.specs.declared.readable.OpaqueField.{OpaqueField}
use Rattle.grib_dyadic.specs.Meaning.{Meant}
use Rattle.grib_stream.specs.declared.place.Place.{Place}
use Rattle.grib_reasons.specs.declared.cause.Cause.{Cause}
use Rattle.grib_same.specs.Scales.{meant_by}
use Rattle.grib_file.specs.Filed.{FieldOf, field_of}
use Rattle.grib_compare.specs.declared.readable.Readable.{Readable}
use Rattle.grib_compare.specs.declared.readable.Readable.TheVariants.{One, Two}
use Rattle.grib_compare.specs.declared.points.FieldPoints.{FieldPoints}
use Rattle.grib_dispatch.specs.Reading.{held_octets}
use Rattle.grib_compare.specs.declared.file_message.FileMessage.{FileMessage}
use Rattle.grib_compare.specs.declared.lines.Lines.{Lines}
use Rattle.grib_compare.specs.declared.stop.CompareStop.{CompareStop}
use Rattle.grib_compare.specs.declared.stop.CompareStop.TheVariants.{Kept, Memory}
use Rattle.grib_compare.specs.Command.{opaque_cause, counterpart_cause, compare_text, compare_count}

-- the octets of a message
abbrev pub readable_octets : Readable → List ℕ
readable_octets (One message) = message.now
readable_octets (Two message) = message

-- its field with this number
abbrev pub readable_field : Readable → ℕ → FieldOf
readable_field readable number = field_of (readable_octets readable) number

-- a message has no opaque packing
abbrev pub IsClear : List ℕ → Type 0
IsClear message = (cause : ℕ → Cause) → opaque_cause message cause ≡ None

-- or it is of edition 2, and this field is the first that has one
pub record IsOpaque (message : List ℕ) (opaque : OpaqueField) : Type 0 where
  pub edition_stands : edition message ≡ 2
  pub first : IsFirstOpaque message opaque

-- a message that was read is that of a field of the file, and has the same octets as the message beside it where that is said
pub record IsOfField (fields : List FieldOf) (message : List ℕ) (read : FileMessage) : Type 0 where
  pub stands : IsSomeAnd (slice_get fields read.index) (λ field. held_octets read.held ≡ field.message)
  pub same : IsTrue read.is_same → message ≡ held_octets read.held

-- what the points of a field mean, by its numbers
abbrev pub points_mean : FieldPoints → List Meant
points_mean points = map (meant_by points.scale) points.column.points

-- why a field, or a message, is not compared, of which this is the cause, if it has one
abbrev pub StopsBy : Option Cause → CompareStop → Type 0
StopsBy cause (Kept found) = cause ≡ Some found
StopsBy cause Memory = Unit {0}

-- the lines of a message, whose fields all have a counterpart that can be read or none
pub record AreLines (sections quiet : Bool) (fields : List FieldOf) (place : Place) (message : List ℕ) (lines : Lines) : Type 0 where
  pub clear : counterpart_cause fields place message ≡ None
  pub text : lines.text.items ≡ compare_text sections quiet fields place message
  pub count : lines.differing ≡ compare_count sections fields place message
