-- `compare`: the first field of the input beside the first of the file, the second beside the second, and so on: for each field of
-- the input that has a counterpart a line. What is counted as written of a message is the number of its fields that differ.
use Rattle.std.specs.Prelude.{ℕ, zero, suc, ◌+◌, ◌-◌, ◌==◌, Bool, false, Option, None, Some, List, [], length, slice_get}
use Rattle.grib_base.specs.Rules.{choose, first_among, or_later}
use Rattle.grib_base.specs.declared.profile.Profile.TheVariants.{Stated}
use Rattle.grib2_sections.specs.Head.{edition}
use Rattle.grib_packing.specs.Packing.{packing_template}
use Rattle.grib2_message.specs.Fields.{part_octets}
use Rattle.grib2_message.specs.Message.{first_opaque}
use Rattle.grib_stream.specs.declared.place.Place.{Place}
use Rattle.grib_reasons.specs.declared.cause.Cause.{Cause}
use Rattle.grib_reasons.specs.declared.cause.Cause.TheVariants.{Packing}
use Rattle.grib_stream.specs.Acts.{writes}
use Rattle.grib_stream.specs.Task.{Given, Gives, Ends}
use Rattle.grib_command.specs.declared.ending.Ending.TheVariants.{Compared}
use Rattle.grib_command.specs.Command.{Command, kept_at, texts_from}
use Rattle.grib_command.specs.Judging.{fields_of}
use Rattle.grib_file.specs.Filed.{FieldOf, field_of}
use Rattle.grib_compare.specs.declared.comparison.Comparison.{Comparison}
use Rattle.grib_compare.specs.Fields.{compared, line_unless, differing}

-- the field of the file beside field i of the message at this place
abbrev pub counterpart : List FieldOf → Place → ℕ → Option FieldOf
counterpart fields place i = slice_get fields (place.fields + i - 1)

-- ---- what is not compared: a message with an opaque packing, on either side

-- the template of the opaque packing of field o, as the cause for field i
abbrev pub packing_of : List ℕ → ℕ → ℕ → Cause
packing_of message o i = Packing (packing_template (part_octets message o 5)) i

abbrev pub on_opaque : Option ℕ → (ℕ → Cause) → Option Cause
on_opaque None cause = None
on_opaque (Some o) cause = Some (cause o)

-- by the first opaque packing of a message, which edition 1 does not have
abbrev pub opaque_cause : List ℕ → (ℕ → Cause) → Option Cause
opaque_cause message cause = choose (edition message == 1) (λ _. None) (λ _. on_opaque (first_opaque message) cause)

-- of the message of the counterpart of field i
abbrev pub on_counterpart : Option FieldOf → ℕ → Option Cause
on_counterpart None i = None
on_counterpart (Some other) i = opaque_cause other.message (λ o. packing_of other.message o i)

-- that of the first field whose counterpart has one
abbrev pub counterpart_cause : List FieldOf → Place → List ℕ → Option Cause
counterpart_cause fields place message = first_among (λ i. on_counterpart (counterpart fields place i) i) (fields_of message) 1

-- that of the message, else that of the first of its fields whose counterpart has one
abbrev pub compare_cause : List FieldOf → Place → List ℕ → Option Cause
compare_cause fields place message =
    or_later (opaque_cause message (λ o. packing_of message o o)) (λ _. counterpart_cause fields place message)

-- ---- what is written

-- what is said of a field beside its counterpart
abbrev pub compared_beside : Bool → Option FieldOf → FieldOf → Option Comparison
compared_beside sections None field = None
compared_beside sections (Some other) field = Some (compared sections field other)

abbrev pub line_beside : Bool → ℕ → ℕ → Option Comparison → List ℕ
line_beside quiet m i None = []
line_beside quiet m i (Some comparison) = line_unless quiet m i comparison

abbrev pub differing_beside : Option Comparison → ℕ
differing_beside None = 0
differing_beside (Some comparison) = differing comparison

-- of field i of the message at this place
abbrev pub field_compared : Bool → List FieldOf → Place → List ℕ → ℕ → Option Comparison
field_compared sections fields place message i = compared_beside sections (counterpart fields place i) (field_of message i)

abbrev pub compare_line : Bool → Bool → List FieldOf → Place → List ℕ → ℕ → List ℕ
compare_line sections quiet fields place message i = line_beside quiet place.message i (field_compared sections fields place message i)

-- how many of n fields from field i on differ
abbrev pub differing_from : (ℕ → ℕ) → ℕ → ℕ → ℕ
differing_from count zero i = 0
differing_from count (suc n) i = count i + differing_from count n (i + 1)

abbrev pub compare_text : Bool → Bool → List FieldOf → Place → List ℕ → List ℕ
compare_text sections quiet fields place message = texts_from (compare_line sections quiet fields place message) (fields_of message) 1

abbrev pub compare_count : Bool → List FieldOf → Place → List ℕ → ℕ
compare_count sections fields place message =
    differing_from (λ i. differing_beside (field_compared sections fields place message i)) (fields_of message) 1

-- ---- the command

-- these lines, of this many fields that differ, or the message is not compared, by its cause
abbrev pub given_unless : Option Cause → ℕ → List ℕ → ℕ → Given
given_unless None m lines count = Gives (writes lines) count
given_unless (Some cause) m lines count = Ends (kept_at m cause)

abbrev pub beside : Bool → Bool → List FieldOf → Place → List ℕ → Given
beside sections quiet fields place message =
    given_unless (compare_cause fields place message) place.message (compare_text sections quiet fields place message)
    (compare_count sections fields place message)

abbrev pub compare_command : Bool → Bool → List FieldOf → Command
compare_command sections quiet fields = record {
  first = beside sections quiet fields;
  second = beside sections quiet fields;
  ending = Compared (length fields);
  uses_shelf = false;
  hears = false;
  profile = Stated;
}
