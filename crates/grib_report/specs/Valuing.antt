-- `dump decimals=`: as `dump`, with the value of each point as a decimal in place of its scaled
-- integer. A message with a value that is too large for a text cannot be printed.
use Rattle.std.specs.Prelude.{ℕ, zero, suc, ◌+◌, ◌*◌, ◌≤◌, ◌≡◌, true, false, Option, Some, None, option_map, List, length, ◌++◌}
use Rattle.std.proofs.Common.{sym, ap}
use Rattle.grib_bits.specs.Bits.{bits_of, signed}
use Rattle.grib_base.specs.Rules.{first_among}
use Rattle.grib_dyadic.specs.Reference.{Binary, ieee, ibm, reduced}
use Rattle.grib_base.specs.declared.limits.TheConstants.{MOST_OCTETS}
use Rattle.grib_base.specs.declared.profile.Profile.TheVariants.{Stated}
use Rattle.grib_packing.specs.declared.column.Column.{Column}
use Rattle.grib2_message.specs.Fields.{field_count, column_of}
use Rattle.grib1_sections.specs.Column.{column1_of}
use Rattle.grib_reasons.specs.declared.cause.Cause.{Cause}
use Rattle.grib_reasons.specs.declared.cause.Cause.TheVariants.{DecimalRange}
use Rattle.grib_decimal.specs.Decimal.{Scale, scale}
use Rattle.grib_decimal.specs.Range.{first_too_large}
use Rattle.grib_text.specs.Lines.{list_line, reference_line}
use Rattle.grib_text.specs.Lines1.{list_line1}
use Rattle.grib_text.specs.Values.{value_lines}
use Rattle.grib_stream.specs.declared.outcome.Outcome.{Outcome}
use Rattle.grib_stream.specs.declared.place.Place.{Place}
use Rattle.grib_stream.specs.Acts.{Act}
use Rattle.grib_stream.specs.Outcomes.{is_of_message}
use Rattle.grib_stream.specs.Task.{Given, Gives, Ends}
use Rattle.grib_command.specs.declared.ending.Ending.TheVariants.{Silent}
use Rattle.grib_command.specs.Command.{Command, IsLawfulCommand, given_text, kept_at, reading_values, texts_from}
use Rattle.grib_command.specs.LawfulCommands.{none_counted, reading_lawful}

abbrev pub scale_by : ℕ → Binary → Column → Scale
scale_by places reference column = scale reference (signed (bits_of 16 column.e)) (signed (bits_of 16 column.d)) places

-- what is printed of a field with this list line and this reference value, in both editions
abbrev pub valued : ℕ → List ℕ → Binary → Column → List ℕ
valued places listed reference column =
    (listed ++ reference_line reference (signed (bits_of 16 column.e)) (signed (bits_of 16 column.d)))
    ++ value_lines (scale_by places reference column) 1 column.points

-- of message m, of edition 1; the word of its reference value is of the IBM single form
abbrev pub value_text_1 : ℕ → List ℕ → ℕ → List ℕ
value_text_1 places message m =
    let column = column1_of message in valued places (list_line1 message m) (reduced (ibm column.reference)) column

-- of field i of message m, of edition 2; the word is of the IEEE single form
abbrev pub value_text : ℕ → List ℕ → ℕ → ℕ → List ℕ
value_text places message m i =
    let column = column_of message i in valued places (list_line message m i) (reduced (ieee column.reference)) column

-- the cause by the first point of field i whose value is too large
abbrev pub range_cause : ℕ → ℕ → Binary → Column → Option Cause
range_cause places i reference column =
    option_map (λ point. DecimalRange i point) (first_too_large (scale_by places reference column) column.points)

abbrev pub cause_1 : ℕ → List ℕ → Option Cause
cause_1 places message = let column = column1_of message in range_cause places 1 (reduced (ibm column.reference)) column

abbrev pub field_cause : ℕ → List ℕ → ℕ → Option Cause
field_cause places message i = let column = column_of message i in range_cause places i (reduced (ieee column.reference)) column

-- the first cause of its fields
abbrev pub cause_2 : ℕ → List ℕ → Option Cause
cause_2 places message = first_among (field_cause places message) (field_count message) 1

-- a text is printed, or message m cannot be printed, by its cause
abbrev pub text_unless : Option Cause → ℕ → List ℕ → Given
text_unless None m text = given_text text
text_unless (Some cause) m text = Ends (kept_at m cause)

-- what a message of edition 2 gives whose values can be read
abbrev pub second_given : ℕ → Place → List ℕ → Given
second_given places place message =
    text_unless (cause_2 places message) place.message (texts_from (value_text places message place.message) (field_count message) 1)

-- what a message of edition 1 gives, and one of edition 2 whose values can be read
abbrev pub texts_command : ℕ → Command
texts_command places = record {
  first = λ place message. text_unless (cause_1 places message) place.message (value_text_1 places message place.message);
  second = second_given places;
  ending = Silent;
  uses_shelf = false;
  hears = false;
  profile = Stated;
}

abbrev pub value_command : ℕ → Command
value_command places = reading_values (texts_command places)

-- ---- it is lawful

pub few_unless : (cause : Option Cause) (m : ℕ) (text : List ℕ) (acts : List Act) (written : ℕ) (message : List ℕ) → text_unless cause m text ≡ Gives acts written
    → 20 * written ≤ MOST_OCTETS * length message
few_unless None m text acts written message is = none_counted text acts written message is
few_unless (Some cause) m text acts written message is = let no : ⊥ = cc in absurd no

pub ends_unless : (cause : Option Cause) (m : ℕ) (text : List ℕ) (outcome : Outcome) → text_unless cause m text ≡ Ends outcome → is_of_message outcome ≡ true
ends_unless None m text outcome is = let no : ⊥ = cc in absurd no
ends_unless (Some cause) m text outcome is = let same : kept_at m cause ≡ outcome = cc in sym (ap is_of_message same)

texts_lawful : (places : ℕ) → IsLawfulCommand (texts_command places)
texts_lawful places = record {
  few_first = λ place message acts written h is. few_unless (cause_1 places message) place.message _ acts written message is;
  few_second = λ place message acts written h is. few_unless (cause_2 places message) place.message _ acts written message is;
  ends_first = λ place message outcome is. ends_unless (cause_1 places message) place.message _ outcome is;
  ends_second = λ place message outcome is. ends_unless (cause_2 places message) place.message _ outcome is;
}

pub value_lawful : (places : ℕ) → IsLawfulCommand (value_command places)
value_lawful places = reading_lawful (texts_command places) (texts_lawful places)
