-- `dump decimals= place=yes`: as `dump decimals=`, with the latitude and the longitude of each point.
use Rattle.std.specs.Prelude.{ℕ, Option, List}
use Rattle.grib_base.specs.Rules.{or_later}
use Rattle.grib_dyadic.specs.Reference.{ieee, reduced}
use Rattle.grib2_message.specs.Fields.{field_count, part_octets, column_of}
use Rattle.grib_reasons.specs.declared.cause.Cause.{Cause}
use Rattle.grib_text.specs.Lines.{list_line}
use Rattle.grib_text.specs.Values as values
use Rattle.grib_stream.specs.declared.place.Place.{Place}
use Rattle.grib_stream.specs.Task.{Given}
use Rattle.grib_command.specs.Command.{Command, IsLawfulCommand, reading_values, texts_from}
use Rattle.grib_command.specs.LawfulCommands.{reading_lawful}
use Rattle.grib_report.specs.Valuing.{scale_by, cause_2, text_unless, few_unless, ends_unless}
use Rattle.grib_placed.specs.Causes.{message_place_cause}
use Rattle.grib_placed.specs.Commands.{placed_by, placed_by_lawful}
use Rattle.grib_placed.specs.Lines.{placed}

-- of field i of message m
abbrev pub value_placed_text : ℕ → List ℕ → ℕ → ℕ → List ℕ
value_placed_text places message m i =
    let column = column_of message i in
    let reference = reduced (ieee column.reference) in
    placed (part_octets message i 3) (values.value_text (scale_by places reference column)) (list_line message m i) reference column

-- first by the places, then by the values
abbrev pub value_placed_cause : ℕ → List ℕ → Option Cause
value_placed_cause places message = or_later (message_place_cause message) (λ _. cause_2 places message)

abbrev pub value_placed_given : ℕ → Place → List ℕ → Given
value_placed_given places place message =
    text_unless (value_placed_cause places message) place.message
    (texts_from (value_placed_text places message place.message) (field_count message) 1)

abbrev pub value_placed_command : ℕ → Command
value_placed_command places = reading_values (placed_by (value_placed_given places))

pub value_placed_lawful : (places : ℕ) → IsLawfulCommand (value_placed_command places)
value_placed_lawful places =
    reading_lawful (placed_by (value_placed_given places))
    (placed_by_lawful (value_placed_given places)
    (λ place message acts written h is. few_unless (value_placed_cause places message) place.message _ acts written message is)
    (λ place message outcome is. ends_unless (value_placed_cause places message) place.message _ outcome is))
