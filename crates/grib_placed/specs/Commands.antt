-- Commands that print a text of each field of a message of edition 2 in which the places of points are told. A message of edition
-- 1, and one whose places are not told, cannot be printed.
use Rattle.std.specs.Prelude.{◌≡◌, ℕ, ◌*◌, ◌≤◌, true, false, List, length}
use Rattle.grib_base.specs.declared.limits.TheConstants.{MOST_OCTETS}
use Rattle.grib_base.specs.declared.profile.Profile.TheVariants.{Stated}
use Rattle.grib2_message.specs.Fields.{field_count}
use Rattle.grib2_message.specs.Message.{IsAnyMessage}
use Rattle.grib_stream.specs.declared.outcome.Outcome.{Outcome}
use Rattle.grib_stream.specs.declared.place.Place.{Place}
use Rattle.grib_stream.specs.Acts.{Act}
use Rattle.grib_stream.specs.Outcomes.{is_of_message}
use Rattle.grib_stream.specs.Task.{Given, Gives, Ends}
use Rattle.grib_command.specs.declared.ending.Ending.TheVariants.{Silent}
use Rattle.grib_command.specs.Command.{Command, IsLawfulCommand, changing, kept_first, texts_from}
use Rattle.grib_command.specs.LawfulCommands.{changing_lawful}
use Rattle.grib_report.specs.Valuing.{text_unless, few_unless, ends_unless}
use Rattle.grib_placed.specs.Causes.{message_place_cause}

-- what a message of edition 2 gives
abbrev pub placed_given : (List ℕ → ℕ → ℕ → List ℕ) → Place → List ℕ → Given
placed_given text place message =
    text_unless (message_place_cause message) place.message (texts_from (text message place.message) (field_count message) 1)

abbrev pub placed_by : (Place → List ℕ → Given) → Command
placed_by second = record {
  first = λ place message. kept_first place.message;
  second = second;
  ending = Silent;
  uses_shelf = false;
  hears = false;
  profile = Stated;
}

abbrev pub placed_command : (List ℕ → ℕ → ℕ → List ℕ) → Command
placed_command text = placed_by (placed_given text)

-- ---- they are lawful

pub placed_by_lawful : (second : Place → List ℕ → Given)
    → ((place : Place) (message : List ℕ) (acts : List Act) (written : ℕ) → IsAnyMessage message → second place message ≡ Gives acts written
    → 20 * written ≤ MOST_OCTETS * length message)
    → ((place : Place) (message : List ℕ) (outcome : Outcome) → second place message ≡ Ends outcome → is_of_message outcome ≡ true)
    → IsLawfulCommand (placed_by second)
placed_by_lawful second few ends =
    let law : IsLawfulCommand (changing second) = changing_lawful second few ends in
    record { few_first = law.few_first; few_second = few; ends_first = law.ends_first; ends_second = ends }

pub placed_lawful : (text : List ℕ → ℕ → ℕ → List ℕ) → IsLawfulCommand (placed_command text)
placed_lawful text =
    placed_by_lawful (placed_given text)
    (λ place message acts written h is. few_unless (message_place_cause message) place.message _ acts written message is)
    (λ place message outcome is. ends_unless (message_place_cause message) place.message _ outcome is)
