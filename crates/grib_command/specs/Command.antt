-- What a command does with the messages of an input, one after another.
use Rattle.std.specs.Prelude.{◌≡◌, ℕ, ◌*◌, ◌≤◌, Bool, true, false, Option, Some, None, List, [], ◌++◌, zero, suc, ◌+◌, length, ◌==◌}
use Rattle.grib_base.specs.Rules.{choose}
use Rattle.grib_base.specs.declared.limits.TheConstants.{MOST_OCTETS}
use Rattle.grib_base.specs.declared.profile.Profile.{Profile}
use Rattle.grib_base.specs.declared.profile.Profile.TheVariants.{Stated}
use Rattle.grib2_sections.specs.Head.{edition}
use Rattle.grib_packing.specs.Packing.{packing_template}
use Rattle.grib2_message.specs.Fields.{field_count, part_octets}
use Rattle.grib2_message.specs.Message.{IsAnyMessage, first_opaque}
use Rattle.grib1_sections.specs.Message.{IsMessage1}
use Rattle.grib_stream.specs.declared.place.Place.{Place}
use Rattle.grib_stream.specs.declared.outcome.Outcome.{Outcome}
use Rattle.grib_stream.specs.declared.outcome.Outcome.TheVariants.{Kept}
use Rattle.grib_reasons.specs.declared.cause.Cause.{Cause}
use Rattle.grib_reasons.specs.declared.cause.Cause.TheVariants.{EditionOne, Packing}
use Rattle.grib_stream.specs.Acts.{Act, writes}
use Rattle.grib_stream.specs.Outcomes.{is_of_message}
use Rattle.grib_stream.specs.Task.{Task, Given, Gives, Ends}
use Rattle.grib_command.specs.Judging.{judge_under, fields_of}
use Rattle.grib_command.specs.declared.ending.Ending.{Ending}
use Rattle.grib_command.specs.declared.ending.Ending.TheVariants.{Silent, Written}
use Rattle.grib_command.specs.Endings.{ending_text, ending_note}
use Rattle.grib_command.specs.Outcomes.{note_of}

pub record Command : Type 0 where
  -- what a message of edition 1 at a place gives
  pub first : Place → List ℕ → Given
  -- what one of edition 2 gives
  pub second : Place → List ℕ → Given
  -- what is printed and noted at the end of the input
  pub ending : Ending
  -- whether what is made is put on the shelf, and nothing of it is written to the output
  pub uses_shelf : Bool
  -- whether it answers messages of edition 2 by what was heard of them, so that they need not be held whole
  pub hears : Bool
  -- by which profile messages of edition 2 are accepted
  pub profile : Profile

-- a command under another profile
abbrev pub under : Profile → Command → Command
under profile command = record command { profile = profile }

-- what a message gives, by its edition
abbrev pub given : Command → Place → List ℕ → Given
given command place message = choose (edition message == 1) (λ _. command.first place message) (λ _. command.second place message)

abbrev pub task : Command → Task
task command = record {
  judge = judge_under command.profile;
  fields = fields_of;
  result = given command;
  ending = λ totals. record { acts = writes (ending_text command.ending totals); note = ending_note command.ending totals };
  note = note_of;
}

-- What a command owes so that its task is lawful. For each 20 octets of a message at most 268435456 are counted as
-- written, and a run ends at a message with an outcome of a message.
pub record IsLawfulCommand (command : Command) : Type 0 where
  pub few_first : (place : Place) (message : List ℕ) (acts : List Act) (written : ℕ) → IsMessage1 message
      → command.first place message ≡ Gives acts written → 20 * written ≤ MOST_OCTETS * length message
  pub few_second : (place : Place) (message : List ℕ) (acts : List Act) (written : ℕ) → IsAnyMessage message
      → command.second place message ≡ Gives acts written → 20 * written ≤ MOST_OCTETS * length message
  pub ends_first : (place : Place) (message : List ℕ) (outcome : Outcome) → command.first place message ≡ Ends outcome → is_of_message outcome ≡ true
  pub ends_second : (place : Place) (message : List ℕ) (outcome : Outcome) → command.second place message ≡ Ends outcome → is_of_message outcome ≡ true

-- ---- what a message may give

-- a text, of which no note counts the octets
abbrev pub given_text : List ℕ → Given
given_text text = Gives (writes text) 0

-- these octets, which are counted
abbrev pub given_whole : List ℕ → Given
given_whole octets = Gives (writes octets) (length octets)

-- message m cannot be changed
abbrev pub kept_at : ℕ → Cause → Outcome
kept_at m cause = Kept (record { message = m; cause = cause })

-- these octets are written, or message m cannot be changed, by its cause
abbrev pub given_unless : Option Cause → ℕ → List ℕ → Given
given_unless None m octets = given_whole octets
given_unless (Some cause) m octets = Ends (kept_at m cause)

-- message m cannot be changed, since its edition is only read
abbrev pub kept_first : ℕ → Given
kept_first m = Ends (kept_at m EditionOne)

-- what reads the values of a message: where this field is the first with an opaque packing, the message cannot be
-- changed or printed
abbrev pub given_readable : Option ℕ → List ℕ → Place → (Unit {0} → Given) → Given
given_readable None message place next = next tt
given_readable (Some field) message place next = Ends (kept_at place.message (Packing (packing_template (part_octets message field 5)) field))

abbrev pub of_values : (Place → List ℕ → Given) → Place → List ℕ → Given
of_values second place message = given_readable (first_opaque message) message place (λ _. second place message)

-- the texts of n fields, from field i on
abbrev pub texts_from : (ℕ → List ℕ) → ℕ → ℕ → List ℕ
texts_from text zero i = []
texts_from text (suc n) i = text i ++ texts_from text n (i + 1)

-- ---- commands of one kind

-- a text is printed of each message
abbrev pub printing : (Place → List ℕ → List ℕ) → (Place → List ℕ → List ℕ) → Ending → Command
printing first second ending = record {
  first = λ place message. given_text (first place message);
  second = λ place message. given_text (second place message);
  ending = ending;
  uses_shelf = false;
  hears = false;
  profile = Stated;
}

-- a text is printed of a message of edition 1 at its place, and one of each field of a message of edition 2
abbrev pub printing_places : (Place → List ℕ → List ℕ) → (Place → List ℕ → ℕ → List ℕ) → Command
printing_places first text = printing first (λ place message. texts_from (text place message) (field_count message) 1) Silent

-- the same of texts that have of its place the message's number alone
abbrev pub printing_fields : (List ℕ → ℕ → List ℕ) → (List ℕ → ℕ → ℕ → List ℕ) → Command
printing_fields first text =
    printing_places (λ place message. first message place.message) (λ place message. text message place.message)

-- a command that reads the values of messages of edition 2
abbrev pub reading_values : Command → Command
reading_values command = record command { second = of_values command.second }

-- a message of edition 2 gives what is written in its place, and one of edition 1 cannot be changed
abbrev pub changing : (Place → List ℕ → Given) → Command
changing second = record {
  first = λ place message. kept_first place.message;
  second = second;
  ending = Written;
  uses_shelf = false;
  hears = false;
  profile = Stated;
}

-- these octets are written in its place, or it is not changed, by the cause
abbrev pub changing_unless : (List ℕ → Option Cause) → (List ℕ → List ℕ) → Command
changing_unless cause octets = changing (λ place message. given_unless (cause message) place.message (octets message))
