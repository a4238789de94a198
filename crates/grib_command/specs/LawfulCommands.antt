-- Commands of one kind are lawful.
use Rattle.std.proofs.Common.{◌≡◌, ◌∙◌, ℕ, ◌*◌, ◌≤◌, Bool, true, Option, Some, None, option_map, List, length, refl, sym, ap, arith}
use Rattle.grib_base.specs.declared.limits.TheConstants.{MOST_OCTETS}
use Rattle.grib_base.specs.declared.profile.Profile.{Profile}
use Rattle.grib_base.specs.declared.profile.Profile.TheVariants.{Open}
use Rattle.grib2_message.specs.Message.{IsAnyMessage, IsReadable, IsFirstOpaque, first_opaque}
use Rattle.grib2_message.specs.declared.readable.OpaqueField.{OpaqueField}
use Rattle.grib_packing.specs.Packing.{packing_template}
use Rattle.grib2_message.specs.Fields.{part_octets}
use Rattle.grib2_message.proofs.FirstOpaque.{none_opaque}
use Rattle.grib2_message.proofs.Parted.{message_least}
use Rattle.grib_stream.specs.declared.place.Place.{Place}
use Rattle.grib_stream.specs.declared.outcome.Outcome.{Outcome}
use Rattle.grib_reasons.specs.declared.cause.Cause.{Cause}
use Rattle.grib_reasons.specs.declared.cause.Cause.TheVariants.{EditionOne, Packing}
use Rattle.grib_stream.specs.Acts.{Act}
use Rattle.grib_stream.specs.Outcomes.{is_of_message}
use Rattle.grib_stream.specs.Task.{Given, Gives, Ends}
use Rattle.grib_command.specs.Command.{Command, IsLawfulCommand, under, given_text, given_unless, given_readable, of_values, kept_at, kept_first, printing, printing_fields, changing, changing_unless, reading_values, printing_places}
use Rattle.grib_command.specs.declared.ending.Ending.{Ending}

-- nothing of a text is counted
pub none_counted : (text : List ℕ) (acts : List Act) (written : ℕ) (message : List ℕ) → given_text text ≡ Gives acts written → 20 * written ≤ MOST_OCTETS * length message
none_counted text acts written message is = let none : 0 ≡ written = cc in omega arith

-- and a run does not end at it
text_goes_on : (text : List ℕ) (outcome : Outcome) → given_text text ≡ Ends outcome → is_of_message outcome ≡ true
text_goes_on text outcome is = let no : ⊥ = cc in absurd no

kept_counts : (m : ℕ) (acts : List Act) (written : ℕ) (message : List ℕ) → kept_first m ≡ Gives acts written → 20 * written ≤ MOST_OCTETS * length message
kept_counts m acts written message is = let no : ⊥ = cc in absurd no

kept_ends : (m : ℕ) (outcome : Outcome) → kept_first m ≡ Ends outcome → is_of_message outcome ≡ true
kept_ends m outcome is = let same : kept_at m EditionOne ≡ outcome = cc in sym (ap is_of_message same)

-- of each message as many octets are counted as a message has at most
pub few_each : (written : ℕ) (message : List ℕ) → IsAnyMessage message → written ≤ MOST_OCTETS → 20 * written ≤ MOST_OCTETS * length message
few_each written message h few = omega (arith, message_least Open message h)

pub printing_lawful : (first second : Place → List ℕ → List ℕ) (ending : Ending) → IsLawfulCommand (printing first second ending)
printing_lawful first second ending = record {
  few_first = λ place message acts written h is. none_counted (first place message) acts written message is;
  few_second = λ place message acts written h is. none_counted (second place message) acts written message is;
  ends_first = λ place message outcome is. text_goes_on (first place message) outcome is;
  ends_second = λ place message outcome is. text_goes_on (second place message) outcome is;
}

pub places_lawful : (first : Place → List ℕ → List ℕ) (text : Place → List ℕ → ℕ → List ℕ) → IsLawfulCommand (printing_places first text)
places_lawful first text = printing_lawful _ _ _

pub fields_lawful : (first : List ℕ → ℕ → List ℕ) (text : List ℕ → ℕ → ℕ → List ℕ) → IsLawfulCommand (printing_fields first text)
fields_lawful first text = printing_lawful _ _ _

-- what is heard makes no difference
pub heard_lawful : (command : Command) (hears : Bool) → IsLawfulCommand command → IsLawfulCommand (record command { hears = hears })
heard_lawful command hears law = record { few_first = law.few_first; few_second = law.few_second; ends_first = law.ends_first; ends_second = law.ends_second }

-- nor does the profile
pub under_lawful : (profile : Profile) (command : Command) → IsLawfulCommand command → IsLawfulCommand (under profile command)
under_lawful profile command law = record { few_first = law.few_first; few_second = law.few_second; ends_first = law.ends_first; ends_second = law.ends_second }

pub changing_lawful : (second : Place → List ℕ → Given)
    → ((place : Place) (message : List ℕ) (acts : List Act) (written : ℕ) → IsAnyMessage message → second place message ≡ Gives acts written → 20 * written ≤ MOST_OCTETS * length message)
    → ((place : Place) (message : List ℕ) (outcome : Outcome) → second place message ≡ Ends outcome → is_of_message outcome ≡ true)
    → IsLawfulCommand (changing second)
changing_lawful second few ends = record {
  few_first = λ place message acts written h is. kept_counts place.message acts written message is;
  few_second = few;
  ends_first = λ place message outcome is. kept_ends place.message outcome is;
  ends_second = ends;
}

-- what gives no cause is not there
pub unmapped : {A : Type 0} (f : A → Cause) (x : Option A) → option_map f x ≡ None → x ≡ None
unmapped f None is = refl
unmapped f (Some a) is = let no : ⊥ = cc in absurd no

-- of what is written unless there is a cause as many octets are counted as a message has at most
pub unless_few : (cause : Option Cause) (m : ℕ) (octets : List ℕ) (acts : List Act) (written : ℕ) → (cause ≡ None → length octets ≤ MOST_OCTETS)
    → given_unless cause m octets ≡ Gives acts written → written ≤ MOST_OCTETS
unless_few None m octets acts written few is = let same : length octets ≡ written = cc in let fits : length octets ≤ MOST_OCTETS = few refl in omega arith
unless_few (Some cause) m octets acts written few is = let no : ⊥ = cc in absurd no

pub unless_ends : (cause : Option Cause) (m : ℕ) (octets : List ℕ) (outcome : Outcome) → given_unless cause m octets ≡ Ends outcome → is_of_message outcome ≡ true
unless_ends None m octets outcome is = let no : ⊥ = cc in absurd no
unless_ends (Some cause) m octets outcome is = let same : kept_at m cause ≡ outcome = cc in sym (ap is_of_message same)

pub unless_lawful : (cause : List ℕ → Option Cause) (octets : List ℕ → List ℕ)
    → ((message : List ℕ) → IsAnyMessage message → cause message ≡ None → length (octets message) ≤ MOST_OCTETS) → IsLawfulCommand (changing_unless cause octets)
unless_lawful cause octets few =
    changing_lawful _
    (λ place message acts written h is. few_each written message h (unless_few (cause message) place.message (octets message) acts written (few message h) is))
    (λ place message outcome is. unless_ends (cause message) place.message (octets message) outcome is)

-- ---- what reads the values of messages

-- a message that can be read gives what it gives where values are read
pub given_read : (second : Place → List ℕ → Given) (place : Place) (message : List ℕ) → first_opaque message ≡ None → of_values second place message ≡ second place message
given_read second place message is = ap (λ o. given_readable o message place (λ _. second place message)) is

-- any other cannot be changed or printed, by the packing of the first such field
pub given_opaque : (second : Place → List ℕ → Given) (place : Place) (message : List ℕ) (opaque : OpaqueField) → IsFirstOpaque message opaque
    → of_values second place message ≡ Ends (kept_at place.message (Packing opaque.template opaque.field))
given_opaque second place message opaque is =
    ap (λ o. given_readable o message place (λ _. second place message)) is.first
    ∙ ap (λ template. Ends (kept_at place.message (Packing template opaque.field))) (sym is.template)

-- what is given goes on only where the message can be read
gives_read : (opaque : Option ℕ) (message : List ℕ) (place : Place) (next : Unit {0} → Given) (acts : List Act) (written : ℕ)
    → given_readable opaque message place next ≡ Gives acts written → (opaque ≡ None) × (next tt ≡ Gives acts written)
gives_read None message place next acts written is = (refl, is)
gives_read (Some field) message place next acts written is = let no : ⊥ = cc in absurd no

ends_read : (opaque : Option ℕ) (message : List ℕ) (place : Place) (next : Unit {0} → Given) (outcome : Outcome)
    → ((outcome : Outcome) → next tt ≡ Ends outcome → is_of_message outcome ≡ true) → given_readable opaque message place next ≡ Ends outcome → is_of_message outcome ≡ true
ends_read None message place next outcome ends is = ends outcome is
ends_read (Some field) message place next outcome ends is =
    let same : kept_at place.message (Packing (packing_template (part_octets message field 5)) field) ≡ outcome = cc in sym (ap is_of_message same)

pub values_few : (second : Place → List ℕ → Given)
    → ((place : Place) (message : List ℕ) (acts : List Act) (written : ℕ) → IsAnyMessage message → IsReadable message → second place message ≡ Gives acts written
    → 20 * written ≤ MOST_OCTETS * length message)
    → (place : Place) (message : List ℕ) (acts : List Act) (written : ℕ) → IsAnyMessage message → of_values second place message ≡ Gives acts written
    → 20 * written ≤ MOST_OCTETS * length message
values_few second few place message acts written h is =
    let read = gives_read (first_opaque message) message place (λ _. second place message) acts written is in
    few place message acts written h (none_opaque message read.0) read.1

pub values_ends : (second : Place → List ℕ → Given) → ((place : Place) (message : List ℕ) (outcome : Outcome) → second place message ≡ Ends outcome → is_of_message outcome ≡ true)
    → (place : Place) (message : List ℕ) (outcome : Outcome) → of_values second place message ≡ Ends outcome → is_of_message outcome ≡ true
values_ends second ends place message outcome is =
    ends_read (first_opaque message) message place (λ _. second place message) outcome (ends place message) is

-- a command that reads values is lawful where it is without them
pub reading_lawful : (command : Command) → IsLawfulCommand command → IsLawfulCommand (reading_values command)
reading_lawful command law = record {
  few_first = law.few_first;
  few_second = values_few command.second (λ place message acts written h readable is. law.few_second place message acts written h is);
  ends_first = law.ends_first;
  ends_second = values_ends command.second law.ends_second;
}

-- so is one that writes what it makes of the values, if that is lawful of messages that can be read
pub changing_values_lawful : (second : Place → List ℕ → Given)
    → ((place : Place) (message : List ℕ) (acts : List Act) (written : ℕ) → IsAnyMessage message → IsReadable message → second place message ≡ Gives acts written
    → 20 * written ≤ MOST_OCTETS * length message)
    → ((place : Place) (message : List ℕ) (outcome : Outcome) → second place message ≡ Ends outcome → is_of_message outcome ≡ true)
    → IsLawfulCommand (changing (of_values second))
changing_values_lawful second few ends = changing_lawful (of_values second) (values_few second few) (values_ends second ends)

pub values_unless_lawful : (cause : List ℕ → Option Cause) (octets : List ℕ → List ℕ)
    → ((message : List ℕ) → IsAnyMessage message → IsReadable message → cause message ≡ None → length (octets message) ≤ MOST_OCTETS)
    → IsLawfulCommand (reading_values (changing_unless cause octets))
values_unless_lawful cause octets few =
    changing_values_lawful _
    (λ place message acts written h readable is.
    few_each written message h (unless_few (cause message) place.message (octets message) acts written (few message h readable) is))
    (λ place message outcome is. unless_ends (cause message) place.message (octets message) outcome is)
