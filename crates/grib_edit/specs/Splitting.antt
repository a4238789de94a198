-- `split`: each field as a message of its own, on the shelf.
use Rattle.std.proofs.Common.{◌≡◌, ℕ, ◌+◌, ◌*◌, ◌≤◌, Bool, true, false, List, length, sym, ap, arith}
use Rattle.grib_base.specs.Rules.{choose}
use Rattle.grib_base.specs.declared.limits.TheConstants.{MOST_OCTETS}
use Rattle.grib2_message.specs.Message.{IsAnyMessage}
use Rattle.grib_reasons.specs.declared.cause.Cause.TheVariants.{EditionOne}
use Rattle.grib_stream.specs.declared.place.Place.{Place}
use Rattle.grib_stream.specs.declared.outcome.Outcome.{Outcome}
use Rattle.grib_stream.specs.Acts.{Act}
use Rattle.grib_stream.specs.Outcomes.{is_of_message}
use Rattle.grib_stream.specs.Task.{Given, Gives, Ends}
use Rattle.grib_command.specs.Command.{Command, IsLawfulCommand, changing, kept_at, kept_first}
use Rattle.grib_edit.specs.Parts.{Part, parts_of, parts1_of, puts_all, octets_within}
use Rattle.grib_edit.specs.PartOctets.{parts_few}

-- octets under their names
abbrev pub given_parts : List Part → Given
given_parts parts = Gives (puts_all parts) (octets_within parts)

-- a message of edition 1 is put where it is asked for
abbrev pub split_command : Bool → List ℕ → Command
split_command edition_1 name = record (changing (λ place message. given_parts (parts_of name place.fields message))) {
  first = λ place message. choose edition_1 (λ _. given_parts (parts1_of name place.fields message)) (λ _. kept_first place.message);
  uses_shelf = true;
}

-- ---- it is lawful

few_written : (name : List ℕ) (before : ℕ) (message : List ℕ) (acts : List Act) (written : ℕ) → IsAnyMessage message
    → given_parts (parts_of name before message) ≡ Gives acts written → 20 * written ≤ MOST_OCTETS * length message
few_written name before message acts written h is =
    let few = parts_few name before message h in
    let same : octets_within (parts_of name before message) ≡ written = cc in
    omega arith

goes_on : (parts : List Part) (outcome : Outcome) → given_parts parts ≡ Ends outcome → is_of_message outcome ≡ true
goes_on parts outcome is = let no : ⊥ = cc in absurd no

few_first : (edition_1 : Bool) (name : List ℕ) (place : Place) (message : List ℕ) (acts : List Act) (written : ℕ)
    → choose edition_1 (λ _. given_parts (parts1_of name place.fields message)) (λ _. kept_first place.message) ≡ Gives acts written
    → 20 * written ≤ MOST_OCTETS * length message
few_first true name place message acts written is = let same : 0 + length message ≡ written = cc in omega arith
few_first false name place message acts written is = let no : ⊥ = cc in absurd no

ends_first : (edition_1 : Bool) (name : List ℕ) (place : Place) (message : List ℕ) (outcome : Outcome)
    → choose edition_1 (λ _. given_parts (parts1_of name place.fields message)) (λ _. kept_first place.message) ≡ Ends outcome
    → is_of_message outcome ≡ true
ends_first true name place message outcome is = goes_on (parts1_of name place.fields message) outcome is
ends_first false name place message outcome is = let same : kept_at place.message EditionOne ≡ outcome = cc in sym (ap is_of_message same)

pub split_lawful : (edition_1 : Bool) (name : List ℕ) → IsLawfulCommand (split_command edition_1 name)
split_lawful edition_1 name = record {
  few_first = λ place message acts written h is. few_first edition_1 name place message acts written is;
  few_second = λ place message acts written h is. few_written name place.fields message acts written h is;
  ends_first = λ place message outcome is. ends_first edition_1 name place message outcome is;
  ends_second = λ place message outcome is. goes_on (parts_of name place.fields message) outcome is;
}
