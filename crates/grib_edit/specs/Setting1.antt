-- `set` of keys of edition 1: each message of edition 1 with new values of some numbers of Section 1.
use Rattle.std.proofs.Common.{◌≡◌, ℕ, ◌*◌, ◌≤◌, true, Option, Some, None, option_map, List, length, All, IsTrue, sym, ap, arith}
use Rattle.std.specs.Option.{option_or}
use Rattle.grib_base.specs.declared.limits.TheConstants.{MOST_OCTETS}
use Rattle.grib_keys.specs.Keys1.{can_set1}
use Rattle.grib1_select.specs.declared.condition.Change1.{Change1}
use Rattle.grib1_select.specs.Changed.{with_keys1, set_fault1}
use Rattle.grib1_select.proofs.Set.{opens, length-with_keys1}
use Rattle.grib_dates.specs.declared.rule.Dates.{Dates}
use Rattle.grib_dates.specs.Times.{is_valid_time1}
use Rattle.grib_reasons.specs.declared.cause.Cause.{Cause}
use Rattle.grib_reasons.specs.declared.cause.Cause.TheVariants as causes
use Rattle.grib_stream.specs.declared.outcome.Outcome.{Outcome}
use Rattle.grib_stream.specs.Acts.{Act}
use Rattle.grib_stream.specs.Outcomes.{is_of_message}
use Rattle.grib_stream.specs.Task.{Given, Gives, Ends}
use Rattle.grib_command.specs.Command.{Command, IsLawfulCommand, changing, given_unless, kept_at}
use Rattle.grib_command.specs.LawfulCommands.{unless_ends}
use Rattle.grib_edit.specs.Setting.{date_cause}

-- by what a message cannot be changed: the fault of a change comes first
abbrev pub set1_cause : Dates → List Change1 → List ℕ → Option Cause
set1_cause dates changes message =
    option_or (option_map causes.KeyRange1 (set_fault1 changes)) (date_cause dates (is_valid_time1 (with_keys1 message changes)))

-- message m cannot be changed, since it is of edition 2
abbrev pub kept_second : ℕ → Given
kept_second m = Ends (kept_at m causes.EditionTwo)

abbrev pub set1_command : Dates → List Change1 → Command
set1_command dates changes = record (changing (λ place message. kept_second place.message)) {
  first = λ place message. given_unless (set1_cause dates changes message) place.message (with_keys1 message changes);
}

-- ---- it is lawful

few : (cause : Option Cause) (m : ℕ) (octets message : List ℕ) (acts : List Act) (written : ℕ) → length octets ≡ length message
    → given_unless cause m octets ≡ Gives acts written → 20 * written ≤ MOST_OCTETS * length message
few None m octets message acts written long is = let same : length octets ≡ written = cc in omega arith
few (Some cause) m octets message acts written long is = let no : ⊥ = cc in absurd no

none_given : (m : ℕ) (message : List ℕ) (acts : List Act) (written : ℕ) → kept_second m ≡ Gives acts written → 20 * written ≤ MOST_OCTETS * length message
none_given m message acts written is = let no : ⊥ = cc in absurd no

kept_ends : (m : ℕ) (outcome : Outcome) → kept_second m ≡ Ends outcome → is_of_message outcome ≡ true
kept_ends m outcome is = let same : kept_at m causes.EditionTwo ≡ outcome = cc in sym (ap is_of_message same)

pub set1_lawful : (dates : Dates) (changes : List Change1) → All (λ c. IsTrue (can_set1 c.key)) changes → IsLawfulCommand (set1_command dates changes)
set1_lawful dates changes can = record {
  few_first = λ place message acts written h is.
      few (set1_cause dates changes message) place.message (with_keys1 message changes) message acts written (length-with_keys1 message changes (opens message h)) is;
  few_second = λ place message acts written h is. none_given place.message message acts written is;
  ends_first = λ place message outcome is. unless_ends (set1_cause dates changes message) place.message (with_keys1 message changes) outcome is;
  ends_second = λ place message outcome is. kept_ends place.message outcome is;
}
