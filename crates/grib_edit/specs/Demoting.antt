-- `demote`: each field of a message of edition 2 as a message of edition 1, by the rows of a parameter table.
use Rattle.std.proofs.Common.{◌≡◌, ℕ, ◌+◌, ◌*◌, ◌≤◌, Bool, true, false, cond, nat_lt, Option, Some, None, option_map, List, length, refl, ap, ◌∙◌, arith, ⊎_elim, ltb-false}
use Rattle.std.proofs.lemmas.Bool.{cases_Bool}
use Rattle.grib_base.proofs.Firsts.{none_each, none_later}
use Rattle.grib_base.specs.Rules.{first_among}
use Rattle.grib_base.specs.declared.limits.TheConstants.{MOST_OCTETS}
use Rattle.grib_base.specs.declared.profile.Profile.TheVariants.{Stated}
use Rattle.grib_reasons.specs.declared.cause.Cause.{Cause}
use Rattle.grib_reasons.specs.declared.cause.Cause.TheVariants.{Demoted}
use Rattle.grib_reasons.specs.declared.demotion.Demotion.{Demotion}
use Rattle.grib_reasons.specs.declared.demotion.Demotion.TheVariants.{TooLong}
use Rattle.grib2_message.specs.Fields.{field_count}
use Rattle.grib2_message.specs.Message.{IsAnyMessage}
use Rattle.grib_params.specs.declared.matching.TableMatch.{TableMatch}
use Rattle.grib_params.specs.Table.{Entries}
use Rattle.grib_demote.specs.Losses.{first_of, field_losses}
use Rattle.grib_demote.specs.Demoted.{demoted, first_loss, length_loss}
use Rattle.grib_stream.specs.declared.outcome.Outcome.{Outcome}
use Rattle.grib_stream.specs.declared.place.Place.{Place}
use Rattle.grib_stream.specs.Acts.{Act}
use Rattle.grib_stream.specs.Outcomes.{is_of_message}
use Rattle.grib_stream.specs.Task.{Given, Gives, Ends}
use Rattle.grib_command.specs.declared.ending.Ending.TheVariants.{Written}
use Rattle.grib_command.specs.Command.{Command, IsLawfulCommand, given_whole, given_unless, reading_values, texts_from}
use Rattle.grib_edit.specs.FieldOctets.{twenty_each, texts_most}
use Rattle.grib_command.specs.LawfulCommands.{reading_lawful, unless_ends, unmapped}

-- why field i is not demoted, if it is not
abbrev pub field_cause : Entries → TableMatch → Bool → Bool → List ℕ → ℕ → Option Cause
field_cause table matching keep_local any_earth message i = option_map (Demoted i) (first_loss table matching keep_local any_earth message i)

-- why a message is kept: the first field with a loss, and its first loss
abbrev pub demoted_cause : Entries → TableMatch → Bool → Bool → List ℕ → Option Cause
demoted_cause table matching keep_local any_earth message = first_among (field_cause table matching keep_local any_earth message) (field_count message) 1

-- the messages of edition 1 of its fields, one after another
abbrev pub demoted_fields : Entries → TableMatch → Bool → List ℕ → List ℕ
demoted_fields table matching keep_local message = texts_from (demoted table matching keep_local message) (field_count message) 1

-- what a message of edition 2 gives whose values can be read
abbrev pub demoted_given : TableMatch → Bool → Bool → Entries → Place → List ℕ → Given
demoted_given matching keep_local any_earth table place message =
    given_unless (demoted_cause table matching keep_local any_earth message) place.message (demoted_fields table matching keep_local message)

-- The fields of such a message are demoted, and a message of edition 1 is copied.
abbrev pub demoting : TableMatch → Bool → Bool → Entries → Command
demoting matching keep_local any_earth table = record {
  first = λ place message. given_whole message;
  second = demoted_given matching keep_local any_earth table;
  ending = Written;
  uses_shelf = false;
  hears = false;
  profile = Stated;
}

abbrev pub demote_command : TableMatch → Bool → Bool → Entries → Command
demote_command matching keep_local any_earth table = reading_values (demoting matching keep_local any_earth table)

-- ---- it is lawful

fits_length : (l : ℕ) → length_loss l ≡ None → l ≤ 16777215
fits_length l none =
    ⊎_elim
    (λ (long : nat_lt 16777215 l ≡ true).
    let some : length_loss l ≡ Some (TooLong l) = ap (λ b. cond b (Some (TooLong l)) None) long in
    let no : ⊥ = cc in absurd no)
    (λ (short : nat_lt 16777215 l ≡ false). ltb-false 16777215 l short)
    (cases_Bool (nat_lt 16777215 l))

module _ (matching : TableMatch) (keep any : Bool) (table : Entries) where
  pub few_octets : (message : List ℕ) (i : ℕ) → first_loss table matching keep any message i ≡ None → length (demoted table matching keep message i) ≤ 16777215
  few_octets message i none =
      fits_length (length (demoted table matching keep message i))
      (none_later (first_of (field_losses table matching keep any message i)) (λ _. length_loss (length (demoted table matching keep message i))) none).1

  few_fields : (message : List ℕ) → IsAnyMessage message → demoted_cause table matching keep any message ≡ None → 20 * length (demoted_fields table matching keep message) ≤ MOST_OCTETS * length message
  few_fields message h none =
      let few = texts_most (demoted table matching keep message) (field_count message) 1
      (λ i low high.
      let own = few_octets message i (unmapped (Demoted i) (first_loss table matching keep any message i) (none_each (field_cause table matching keep any message) 1 (field_count message) i none low high)) in
      omega arith) in
      omega (arith, twenty_each message h)

  few_written : (cause : Option Cause) (m : ℕ) (octets message : List ℕ) (acts : List Act) (written : ℕ)
      → (cause ≡ None → 20 * length octets ≤ MOST_OCTETS * length message) → given_unless cause m octets ≡ Gives acts written → 20 * written ≤ MOST_OCTETS * length message
  few_written None m octets message acts written few is = let same : length octets ≡ written = cc in let fits : 20 * length octets ≤ MOST_OCTETS * length message = few refl in omega arith
  few_written (Some cause) m octets message acts written few is = let no : ⊥ = cc in absurd no

  copied_few : (message : List ℕ) (acts : List Act) (written : ℕ) → given_whole message ≡ Gives acts written → 20 * written ≤ MOST_OCTETS * length message
  copied_few message acts written is = let same : length message ≡ written = cc in omega arith

  copied_ends : (message : List ℕ) (outcome : Outcome) → given_whole message ≡ Ends outcome → is_of_message outcome ≡ true
  copied_ends message outcome is = let no : ⊥ = cc in absurd no

  demoting_lawful : IsLawfulCommand (demoting matching keep any table)
  demoting_lawful = record {
    few_first = λ place message acts written h is. copied_few message acts written is;
    few_second = λ place message acts written h is.
        few_written (demoted_cause table matching keep any message) place.message (demoted_fields table matching keep message) message acts written (few_fields message h) is;
    ends_first = λ place message outcome is. copied_ends message outcome is;
    ends_second = λ place message outcome is. unless_ends (demoted_cause table matching keep any message) place.message (demoted_fields table matching keep message) outcome is;
  }

  pub demote_lawful : IsLawfulCommand (demote_command matching keep any table)
  demote_lawful = reading_lawful (demoting matching keep any table) demoting_lawful
