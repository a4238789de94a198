-- Commands whose results do not hang on the place of a message, but for the number of one that
-- cannot be changed.
use Rattle.std.proofs.Common.{◌≡◌, ◌⊎◌, inl, inr, ℕ, Bool, true, false, Option, Some, None, option_map, List, [], ◌==◌, length, refl, sym, ap, ◌∙◌}
use Rattle.grib_base.specs.Rules.{choose}
use Rattle.grib2_sections.specs.Head.{edition}
use Rattle.grib_reasons.specs.declared.cause.Cause.{Cause}
use Rattle.grib_reasons.specs.declared.cause.Cause.TheVariants.{EditionOne, EditionTwo, Lost, Packing}
use Rattle.grib_packing.specs.Packing.{packing_template}
use Rattle.grib2_message.specs.Fields.{part_octets}
use Rattle.grib2_message.specs.Message.{first_opaque}
use Rattle.grib1_select.specs.declared.condition.Change1.{Change1}
use Rattle.grib1_select.specs.declared.condition.Wanted1.{Wanted1}
use Rattle.grib1_select.specs.Changed.{with_keys1}
use Rattle.grib_dates.specs.declared.rule.Dates.{Dates}
use Rattle.grib_params.specs.Surfaces.{SurfaceEntries}
use Rattle.grib_params.specs.Table.{Entries}
use Rattle.grib_migrate.specs.declared.labels.Local.{Local}
use Rattle.grib_migrate.specs.Losses.{first_loss_with}
use Rattle.grib_migrate.specs.Migrated.{migrated_with}
use Rattle.grib_stream.specs.declared.outcome.Outcome.{Outcome}
use Rattle.grib_stream.specs.declared.place.Place.{Place}
use Rattle.grib_stream.specs.Acts.{Act, writes}
use Rattle.grib_stream.specs.Cutting.{StandsAlone, renumbered}
use Rattle.grib_stream.specs.Task.{Given, Gives, Ends}
use Rattle.grib_command.specs.Command.{Command, given, given_unless, given_readable, given_whole, kept_at, changing_unless, reading_values, task}
use Rattle.grib_params.specs.declared.matching.TableMatch.{TableMatch}
use Rattle.grib_edit.specs.Demoting.{demoted_cause, demoted_fields, demote_command}
use Rattle.grib_edit.specs.Choosing.{chosen_of, choosing}
use Rattle.grib_edit.specs.Filtering1.{filtered1, filter1_command}
use Rattle.grib_edit.specs.Setting1.{set1_cause, set1_command}
use Rattle.grib_edit.specs.Migrating.{are_octets, migrate_command}

-- what is given at each place is the same, or the message cannot be changed there by the same cause
abbrev pub IsFixed : (Place → Given) → Type 0
IsFixed given =
    ((acts : List Act) × (written : ℕ) × ((place : Place) → given place ≡ Gives acts written))
    ⊎ ((cause : Cause) × ((place : Place) → given place ≡ Ends (kept_at place.message cause)))

gives_fixed : (acts : List Act) (written : ℕ) → IsFixed (λ place. Gives acts written)
gives_fixed acts written = inl (acts, written, λ place. refl)

kept_fixed : (cause : Cause) → IsFixed (λ place. Ends (kept_at place.message cause))
kept_fixed cause = inr (cause, λ place. refl)

unless_fixed : (cause : Option Cause) (octets : List ℕ) → IsFixed (λ place. given_unless cause place.message octets)
unless_fixed None octets = gives_fixed (writes octets) (length octets)
unless_fixed (Some cause) octets = kept_fixed cause

-- what reads values, where this field is the first of an opaque packing
readable_fixed : (opaque : Option ℕ) (message : List ℕ) (next : Place → Given) → IsFixed next → IsFixed (λ place. given_readable opaque message place (λ _. next place))
readable_fixed None message next fixed = fixed
readable_fixed (Some field) message next fixed = kept_fixed (Packing (packing_template (part_octets message field 5)) field)

either_fixed : (b : Bool) (first second : Place → Given) → IsFixed first → IsFixed second → IsFixed (λ place. choose b (λ _. first place) (λ _. second place))
either_fixed true first second one two = one
either_fixed false first second one two = two

-- a command is so for every message
abbrev pub Fixed : Command → Type 0
Fixed command = (message : List ℕ) → IsFixed (λ place. given command place message)

by_edition : (command : Command) → ((message : List ℕ) → IsFixed (λ place. command.first place message))
    → ((message : List ℕ) → IsFixed (λ place. command.second place message)) → Fixed command
by_edition command first second message =
    either_fixed (edition message == 1) (λ place. command.first place message) (λ place. command.second place message) (first message) (second message)

pub changing_fixed : (cause : List ℕ → Option Cause) (octets : List ℕ → List ℕ) → Fixed (changing_unless cause octets)
changing_fixed cause octets = by_edition (changing_unless cause octets) (λ message. kept_fixed EditionOne) (λ message. unless_fixed (cause message) (octets message))

pub values_fixed : (cause : List ℕ → Option Cause) (octets : List ℕ → List ℕ) → Fixed (reading_values (changing_unless cause octets))
values_fixed cause octets =
    by_edition (reading_values (changing_unless cause octets)) (λ message. kept_fixed EditionOne)
    (λ message.
    readable_fixed (first_opaque message) message (λ place. given_unless (cause message) place.message (octets message)) (unless_fixed (cause message) (octets message)))

whole_fixed : (octets : List ℕ) → IsFixed (λ place. given_whole octets)
whole_fixed octets = gives_fixed (writes octets) (length octets)

pub choosing_fixed : (chosen : List ℕ → ℕ → Bool) → Fixed (choosing chosen)
choosing_fixed chosen = by_edition (choosing chosen) (λ message. kept_fixed EditionOne) (λ message. whole_fixed (chosen_of (chosen message) message))

pub filter1_fixed : (conditions : List Wanted1) → Fixed (filter1_command conditions)
filter1_fixed conditions = by_edition (filter1_command conditions) (λ message. whole_fixed (filtered1 conditions message)) (λ message. whole_fixed [])

pub set1_fixed : (dates : Dates) (changes : List Change1) → Fixed (set1_command dates changes)
set1_fixed dates changes =
    by_edition (set1_command dates changes)
    (λ message. unless_fixed (set1_cause dates changes message) (with_keys1 message changes))
    (λ message. kept_fixed EditionTwo)

pub migrate_fixed : (local : Local) (table : Entries) (surfaces : SurfaceEntries) → Fixed (migrate_command local table surfaces)
migrate_fixed local table surfaces =
    by_edition (migrate_command local table surfaces)
    (λ message.
    either_fixed (are_octets message) (λ place. given_unless (option_map Lost (first_loss_with table surfaces local message)) place.message (migrated_with table surfaces local message)) (λ place. Gives [] 0)
    (unless_fixed (option_map Lost (first_loss_with table surfaces local message)) (migrated_with table surfaces local message)) (gives_fixed [] 0))
    whole_fixed

pub demote_fixed : (matching : TableMatch) (keep any : Bool) (table : Entries) → Fixed (demote_command matching keep any table)
demote_fixed matching keep any table =
    by_edition (demote_command matching keep any table) whole_fixed
    (λ message.
    readable_fixed (first_opaque message) message (λ place. given_unless (demoted_cause table matching keep any message) place.message (demoted_fields table matching keep message))
    (unless_fixed (demoted_cause table matching keep any message) (demoted_fields table matching keep message)))

-- ---- so each message is answered by itself

gives_again : (given : Place → Given) → IsFixed given → (place other : Place) (acts : List Act) (written : ℕ) → given place ≡ Gives acts written → given other ≡ Gives acts written
gives_again given (inl (own, count, always)) place other acts written is = always other ∙ (sym (always place) ∙ is)
gives_again given (inr (cause, always)) place other acts written is = let kept = always place in let no : ⊥ = cc in absurd no

ends_again : (given : Place → Given) → IsFixed given → (place other : Place) (outcome : Outcome) → given place ≡ Ends outcome
    → given other ≡ Ends (renumbered (λ number. other.message) outcome)
ends_again given (inl (own, count, always)) place other outcome is = let gives = always place in let no : ⊥ = cc in absurd no
ends_again given (inr (cause, always)) place other outcome is =
    let kept = always place in
    let same : kept_at place.message cause ≡ outcome = cc in
    always other ∙ ap (λ o. Ends (renumbered (λ number. other.message) o)) same

pub stands_alone : (command : Command) → Fixed command → StandsAlone (task command)
stands_alone command fixed = record {
  gives = λ place other message acts written is. gives_again (λ place. given command place message) (fixed message) place other acts written is;
  ends = λ place other message outcome is. ends_again (λ place. given command place message) (fixed message) place other outcome is;
}
