-- `migrate`: each message of edition 1 as one of edition 2, by the rows of a parameter table and of a table of surfaces.
use Rattle.std.proofs.Common.{◌≡◌, ℕ, ◌+◌, ◌-◌, ◌*◌, ◌<◌, ◌≤◌, Bool, true, false, ◌&&◌, nat_lt, None, option_map, List, [], ◌∷◌, length, drop, All, sym, ap, arith, ⊎_elim, ltb-true, length-take, length-drop}
use Rattle.std.proofs.lemmas.Bool.{cases_Bool}
use Rattle.std.proofs.lemmas.List.Elements.{All-nil, All-cons}
use Rattle.grib_base.specs.Rules.{choose}
use Rattle.grib_base.specs.declared.limits.TheConstants.{MOST_OCTETS}
use Rattle.grib_bits.specs.Octets.{octet_list, octets}
use Rattle.grib_bits.proofs.Logic.{left_true, right_true}
use Rattle.grib_reasons.specs.declared.cause.Cause.TheVariants.{Lost}
use Rattle.grib1_sections.specs.Acceptance.{identification}
use Rattle.grib1_sections.specs.Message.{IsMessage1}
use Rattle.grib1_sections.proofs.Joined.{message_sections_pass}
use Rattle.grib_base.specs.declared.profile.Profile.TheVariants.{Stated}
use Rattle.grib2_message.proofs.Parted.{message_most}
use Rattle.grib_params.specs.Surfaces.{SurfaceEntries}
use Rattle.grib_params.specs.Table.{Entries}
use Rattle.grib_migrate.specs.declared.labels.Local.{Local}
use Rattle.grib_migrate.specs.Losses.{first_loss_with}
use Rattle.grib_migrate.specs.Migrated.{migrated_with}
use Rattle.grib_migrate_law.proofs.Migrated.{chosen_is_message}
use Rattle.grib_stream.specs.declared.outcome.Outcome.{Outcome}
use Rattle.grib_stream.specs.Acts.{Act}
use Rattle.grib_stream.specs.Outcomes.{is_of_message}
use Rattle.grib_stream.specs.Task.{Gives, Ends}
use Rattle.grib_command.specs.declared.ending.Ending.TheVariants.{Written}
use Rattle.grib_command.specs.Command.{Command, IsLawfulCommand, given_whole, given_unless}
use Rattle.grib_command.specs.LawfulCommands.{unless_few, unless_ends, unmapped}

-- octets are less than 256
abbrev pub are_octets : List ℕ → Bool
are_octets [] = true
are_octets (octet ∷ octets) = nat_lt octet 256 && are_octets octets

-- A message of edition 1 is migrated, and one of edition 2 is copied. Of what are no octets nothing is written.
abbrev pub migrate_command : Local → Entries → SurfaceEntries → Command
migrate_command local table surfaces = record {
  first = λ place message.
      choose (are_octets message)
      (λ _. given_unless (option_map Lost (first_loss_with table surfaces local message)) place.message (migrated_with table surfaces local message))
      (λ _. Gives [] 0);
  second = λ place message. given_whole message;
  ending = Written;
  uses_shelf = false;
  hears = false;
  profile = Stated;
}

-- ---- it is lawful

pub all_octets : (xs : List ℕ) → are_octets xs ≡ true → All (λ octet. octet < 256) xs
all_octets [] h = All-nil (λ octet. octet < 256)
all_octets (x ∷ xs) h =
    All-cons (λ octet. octet < 256) x xs (ltb-true x 256 (left_true (nat_lt x 256) (are_octets xs) h))
    (all_octets xs (right_true (nat_lt x 256) (are_octets xs) h))

piece_short : (m : List ℕ) (p q : ℕ) → length (octet_list m p q) ≤ length m
piece_short m p q = omega (arith, length-take (q + 1 - p) (drop (p - 1) m), length-drop (p - 1) m)

first_least : (m : List ℕ) → IsMessage1 m → 20 ≤ length m
first_least m h =
    let long = (message_sections_pass m h).identification_stands.long in
    let most : length (identification m) ≤ length m = piece_short m 9 (9 - 1 + octets m 9 (9 + 2)) in
    omega arith

module _ (local : Local) (table : Entries) (surfaces : SurfaceEntries) where
  chosen_few : (m : ℕ) (message : List ℕ) (acts : List Act) (written : ℕ) → IsMessage1 message
      → choose (are_octets message) (λ _. given_unless (option_map Lost (first_loss_with table surfaces local message)) m (migrated_with table surfaces local message)) (λ _. Gives [] 0) ≡ Gives acts written
      → 20 * written ≤ MOST_OCTETS * length message
  chosen_few m message acts written h is =
      ⊎_elim
      (λ (yes : are_octets message ≡ true).
      let own = ap (λ b. choose b (λ _. given_unless (option_map Lost (first_loss_with table surfaces local message)) m (migrated_with table surfaces local message)) (λ _. Gives [] 0)) (sym yes) in
      let gives : given_unless (option_map Lost (first_loss_with table surfaces local message)) m (migrated_with table surfaces local message) ≡ Gives acts written = cc in
      let few : (option_map Lost (first_loss_with table surfaces local message) ≡ None → length (migrated_with table surfaces local message) ≤ MOST_OCTETS) =
      λ none. message_most Stated (migrated_with table surfaces local message)
      (chosen_is_message table surfaces local message (record { accepted = h; small = all_octets message yes; kept = unmapped Lost (first_loss_with table surfaces local message) none })) in
      let most = unless_few (option_map Lost (first_loss_with table surfaces local message)) m (migrated_with table surfaces local message) acts written few gives in
      omega (arith, first_least message h))
      (λ (no : are_octets message ≡ false).
      let own = ap (λ b. choose b (λ _. given_unless (option_map Lost (first_loss_with table surfaces local message)) m (migrated_with table surfaces local message)) (λ _. Gives [] 0)) (sym no) in
      let none : Gives [] 0 ≡ Gives acts written = cc in
      let zero_written : 0 ≡ written = cc in
      omega arith)
      (cases_Bool (are_octets message))

  chosen_ends : (m : ℕ) (message : List ℕ) (outcome : Outcome)
      → choose (are_octets message) (λ _. given_unless (option_map Lost (first_loss_with table surfaces local message)) m (migrated_with table surfaces local message)) (λ _. Gives [] 0) ≡ Ends outcome
      → is_of_message outcome ≡ true
  chosen_ends m message outcome is =
      ⊎_elim
      (λ (yes : are_octets message ≡ true).
      let own = ap (λ b. choose b (λ _. given_unless (option_map Lost (first_loss_with table surfaces local message)) m (migrated_with table surfaces local message)) (λ _. Gives [] 0)) (sym yes) in
      let ends : given_unless (option_map Lost (first_loss_with table surfaces local message)) m (migrated_with table surfaces local message) ≡ Ends outcome = cc in
      unless_ends (option_map Lost (first_loss_with table surfaces local message)) m (migrated_with table surfaces local message) outcome ends)
      (λ (no : are_octets message ≡ false).
      let own = ap (λ b. choose b (λ _. given_unless (option_map Lost (first_loss_with table surfaces local message)) m (migrated_with table surfaces local message)) (λ _. Gives [] 0)) (sym no) in
      let none : Gives [] 0 ≡ Ends outcome = cc in
      let false_ends : ⊥ = cc in absurd false_ends)
      (cases_Bool (are_octets message))

  copied_few : (message : List ℕ) (acts : List Act) (written : ℕ) → given_whole message ≡ Gives acts written → 20 * written ≤ MOST_OCTETS * length message
  copied_few message acts written is = let same : length message ≡ written = cc in omega arith

  copied_ends : (message : List ℕ) (outcome : Outcome) → given_whole message ≡ Ends outcome → is_of_message outcome ≡ true
  copied_ends message outcome is = let no : ⊥ = cc in absurd no

  pub migrate_lawful : IsLawfulCommand (migrate_command local table surfaces)
  migrate_lawful = record {
    few_first = λ place message acts written h is. chosen_few place.message message acts written h is;
    few_second = λ place message acts written h is. copied_few message acts written is;
    ends_first = λ place message outcome is. chosen_ends place.message message outcome is;
    ends_second = λ place message outcome is. copied_ends message outcome is;
  }
