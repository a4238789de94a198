-- What each command writes for one message.
use Rattle.std.proofs.Common.{◌≡◌, ◌≢◌, ℕ, suc, ◌<◌, ◌==◌, ◌&&◌, Bool, true, false, cond, is_none, Option, Some, None, option_map, ◌≤◌, List, [], ◌∷◌, ◌++◌, All, AllPairs, refl, sym, ap, ◌∙◌, subst, arith, ⊎_elim, lt-ltb, eqb-true, append_assoc}
use Rattle.std.specs.List.{range_with_len}
use Rattle.std.specs.Option.{option_or}
use Rattle.std.proofs.lemmas.Bool.{cases_Bool, false≢true, eq-eqb}
use Rattle.std.proofs.lemmas.List.Elements.{All-nil, All-cons, All-head, All-tail, All-from_get_or}
use Rattle.grib_base.specs.Rules.{choose, or_later}
use Rattle.grib_base.specs.declared.profile.Profile.{Profile}
use Rattle.grib_base.specs.declared.profile.Profile.TheVariants.{Stated, Open}
use Rattle.grib_reasons.specs.declared.cause.Cause.{Cause}
use Rattle.grib_reasons.specs.declared.cause.Cause.TheVariants.{KeyRange1, Lost}
use Rattle.grib_keys.specs.declared.condition.Change.{Change}
use Rattle.grib_keys.specs.declared.key.Key.{Key}
use Rattle.grib1_sections.specs.Message.{IsMessage1}
use Rattle.grib1_select.specs.declared.condition.Change1.{Change1}
use Rattle.grib1_select.specs.declared.condition.Wanted1.{Wanted1}
use Rattle.grib1_select.specs.Changed.{with_keys1, set_fault1}
use Rattle.grib1_select.specs.Values.{fulfils_all1}
use Rattle.grib_dates.specs.declared.rule.Dates.{Dates}
use Rattle.grib_dates.specs.declared.rule.Dates.TheVariants.{Any, Valid}
use Rattle.grib_dates.specs.Times.{is_valid_time1, is_valid_time2}
use Rattle.grib_select.specs.declared.changing.SetFault.{SetFault}
use Rattle.grib_select.specs.declared.changing.SetFault.TheVariants.{KeyRange, KeyAbsent, Memory}
use Rattle.grib_select.specs.Changed.{new_number, with_keys, first_without, change_fault, set_fault}
use Rattle.grib_select.specs.Values.{key_value_of}
use Rattle.grib2_sections.specs.Head.{edition}
use Rattle.grib2_message.specs.Message.{IsMessage, IsMessageUnder, first_opaque}
use Rattle.grib2_message.proofs.FirstOpaque.{none_opaque}
use Rattle.grib2_message.proofs.Opened.{any_message}
use Rattle.grib2_message.specs.Fields.{field_count}
use Rattle.grib_packing.specs.Written.{IsTarget}
use Rattle.grib_params.specs.Surfaces.{SurfaceEntries}
use Rattle.grib_params.specs.Table.{Entries}
use Rattle.grib_migrate.specs.declared.labels.Local.{Local}
use Rattle.grib_migrate.specs.Losses.{first_loss_with}
use Rattle.grib_migrate.specs.Migrated.{migrated_with}
use Rattle.grib_migrate_law.specs.Source.{MayBeMigratedWith}
use Rattle.grib_migrate_law.proofs.Migrated.{chosen_is_message, chosen_one_field, chosen_meaning}
use Rattle.grib_packing.specs.declared.target.RepackTarget.{RepackTarget}
use Rattle.grib_packing.specs.Targets.{target_of}
use Rattle.grib_repack.specs.Repacked.{HasPacking, MayBeRepacked, repacked, repack_misfit}
use Rattle.grib_stream.specs.declared.place.Place.{Place}
use Rattle.grib_stream.specs.Acts.{Act, Writes, Makes, Adds, writes, written}
use Rattle.grib_stream.specs.Stream.{Found}
use Rattle.grib_stream.specs.Task.{Given, Gives}
use Rattle.grib_command.specs.Command.{Command, given, given_readable, given_unless, under}
use Rattle.grib_edit.specs.Choosing.{all_chosen, chosen_of, choosing}
use Rattle.grib_edit.specs.Filtering1.{filtered1, filter1_command}
use Rattle.grib_edit.specs.Migrating.{are_octets, migrate_command}
use Rattle.grib_edit.specs.Repacking.{cause_of, repack_command}
use Rattle.grib_edit.specs.Setting.{date_cause, set_cause, set_command}
use Rattle.grib_edit.specs.Setting1.{set1_command}
use Rattle.grib_run_law.specs.Same.{SameValues, SameMigrated, SetsKeys, SetsKeys1, ArePicked, IsFiltered1, IfOctets}
use Rattle.grib_run_law.proofs.Accepting.{IsAccepted}
use Rattle.grib_run_law.proofs.Picking.{CutsOut, picked_by, by_bool, picked_bool}

-- ---- what acts write

pub written_join : (xs ys : List Act) → written (xs ++ ys) ≡ written xs ++ written ys
written_join [] ys = refl
written_join (Writes octet ∷ xs) ys = ap (λ octets. octet ∷ octets) (written_join xs ys)
written_join (Makes name ∷ xs) ys = written_join xs ys
written_join (Adds name octet ∷ xs) ys = written_join xs ys

pub written_of : (octets : List ℕ) → written (writes octets) ≡ octets
written_of [] = refl
written_of (octet ∷ octets) = ap (λ xs. octet ∷ xs) (written_of octets)

-- the octets that a result writes
wrote : (octets : List ℕ) (count : ℕ) (acts : List Act) (more : ℕ) → Gives (writes octets) count ≡ Gives acts more → octets ≡ written acts
wrote octets count acts more is = let same : writes octets ≡ acts = cc in sym (written_of octets) ∙ ap written same

-- where a message can be changed as asked, its result is this
unless_wrote : (cause : Option Cause) (m : ℕ) (octets : List ℕ) (acts : List Act) (more : ℕ) → given_unless cause m octets ≡ Gives acts more → (cause ≡ None) × (octets ≡ written acts)
unless_wrote None m octets acts more is = (refl, wrote octets _ acts more is)
unless_wrote (Some cause) m octets acts more is = let no : ⊥ = cc in absurd no

unmapped : {X Y : Type 0} (f : X → Y) (x : Option X) → option_map f x ≡ None → x ≡ None
unmapped f None is = refl
unmapped f (Some x) is = let no : ⊥ = cc in absurd no

-- what a command writes for each message of which it has a result
abbrev pub WritesEach : (List ℕ → List ℕ → Type 0) → Command → Type 0
WritesEach Is command = (place : Place) (found : Found) (acts : List Act) (more : ℕ) → IsAccepted command.profile found → given command place found.octets ≡ Gives acts more
    → Is found.octets (written acts)

-- what reads the values of a message has a result of one that can be read
read_wrote : (opaque : Option ℕ) (message : List ℕ) (place : Place) (next : Unit {0} → Given) (acts : List Act) (more : ℕ) → given_readable opaque message place next ≡ Gives acts more
    → (opaque ≡ None) × (next tt ≡ Gives acts more)
read_wrote None message place next acts more is = (refl, is)
read_wrote (Some field) message place next acts more is = let no : ⊥ = cc in absurd no

-- ---- `repack`

module _ (profile : Profile) (target : RepackTarget) (law : (message : List ℕ) → MayBeRepacked profile (target_of target) message → SameValues profile message (repacked (target_of target) message)) (stands : IsTarget (target_of target)) (has : HasPacking profile (target_of target)) where
  repack_by : (b : Bool) (place : Place) (found : Found) (acts : List Act) (more : ℕ) → IsAccepted profile found → (edition found.octets == 1) ≡ b
      → choose b (λ _. (repack_command target).first place found.octets) (λ _. (repack_command target).second place found.octets) ≡ Gives acts more
      → IfOctets (SameValues profile) found.octets (written acts)
  repack_by true place found acts more accepted one is = let no : ⊥ = cc in absurd no
  repack_by false place found acts more accepted not_one is = λ small.
      let read = read_wrote (first_opaque found.octets) found.octets place
      (λ _. given_unless (option_map cause_of (repack_misfit (target_of target) found.octets)) place.message (repacked (target_of target) found.octets)) acts more is in
      let (none, same) = unless_wrote (option_map cause_of (repack_misfit (target_of target) found.octets)) place.message (repacked (target_of target) found.octets) acts more read.1 in
      subst (SameValues profile found.octets) same
      (law found.octets
      (record { accepted = accepted.second not_one; readable = none_opaque found.octets read.0; are_octets = small; target_stands = stands; packing = has; fits = unmapped cause_of (repack_misfit (target_of target) found.octets) none }))

  pub repack_each : WritesEach (IfOctets (SameValues profile)) (under profile (repack_command target))
  repack_each place found acts more accepted is = repack_by (edition found.octets == 1) place found acts more accepted refl is

-- ---- `migrate`

are_small : (xs : List ℕ) → All (λ octet. octet < 256) xs → are_octets xs ≡ true
are_small [] all = refl
are_small (x ∷ xs) all =
    ap (λ b. b && are_octets xs) (lt-ltb x 256 (All-head (λ octet. octet < 256) x xs all)) ∙ are_small xs (All-tail (λ octet. octet < 256) x xs all)

-- a message that the stated profile accepts is accepted by each
accepted_by : (profile : Profile) (message : List ℕ) → IsMessage message → IsMessageUnder profile message
accepted_by Stated message accepted = accepted
accepted_by Open message accepted = any_message Stated message accepted

module _ (profile : Profile) (local : Local) (table : Entries) (surfaces : SurfaceEntries) where
  own_first : (message : List ℕ) → (edition message == 1) ≡ true → MayBeMigratedWith table surfaces local message → SameMigrated profile message (migrated_with table surfaces local message)
  own_first message one may = record {
    accepted = accepted_by profile (migrated_with table surfaces local message) (chosen_is_message table surfaces local message may);
    one_field = λ e. chosen_one_field table surfaces local message may;
    points = λ e. chosen_meaning table surfaces local message may;
    copied = λ other. absurd (other (eqb-true (edition message) 1 one));
  }

  own_other : (message : List ℕ) → (edition message == 1) ≡ false → IsMessageUnder profile message → SameMigrated profile message message
  own_other message not_one accepted =
      let never : (edition message ≡ 1 → ⊥) = λ e. false≢true (sym not_one ∙ eq-eqb (edition message) 1 e) in
      record { accepted = accepted; one_field = λ e. absurd (never e); points = λ e. absurd (never e); copied = λ other. refl }

  migrate_first : (b : Bool) (m : ℕ) (found : Found) (acts : List Act) (more : ℕ) → IsAccepted profile found → All (λ octet. octet < 256) found.octets → (edition found.octets == 1) ≡ true → b ≡ true
      → choose b (λ _. given_unless (option_map Lost (first_loss_with table surfaces local found.octets)) m (migrated_with table surfaces local found.octets)) (λ _. Gives [] 0) ≡ Gives acts more
      → SameMigrated profile found.octets (written acts)
  migrate_first false m found acts more accepted small one are is = let no : ⊥ = cc in absurd no
  migrate_first true m found acts more accepted small one are is =
      let (none, same) = unless_wrote (option_map Lost (first_loss_with table surfaces local found.octets)) m (migrated_with table surfaces local found.octets) acts more is in
      subst (SameMigrated profile found.octets) same
      (own_first found.octets one (record { accepted = accepted.first one; small = small; kept = unmapped Lost (first_loss_with table surfaces local found.octets) none }))

  migrate_by : (b : Bool) (place : Place) (found : Found) (acts : List Act) (more : ℕ) → IsAccepted profile found → (edition found.octets == 1) ≡ b
      → choose b (λ _. (migrate_command local table surfaces).first place found.octets) (λ _. (migrate_command local table surfaces).second place found.octets) ≡ Gives acts more
      → IfOctets (SameMigrated profile) found.octets (written acts)
  migrate_by true place found acts more accepted one is = λ small. migrate_first (are_octets found.octets) place.message found acts more accepted small one (are_small found.octets small) is
  migrate_by false place found acts more accepted not_one is = λ small.
      subst (SameMigrated profile found.octets) (wrote found.octets _ acts more is) (own_other found.octets not_one (accepted.second not_one))

  pub migrate_each : WritesEach (IfOctets (SameMigrated profile)) (under profile (migrate_command local table surfaces))
  migrate_each place found acts more accepted is = migrate_by (edition found.octets == 1) place found acts more accepted refl is

-- ---- `set`

-- no change is at fault for lack of memory
without_key : (message : List ℕ) (key : Key) (fields : List ℕ) → first_without message key fields ≢ Some Memory
without_key message key [] is = let no : ⊥ = cc in absurd no
without_key message key (i ∷ fields) is =
    ⊎_elim
    (λ (lacks : is_none (key_value_of message i key) ≡ true).
    let own : first_without message key (i ∷ fields) ≡ Some (KeyAbsent i key) = ap (λ b. cond b (Some (KeyAbsent i key)) (first_without message key fields)) lacks in
    let no : ⊥ = cc in absurd no)
    (λ (has : is_none (key_value_of message i key) ≡ false).
    let later : first_without message key (i ∷ fields) ≡ first_without message key fields = ap (λ b. cond b (Some (KeyAbsent i key)) (first_without message key fields)) has in
    without_key message key fields (sym later ∙ is))
    (cases_Bool (is_none (key_value_of message i key)))

of_change : (message : List ℕ) (change : Change) → change_fault message change ≢ Some Memory
of_change message change is =
    let fields = range_with_len 1 (field_count message) in
    ⊎_elim
    (λ (large : is_none (new_number change) ≡ true).
    let own : change_fault message change ≡ Some (KeyRange change.key) =
    ap (λ b. choose b (λ _. Some (KeyRange change.key)) (λ _. first_without message change.key fields)) large in
    let no : ⊥ = cc in absurd no)
    (λ (fits : is_none (new_number change) ≡ false).
    let own : change_fault message change ≡ first_without message change.key fields =
    ap (λ b. choose b (λ _. Some (KeyRange change.key)) (λ _. first_without message change.key fields)) fits in
    without_key message change.key fields (sym own ∙ is))
    (cases_Bool (is_none (new_number change)))

of_first : (first : Option SetFault) (later : Unit {0} → Option SetFault) → first ≢ Some Memory → later tt ≢ Some Memory → or_later first later ≢ Some Memory
of_first None later own rest is = rest is
of_first (Some fault) later own rest is = own is

never_memory : (message : List ℕ) (changes : List Change) → set_fault message changes ≢ Some Memory
never_memory message [] is = let no : ⊥ = cc in absurd no
never_memory message (change ∷ changes) is =
    of_first (change_fault message change) (λ _. set_fault message changes) (of_change message change) (never_memory message changes) is

no_fault : (fault : Option SetFault) → fault ≢ Some Memory → set_cause fault ≡ None → fault ≡ None
no_fault None never none = refl
no_fault (Some (KeyRange key)) never none = let no : ⊥ = cc in absurd no
no_fault (Some (KeyAbsent field key)) never none = let no : ⊥ = cc in absurd no
no_fault (Some Memory) never none = absurd (never refl)

-- where there is no cause, there is none of either kind
neither_cause : (first second : Option Cause) → option_or first second ≡ None → (first ≡ None) × (second ≡ None)
neither_cause None second is = (refl, is)
neither_cause (Some cause) second is = let no : ⊥ = cc in absurd no

dated : (dates : Dates) (valid : Bool) → date_cause dates valid ≡ None → dates ≡ Valid → valid ≡ true
dated Any valid none is = let no : ⊥ = cc in absurd no
dated Valid true none is = refl
dated Valid false none is = let no : ⊥ = cc in absurd no

module _ (profile : Profile) (dates : Dates) (changes : List Change) (law : (message : List ℕ) → IsMessageUnder profile message → set_fault message changes ≡ None → (dates ≡ Valid → is_valid_time2 (with_keys message changes) ≡ true) → SetsKeys profile dates changes message (with_keys message changes)) where
  set_by : (b : Bool) (place : Place) (found : Found) (acts : List Act) (more : ℕ) → IsAccepted profile found → (edition found.octets == 1) ≡ b
      → choose b (λ _. (set_command dates changes).first place found.octets) (λ _. (set_command dates changes).second place found.octets) ≡ Gives acts more
      → SetsKeys profile dates changes found.octets (written acts)
  set_by true place found acts more accepted one is = let no : ⊥ = cc in absurd no
  set_by false place found acts more accepted not_one is =
      let octets = found.octets in
      let fault = set_cause (set_fault octets changes) in
      let date = date_cause dates (is_valid_time2 (with_keys octets changes)) in
      let (none, same) = unless_wrote (option_or fault date) place.message (with_keys octets changes) acts more is in
      let (no_fault_there, no_date) = neither_cause fault date none in
      subst (SetsKeys profile dates changes octets) same
      (law octets (accepted.second not_one) (no_fault (set_fault octets changes) (never_memory octets changes) no_fault_there)
      (dated dates (is_valid_time2 (with_keys octets changes)) no_date))

  pub set_each : WritesEach (SetsKeys profile dates changes) (under profile (set_command dates changes))
  set_each place found acts more accepted is = set_by (edition found.octets == 1) place found acts more accepted refl is

-- ---- `set` of edition 1

module _ (profile : Profile) (dates : Dates) (changes : List Change1) (law : (message : List ℕ) → All (λ octet. octet < 256) message → IsMessage1 message → set_fault1 changes ≡ None → (dates ≡ Valid → is_valid_time1 (with_keys1 message changes) ≡ true) → SetsKeys1 dates changes message (with_keys1 message changes)) where
  set1_by : (b : Bool) (place : Place) (found : Found) (acts : List Act) (more : ℕ) → IsAccepted profile found → (edition found.octets == 1) ≡ b
      → choose b (λ _. (set1_command dates changes).first place found.octets) (λ _. (set1_command dates changes).second place found.octets) ≡ Gives acts more
      → IfOctets (SetsKeys1 dates changes) found.octets (written acts)
  set1_by true place found acts more accepted one is = λ small.
      let octets = found.octets in
      let fault = option_map KeyRange1 (set_fault1 changes) in
      let date = date_cause dates (is_valid_time1 (with_keys1 octets changes)) in
      let (none, same) = unless_wrote (option_or fault date) place.message (with_keys1 octets changes) acts more is in
      let (no_fault_there, no_date) = neither_cause fault date none in
      subst (SetsKeys1 dates changes octets) same
      (law octets small (accepted.first one) (unmapped KeyRange1 (set_fault1 changes) no_fault_there) (dated dates (is_valid_time1 (with_keys1 octets changes)) no_date))
  set1_by false place found acts more accepted not_one is = let no : ⊥ = cc in absurd no

  pub set1_each : WritesEach (IfOctets (SetsKeys1 dates changes)) (under profile (set1_command dates changes))
  set1_each place found acts more accepted is = set1_by (edition found.octets == 1) place found acts more accepted refl is

-- what is said of a change behind some and before others is said of each
pub each_split : (P : Change1 → Type 0) (before changes : List Change1)
    → ((front : List Change1) (change : Change1) (behind : List Change1) → before ++ changes ≡ front ++ change ∷ behind → All (λ c. c.key ≢ change.key) behind → P change)
    → AllPairs (λ a b. a.key ≢ b.key) changes → All P changes
each_split P before [] law apart = All-nil P
each_split P before (change ∷ changes) law apart =
    All-cons P change changes (law before change changes refl
    (All-from_get_or (λ c. c.key ≢ change.key) changes change (λ i low same. apart 0 (suc i) change (omega arith) (omega arith) (sym same))))
    (each_split P (before ++ change ∷ []) changes
    (λ front own behind is others. law front own behind (sym (append_assoc before (change ∷ []) changes) ∙ is) others)
    (λ i j d less low. apart (suc i) (suc j) d (omega arith) (omega arith)))

-- ---- `filter`

module _ (profile : Profile) (law : (message : List ℕ) (i : ℕ) → IsMessageUnder profile message → 1 ≤ i → i ≤ field_count message → CutsOut profile message i) (picks : List ℕ → ℕ → Bool) where
  pick_by : (b : Bool) (place : Place) (found : Found) (acts : List Act) (more : ℕ) → IsAccepted profile found → (edition found.octets == 1) ≡ b
      → choose b (λ _. (choosing picks).first place found.octets) (λ _. (choosing picks).second place found.octets) ≡ Gives acts more
      → ArePicked profile picks found.octets (written acts)
  pick_by true place found acts more accepted one is = let no : ⊥ = cc in absurd no
  pick_by false place found acts more accepted not_one is =
      let b = all_chosen (picks found.octets) found.octets in (
        picked_by profile law picks b found.octets,
        sym (wrote (chosen_of (picks found.octets) found.octets) _ acts more is) ∙ by_bool profile law picks b found.octets,
        picked_bool profile law picks b found.octets (accepted.second not_one) refl,
      )

  pub pick_each : WritesEach (ArePicked profile picks) (under profile (choosing picks))
  pick_each place found acts more accepted is = pick_by (edition found.octets == 1) place found acts more accepted refl is

-- ---- `filter` of edition 1

module _ (profile : Profile) (conditions : List Wanted1) where
  filter1_by : (b : Bool) (place : Place) (found : Found) (acts : List Act) (more : ℕ) → (edition found.octets == 1) ≡ b
      → choose b (λ _. (filter1_command conditions).first place found.octets) (λ _. (filter1_command conditions).second place found.octets) ≡ Gives acts more
      → IsFiltered1 conditions found.octets (written acts)
  filter1_by true place found acts more one is =
      sym (wrote (filtered1 conditions found.octets) _ acts more is)
      ∙ ap (λ b. cond (b && fulfils_all1 found.octets conditions) found.octets []) (sym one)
  filter1_by false place found acts more not_one is =
      sym (wrote [] _ acts more is) ∙ ap (λ b. cond (b && fulfils_all1 found.octets conditions) found.octets []) (sym not_one)

  pub filter1_each : WritesEach (IsFiltered1 conditions) (under profile (filter1_command conditions))
  filter1_each place found acts more accepted is = filter1_by (edition found.octets == 1) place found acts more refl is
