-- What a run leaves.
use Rattle.std.proofs.Common.{◌≡◌, ◌≢◌, ℕ, ◌^◌, ◌<◌, ◌≤◌, Bool, true, false, nat_lt, Option, Some, None, IfSome, List, length, take, refl, sym, ap, ◌∙◌, subst, arith, length-append, ltb-false}
use Rattle.std.specs.Io.KnownBytes.{Appends, Consumes, IsAtEnd}
use Rattle.std.proofs.lemmas.Bool.{false≢true}
use Rattle.std.proofs.lemmas.List.{take_all, length-take}
use Rattle.std.proofs.lemmas.List.Elements.{All-take}
use Rattle.grib_base.specs.Rules.{choose}
use Rattle.grib_base.specs.declared.profile.Profile.{Profile}
use Rattle.grib_keys.specs.declared.condition.Change.{Change}
use Rattle.grib_keys.specs.declared.wanted.Wanted.{Wanted}
use Rattle.grib1_select.specs.declared.condition.Change1.{Change1}
use Rattle.grib1_select.specs.declared.condition.Wanted1.{Wanted1}
use Rattle.grib_dates.specs.declared.rule.Dates.{Dates}
use Rattle.grib_names.specs.Table.{NameEntries}
use Rattle.grib_params.specs.Table.{Entries}
use Rattle.grib_packing.specs.declared.target.RepackTarget.{RepackTarget}
use Rattle.grib_migrate.specs.declared.labels.Local.{Local}
use Rattle.grib_params.specs.Surfaces.{SurfaceEntries}
use Rattle.grib_table.specs.declared.together.Tables.{Tables}
use Rattle.grib_table.specs.Together.{Together, AllGood, TableRefused, SurfacesRefused, together}
use Rattle.grib_stream.specs.declared.outcome.Outcome.{Outcome}
use Rattle.grib_stream.specs.declared.outcome.Outcome.TheVariants.{InputTooLong}
use Rattle.grib_stream.specs.Acts.{written, Did, DidFront}
use Rattle.grib_stream.specs.Outcomes.{is_broken, is_whole}
use Rattle.grib_items.specs.declared.policy.Policy.{Policy}
use Rattle.grib_items.specs.Run.{answer_of, answer_within}
use Rattle.grib_items.specs.Steps.{Plan}
use Rattle.grib_command.specs.declared.job.Job.{Job}
use Rattle.grib_command.specs.declared.job.Job.TheVariants.{Check, List as Listing, Keys, Lines, Stats, Dump, Values, Coordinates, Compare, Filter, FilterNamed, Filter1, Split, Set, Set1, Repack, RepackLeast, Rescan, Crop, Within, Migrate, Demote, Make, Print}
use Rattle.grib_command.specs.Command.{Command, under}
use Rattle.grib_command.specs.Jobs.{IsJob, CanChange, CanChange1, is_target}
use Rattle.grib_edit.specs.Filtering.{filter_command}
use Rattle.grib_edit.specs.Filtering1.{filter1_command}
use Rattle.grib_edit.specs.FilteringNamed.{filter_named_command}
use Rattle.grib_edit.specs.Migrating.{migrate_command}
use Rattle.grib_packing.specs.Targets.{target_of}
use Rattle.grib_repack.specs.Repacked.{HasPacking}
use Rattle.grib_edit.specs.Repacking.{repack_command}
use Rattle.grib_edit.specs.Setting.{set_command}
use Rattle.grib_edit.specs.Setting1.{set1_command}
use Rattle.grib_edit.specs.Splitting.{split_command}
use Rattle.grib_run_spec.specs.Seen.{Seen, world_of}
use Rattle.grib_run_spec.specs.Serving.{Gives, Reading, AtOnce, AnswersWork}
use Rattle.grib_run_spec.specs.Stated.{IfTabled, plan_by, stated_by, stated_to}
use Rattle.grib_run_spec.specs.Tasks.{by_names, by_parameters, filtering_named, migrating, work_under}
use Rattle.grib_run_law.specs.Answered.{is_longer, items_answered, items_of}
use Rattle.grib_run_law.specs.Leaving.{AppendsItems, LeavesItems, IfGood, Leaves}
use Rattle.grib_run_law.specs.Same.{SameValues, SameMigrated, SetsKeys, SetsKeys1, IsFiltered, IsFilteredNamed, IsFiltered1, AreOctets, IfOctets}
use Rattle.grib_run_law.specs.Shelved.{PutsParts, LeavesNames}
use Rattle.grib_run_law.specs.Written.{WritesItems, Writes, stated_of}
use Rattle.grib_run_law.proofs.Accepting.{ItemsStand, octets_all}
use Rattle.grib_run_law.proofs.Shelved.{stands_first, stands_all, read_all}
use Rattle.grib_run_law.proofs.Writing.{writes_octets}

-- ---- the answer, as far as an input is answered

within_by : (b : Bool) (limit : ℕ) (plan : Plan) (input : List ℕ) → nat_lt limit (length input) ≡ b
    → choose b (λ _. answer_of plan true (take limit input)) (λ _. answer_of plan false input) ≡ answer_of plan b (take limit input)
within_by true limit plan input is = refl
within_by false limit plan input is = ap (answer_of plan false) (sym (take_all limit input (ltb-false limit (length input) is)))

pub answer_by : (command : Command) (policy : Policy) (input : List ℕ)
    → answer_within (2 ^ 40) (plan_by command policy) input ≡ answer_of (plan_by command policy) (is_longer input) (take (2 ^ 40) input)
answer_by command policy input = within_by (is_longer input) (2 ^ 40) (plan_by command policy) input refl

pub stated_within : (command : Command) (policy : Policy) (input : List ℕ) → stated_to command policy input ≡ stated_of command policy (is_longer input) (take (2 ^ 40) input)
stated_within command policy input = ap (stated_by command.ending) (answer_by command policy input)

-- ---- what is written

pub each_some : {X : Type 0} (P Q : X → Type 0) (x : Option X) → ((x : X) → P x → Q x) → IfSome x P → IfSome x Q
each_some P Q None all is = tt
each_some P Q (Some x) all is = all x is

each_both : {X : Type 0} (P Q R : X → Type 0) (x : Option X) → ((x : X) → P x → Q x → R x) → IfSome x P → IfSome x Q → IfSome x R
each_both P Q R None all first second = tt
each_both P Q R (Some x) all first second = all x first second

-- an input of which no more is left is no longer than what was taken of it
short_by : (left now : Option (List ℕ)) (taken : List ℕ) (Whole : Type 0) → Consumes left now taken → (Whole → IsAtEnd now) → (Whole → length taken ≤ 2 ^ 40)
    → IfSome left (λ input. Whole → length input ≤ 2 ^ 40)
short_by None now taken Whole consumed ended short = tt
short_by (Some input) None taken Whole consumed ended short = absurd consumed
short_by (Some input) (Some rest) taken Whole consumed ended short = λ whole.
    omega (arith, short whole, ap length consumed, length-append taken rest, ap length (ended whole))

not_long : (outcome : Outcome) → is_whole outcome ≡ true → outcome ≢ InputTooLong
not_long outcome whole is = false≢true (sym (ap is_whole is) ∙ whole)

appends : (Is : List ℕ → List ℕ → Type 0) (command : Command) (policy : Policy) (outcome : Outcome) (before now : Seen) (input : List ℕ) → is_broken outcome ≡ false
    → Writes Is command policy (is_longer input) (take (2 ^ 40) input) → Gives (stated_to command policy input) outcome before now
    → (is_whole outcome ≡ true → length input ≤ 2 ^ 40) → AppendsItems Is command policy outcome before now input
appends Is command policy outcome before now input unbroken wrote gives whole =
    let stated = stated_of command policy (is_longer input) (take (2 ^ 40) input) in
    let same = stated_within command policy input in
    record {
      octets = written stated.acts;
      appended = subst (λ acts. Appends before.output now.output (written acts)) (ap (λ s. s.acts) same) (gives.whole unbroken).did.output;
      written = subst (λ o. WritesItems Is command policy o (items_answered command.profile policy input).items (written stated.acts)) (sym (gives.ends unbroken ∙ ap (λ s. s.outcome) same)) wrote;
      whole = whole;
    }

leaves : (Told Is : List ℕ → List ℕ → Type 0) (command : Command) (policy : Policy) (outcome : Outcome) (before now : Seen)
    → ((more : Bool) (octets : List ℕ) → Writes Told command policy more octets)
    → ((more : Bool) (octets : List ℕ) → AreOctets octets → Writes Told command policy more octets → Writes Is command policy more octets)
    → Reading policy outcome before now command → is_broken outcome ≡ false → LeavesItems Told Is command policy outcome before now
leaves Told Is command policy outcome before now wrote of_octets reading unbroken =
    let (taken, takes, took) = reading.taken in
    let short : (is_whole outcome ≡ true → length taken ≤ 2 ^ 40) = λ whole. took.short unbroken (not_long outcome whole) in
    let small = All-take (λ octet. octet < 256) (2 ^ 40) taken takes.small in
    record {
      left = each_both (λ input. Gives (stated_to command policy input) outcome before now) (λ input. is_whole outcome ≡ true → length input ≤ 2 ^ 40)
          (AppendsItems Told command policy outcome before now) before.left
          (λ input gives whole. appends Told command policy outcome before now input unbroken (wrote (is_longer input) (take (2 ^ 40) input)) gives whole) reading.gives
          (short_by before.left now.left taken (is_whole outcome ≡ true) takes.consumed reading.end short);
      taken = (
        taken,
        takes,
        appends Is command policy outcome before now taken unbroken (of_octets (is_longer taken) (take (2 ^ 40) taken) small (wrote (is_longer taken) (take (2 ^ 40) taken))) took.answered short,
      );
    }

-- ---- what stands on a shelf

puts_parts : (profile : Profile) (edition_1 : Bool) (out : List ℕ) (policy : Policy) (outcome : Outcome) (before now : Seen) (input : List ℕ) → Gives (stated_to (under profile (split_command edition_1 out)) policy input) outcome before now
    → PutsParts profile edition_1 out policy outcome before now input
puts_parts profile edition_1 out policy outcome before now input gives =
    let command = under profile (split_command edition_1 out) in
    let same = ap (λ s. s.acts) (stated_within command policy input) in
    let short : length (take (2 ^ 40) input) < 2 ^ 64 = omega (arith, length-take (2 ^ 40) input) in
    record {
      first = stands_first profile edition_1 out policy (is_longer input) (take (2 ^ 40) input) (world_of before) (world_of now) short (subst (DidFront (world_of before) (world_of now)) same gives.front);
      whole = λ unbroken.
          stands_all profile edition_1 out policy (is_longer input) (take (2 ^ 40) input) (world_of before) (world_of now) short (subst (Did (world_of before) (world_of now)) same (gives.whole unbroken).did);
    }

leaves_names : (profile : Profile) (edition_1 : Bool) (out : List ℕ) (policy : Policy) (outcome : Outcome) (before now : Seen) → Reading policy outcome before now (under profile (split_command edition_1 out)) → LeavesNames profile edition_1 out policy outcome before now
leaves_names profile edition_1 out policy outcome before now reading = record {
  left = each_some (λ input. Gives (stated_to (under profile (split_command edition_1 out)) policy input) outcome before now) (PutsParts profile edition_1 out policy outcome before now) before.left
      (puts_parts profile edition_1 out policy outcome before now) reading.gives;
  taken =
      let (taken, takes, took) = reading.taken in (
        taken,
        takes,
        (
          puts_parts profile edition_1 out policy outcome before now taken took.answered,
          λ fault. read_all profile edition_1 out policy taken (world_of before) (world_of now) (omega (arith, took.most)) (took.read_fault fault).did,
        ),
      );
}

-- ---- a job

-- what the commands write, as the laws on them say
pub record WritesAll (profile : Profile) : Type 0 where
  pub repacked : (target : RepackTarget) (policy : Policy) (more : Bool) (octets : List ℕ) → is_target target ≡ true → HasPacking profile (target_of target)
      → Writes (IfOctets (SameValues profile)) (under profile (repack_command target)) policy more octets
  pub migrated : (local : Local) (table : Entries) (surfaces : SurfaceEntries) (policy : Policy) (more : Bool) (octets : List ℕ)
      → Writes (IfOctets (SameMigrated profile)) (under profile (migrate_command local table surfaces)) policy more octets
  pub set : (dates : Dates) (changes : List Change) (policy : Policy) (more : Bool) (octets : List ℕ) → CanChange changes
      → Writes (SetsKeys profile dates changes) (under profile (set_command dates changes)) policy more octets
  pub set1 : (dates : Dates) (changes : List Change1) (policy : Policy) (more : Bool) (octets : List ℕ) → CanChange1 changes
      → Writes (IfOctets (SetsKeys1 dates changes)) (under profile (set1_command dates changes)) policy more octets
  pub filtered : (conditions : List Wanted) (policy : Policy) (more : Bool) (octets : List ℕ) → Writes (IsFiltered profile conditions) (under profile (filter_command conditions)) policy more octets
  pub filtered_named : (conditions : List Wanted) (wanted : List (List ℕ)) (names : NameEntries) (policy : Policy) (more : Bool) (octets : List ℕ)
      → Writes (IsFilteredNamed profile conditions wanted names) (under profile (filter_named_command conditions wanted names)) policy more octets
  pub filtered1 : (conditions : List Wanted1) (policy : Policy) (more : Bool) (octets : List ℕ) → Writes (IsFiltered1 conditions) (under profile (filter1_command conditions)) policy more octets

module _ (profile : Profile) (stand : ItemsStand profile) (write : WritesAll profile) where
  of_octets : (Is : List ℕ → List ℕ → Type 0) (command : Command) (policy : Policy) (more : Bool) (octets : List ℕ) → AreOctets octets
      → Writes (IfOctets Is) (under profile command) policy more octets → Writes Is (under profile command) policy more octets
  of_octets Is command policy more octets small wrote =
      writes_octets Is (under profile command) policy more octets (octets_all profile more octets small (items_of profile policy more octets).items (stand policy more octets)) wrote

  -- by tables that are good
  tabled : (commands : Tables → Command) (Told Is : Tables → List ℕ → List ℕ → Type 0) (policy : Policy) (outcome : Outcome) (before now : Seen)
      → ((tables : Tables) → Reading policy outcome before now (under profile (commands tables)) → LeavesItems (Told tables) (Is tables) (under profile (commands tables)) policy outcome before now)
      → (t : Together) → IfTabled (λ tables. under profile (commands tables)) (Reading policy outcome before now) (AtOnce outcome before now) t
      → IfGood (λ tables. LeavesItems (Told tables) (Is tables) (under profile (commands tables)) policy outcome before now) t
  tabled commands Told Is policy outcome before now by (AllGood tables) reading = by tables reading
  tabled commands Told Is policy outcome before now by (TableRefused refusal) once = tt
  tabled commands Told Is policy outcome before now by (SurfacesRefused refusal) once = tt

  pub job_leaves : (job : Job) (policy : Policy) (outcome : Outcome) (before now : Seen) → IsJob job → AnswersWork (work_under profile job) policy outcome before now → Leaves profile job policy outcome before now
  job_leaves Check policy outcome before now is answers = tt
  job_leaves Listing policy outcome before now is answers = tt
  job_leaves Keys policy outcome before now is answers = tt
  job_leaves Stats policy outcome before now is answers = tt
  job_leaves (Lines form columns names) policy outcome before now is answers = tt
  job_leaves (Dump decimals placed) policy outcome before now is answers = tt
  job_leaves (Values format) policy outcome before now is answers = tt
  job_leaves Coordinates policy outcome before now is answers = tt
  job_leaves (Compare name sections quiet) policy outcome before now is answers = tt
  job_leaves (Filter conditions) policy outcome before now is reading = λ unbroken.
      leaves (IsFiltered profile conditions) (IsFiltered profile conditions) (under profile (filter_command conditions)) policy outcome before now (write.filtered conditions policy)
      (λ more octets small wrote. wrote) reading unbroken
  job_leaves (FilterNamed conditions name wanted) policy outcome before now is (texts, stood, answers) = λ unbroken. (
    texts,
    stood,
    tabled (filtering_named conditions wanted) (λ tables. IsFilteredNamed profile conditions wanted tables.names) (λ tables. IsFilteredNamed profile conditions wanted tables.names) policy outcome before now
        (λ tables reading.
        leaves (IsFilteredNamed profile conditions wanted tables.names) (IsFilteredNamed profile conditions wanted tables.names) (under profile (filtering_named conditions wanted tables)) policy outcome before now
        (write.filtered_named conditions wanted tables.names policy) (λ more octets small wrote. wrote) reading unbroken)
        (together (by_names name) texts) answers,
  )
  job_leaves (Filter1 conditions) policy outcome before now is reading = λ unbroken.
      leaves (IsFiltered1 conditions) (IsFiltered1 conditions) (under profile (filter1_command conditions)) policy outcome before now (write.filtered1 conditions policy)
      (λ more octets small wrote. wrote) reading unbroken
  job_leaves (Split out edition_1) policy outcome before now is reading = leaves_names profile edition_1 out policy outcome before now reading
  job_leaves (Set changes dates) policy outcome before now is reading = λ unbroken.
      leaves (SetsKeys profile dates changes) (SetsKeys profile dates changes) (under profile (set_command dates changes)) policy outcome before now
      (λ more octets. write.set dates changes policy more octets is.changes_stand) (λ more octets small wrote. wrote) reading unbroken
  job_leaves (Set1 changes dates) policy outcome before now is reading = λ unbroken.
      leaves (IfOctets (SetsKeys1 dates changes)) (SetsKeys1 dates changes) (under profile (set1_command dates changes)) policy outcome before now
      (λ more octets. write.set1 dates changes policy more octets is.changes1_stand) (of_octets (SetsKeys1 dates changes) (set1_command dates changes) policy) reading unbroken
  job_leaves (Repack target) policy outcome before now is reading = λ unbroken has.
      leaves (IfOctets (SameValues profile)) (SameValues profile) (under profile (repack_command target)) policy outcome before now
      (λ more octets. write.repacked target policy more octets is.target_stands has) (of_octets (SameValues profile) (repack_command target) policy) reading unbroken
  job_leaves (RepackLeast tried) policy outcome before now is answers = tt
  job_leaves Rescan policy outcome before now is answers = tt
  job_leaves (Crop area) policy outcome before now is answers = tt
  job_leaves (Within bounds) policy outcome before now is answers = tt
  job_leaves (Migrate params surfaces local) policy outcome before now is (texts, stood, answers) = λ unbroken. (
    texts,
    stood,
    tabled (migrating local) (λ tables. IfOctets (SameMigrated profile)) (λ tables. SameMigrated profile) policy outcome before now
        (λ tables reading.
        leaves (IfOctets (SameMigrated profile)) (SameMigrated profile) (under profile (migrating local tables)) policy outcome before now (write.migrated local tables.parameters tables.surfaces policy)
        (of_octets (SameMigrated profile) (migrating local tables) policy) reading unbroken)
        (together (by_parameters params surfaces) texts) answers,
  )
  job_leaves (Demote params keep any_earth matching) policy outcome before now is answers = tt
  job_leaves (Make seed ni nj target) policy outcome before now is answers = tt
  job_leaves (Print page) policy outcome before now is answers = tt
