-- What a run leaves, in the sentences of its users. Of a device that does not tell what it holds, nothing is said.
use Rattle.std.specs.Prelude.{◌≡◌, ℕ, ◌^◌, ◌≤◌, true, false, List, length, IfSome}
use Rattle.std.specs.Io.KnownBytes.{Appends}
use Rattle.grib_base.specs.declared.profile.Profile.{Profile}
use Rattle.grib_table.specs.declared.together.Tables.{Tables}
use Rattle.grib_table.specs.Together.{Together, AllGood, TableRefused, SurfacesRefused}
use Rattle.grib_stream.specs.declared.outcome.Outcome.{Outcome}
use Rattle.grib_stream.specs.Outcomes.{is_broken, is_whole}
use Rattle.grib_items.specs.declared.policy.Policy.{Policy}
use Rattle.grib_command.specs.declared.job.Job.{Job}
use Rattle.grib_command.specs.declared.job.Job.TheVariants.{Filter, FilterNamed, Filter1, Split, Set, Set1, Repack, Migrate}
use Rattle.grib_command.specs.Command.{Command, under}
use Rattle.grib_packing.specs.Targets.{target_of}
use Rattle.grib_repack.specs.Repacked.{HasPacking}
use Rattle.grib_edit.specs.Filtering.{filter_command}
use Rattle.grib_edit.specs.Filtering1.{filter1_command}
use Rattle.grib_edit.specs.Repacking.{repack_command}
use Rattle.grib_edit.specs.Setting.{set_command}
use Rattle.grib_edit.specs.Setting1.{set1_command}
use Rattle.grib_run_spec.specs.Seen.{Seen}
use Rattle.grib_run_spec.specs.Stated.{ByTables}
use Rattle.grib_run_spec.specs.Tasks.{by_names, by_parameters, filtering_named, migrating}
use Rattle.grib_run_law.specs.Answered.{items_answered, OfTaken}
use Rattle.grib_run_law.specs.Same.{SameValues, SameMigrated, SetsKeys, SetsKeys1, IsFiltered, IsFilteredNamed, IsFiltered1, IfOctets}
use Rattle.grib_run_law.specs.Shelved.{LeavesNames}
use Rattle.grib_run_law.specs.Written.{WritesItems}

-- What is written for the items of an input was appended to the output. Where the run ended at the end of the input, these
-- are all items that it has: it is no longer than is answered.
pub record AppendsItems (Is : List ℕ → List ℕ → Type 0) (command : Command) (policy : Policy) (outcome : Outcome) (before now : Seen) (input : List ℕ) : Type 0 where
  pub octets : List ℕ
  pub appended : Appends before.output now.output octets
  pub written : WritesItems Is command policy outcome (items_answered command.profile policy input).items octets
  pub whole : is_whole outcome ≡ true → length input ≤ 2 ^ 40

-- This was appended by what was left of the input, where that is told, with what `Told` says of a message, and by the
-- octets that were taken, whatever the input tells, with what `Is` says.
pub record LeavesItems (Told Is : List ℕ → List ℕ → Type 0) (command : Command) (policy : Policy) (outcome : Outcome) (before now : Seen) : Type 0 where
  pub left : IfSome before.left (AppendsItems Told command policy outcome before now)
  pub taken : OfTaken before now (AppendsItems Is command policy outcome before now)

-- what holds by tables that are good
abbrev pub IfGood : (Tables → Type 0) → Together → Type 0
IfGood P (AllGood tables) = P tables
IfGood P (TableRefused refusal) = Unit {0}
IfGood P (SurfacesRefused refusal) = Unit {0}

-- What is written for messages where neither a device nor memory ended the run, and for `split` what stands on the shelf,
-- however it ended. `repack`, `migrate` and `set` of edition 1 read numbers: by what an input tells this is said of messages
-- whose octets are below 256, and all that are taken are. `repack` is to a packing that the profile has. Of the other jobs
-- nothing is said here.
abbrev pub Leaves : Profile → Job → Policy → Outcome → Seen → Seen → Type 0
Leaves profile (Filter conditions) policy outcome before now =
    is_broken outcome ≡ false
    → LeavesItems (IsFiltered profile conditions) (IsFiltered profile conditions) (under profile (filter_command conditions)) policy outcome before now
Leaves profile (FilterNamed conditions name wanted) policy outcome before now =
    is_broken outcome ≡ false
    → ByTables before.names (by_names name)
    (IfGood (λ tables. LeavesItems (IsFilteredNamed profile conditions wanted tables.names) (IsFilteredNamed profile conditions wanted tables.names)
    (under profile (filtering_named conditions wanted tables)) policy outcome before now))
Leaves profile (Filter1 conditions) policy outcome before now =
    is_broken outcome ≡ false
    → LeavesItems (IsFiltered1 conditions) (IsFiltered1 conditions) (under profile (filter1_command conditions)) policy outcome before now
Leaves profile (Set changes dates) policy outcome before now =
    is_broken outcome ≡ false
    → LeavesItems (SetsKeys profile dates changes) (SetsKeys profile dates changes) (under profile (set_command dates changes)) policy outcome before now
Leaves profile (Set1 changes dates) policy outcome before now =
    is_broken outcome ≡ false
    → LeavesItems (IfOctets (SetsKeys1 dates changes)) (SetsKeys1 dates changes) (under profile (set1_command dates changes)) policy outcome before now
Leaves profile (Repack target) policy outcome before now =
    is_broken outcome ≡ false → HasPacking profile (target_of target)
    → LeavesItems (IfOctets (SameValues profile)) (SameValues profile) (under profile (repack_command target)) policy outcome before now
Leaves profile (Migrate params surfaces local) policy outcome before now =
    is_broken outcome ≡ false
    → ByTables before.names (by_parameters params surfaces)
    (IfGood (λ tables. LeavesItems (IfOctets (SameMigrated profile)) (SameMigrated profile) (under profile (migrating local tables)) policy outcome before now))
Leaves profile (Split out edition_1) policy outcome before now = LeavesNames profile edition_1 out policy outcome before now
Leaves profile job policy outcome before now = Unit {0}
