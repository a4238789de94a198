-- What each job is, and the answer to it.
use Rattle.std.specs.Prelude.{◌≡◌, ℕ, ◌^◌, Bool, true, false, Option, Some, None, List, [], length}
use Rattle.grib_base.specs.declared.profile.Profile.{Profile}
use Rattle.grib_base.specs.declared.profile.Profile.TheVariants as profiles
use Rattle.grib_stream.specs.Acts.{Act, writes}
use Rattle.grib_stream.specs.Answer.{Answer, answer_within}
use Rattle.grib_stream.specs.declared.outcome.Outcome.{Outcome}
use Rattle.grib_stream.specs.declared.outcome.Outcome.TheVariants as outcomes
use Rattle.grib_stream.specs.declared.outcome.Outcome.TheVariants.{Done}
use Rattle.grib_packing.specs.declared.target.RepackTarget.{RepackTarget}
use Rattle.grib_packing.specs.Targets.{target_of}
use Rattle.grib_repack.specs.Repacked.{repacked}
use Rattle.grib_synthetic.specs.Points.{made_points}
use Rattle.grib_synthetic.specs.Summary.{present_count, present_sum}
use Rattle.grib_synthetic.specs.Made.{made}
use Rattle.grib_migrate.specs.declared.labels.Local.{Local}
use Rattle.grib_params.specs.declared.matching.TableMatch.{TableMatch}
use Rattle.grib_table.specs.declared.together.Tables.{Tables}
use Rattle.grib_table.specs.Together.{Asked, asked, Together, AllGood, TableRefused, SurfacesRefused, Texts, together, no_texts}
use Rattle.grib_file.specs.Filed as files
use Rattle.grib_file.specs.Filed.{FieldOf, Filed, filed}
use Rattle.grib_keys.specs.declared.wanted.Wanted.{Wanted}
use Rattle.grib_text.specs.declared.column.LineForm.{LineForm}
use Rattle.grib_text.specs.declared.column.Column.{Column}
use Rattle.grib_command.specs.declared.job.Job.{Job}
use Rattle.grib_command.specs.declared.job.Job.TheVariants.{Check, List as Listing, Keys, Lines, Stats, Dump, Values, Coordinates, Compare, Filter, FilterNamed, Filter1, Split, Set, Set1, Repack, RepackLeast, Rescan, Crop, Within, Migrate, Demote, Make, Print}
use Rattle.grib_report.specs.Checking.{check_command}
use Rattle.grib_command.specs.Command.{Command, task, under}
use Rattle.grib_report.specs.Dumping.{dump_command}
use Rattle.grib_edit.specs.Filtering.{filter_command}
use Rattle.grib_edit.specs.Filtering1.{filter1_command}
use Rattle.grib_edit.specs.FilteringNamed.{filter_named_command}
use Rattle.grib_edit.specs.Least.{least_command}
use Rattle.grib_report.specs.Listing.{list_command}
use Rattle.grib_report.specs.Keying.{keys_command}
use Rattle.grib_report.specs.Lining.{lines_command}
use Rattle.grib_command.specs.Notes.{made_note}
use Rattle.grib_edit.specs.Migrating.{migrate_command}
use Rattle.grib_command.specs.Pages.{text_of}
use Rattle.grib_edit.specs.Demoting.{demote_command}
use Rattle.grib_command.specs.Outcomes.{note_of}
use Rattle.grib_edit.specs.Repacking.{repack_command}
use Rattle.grib_edit.specs.Rescanning.{edit_command}
use Rattle.grib_reorder.specs.declared.edit.GridEdit.TheVariants as edits
use Rattle.grib_edit.specs.Setting.{set_command}
use Rattle.grib_edit.specs.Setting1.{set1_command}
use Rattle.grib_edit.specs.Splitting.{split_command}
use Rattle.grib_report.specs.Summing.{stats_command}
use Rattle.grib_report.specs.Valuing.{value_command}
use Rattle.grib_placed.specs.Dumping.{dump_placed_command}
use Rattle.grib_placed.specs.Valuing.{value_placed_command}
use Rattle.grib_values.specs.Arrays.{values_command}
use Rattle.grib_values.specs.Coordinates.{coordinates_command}
use Rattle.grib_compare.specs.Command.{compare_command}

-- A stated answer: all that is done, the lines that are noted of what the run goes past, what is noted behind them, and how
-- the run ends.
pub record Stated : Type 0 where
  pub acts : List Act
  pub lines : List (List ℕ)
  pub note : List ℕ
  pub outcome : Outcome

-- the answer that writes these octets and has this note
abbrev pub writing : List ℕ → List ℕ → Stated
writing octets note = record { acts = writes octets; lines = []; note = note; outcome = Done }

-- the answer of a run that ends before it does anything
abbrev pub ends_at_once : Outcome → Stated
ends_at_once outcome = record { acts = []; lines = []; note = note_of outcome; outcome = outcome }

-- the note on the message that `make` makes, and on what is written of it
abbrev pub note_of_made : ℕ → ℕ → ℕ → RepackTarget → List ℕ
note_of_made seed ni nj target =
    let points = made_points seed ni nj in
    made_note (length (made seed ni nj)) (length (repacked (target_of target) (made seed ni nj))) (present_count points) (present_sum points)

-- the answer to `make`: the message that is made, with its field packed anew
abbrev pub made_answer : ℕ → ℕ → ℕ → RepackTarget → Stated
made_answer seed ni nj target = writing (repacked (target_of target) (made seed ni nj)) (note_of_made seed ni nj target)

-- A job answers the messages of an input, or reads none and has one answer, or answers the messages by the tables that
-- stand on the shelf under the names that it asks for, or beside the fields of the file that stands there under a name, of
-- which messages of edition 2 are accepted by a profile.
pub data Work : Type 0 where
  Reads : Command → Work
  Makes : Stated → Work
  ReadsTables : Asked → (Tables → Command) → Work
  ReadsFile : Profile → List ℕ → (List FieldOf → Command) → Work

-- the tables by which messages become those of the other edition: a parameter table, and a table of surfaces where one
-- is asked for
abbrev pub by_parameters : List ℕ → Option (List ℕ) → Asked
by_parameters params surfaces = asked (Some params) surfaces None

-- a table of names alone
abbrev pub by_names : List ℕ → Asked
by_names name = asked None None (Some name)

-- the commands that the tables give
abbrev pub migrating : Local → Tables → Command
migrating local tables = migrate_command local tables.parameters tables.surfaces

abbrev pub demoting : TableMatch → Bool → Bool → Tables → Command
demoting matching keep_local any_earth tables = demote_command matching keep_local any_earth tables.parameters

abbrev pub lining : LineForm → List Column → Tables → Command
lining form columns tables = lines_command form columns tables.names

-- lines of fields, with the names of a table where one is asked for
abbrev pub lines_work : LineForm → List Column → Option (List ℕ) → Work
lines_work form columns None = Reads (lines_command form columns [])
lines_work form columns (Some name) = ReadsTables (by_names name) (lining form columns)

abbrev pub filtering_named : List Wanted → List (List ℕ) → Tables → Command
filtering_named conditions wanted tables = filter_named_command conditions wanted tables.names

-- what each job asks, by the profile of the stated templates
abbrev pub work_of_job : Job → Work
work_of_job Check = Reads check_command
work_of_job Listing = Reads list_command
work_of_job Keys = Reads keys_command
work_of_job (Lines form columns names) = lines_work form columns names
work_of_job Stats = Reads stats_command
work_of_job (Dump None false) = Reads dump_command
work_of_job (Dump None true) = Reads dump_placed_command
work_of_job (Dump (Some places) false) = Reads (value_command places)
work_of_job (Dump (Some places) true) = Reads (value_placed_command places)
work_of_job (Values format) = Reads (values_command format)
work_of_job Coordinates = Reads coordinates_command
work_of_job (Compare name sections quiet) = ReadsFile profiles.Stated name (compare_command sections quiet)
work_of_job (Filter conditions) = Reads (filter_command conditions)
work_of_job (FilterNamed conditions name wanted) = ReadsTables (by_names name) (filtering_named conditions wanted)
work_of_job (Filter1 conditions) = Reads (filter1_command conditions)
work_of_job (Split name edition_1) = Reads (split_command edition_1 name)
work_of_job (Set changes dates) = Reads (set_command dates changes)
work_of_job (Set1 changes dates) = Reads (set1_command dates changes)
work_of_job (Repack target) = Reads (repack_command target)
work_of_job (RepackLeast profile) = Reads (least_command profile)
work_of_job Rescan = Reads (edit_command edits.Rescan)
work_of_job (Crop area) = Reads (edit_command (edits.Crop area))
work_of_job (Within bounds) = Reads (edit_command (edits.Within bounds))
work_of_job (Migrate params surfaces local) = ReadsTables (by_parameters params surfaces) (migrating local)
work_of_job (Demote params keep_local any_earth matching) = ReadsTables (by_parameters params None) (demoting matching keep_local any_earth)
work_of_job (Make seed ni nj target) = Makes (made_answer seed ni nj target)
work_of_job (Print page) = Makes (writing (text_of page) [])

-- what is asked, where messages of edition 2 are accepted by a profile
abbrev pub by_profile : Profile → Work → Work
by_profile profile (Reads command) = Reads (under profile command)
by_profile profile (Makes stated) = Makes stated
by_profile profile (ReadsTables asked commands) = ReadsTables asked (λ tables. under profile (commands tables))
by_profile profile (ReadsFile other name commands) = ReadsFile profile name (λ fields. under profile (commands fields))

abbrev pub work_under : Profile → Job → Work
work_under profile job = by_profile profile (work_of_job job)

abbrev pub work_of : Job → Work
work_of = work_under profiles.Stated

-- what holds of the command of a job that reads its input, by the tables where it reads them
abbrev pub IfReads : Work → Option Tables → (Command → Type 0) → Type 0
IfReads (Reads command) tables P = P command
IfReads (Makes stated) tables P = Unit {0}
IfReads (ReadsTables asked commands) None P = Unit {0}
IfReads (ReadsTables asked commands) (Some tables) P = P (commands tables)
IfReads (ReadsFile profile name commands) None P = Unit {0}
IfReads (ReadsFile profile name commands) (Some tables) P = Unit {0}

abbrev pub reads_none : Work → Bool
reads_none (Reads command) = false
reads_none (Makes stated) = true
reads_none (ReadsTables asked commands) = false
reads_none (ReadsFile profile name commands) = false

-- whether something is read of the shelf before the input, which stays as it is
abbrev pub has_table : Work → Bool
has_table (Reads command) = false
has_table (Makes stated) = false
has_table (ReadsTables asked commands) = true
has_table (ReadsFile profile name commands) = true

abbrev pub has_shelf : Work → Bool
has_shelf (Reads command) = command.uses_shelf
has_shelf (Makes stated) = false
has_shelf (ReadsTables asked commands) = true
has_shelf (ReadsFile profile name commands) = true

-- what holds of a job that hears messages of edition 2
abbrev pub IfHears : Job → Type 0 → Type 0
IfHears job P = IfReads (work_of job) None (λ command. command.hears ≡ true → P)

-- ---- where nothing is gone past

-- a stated answer without lines
abbrev pub plainly : Stated → Answer
plainly stated = record { acts = stated.acts; ending = []; note = stated.note; outcome = stated.outcome }

-- the answer by what stands under the names of the tables
abbrev pub answer_by : Together → (Tables → Command) → List ℕ → Answer
answer_by (AllGood tables) commands input = answer_within (2 ^ 40) (task (commands tables)) input
answer_by (TableRefused refusal) commands input = plainly (ends_at_once (outcomes.TableRefused refusal))
answer_by (SurfacesRefused refusal) commands input = plainly (ends_at_once (outcomes.SurfacesRefused refusal))

-- the answer by what stands under the name of the file. How the input and the file differ is told by what is printed; an
-- input that was read to its end is `Done` here
abbrev pub answer_beside : Filed → (List FieldOf → Command) → List ℕ → Answer
answer_beside (files.Good fields) commands input = answer_within (2 ^ 40) (task (commands fields)) input
answer_beside (files.Refused refusal) commands input = plainly (ends_at_once (outcomes.FileRefused refusal))

abbrev pub answer_to : Work → Texts → List ℕ → Answer
answer_to (Reads command) texts input = answer_within (2 ^ 40) (task command) input
answer_to (Makes stated) texts input = plainly stated
answer_to (ReadsTables asked commands) texts input = answer_by (together asked texts) commands input
answer_to (ReadsFile profile name commands) texts input = answer_beside (filed profile texts.file) commands input

-- whether a job reads no input
abbrev pub makes : Job → Bool
makes job = reads_none (work_of job)

-- whether a job reads a table or a file from the shelf before its input
abbrev pub reads_table : Job → Bool
reads_table job = has_table (work_of job)

-- whether a job uses the shelf: it reads a table or a file there, or puts what it makes there and writes nothing of it to the
-- output
abbrev pub uses_shelf : Job → Bool
uses_shelf job = has_shelf (work_of job)

-- the answer to a job by a profile, by what stands on the shelf under the names of its tables or of its file, if it has any, and by the
-- input; `make` reads none
abbrev pub answer_under : Profile → Job → Texts → List ℕ → Answer
answer_under profile job texts input = answer_to (work_under profile job) texts input

abbrev pub answer_with : Job → Texts → List ℕ → Answer
answer_with = answer_under profiles.Stated

-- the answer to a job that reads no table
abbrev pub answer : Job → List ℕ → Answer
answer job input = answer_with job no_texts input
