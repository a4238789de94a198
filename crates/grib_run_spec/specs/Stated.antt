-- The stated answer to what a run is asked: a function of what is asked, of the policy, of the input, and of the tables that
-- stand on the shelf where they are read.
use Rattle.std.specs.Prelude.{ℕ, ◌^◌, ◌==◌, ◌&&◌, Bool, cond, List, [], ◌∷◌, ◌++◌, Ok, Err, IfSome}
use Rattle.std.specs.declared.option.Option.{Option}
use Rattle.std.specs.declared.result.Result.{Result}
use Rattle.grib_io.specs.Shelves.{Held, Stood}
use Rattle.grib_base.specs.declared.profile.Profile.{Profile}
use Rattle.grib_file.specs.Filed as files
use Rattle.grib_file.specs.Filed.{FieldOf, Filed, filed}
use Rattle.grib_table.specs.declared.together.Tables.{Tables}
use Rattle.grib_table.specs.Together.{Asked, Together, AllGood, TableRefused, SurfacesRefused, Texts, together, AllStood}
use Rattle.grib_stream.specs.declared.outcome.Outcome.{Outcome}
use Rattle.grib_stream.specs.declared.outcome.Outcome.TheVariants as outcomes
use Rattle.grib_stream.specs.declared.outcome.Outcome.TheVariants.{Passed}
use Rattle.grib_items.specs.declared.policy.Policy.{Policy}
use Rattle.grib_items.specs.declared.policy.ItemTotals.{ItemTotals}
use Rattle.grib_items.specs.Deeds.{Deeds, deeds}
use Rattle.grib_items.specs.Answer.{Answered}
use Rattle.grib_items.specs.Run.{answer_within}
use Rattle.grib_items.specs.Steps.{Plan, plan_of}
use Rattle.grib_command.specs.declared.ending.Ending.{Ending}
use Rattle.grib_command.specs.Command.{Command, task}
use Rattle.grib_command.specs.Endings.{ending_note, ending_outcome, passed_ending_note}
use Rattle.grib_command.specs.Texts.{texts}
use Rattle.grib_run_spec.specs.Tasks.{Stated, Work, Reads, Makes, ReadsTables, ReadsFile, ends_at_once}

-- ---- by what came of the items of an input

-- whether nothing was passed and nothing was kept
abbrev pub is_plain : ItemTotals → Bool
is_plain totals = (totals.refused == 0) && (totals.kept == 0)

-- how the run ends: at the end of its input, by what was counted, or with an outcome
abbrev pub outcome_by : Ending → Result ItemTotals Outcome → Outcome
outcome_by ending (Ok totals) = cond (is_plain totals) (ending_outcome ending totals.counted) (Passed totals.refused totals.kept)
outcome_by ending (Err outcome) = outcome

-- what is noted behind the lines
abbrev pub note_by : Ending → Result ItemTotals Outcome → List ℕ
note_by ending (Ok totals) =
    cond (is_plain totals) (ending_note ending totals.counted) (passed_ending_note ending totals.counted totals.refused totals.kept)
note_by ending (Err outcome) = (ends_at_once outcome).note

abbrev pub stated_by : Ending → Answered → Stated
stated_by ending answer = record {
  acts = answer.deeds.acts ++ answer.ending;
  lines = answer.deeds.lines;
  note = note_by ending answer.result;
  outcome = outcome_by ending answer.result;
}

-- all that is done and noted
abbrev pub deeds_of : Stated → Deeds
deeds_of stated = deeds stated.acts (stated.lines ++ stated.note ∷ [])

-- ---- of a command

abbrev pub plan_by : Command → Policy → Plan
plan_by command policy = plan_of (task command) texts policy

-- the answer to an input, of which 2 ^ 40 octets are answered at most
abbrev pub stated_to : Command → Policy → List ℕ → Stated
stated_to command policy input = stated_by command.ending (answer_within (2 ^ 40) (plan_by command policy) input)

-- ---- of what is asked

-- what was read as the tables says this; where the shelf does not tell it, some texts
abbrev pub ByTables : Option Held → Asked → (Together → Type 0) → Type 0
ByTables names asked Is = (read : Texts) × AllStood names asked read × Is (together asked read)

-- what holds of the command of what is asked, by the tables where they are read and are good; else of what is stated at once
abbrev pub IfTabled : (Tables → Command) → (Command → Type 0) → (Stated → Type 0) → Together → Type 0
IfTabled commands Reading AtOnce (AllGood tables) = Reading (commands tables)
IfTabled commands Reading AtOnce (TableRefused refusal) = AtOnce (ends_at_once (outcomes.TableRefused refusal))
IfTabled commands Reading AtOnce (SurfacesRefused refusal) = AtOnce (ends_at_once (outcomes.SurfacesRefused refusal))

-- what was read as the file says this; where the shelf does not tell it, some file
abbrev pub ByFile : Option Held → Profile → List ℕ → (Filed → Type 0) → Type 0
ByFile names profile name Is = (read : Option (List ℕ)) × Stood names name read × Is (filed profile read)

-- what holds of the command of what is asked, by the fields of the file where it is good; else of what is stated at once
abbrev pub IfFiled : (List FieldOf → Command) → (Command → Type 0) → (Stated → Type 0) → Filed → Type 0
IfFiled commands Reading AtOnce (files.Good fields) = Reading (commands fields)
IfFiled commands Reading AtOnce (files.Refused refusal) = AtOnce (ends_at_once (outcomes.FileRefused refusal))

abbrev pub IfAsked : Work → Option Held → (Command → Type 0) → (Stated → Type 0) → Type 0
IfAsked (Reads command) names Reading AtOnce = Reading command
IfAsked (Makes stated) names Reading AtOnce = AtOnce stated
IfAsked (ReadsTables asked commands) names Reading AtOnce = ByTables names asked (IfTabled commands Reading AtOnce)
IfAsked (ReadsFile profile name commands) names Reading AtOnce = ByFile names profile name (IfFiled commands Reading AtOnce)

-- what holds of the answer, where the input tells what is left of it
abbrev pub IfStated : Work → Policy → Option Held → Option (List ℕ) → (Stated → Type 0) → Type 0
IfStated work policy names left Holds =
    IfAsked work names (λ command. IfSome left (λ input. Holds (stated_to command policy input))) Holds
