-- What the program promises of a run, by its words. All of it is a relation of the words, of how the run ended, and of what
-- is seen of the devices before and after.
use Rattle.std.specs.Prelude.{◌≡◌, ◌≢◌, ℕ, Bool, true, false, List, IfOk, IfSome}
use Rattle.grib_io.specs.Shelves.{Stays}
use Rattle.grib_stream.specs.declared.outcome.Outcome.{Outcome}
use Rattle.grib_stream.specs.declared.outcome.Outcome.TheVariants.{ShelfFault, Memory}
use Rattle.grib_stream.specs.Faults.{CountsRun}
use Rattle.grib_items.specs.Laws.{nothing}
use Rattle.grib_dispatch.specs.Hearing.{RefusesInTime}
use Rattle.grib_run_spec.specs.Seen.{Seen, faults_of, Settles}
use Rattle.grib_run_spec.specs.Serving.{AnswersWork, NotesTold, Stands}
use Rattle.grib_run_spec.specs.Tasks.{IfHears, has_shelf, has_table}
use Rattle.grib_run_law.specs.Judged.{Judges}
use Rattle.grib_run_law.specs.Leaving.{Leaves}
use Rattle.grib_words.specs.Words.{job_of, policy_of, profile_of}
use Rattle.grib_cli.specs.Asked.{work_of}

-- `takes_memory` says whether the output or the notes may stop for memory.
pub record Answers (takes_memory : Bool) (words : List (List ℕ)) (outcome : Outcome) (before now : Seen) : Type 0 where
  -- Exactly the stated answer to the words and the input was written, put on the shelf and noted, and the run ended as it
  -- says; or a device or a lack of memory ended it, and what was done is a front of it. It says how much was taken.
  pub answer : AnswersWork (work_of words) (policy_of words) outcome before now
  -- A message that `check` or `list` refuses is refused within one read of the octet that makes it so.
  pub soon : policy_of words ≡ nothing → IfOk (job_of words) (λ job. IfHears job (RefusesInTime (profile_of words) outcome before.left now.left))
  -- What is answered is in the grammar of its edition, that of edition 2 by the profile that the words ask for, and a refusal names the first rule that fails.
  pub judged : IfOk (job_of words) (λ job. IfSome before.left (Judges (profile_of words) (policy_of words) outcome))
  -- What is written has the values of each point, the columns of each field, or is a whole field under its name.
  pub kept : IfOk (job_of words) (λ job. Leaves (profile_of words) job (policy_of words) outcome before now)
  -- Output and notes are brought to their end, unless writing failed or there was no memory.
  pub ends : Settles outcome before now
  -- Where neither of them takes memory, they are where there was none for the rest, too.
  pub stands : takes_memory ≡ false → outcome ≡ Memory → Stands (work_of words) (policy_of words) before now
  -- A fault of a device is told, and none is told that was not counted.
  pub counts : CountsRun outcome (faults_of before) (faults_of now)
  pub told : NotesTold (work_of words) (policy_of words) before now
  -- A run that has no use for the shelf does not end with a fault of it, and the tables on it stay as they are.
  pub unshelved : has_shelf (work_of words) ≡ false → outcome ≢ ShelfFault
  pub table_stays : has_table (work_of words) ≡ true → Stays before.names now.names
