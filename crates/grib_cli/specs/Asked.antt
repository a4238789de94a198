-- What a run does, by its words.
use Rattle.std.specs.Prelude.{ℕ, cond, List, [], drop, Result, Ok, Err}
use Rattle.grib_base.specs.declared.profile.Profile.{Profile}
use Rattle.grib_stream.specs.declared.outcome.Outcome.{Outcome}
use Rattle.grib_stream.specs.declared.outcome.Outcome.TheVariants as outcomes
use Rattle.grib_command.specs.declared.job.Job.{Job}
use Rattle.grib_run_spec.specs.Tasks as tasks
use Rattle.grib_run_spec.specs.Tasks.{Work, Makes, ends_at_once, writing}
use Rattle.grib_words.specs.declared.job.JobFault.{JobFault}
use Rattle.grib_words.specs.declared.job.JobFault.TheVariants.{Usage, Memory}
use Rattle.grib_words.specs.Words.{job_of, profile_of}
use Rattle.grib_help.specs.Helping.{is_on_words, told_of_words}

-- how a run ends whose words ask for no job
abbrev pub outcome_of : JobFault → Outcome
outcome_of (Usage word) = outcomes.Usage word
outcome_of Memory = outcomes.Memory

abbrev pub work_by : Profile → Result Job JobFault → Work
work_by profile (Ok job) = tasks.work_under profile job
work_by profile (Err fault) = Makes (ends_at_once (outcome_of fault))

-- what the words ask for: to tell of those behind `help`, the work of their job, or to note that they have no reading
abbrev pub work_of : List (List ℕ) → Work
work_of words = cond (is_on_words words) (Makes (writing (told_of_words (drop 1 words)) [])) (work_by (profile_of words) (job_of words))
