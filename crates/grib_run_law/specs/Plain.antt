-- The answer of a run that passes nothing.
use Rattle.std.specs.Prelude.{◌≡◌, ◌⊎◌, ◌++◌, []}
use Rattle.grib_stream.specs.declared.outcome.Outcome.{Outcome}
use Rattle.grib_stream.specs.declared.outcome.Outcome.TheVariants.{Done, Differs}
use Rattle.grib_stream.specs.Answer.{Answer}
use Rattle.grib_command.specs.declared.ending.Ending.{Ending}
use Rattle.grib_command.specs.declared.ending.Ending.TheVariants.{Silent, Total, Written, Compared}
use Rattle.grib_run_spec.specs.Tasks.{Stated}

-- a run ends as the answer to a stream does; where an input is compared, that it differs is told only by the run
abbrev pub EndsAs : Ending → Outcome → Outcome → Type 0
EndsAs Silent outcome plain = outcome ≡ plain
EndsAs Total outcome plain = outcome ≡ plain
EndsAs Written outcome plain = outcome ≡ plain
EndsAs (Compared in_file) outcome plain = (outcome ≡ plain) ⊎ ((outcome ≡ Differs) × (plain ≡ Done))

-- a stated answer does, notes and ends as an answer to a stream of messages
pub record IsPlainly (ending : Ending) (stated : Stated) (answer : Answer) : Type 0 where
  pub acts : stated.acts ≡ answer.acts ++ answer.ending
  pub lines : stated.lines ≡ []
  pub note : stated.note ≡ answer.note
  pub outcome : EndsAs ending stated.outcome answer.outcome
