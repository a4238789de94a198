-- What a run leaves of its output and the names of its shelf, by the answer to its input.
use Rattle.std.specs.Prelude.{◌≡◌, false, ◌++◌}
use Rattle.grib_stream.specs.declared.outcome.Outcome.{Outcome}
use Rattle.grib_stream.specs.Acts.{World, Did, DidFront}
use Rattle.grib_stream.specs.Outcomes.{is_broken}
use Rattle.grib_stream.specs.Answer.{Answer}

-- The outcome is that of the answer and all was done, unless a device or a lack of memory ended the run;
-- then some front of it was done.
pub record Gives (answer : Answer) (outcome : Outcome) (before now : World) : Type 0 where
  pub ends : is_broken outcome ≡ false → outcome ≡ answer.outcome
  pub whole : is_broken outcome ≡ false → Did before now (answer.acts ++ answer.ending)
  pub front : DidFront before now (answer.acts ++ answer.ending)
