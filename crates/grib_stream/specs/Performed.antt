-- What is done for the octets from a `GRIB` on.
use Rattle.std.specs.Prelude.{◌≡◌, true, false, List, [], Ok, Err}
use Rattle.std.specs.declared.result.Result.{Result}
use Rattle.grib_stream.specs.declared.outcome.Outcome.{Outcome}
use Rattle.grib_stream.specs.declared.performer.Performed.{Performed}
use Rattle.grib_stream.specs.declared.performer.Whole.{Whole as AnsweredMessage}
use Rattle.grib_stream.specs.declared.performer.Performed.TheVariants.{Whole as Answered, Refused, Ends}
use Rattle.grib_stream.specs.Acts.{Act, World, Did, DidFront}
use Rattle.grib_stream.specs.Outcomes.{is_cut_within}
use Rattle.grib_stream.specs.Task.{Next, Whole, Refuses, Stops, acts_of}

-- the run ends with the outcome that comes next, and nothing was done, or the output, the shelf or memory
-- broke within what was to be done
pub record EndsWith (next : Next) (outcome : Outcome) (before now : World) : Type 0 where
  pub stopped : is_cut_within outcome ≡ false → (next ≡ Stops outcome) × Did before now []
  pub cut : is_cut_within outcome ≡ true → DidFront before now (acts_of next)

-- what comes next was done whole, or is a refusal, before which nothing was done, or the run ends with it
abbrev pub Performs : Next → Performed → World → World → Type 0
Performs next (Answered message) before now = (acts : List Act) × (next ≡ Whole message.octets message.fields message.written acts) × Did before now acts
Performs next (Refused fault) before now = (next ≡ Refuses fault) × Did before now []
Performs next (Ends outcome) before now = EndsWith next outcome before now

-- what came of a message that is known to be one
abbrev pub performed_of : Result AnsweredMessage Outcome → Performed
performed_of (Ok message) = Answered message
performed_of (Err outcome) = Ends outcome
