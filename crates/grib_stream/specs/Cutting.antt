-- An input that is cut in two at the end of one of its messages, and tasks that answer each message by itself.
use Rattle.std.specs.Prelude.{◌≡◌, ℕ, ◌+◌, List, [], ◌∷◌, length}
use Rattle.grib_stream.specs.declared.outcome.Outcome.{Outcome}
use Rattle.grib_stream.specs.declared.outcome.Outcome.TheVariants.{Refused, Kept}
use Rattle.grib_stream.specs.declared.place.Place.{Place}
use Rattle.grib_stream.specs.Stream.{Judgement, Found, stream}
use Rattle.grib_stream.specs.Acts.{Act}
use Rattle.grib_stream.specs.Task.{Task, Gives, Ends}

-- where the last of these messages ends, or this place where there are none
abbrev pub end_after : ℕ → List Found → ℕ
end_after place [] = place
end_after place (found ∷ later) = end_after (found.before + length found.octets) later

-- where the last of the messages of an input ends, 0 where there are none
abbrev pub last_end : List Found → ℕ
last_end messages = end_after 0 messages

-- an input ends where the last of its messages ends
abbrev pub EndsAtMessage : (List ℕ → Judgement) → List ℕ → Type 0
EndsAtMessage judge front = last_end (stream judge front).messages ≡ length front

-- how many messages an input has
abbrev pub message_count : (List ℕ → Judgement) → List ℕ → ℕ
message_count judge input = length (stream judge input).messages

-- an outcome with another number for its message, by the number that it has
abbrev pub renumbered : (ℕ → ℕ) → Outcome → Outcome
renumbered number (Refused refusal) = Refused (record refusal { message = number refusal.message })
renumbered number (Kept kept) = Kept (record kept { message = number kept.message })
renumbered number outcome = outcome

-- What a message gives does not hang on its place, but for the number of the message in an outcome.
pub record StandsAlone (task : Task) : Type 0 where
  pub gives : (place other : Place) (message : List ℕ) (acts : List Act) (written : ℕ) → task.result place message ≡ Gives acts written
      → task.result other message ≡ Gives acts written
  pub ends : (place other : Place) (message : List ℕ) (outcome : Outcome) → task.result place message ≡ Ends outcome
      → task.result other message ≡ Ends (renumbered (λ number. other.message) outcome)

-- the outcome of what follows this many messages, by what it is of itself
abbrev pub later_by : ℕ → Outcome → Outcome
later_by messages outcome = renumbered (λ number. messages + number) outcome
