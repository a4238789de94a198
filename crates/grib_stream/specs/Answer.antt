-- What is answered to a task, by the input alone: the results of its messages in order, up to the first
-- that ends the run, and the ending where the input is read to its end.
use Rattle.std.specs.Prelude.{◌≡◌, ◌≢◌, ℕ, ◌+◌, cond, List, [], ◌∷◌, ◌++◌, length, take, nat_lt}
use Rattle.grib_base.specs.Rules.{choose}
use Rattle.grib_base.specs.declared.fault.Fault.{Fault}
use Rattle.grib_base.specs.declared.fault.Refusal.{Refusal}
use Rattle.grib_stream.specs.declared.outcome.Outcome.{Outcome}
use Rattle.grib_stream.specs.declared.outcome.Outcome.TheVariants.{Done, Refused, InputTooLong}
use Rattle.grib_stream.specs.declared.place.Place.{Place}
use Rattle.grib_stream.specs.declared.place.Totals.{Totals}
use Rattle.grib_stream.specs.Stream.{Found, End, Over, Refusing, Stream, stream_from}
use Rattle.grib_stream.specs.Acts.{Act}
use Rattle.grib_stream.specs.Outcomes.{is_open}
use Rattle.grib_stream.specs.Task.{Task, Given, Gives, Ends}

-- what is done for the messages, what is done at the end of the input, what is noted, and how the run ends
pub record Answer : Type 0 where
  pub acts : List Act
  pub ending : List Act
  pub note : List ℕ
  pub outcome : Outcome

abbrev pub silent : Task → Outcome → Answer
silent task outcome = record { acts = []; ending = []; note = task.note outcome; outcome = outcome }

abbrev pub done : Task → Totals → Answer
done task totals = record { acts = []; ending = (task.ending totals).acts; note = (task.ending totals).note; outcome = Done }

-- an answer after what was done before it
abbrev pub after : List Act → Answer → Answer
after acts answer = record answer { acts = acts ++ answer.acts }

abbrev pub totals_of : ℕ → ℕ → ℕ → ℕ → Totals
totals_of messages fields skipped written = record { messages = messages; fields = fields; skipped = skipped; written = written }

-- the place of the message after this many messages, octets and fields
abbrev pub place_of : ℕ → ℕ → ℕ → Place
place_of messages before fields = record { message = messages + 1; before = before; fields = fields }

abbrev pub refusal_after : ℕ → Fault → Refusal
refusal_after messages fault = record { message = messages + 1; fault = fault }

-- after this many messages with this many fields, for which this many octets were written
abbrev pub on_end : Task → ℕ → ℕ → ℕ → End → Answer
on_end task messages fields written (Over skipped) = done task (totals_of messages fields skipped written)
on_end task messages fields written (Refusing fault) = silent task (Refused (refusal_after messages fault))

abbrev pub on_given : Task → Given → (List Act → ℕ → Answer) → Answer
on_given task (Gives acts written) next = next acts written
on_given task (Ends outcome) next = silent task outcome

-- the results of the messages, after this many messages with this many fields, for which this many octets were
-- written
abbrev pub answers : Task → ℕ → ℕ → ℕ → List Found → End → Answer
answers task messages fields written [] end = on_end task messages fields written end
answers task messages fields written (found ∷ later) end =
    on_given task (task.result (place_of messages found.before fields) found.octets)
    (λ acts more. after acts (answers task (messages + 1) (fields + task.fields found.octets) (written + more) later end))

abbrev pub answer_to : Task → ℕ → ℕ → ℕ → Stream → Answer
answer_to task messages fields written found = answers task messages fields written found.messages found.end

-- the answer to what is left of an input, after what was counted so far, at a place
abbrev pub answer_at : Task → Totals → ℕ → List ℕ → Answer
answer_at task totals place left =
    answer_to task totals.messages totals.fields totals.written (stream_from task.judge 0 place totals.skipped left)

-- the answer to an input, however long it is
abbrev pub answer_of : Task → List ℕ → Answer
answer_of task input = answer_at task (totals_of 0 0 0 0) 0 input

-- the answer to the first octets of an input that goes on
abbrev pub at_limit : Task → Answer → Answer
at_limit task answer =
    cond (is_open answer.outcome)
    (record { acts = answer.acts; ending = []; note = task.note InputTooLong; outcome = InputTooLong }) answer

-- what is noted of an outcome other than of the end of the input is the task's note of it
abbrev pub NotesOutcome : Task → Answer → Type 0
NotesOutcome task answer = answer.outcome ≢ Done → answer.note ≡ task.note answer.outcome

-- the answer to an input, of which this many octets are answered at most
abbrev pub answer_within : ℕ → Task → List ℕ → Answer
answer_within limit task input =
    choose (nat_lt limit (length input)) (λ _. at_limit task (answer_of task (take limit input)))
    (λ _. answer_of task input)
