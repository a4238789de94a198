-- The note of an answer that ends before the end of the input.
use Rattle.std.proofs.Common.{ℕ, ◌+◌, List, [], ◌∷◌, length, take, refl, sym, subst, ⊎_elim}
use Rattle.std.proofs.lemmas.Bool.{cases_lt, cases_Bool}
use Rattle.grib_stream.specs.Stream.{Found, End, Over, Refusing, stream_from}
use Rattle.grib_stream.specs.Acts.{Act}
use Rattle.grib_stream.specs.Outcomes.{is_open}
use Rattle.grib_stream.specs.Task.{Task, Given, Gives, Ends}
use Rattle.grib_stream.specs.Answer.{Answer, NotesOutcome, after, place_of, on_end, on_given, answers, at_limit, answer_of, answer_within}
use Rattle.grib_stream.proofs.Exits.{within_short, within_long, open_at_limit, closed_at_limit}

notes_end : (task : Task) (messages fields written : ℕ) (end : End) → NotesOutcome task (on_end task messages fields written end)
notes_end task messages fields written (Over skipped) = λ other. absurd (other refl)
notes_end task messages fields written (Refusing fault) = λ other. refl

notes_given : (task : Task) (given : Given) (next : List Act → ℕ → Answer) → ((acts : List Act) (written : ℕ) → NotesOutcome task (next acts written))
    → NotesOutcome task (on_given task given next)
notes_given task (Gives acts written) next noted = noted acts written
notes_given task (Ends outcome) next noted = λ other. refl

notes_answers : (task : Task) (messages fields written : ℕ) (found : List Found) (end : End) → NotesOutcome task (answers task messages fields written found end)
notes_answers task messages fields written [] end = notes_end task messages fields written end
notes_answers task messages fields written (found ∷ later) end =
    notes_given task (task.result (place_of messages found.before fields) found.octets)
    (λ acts more. after acts (answers task (messages + 1) (fields + task.fields found.octets) (written + more) later end))
    (λ acts more. notes_answers task (messages + 1) (fields + task.fields found.octets) (written + more) later end)

notes_of : (task : Task) (input : List ℕ) → NotesOutcome task (answer_of task input)
notes_of task input =
    let found = stream_from task.judge 0 0 0 input in notes_answers task 0 0 0 found.messages found.end

notes_at_limit : (task : Task) (answer : Answer) → NotesOutcome task answer → NotesOutcome task (at_limit task answer)
notes_at_limit task answer noted =
    ⊎_elim (λ unclosed. subst (NotesOutcome task) (sym (open_at_limit task answer unclosed)) (λ other. refl))
    (λ closed. subst (NotesOutcome task) (sym (closed_at_limit task answer closed)) noted) (cases_Bool (is_open answer.outcome))

pub notes_within : (task : Task) (limit : ℕ) (input : List ℕ) → NotesOutcome task (answer_within limit task input)
notes_within task limit input =
    ⊎_elim
    (λ long.
    subst (NotesOutcome task) (sym (within_long task limit input long)) (notes_at_limit task (answer_of task (take limit input)) (notes_of task (take limit input))))
    (λ short. subst (NotesOutcome task) (sym (within_short task limit input short)) (notes_of task input)) (cases_lt limit (length input))
