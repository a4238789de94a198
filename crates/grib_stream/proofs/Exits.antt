-- The answer to an input, by how long it is.
use Rattle.std.proofs.Common.{◌≡◌, ℕ, ◌<◌, ◌≤◌, true, false, List, [], length, take, ap}
use Rattle.std.proofs.lemmas.Bool.{lt-ltb, le-ltb, cond-true, cond-false}
use Rattle.grib_base.specs.Rules.{choose}
use Rattle.grib_stream.specs.declared.outcome.Outcome.TheVariants.{InputTooLong}
use Rattle.grib_stream.specs.Outcomes.{is_open}
use Rattle.grib_stream.specs.Task.{Task}
use Rattle.grib_stream.specs.Answer.{Answer, answer_of, answer_within, at_limit}

pub within_short : (task : Task) (limit : ℕ) (input : List ℕ) → length input ≤ limit → answer_within limit task input ≡ answer_of task input
within_short task limit input short =
    ap (λ b. choose b (λ _. at_limit task (answer_of task (take limit input))) (λ _. answer_of task input)) (le-ltb limit (length input) short)

pub within_long : (task : Task) (limit : ℕ) (input : List ℕ) → limit < length input → answer_within limit task input ≡ at_limit task (answer_of task (take limit input))
within_long task limit input long =
    ap (λ b. choose b (λ _. at_limit task (answer_of task (take limit input))) (λ _. answer_of task input)) (lt-ltb limit (length input) long)

pub closed_at_limit : (task : Task) (answer : Answer) → is_open answer.outcome ≡ false → at_limit task answer ≡ answer
closed_at_limit task answer closed =
    cond-false _ (record { acts = answer.acts; ending = []; note = task.note InputTooLong; outcome = InputTooLong }) answer closed

pub open_at_limit : (task : Task) (answer : Answer) → is_open answer.outcome ≡ true
    → at_limit task answer ≡ record { acts = answer.acts; ending = []; note = task.note InputTooLong; outcome = InputTooLong }
open_at_limit task answer unclosed =
    cond-true _ (record { acts = answer.acts; ending = []; note = task.note InputTooLong; outcome = InputTooLong }) answer unclosed
