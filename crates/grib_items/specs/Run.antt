-- What a run leaves of its input, its output, the names of its shelf and its notes, by the answer to the input.
use Rattle.std.specs.Prelude.{◌≡◌, ◌≢◌, ℕ, ◌+◌, ◌≤◌, Bool, true, false, List, [], length, IfSome, IfOk}
use Rattle.std.specs.Prelude.{Ok, Err}
use Rattle.std.specs.declared.option.Option.{Option}
use Rattle.std.specs.declared.result.Result.{Result}
use Rattle.std.specs.Io.KnownBytes.{IsAtEnd}
use Rattle.grib_io.specs.Outside.{Counted}
use Rattle.grib_stream.specs.declared.outcome.Outcome.{Outcome}
use Rattle.grib_stream.specs.declared.outcome.Outcome.TheVariants.{ReadFault, WriteFault, ShelfFault, InputTooLong}
use Rattle.grib_stream.specs.Outcomes.{is_broken}
use Rattle.grib_stream.specs.Reading.{Takes}
use Rattle.grib_stream.specs.Faults.{Faults, OneCounted}
use Rattle.grib_items.specs.declared.policy.ItemTotals.{ItemTotals}
use Rattle.grib_items.specs.Deeds.{Deeds, deeds, then, Outside, Done, DoneFront}
use Rattle.grib_items.specs.Answer as answers
use Rattle.grib_items.specs.Answer.{Answered, after, done}
use Rattle.grib_items.specs.Laws.{outcome_of}
use Rattle.grib_items.specs.Steps.{Plan}

abbrev pub answer_at : Plan → Bool → ItemTotals → ℕ → List ℕ → Answered
answer_at plan more totals place left = answers.answer_at plan.task plan.texts plan.policy more totals place left

abbrev pub answer_of : Plan → Bool → List ℕ → Answered
answer_of plan more input = answers.answer_of plan.task plan.texts plan.policy more input

abbrev pub answer_within : ℕ → Plan → List ℕ → Answered
answer_within limit plan input = answers.answer_within limit plan.task plan.texts plan.policy input

-- The run ends as the answer does, and all was done and noted, unless a device or a lack of memory ended it; then some
-- front of it was.
pub record Gives (answer : Answered) (result : Result ItemTotals Outcome) (before now : Outside) : Type 0 where
  pub ends : is_broken (outcome_of result) ≡ false → result ≡ answer.result
  pub whole : is_broken (outcome_of result) ≡ false → Done before now (then answer.deeds (deeds answer.ending []))
  pub front : DoneFront before now (then answer.deeds (deeds answer.ending []))

-- These octets were taken: no more than are answered, and one where that shows that the input is too long. The result
-- and what was done and noted are the answer to them, whatever the input tells of itself. After a fault of the input it is
-- what they give while more may follow.
pub record Took (plan : Plan) (limit : ℕ) (taken : List ℕ) (result : Result ItemTotals Outcome) (before now : Outside) : Type 0 where
  pub most : length taken ≤ limit + 1
  pub short : is_broken (outcome_of result) ≡ false → outcome_of result ≢ InputTooLong → length taken ≤ limit
  pub long : outcome_of result ≡ InputTooLong → length taken ≡ limit + 1
  pub answered : Gives (answer_within limit plan taken) result before now
  pub read_fault : outcome_of result ≡ ReadFault → Done before now (answer_of plan true taken).deeds

-- A run over an input of which this many octets are answered at most: what was left of it, and is left now.
pub record Runs (plan : Plan) (limit : ℕ) (result : Result ItemTotals Outcome) (left left_now : Option (List ℕ)) (before now : Outside) : Type 0 where
  pub gives : IfSome left (λ input. Gives (answer_within limit plan input) result before now)
  pub taken : (taken : List ℕ) × Takes left left_now taken × Took plan limit taken result before now
  pub end : IfOk result (λ totals. IsAtEnd left_now)

-- Exactly: the count of the object that failed, and of no other. A write that failed is one of the output or of the
-- notes.
pub record CountsOne (outcome : Outcome) (before now : Faults) : Type 0 where
  pub read : outcome ≡ ReadFault → Counted before.input now.input
  pub read_calm : outcome ≢ ReadFault → now.input ≡ before.input
  pub write : outcome ≡ WriteFault → OneCounted before.output now.output before.notes now.notes
  pub output_calm : outcome ≢ WriteFault → now.output ≡ before.output
  pub notes_calm : outcome ≢ WriteFault → now.notes ≡ before.notes
  pub shelf : outcome ≡ ShelfFault → Counted before.shelf now.shelf
  pub shelf_calm : outcome ≢ ShelfFault → now.shelf ≡ before.shelf

-- An input was read to its end, and all its items were answered: the ending is still to be done.
pub record IsOver (plan : Plan) (limit : ℕ) (totals : ItemTotals) (left left_now : Option (List ℕ)) (before now : Outside) : Type 0 where
  pub taken : List ℕ
  pub done_before : Deeds
  pub consumed : Takes left left_now taken
  pub end : IsAtEnd left_now
  pub short : length taken ≤ limit
  pub did : Done before now done_before
  pub whole : answer_of plan false taken ≡ after done_before (done plan.task totals)

-- what a run reaches before its ending: the end of the input, or an outcome
abbrev pub Reaches : Plan → ℕ → Result ItemTotals Outcome → Option (List ℕ) → Option (List ℕ) → Outside → Outside → Type 0
Reaches plan limit (Ok totals) left left_now before now = IsOver plan limit totals left left_now before now
Reaches plan limit (Err outcome) left left_now before now = Runs plan limit (Err outcome) left left_now before now
