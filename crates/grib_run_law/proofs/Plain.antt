-- The answer of a run that passes nothing.
use Rattle.std.proofs.Common.{◌≡◌, ◌≢◌, ◌⊎◌, inl, inr, ℕ, ◌^◌, ◌==◌, ◌&&◌, Bool, true, false, cond, None, Ok, Err, List, [], ◌∷◌, ◌++◌, length, refl, sym, ap, ◌∙◌, subst}
use Rattle.std.specs.declared.result.Result.{Result}
use Rattle.std.proofs.lemmas.Bool.{false≢true, eq-eqb}
use Rattle.grib_stream.specs.declared.outcome.Outcome.{Outcome}
use Rattle.grib_stream.specs.declared.outcome.Outcome.TheVariants as outcomes
use Rattle.grib_stream.specs.declared.outcome.Outcome.TheVariants.{Done}
use Rattle.grib_stream.specs.declared.place.Place.{Place}
use Rattle.grib_stream.specs.declared.place.Totals.{Totals}
use Rattle.grib_stream.specs.Answer as plain
use Rattle.grib_stream.specs.Answer.{NotesOutcome}
use Rattle.grib_stream.specs.Outcomes.{is_of_message}
use Rattle.grib_stream.specs.Task.{Given, Gives, Ends}
use Rattle.grib_items.specs.declared.policy.ItemTotals.{ItemTotals}
use Rattle.grib_items.specs.Answer.{Counts, Answered, no_counts, refused_instead, one_refused, place_by, on_given, on_end, on_comes, after, answers}
use Rattle.grib_items.specs.Items.{Item, Accepted, Refused, End, Over, Refusing, Open}
use Rattle.grib_items.specs.Laws.{outcome_of, NotesCounted, IsPlain, nothing}
use Rattle.grib_items.specs.Run.{answer_within}
use Rattle.grib_command.specs.Command.{Command, IsLawfulCommand, given, task}
use Rattle.grib_command.specs.declared.ending.Ending.{Ending}
use Rattle.grib_command.specs.declared.ending.Ending.TheVariants.{Silent, Total, Written, Compared}
use Rattle.grib_command.specs.Endings.{ending_note, ending_outcome, passed_ending_note}
use Rattle.grib_command.specs.Judging.{fields_of}
use Rattle.grib_command.specs.Outcomes.{note_of}
use Rattle.grib_command.specs.Texts.{texts}
use Rattle.grib_dispatch.specs.Lawful.{lawful}
use Rattle.grib_run_spec.specs.Stated.{is_plain, outcome_by, note_by, plan_by, stated_to}
use Rattle.grib_run_law.specs.Answered.{items_answered}
use Rattle.grib_run_law.specs.Plain.{EndsAs, IsPlainly}
use Rattle.grib_run_law.proofs.Leaving.{answer_by}

-- ---- an outcome that ends a run before the end of its input is not Done

abbrev NotDone : Result ItemTotals Outcome → Type 0
NotDone (Ok totals) = Unit {0}
NotDone (Err outcome) = outcome ≢ Done

module _ (command : Command) (ends : (place : Place) (message : List ℕ) (outcome : Outcome) → given command place message ≡ Ends outcome → is_of_message outcome ≡ true) where
  at_end : (counts : Counts) (end : End) → NotDone (on_end (task command) counts end).result
  at_end counts (Over skipped) = tt
  at_end counts (Refusing fault) = λ is. cc
  at_end counts Open = λ is. cc

  outcome_not : (outcome : Outcome) → is_of_message outcome ≡ true → outcome ≢ Done
  outcome_not outcome of_message is = false≢true (sym (ap is_of_message is) ∙ of_message)

  given_not : (g : Given) (counts : Counts) (place : Place) (fields : ℕ) (message : List ℕ) (next : Counts → Answered) → ((outcome : Outcome) → g ≡ Ends outcome → is_of_message outcome ≡ true)
      → ((counts : Counts) → NotDone (next counts).result) → NotDone (on_comes (on_given texts None counts place fields message g) (λ done counts. after done (next counts))).result
  given_not (Gives acts written) counts place fields message next of_message rest = rest _
  given_not (Ends outcome) counts place fields message next of_message rest = outcome_not outcome (of_message outcome refl)

  answers_not : (counts : Counts) (items : List Item) (end : End) → NotDone (answers (task command) texts nothing counts items end).result
  answers_not counts [] end = at_end counts end
  answers_not counts (Accepted found ∷ items) end =
      given_not (given command (place_by counts found.before) found.octets) counts (place_by counts found.before) (fields_of found.octets) found.octets
      (λ counts. answers (task command) texts nothing counts items end) (ends (place_by counts found.before) found.octets) (λ counts. answers_not counts items end)
  answers_not counts (Refused refused ∷ items) end = answers_not (one_refused counts (length (refused_instead None refused.octets))) items end

  within_not : (input : List ℕ) → NotDone (answer_within (2 ^ 40) (plan_by command nothing) input).result
  within_not input =
      let found = items_answered command.profile nothing input in
      subst (λ (answer : Answered). NotDone answer.result) (sym (answer_by command nothing input)) (answers_not no_counts found.items found.end)

-- ---- the answer

plain_is : (totals : ItemTotals) → totals.refused ≡ 0 → totals.kept ≡ 0 → is_plain totals ≡ true
plain_is totals refused kept = ap (λ b. b && (totals.kept == 0)) (eq-eqb totals.refused 0 refused) ∙ eq-eqb totals.kept 0 kept

-- at the end of an input
ends_differing : (b : Bool) (outcome : Outcome) → Done ≡ outcome
    → (cond b Done outcomes.Differs ≡ outcome) ⊎ ((cond b Done outcomes.Differs ≡ outcomes.Differs) × (outcome ≡ Done))
ends_differing true outcome is = inl is
ends_differing false outcome is = inr (refl, sym is)

ends_done : (ending : Ending) (totals : Totals) (outcome : Outcome) → Done ≡ outcome → EndsAs ending (ending_outcome ending totals) outcome
ends_done Silent totals outcome is = is
ends_done Total totals outcome is = is
ends_done Written totals outcome is = is
ends_done (Compared in_file) totals outcome is = ends_differing ((totals.written == 0) && (totals.fields == in_file)) outcome is

-- and before it
ends_same : (ending : Ending) (outcome plain : Outcome) → outcome ≡ plain → EndsAs ending outcome plain
ends_same Silent outcome plain is = is
ends_same Total outcome plain is = is
ends_same Written outcome plain is = is
ends_same (Compared in_file) outcome plain is = inl is

module _ (command : Command) (answer : plain.Answer) (notes : NotesOutcome (task command) answer) where
  same_outcome : (result : Result ItemTotals Outcome) → NotesCounted (task command) answer.note result → outcome_of result ≡ answer.outcome
      → EndsAs command.ending (outcome_by command.ending result) answer.outcome
  same_outcome (Ok totals) (note, (refused, kept)) is =
      subst (λ b. EndsAs command.ending (cond b (ending_outcome command.ending totals.counted) (outcomes.Passed totals.refused totals.kept)) answer.outcome)
      (sym (plain_is totals refused kept)) (ends_done command.ending totals.counted answer.outcome is)
  same_outcome (Err outcome) note is = ends_same command.ending outcome answer.outcome is

  same_note : (result : Result ItemTotals Outcome) → NotesCounted (task command) answer.note result → outcome_of result ≡ answer.outcome → NotDone result → note_by command.ending result ≡ answer.note
  same_note (Ok totals) (note, (refused, kept)) is not =
      ap (λ b. cond b (ending_note command.ending totals.counted) (passed_ending_note command.ending totals.counted totals.refused totals.kept)) (plain_is totals refused kept) ∙ note
  same_note (Err outcome) note is not = sym (notes (λ done. not (is ∙ done)) ∙ ap note_of (sym is))

pub plainly : (command : Command) → IsLawfulCommand command → (input : List ℕ) → NotesOutcome (task command) (plain.answer_within (2 ^ 40) (task command) input)
    → IsPlain (task command) (answer_within (2 ^ 40) (plan_by command nothing) input) (plain.answer_within (2 ^ 40) (task command) input)
    → IsPlainly command.ending (stated_to command nothing input) (plain.answer_within (2 ^ 40) (task command) input)
plainly command law input notes is =
    let answer = plain.answer_within (2 ^ 40) (task command) input in
    let result = (answer_within (2 ^ 40) (plan_by command nothing) input).result in
    record {
      acts = ap (λ acts. acts ++ (answer_within (2 ^ 40) (plan_by command nothing) input).ending) is.acts ∙ ap (λ ending. answer.acts ++ ending) is.ending;
      lines = is.lines;
      note = same_note command answer notes result is.note is.outcome (within_not command (lawful command law).ends_at_message input);
      outcome = same_outcome command answer notes result is.note is.outcome;
    }
