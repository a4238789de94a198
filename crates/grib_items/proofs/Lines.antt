-- As many lines as refusals and messages that cannot be changed are counted.
use Rattle.std.proofs.Common.{◌≡◌, ℕ, suc, ◌+◌, Bool, true, false, List, [], ◌∷◌, length, take, nat_lt, Option, None, Some, Ok, Err, subst, arith}
use Rattle.std.specs.declared.result.Result.{Result}
use Rattle.grib_base.specs.Rules.{choose}
use Rattle.grib_reasons.specs.declared.cause.Kept.{Kept}
use Rattle.grib_stream.specs.declared.outcome.Outcome.{Outcome}
use Rattle.grib_stream.specs.declared.place.Place.{Place}
use Rattle.grib_stream.specs.Task.{Task, Given, Gives, Ends}
use Rattle.grib_stream.specs.Texts.{Texts}
use Rattle.grib_items.specs.declared.policy.Instead.{Instead}
use Rattle.grib_items.specs.declared.policy.Policy.{Policy}
use Rattle.grib_items.specs.declared.policy.ItemTotals.{ItemTotals}
use Rattle.grib_items.specs.Items.{Item, Accepted, Refused, End, Over, Refusing, Open, items_from}
use Rattle.grib_items.specs.Answer.{passes, Counts, Answered, after, answers, answer_of, answer_within, on_comes, on_outcome, on_given, kept_of, place_by, no_counts}
use Rattle.grib_items.specs.Laws.{CountsLines}

-- what was counted at the end, after this many lines before
abbrev Counted : ℕ → ℕ → Result ItemTotals Outcome → Type 0
Counted before lines (Ok totals) = totals.refused + totals.kept ≡ before + lines
Counted before lines (Err outcome) = Unit {0}

one_more : (before lines : ℕ) (result : Result ItemTotals Outcome) → Counted (before + 1) lines result → Counted before (suc lines) result
one_more before lines (Ok totals) counted = omega (arith, counted)
one_more before lines (Err outcome) counted = tt

count_as : (before now lines : ℕ) (result : Result ItemTotals Outcome) → before ≡ now → Counted before lines result → Counted now lines result
count_as before now lines result is counted = subst (λ n. Counted n lines result) is counted

abbrev counted_by : Counts → Answered → Type 0
counted_by counts answer = Counted (counts.refused + counts.kept) (length answer.deeds.lines) answer.result

outcome_counted : (texts : Texts) (counts : Counts) (place : Place) (fields : ℕ) (message : List ℕ) (outcome : Outcome) (instead : Instead) (kept : Option Kept)
    (next : Counts → Answered) → ((counts : Counts) → counted_by counts (next counts))
    → counted_by counts (on_comes (on_outcome texts counts place fields message outcome (Some instead) kept) (λ done counts. after done (next counts)))
outcome_counted texts counts place fields message outcome instead None next later = tt
outcome_counted texts counts place fields message outcome instead (Some kept) next later =
    one_more (counts.refused + counts.kept) _ _ (count_as _ _ _ _ (let e : counts.refused + (counts.kept + 1) ≡ counts.refused + counts.kept + 1 = omega arith in e) (later _))

given_counted : (texts : Texts) (instead : Option Instead) (counts : Counts) (place : Place) (fields : ℕ) (message : List ℕ) (given : Given) (next : Counts → Answered)
    → ((counts : Counts) → counted_by counts (next counts))
    → counted_by counts (on_comes (on_given texts instead counts place fields message given) (λ done counts. after done (next counts)))
given_counted texts instead counts place fields message (Gives acts written) next later = later _
given_counted texts None counts place fields message (Ends outcome) next later = tt
given_counted texts (Some instead) counts place fields message (Ends outcome) next later =
    outcome_counted texts counts place fields message outcome instead (kept_of outcome) next later

answers_counted : (task : Task) (texts : Texts) (policy : Policy) (counts : Counts) (items : List Item) (end : End)
    → counted_by counts (answers task texts policy counts items end)
answers_counted task texts policy counts [] (Over skipped) = omega arith
answers_counted task texts policy counts [] (Refusing fault) = tt
answers_counted task texts policy counts [] Open = tt
answers_counted task texts policy counts (Accepted found ∷ later) end =
    given_counted texts policy.kept counts (place_by counts found.before) (task.fields found.octets) found.octets (task.result (place_by counts found.before) found.octets)
    (λ counts. answers task texts policy counts later end) (λ counts. answers_counted task texts policy counts later end)
answers_counted task texts policy counts (Refused passed ∷ later) end =
    one_more (counts.refused + counts.kept) _ _
    (count_as _ _ _ _ (let e : counts.refused + 1 + counts.kept ≡ counts.refused + counts.kept + 1 = omega arith in e) (answers_counted task texts policy _ later end))

lines_counted : (lines : ℕ) (result : Result ItemTotals Outcome) → Counted 0 lines result → CountsLines lines result
lines_counted lines (Ok totals) counted = omega (arith, counted)
lines_counted lines (Err outcome) counted = tt

chosen_counted : (b : Bool) (x y : Answered) → CountsLines (length x.deeds.lines) x.result → CountsLines (length y.deeds.lines) y.result
    → CountsLines (length (choose b (λ _. x) (λ _. y)).deeds.lines) (choose b (λ _. x) (λ _. y)).result
chosen_counted true x y first second = first
chosen_counted false x y first second = second

answer_counted : (task : Task) (texts : Texts) (policy : Policy) (more : Bool) (input : List ℕ)
    → CountsLines (length (answer_of task texts policy more input).deeds.lines) (answer_of task texts policy more input).result
answer_counted task texts policy more input =
    lines_counted _ _ (answers_counted task texts policy no_counts (items_from task.judge (passes policy) more 0 0 0 input).items
    (items_from task.judge (passes policy) more 0 0 0 input).end)

pub line_each : (task : Task) (texts : Texts) (policy : Policy) (limit : ℕ) (input : List ℕ)
    → CountsLines (length (answer_within limit task texts policy input).deeds.lines) (answer_within limit task texts policy input).result
line_each task texts policy limit input =
    chosen_counted (nat_lt limit (length input)) (answer_of task texts policy true (take limit input)) (answer_of task texts policy false input)
    (answer_counted task texts policy true (take limit input)) (answer_counted task texts policy false input)
