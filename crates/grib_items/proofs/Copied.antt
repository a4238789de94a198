-- What is written where all is copied that is refused or cannot be changed.
use Rattle.std.proofs.Common.{◌≡◌, ℕ, ◌==◌, Bool, true, false, not, cond, List, [], ◌∷◌, ◌++◌, length, Option, None, Some, refl, ap, ◌∙◌}
use Rattle.grib_reasons.specs.declared.cause.Kept.{Kept}
use Rattle.grib_stream.specs.declared.outcome.Outcome.{Outcome}
use Rattle.grib_stream.specs.declared.place.Place.{Place}
use Rattle.grib_stream.specs.Acts.{written}
use Rattle.grib_stream.specs.Task.{Task, Given, Gives, Ends}
use Rattle.grib_stream.specs.Texts.{Texts}
use Rattle.grib_stream.proofs.Worlds.{written-append, written-writes}
use Rattle.grib_items.specs.declared.policy.Instead.TheVariants.{Copy}
use Rattle.grib_items.specs.Items.{Item, Accepted, Refused, End, Over, Refusing, Open, items}
use Rattle.grib_items.specs.Answer.{Counts, Comes, Goes, Stops, Answered, after, answers, answer_of, on_comes, on_given, on_outcome, kept_of, comes, place_by, no_counts}
use Rattle.grib_items.specs.Laws.{copying, copied, copied_on, copied_item, copied_given}

-- what is done for an item writes these octets
abbrev WritesOnly : Comes → List ℕ → Type 0
WritesOnly (Goes done counts) own = written done.acts ≡ own
WritesOnly (Stops outcome) own = Unit {0}

outcome_writes : (texts : Texts) (counts : Counts) (place : Place) (fields : ℕ) (message : List ℕ) (outcome : Outcome) (kept : Option Kept)
    → WritesOnly (on_outcome texts counts place fields message outcome (Some Copy) kept) message
outcome_writes texts counts place fields message outcome None = tt
outcome_writes texts counts place fields message outcome (Some kept) = written-writes message

given_writes : (texts : Texts) (counts : Counts) (place : Place) (fields : ℕ) (message : List ℕ) (given : Given)
    → WritesOnly (on_given texts (Some Copy) counts place fields message given) (copied_given message given)
given_writes texts counts place fields message (Gives acts count) = refl
given_writes texts counts place fields message (Ends outcome) = outcome_writes texts counts place fields message outcome (kept_of outcome)

mark_alone : (b : Bool) (octets : List ℕ) → cond (not b) octets [] ≡ cond b [] octets
mark_alone true octets = refl
mark_alone false octets = refl

item_writes : (task : Task) (texts : Texts) (counts : Counts) (item : Item) → WritesOnly (comes task texts copying counts item) (copied_item task counts item)
item_writes task texts counts (Accepted found) =
    given_writes texts counts (place_by counts found.before) (task.fields found.octets) found.octets (task.result (place_by counts found.before) found.octets)
item_writes task texts counts (Refused passed) =
    written-writes (cond (not (length passed.octets == 4)) passed.octets []) ∙ mark_alone (length passed.octets == 4) passed.octets

comes_writes : (c : Comes) (own : List ℕ) (next : Counts → Answered) (later : Counts → List ℕ) → WritesOnly c own → ((counts : Counts) → written (next counts).deeds.acts ≡ later counts)
    → written (on_comes c (λ done counts. after done (next counts))).deeds.acts ≡ copied_on c own later
comes_writes (Goes done counts) own next later first rest =
    written-append done.acts (next counts).deeds.acts
    ∙ (ap (λ xs. xs ++ written (next counts).deeds.acts) first ∙ ap (λ xs. own ++ xs) (rest counts))
comes_writes (Stops outcome) own next later first rest = refl

answers_write : (task : Task) (texts : Texts) (counts : Counts) (those : List Item) (end : End)
    → written (answers task texts copying counts those end).deeds.acts ≡ copied task texts counts those
answers_write task texts counts [] (Over skipped) = refl
answers_write task texts counts [] (Refusing fault) = refl
answers_write task texts counts [] Open = refl
answers_write task texts counts (item ∷ later) end =
    comes_writes (comes task texts copying counts item) (copied_item task counts item) (λ counts. answers task texts copying counts later end)
    (λ counts. copied task texts counts later) (item_writes task texts counts item) (λ counts. answers_write task texts counts later end)

pub all_copied : (task : Task) (texts : Texts) (more : Bool) (input : List ℕ)
    → written (answer_of task texts copying more input).deeds.acts ≡ copied task texts no_counts (items task.judge true more input).items
all_copied task texts more input = answers_write task texts no_counts (items task.judge true more input).items (items task.judge true more input).end
