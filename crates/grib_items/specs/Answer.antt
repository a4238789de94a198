-- What is answered to a task under a policy, by the input alone.
use Rattle.std.specs.Prelude.{ℕ, ◌+◌, ◌==◌, Bool, true, false, not, cond, is_some, List, [], ◌∷◌, length, take, nat_lt, Some, None, Ok, Err}
use Rattle.std.specs.declared.option.Option.{Option}
use Rattle.std.specs.declared.result.Result.{Result}
use Rattle.grib_base.specs.Rules.{choose}
use Rattle.grib_reasons.specs.declared.cause.Kept.{Kept}
use Rattle.grib_stream.specs.declared.outcome.Outcome.{Outcome}
use Rattle.grib_stream.specs.declared.outcome.Outcome.TheVariants as outcomes
use Rattle.grib_stream.specs.declared.place.Place.{Place}
use Rattle.grib_stream.specs.Stream.{Found}
use Rattle.grib_stream.specs.Acts.{Act, writes}
use Rattle.grib_stream.specs.Answer.{totals_of, place_of, refusal_after}
use Rattle.grib_stream.specs.Task.{Task, Given, Gives, Ends}
use Rattle.grib_stream.specs.Texts.{Texts}
use Rattle.grib_items.specs.declared.policy.Instead.{Instead}
use Rattle.grib_items.specs.declared.policy.Instead.TheVariants.{Copy, Pass}
use Rattle.grib_items.specs.declared.policy.Policy.{Policy}
use Rattle.grib_items.specs.declared.policy.ItemTotals.{ItemTotals}
use Rattle.grib_items.specs.Items.{Item, Accepted, Refused, Passed, End, Over, Refusing, Open, Items, items_from}
use Rattle.grib_items.specs.Deeds.{Deeds, deeds, no_deeds, then}

-- ---- what was counted

-- of the items before a place: messages, their fields, the octets of their results as far as they are counted,
-- refusals that were passed, and messages that could not be changed
pub record Counts : Type 0 where
  pub messages : ℕ
  pub fields : ℕ
  pub written : ℕ
  pub refused : ℕ
  pub kept : ℕ

abbrev pub counts_of : ItemTotals → Counts
counts_of totals = record {
  messages = totals.counted.messages;
  fields = totals.counted.fields;
  written = totals.counted.written;
  refused = totals.refused;
  kept = totals.kept;
}

abbrev pub totals_by : Counts → ℕ → ItemTotals
totals_by counts skipped = record {
  counted = totals_of counts.messages counts.fields skipped counts.written;
  refused = counts.refused;
  kept = counts.kept;
}

abbrev pub no_counts : Counts
no_counts = record { messages = 0; fields = 0; written = 0; refused = 0; kept = 0 }

-- one message more with this many fields, for which this many octets were written
abbrev pub one_answered : Counts → ℕ → ℕ → Counts
one_answered counts fields written =
    record counts { messages = counts.messages + 1; fields = counts.fields + fields; written = counts.written + written }

-- one that could not be changed
abbrev pub one_kept : Counts → ℕ → ℕ → Counts
one_kept counts fields written =
    record counts { messages = counts.messages + 1; fields = counts.fields + fields; written = counts.written + written; kept = counts.kept + 1 }

-- one refusal more, for which this many octets were written
abbrev pub one_refused : Counts → ℕ → Counts
one_refused counts written = record counts { written = counts.written + written; refused = counts.refused + 1 }

abbrev pub place_by : Counts → ℕ → Place
place_by counts before = place_of counts.messages before counts.fields

-- ---- what comes of an item

-- this is done for it, and this was counted behind it, or the run ends before it
pub data Comes : Type 0 where
  Goes : Deeds → Counts → Comes
  Stops : Outcome → Comes

-- what is written instead of octets
abbrev pub instead_of : Instead → List ℕ → List ℕ
instead_of Copy octets = octets
instead_of Pass octets = []

-- whether refused octets are copied: a mark alone, of four octets, never is
abbrev pub is_copied : Option Instead → List ℕ → Bool
is_copied (Some Copy) octets = not (length octets == 4)
is_copied _ octets = false

-- what is written instead of refused octets
abbrev pub refused_instead : Option Instead → List ℕ → List ℕ
refused_instead instead octets = cond (is_copied instead octets) octets []

-- whether the run goes on behind a refusal
abbrev pub passes : Policy → Bool
passes policy = is_some policy.refused

-- the message that cannot be changed, of an outcome
abbrev pub kept_of : Outcome → Option Kept
kept_of (outcomes.Kept kept) = Some kept
kept_of _ = None

abbrev pub keeps : Texts → Counts → Place → ℕ → List ℕ → Kept → Comes
keeps texts counts place fields octets kept =
    Goes (deeds (writes octets) (texts.kept place kept ∷ [])) (one_kept counts fields (length octets))

-- an outcome with which a message ends the run, unless it cannot be changed and something is
-- written instead
abbrev pub on_outcome : Texts → Counts → Place → ℕ → List ℕ → Outcome → Option Instead → Option Kept → Comes
on_outcome texts counts place fields message outcome None kept = Stops outcome
on_outcome texts counts place fields message outcome (Some instead) None = Stops outcome
on_outcome texts counts place fields message outcome (Some instead) (Some kept) = keeps texts counts place fields (instead_of instead message) kept

abbrev pub on_given : Texts → Option Instead → Counts → Place → ℕ → List ℕ → Given → Comes
on_given texts instead counts place fields message (Gives acts written) = Goes (deeds acts []) (one_answered counts fields written)
on_given texts instead counts place fields message (Ends outcome) =
    on_outcome texts counts place fields message outcome instead (kept_of outcome)

abbrev pub comes_accepted : Task → Texts → Policy → Counts → Found → Comes
comes_accepted task texts policy counts found =
    let place = place_by counts found.before in
    on_given texts policy.kept counts place (task.fields found.octets) found.octets (task.result place found.octets)

abbrev pub comes_refused : Texts → Policy → Counts → Passed → Comes
comes_refused texts policy counts passed =
    let octets = refused_instead policy.refused passed.octets in
    Goes (deeds (writes octets) (texts.refused (is_copied policy.refused passed.octets) (place_by counts passed.before) passed.fault ∷ []))
    (one_refused counts (length octets))

abbrev pub comes : Task → Texts → Policy → Counts → Item → Comes
comes task texts policy counts (Accepted found) = comes_accepted task texts policy counts found
comes task texts policy counts (Refused passed) = comes_refused texts policy counts passed

-- ---- the answer

-- what is done for the items, what is done at the end of the input, and how the run ends: at the end of the input with
-- what was counted, or with an outcome
pub record Answered : Type 0 where
  pub deeds : Deeds
  pub ending : List Act
  pub result : Result ItemTotals Outcome

abbrev pub ends_with : Outcome → Answered
ends_with outcome = record { deeds = no_deeds; ending = []; result = Err outcome }

abbrev pub done : Task → ItemTotals → Answered
done task totals = record { deeds = no_deeds; ending = (task.ending totals.counted).acts; result = Ok totals }

-- an answer after what was done before it
abbrev pub after : Deeds → Answered → Answered
after before answer = record answer { deeds = then before answer.deeds }

-- An input of which more may follow is one that is longer than is answered.
abbrev pub on_end : Task → Counts → End → Answered
on_end task counts (Over skipped) = done task (totals_by counts skipped)
on_end task counts (Refusing fault) = ends_with (outcomes.Refused (refusal_after counts.messages fault))
on_end task counts Open = ends_with outcomes.InputTooLong

abbrev pub on_comes : Comes → (Deeds → Counts → Answered) → Answered
on_comes (Goes done counts) next = next done counts
on_comes (Stops outcome) next = ends_with outcome

-- what comes of the items, one after another, behind what was counted
abbrev pub answers : Task → Texts → Policy → Counts → List Item → End → Answered
answers task texts policy counts [] end = on_end task counts end
answers task texts policy counts (item ∷ later) end =
    on_comes (comes task texts policy counts item) (λ done counts. after done (answers task texts policy counts later end))

abbrev pub answer_to : Task → Texts → Policy → Counts → Items → Answered
answer_to task texts policy counts items = answers task texts policy counts items.items items.end

-- the answer to what is left of an input, after what was counted so far, at a place
abbrev pub answer_at : Task → Texts → Policy → Bool → ItemTotals → ℕ → List ℕ → Answered
answer_at task texts policy more totals place left =
    answer_to task texts policy (counts_of totals) (items_from task.judge (passes policy) more 0 place totals.counted.skipped left)

-- the answer to an input, however long it is, or to octets of which more may follow
abbrev pub answer_of : Task → Texts → Policy → Bool → List ℕ → Answered
answer_of task texts policy more input = answer_at task texts policy more (totals_by no_counts 0) 0 input

-- the answer to an input, of which this many octets are answered at most
abbrev pub answer_within : ℕ → Task → Texts → Policy → List ℕ → Answered
answer_within limit task texts policy input =
    choose (nat_lt limit (length input)) (λ _. answer_of task texts policy true (take limit input))
    (λ _. answer_of task texts policy false input)
