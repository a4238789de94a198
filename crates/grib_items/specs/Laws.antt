-- What is said of answers and of items.
use Rattle.std.specs.Prelude.{◌≡◌, ℕ, ◌+◌, ◌≤◌, ◌==◌, cond, ◌++◌, Bool, true, false, List, [], ◌∷◌, length, take, drop, Some, None, Ok, Err}
use Rattle.std.specs.declared.result.Result.{Result}
use Rattle.grib_stream.specs.declared.outcome.Outcome.{Outcome}
use Rattle.grib_stream.specs.declared.outcome.Outcome.TheVariants.{Done, Refused as Refusal, Kept}
use Rattle.grib_stream.specs.declared.place.Place.{Place}
use Rattle.grib_base.specs.Rules.{refusal}
use Rattle.grib_base.specs.declared.fault.Reason.TheVariants.{Edition}
use Rattle.grib_stream.specs.Stream.{begins, Found, Judgement, Message, Faulty}
use Rattle.grib_stream.specs.Answer.{Answer}
use Rattle.grib_stream.specs.Acts.{written}
use Rattle.grib_stream.specs.Task.{Task, Given, Gives, Ends}
use Rattle.grib_stream.specs.Texts.{Texts}
use Rattle.grib_items.specs.declared.policy.Instead.TheVariants.{Copy}
use Rattle.grib_items.specs.declared.policy.Policy.{Policy}
use Rattle.grib_items.specs.declared.policy.ItemTotals.{ItemTotals}
use Rattle.grib_items.specs.Next.{passed}
use Rattle.grib_items.specs.Items.{Item, Accepted, Refused, End, Refusing}
use Rattle.grib_items.specs.Answer.{Answered, Counts, Comes, Goes, Stops, comes, place_by}

-- nothing is passed
abbrev pub nothing : Policy
nothing = record { refused = None; kept = None }

-- how a run ends that answers what was counted of an input that it read to its end, or else the outcome
abbrev pub outcome_of : Result ItemTotals Outcome → Outcome
outcome_of (Ok totals) = Done
outcome_of (Err outcome) = outcome

abbrev pub is_refusal : Outcome → Bool
is_refusal (Refusal refusal) = true
is_refusal _ = false

abbrev pub is_kept : Outcome → Bool
is_kept (Kept kept) = true
is_kept _ = false

-- the result of a message is no refusal
abbrev pub RefusesNone : Task → Type 0
RefusesNone task = (place : Place) (message : List ℕ) (outcome : Outcome) → task.result place message ≡ Ends outcome → is_refusal outcome ≡ false

-- what is noted at the end of the input is the task's note of what was counted, and nothing was passed
abbrev pub NotesCounted : Task → List ℕ → Result ItemTotals Outcome → Type 0
NotesCounted task note (Ok totals) = ((task.ending totals.counted).note ≡ note) × ((totals.refused ≡ 0) × (totals.kept ≡ 0))
NotesCounted task note (Err outcome) = Unit {0}

-- an answer is the one of a run that passes nothing
pub record IsPlain (task : Task) (answer : Answered) (plain : Answer) : Type 0 where
  pub acts : answer.deeds.acts ≡ plain.acts
  pub lines : answer.deeds.lines ≡ []
  pub ending : answer.ending ≡ plain.ending
  pub outcome : outcome_of answer.result ≡ plain.outcome
  pub note : NotesCounted task plain.note answer.result

-- as many lines as refusals and messages that cannot be changed are counted
abbrev pub CountsLines : ℕ → Result ItemTotals Outcome → Type 0
CountsLines lines (Ok totals) = totals.refused + totals.kept ≡ lines
CountsLines lines (Err outcome) = Unit {0}

-- ---- what is copied

-- what is refused is copied, and so is what cannot be changed
abbrev pub copying : Policy
copying = record { refused = Some Copy; kept = Some Copy }

-- what is written for an item then: what the task gives for a message, and as it is a message that
-- cannot be changed; and refused octets as they are, but for a mark alone
abbrev pub copied_given : List ℕ → Given → List ℕ
copied_given message (Gives acts written_octets) = written acts
copied_given message (Ends outcome) = message

abbrev pub copied_item : Task → Counts → Item → List ℕ
copied_item task counts (Accepted found) = copied_given found.octets (task.result (place_by counts found.before) found.octets)
copied_item task counts (Refused passed) = cond (length passed.octets == 4) [] passed.octets

-- and for the items one after another, behind what was counted, up to one that ends the run
abbrev pub copied_on : Comes → List ℕ → (Counts → List ℕ) → List ℕ
copied_on (Goes done counts) own later = own ++ later counts
copied_on (Stops outcome) own later = []

abbrev pub copied : Task → Texts → Counts → List Item → List ℕ
copied task texts counts [] = []
copied task texts counts (item ∷ later) =
    copied_on (comes task texts copying counts item) (copied_item task counts item) (λ counts. copied task texts counts later)

-- ---- items

-- where an item begins, and how many octets it has
abbrev pub item_before : Item → ℕ
item_before (Accepted found) = found.before
item_before (Refused passed) = passed.before

abbrev pub item_size : Item → ℕ
item_size (Accepted found) = length found.octets
item_size (Refused passed) = length passed.octets

-- from this place on the items lie one behind the other, and the last ends at place `end` at the latest
abbrev pub AreInOrder : ℕ → List Item → ℕ → Type 0
AreInOrder place [] end = place ≤ end
AreInOrder place (item ∷ later) end = (place ≤ item_before item) × AreInOrder (item_before item + item_size item) later end

-- The octets from an item on begin with `GRIB`, and are a message with its octets, or refused for its reason and passed
-- by its number of octets.
abbrev pub IsItem : (List ℕ → Judgement) → Bool → List ℕ → Item → Type 0
IsItem judge more rest (Accepted found) = (judge rest ≡ Message (length found.octets)) × (take (length found.octets) rest ≡ found.octets)
IsItem judge more rest (Refused refused) =
    (judge rest ≡ Faulty refused.fault) × (passed more rest ≡ Some (length refused.octets)) × (take (length refused.octets) rest ≡ refused.octets)

abbrev pub StandsIn : (List ℕ → Judgement) → Bool → List ℕ → Item → Type 0
StandsIn judge more input item = let rest = drop (item_before item) input in (begins rest ≡ true) × IsItem judge more rest item

-- where octets are refused and not passed, they stand in the input
abbrev pub EndStandsIn : (List ℕ → Judgement) → List ℕ → End → Type 0
EndStandsIn judge input (Refusing fault) = (before : ℕ) × (begins (drop before input) ≡ true) × (judge (drop before input) ≡ Faulty fault)
EndStandsIn judge input end = Unit {0}

-- messages as items
abbrev pub accepted_items : List Found → List Item
accepted_items [] = []
accepted_items (found ∷ later) = Accepted found ∷ accepted_items later

-- ---- a worked input

-- one that refuses all octets, at octet 8
abbrev pub refuses_all : List ℕ → Judgement
refuses_all octets = Faulty (refusal 8 Edition 3)

-- `GRIB`, a total length of 12, edition 1, and the End Section
abbrev pub stated_12 : List ℕ
stated_12 = 71 ∷ 82 ∷ 73 ∷ 66 ∷ 0 ∷ 0 ∷ 12 ∷ 1 ∷ 55 ∷ 55 ∷ 55 ∷ 55 ∷ []

-- another mark in place of the End Section
abbrev pub nested : List ℕ
nested = 71 ∷ 82 ∷ 73 ∷ 66 ∷ 0 ∷ 0 ∷ 12 ∷ 1 ∷ 71 ∷ 82 ∷ 73 ∷ 66 ∷ []
