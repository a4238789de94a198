-- What is written for the items of an input.
use Rattle.std.specs.Prelude.{◌≡◌, ◌⊎◌, ℕ, Bool, false, List, [], ◌∷◌, length, None, Some}
use Rattle.std.specs.List.{concat}
use Rattle.std.specs.declared.option.Option.{Option}
use Rattle.grib_reasons.specs.declared.cause.Cause.{Cause}
use Rattle.grib_stream.specs.declared.outcome.Outcome.{Outcome}
use Rattle.grib_stream.specs.declared.place.Place.{Place}
use Rattle.grib_stream.specs.Acts.{Act, written}
use Rattle.grib_stream.specs.Task.{Gives, Ends}
use Rattle.grib_items.specs.declared.policy.Instead.{Instead}
use Rattle.grib_items.specs.declared.policy.Policy.{Policy}
use Rattle.grib_items.specs.Answer.{instead_of, refused_instead}
use Rattle.grib_items.specs.Items.{Item, Accepted, Refused}
use Rattle.grib_items.specs.Laws.{is_kept}
use Rattle.grib_items.specs.Run.{answer_of}
use Rattle.grib_command.specs.Command.{Command, given, kept_at}
use Rattle.grib_run_spec.specs.Stated.{plan_by, stated_by}
use Rattle.grib_run_spec.specs.Tasks.{Stated}
use Rattle.grib_run_law.specs.Answered.{items_of}

-- a command has a result for a message, wherever it stands: it can be changed as asked
abbrev pub HasResult : Command → List ℕ → Type 0
HasResult command message = (place : Place) → (acts : List Act) × (octets : ℕ) × (given command place message ≡ Gives acts octets)

-- a command cannot change a message, by a cause, wherever it stands
abbrev pub IsKept : Command → List ℕ → Type 0
IsKept command message = (cause : Cause) × ((place : Place) → given command place message ≡ Ends (kept_at place.message cause))

-- octets stand for a message that the command cannot change: they are the message, or there are
-- none, as the policy says
abbrev pub StandsFor : Command → Option Instead → List ℕ → List ℕ → Type 0
StandsFor command None message octets = ⊥
StandsFor command (Some instead) message octets = IsKept command message × (octets ≡ instead_of instead message)

-- what is left out: nothing, or all from a message on that the command cannot change, under a
-- policy by which the run ends there
abbrev pub AreLeftOut : Command → Policy → List Item → Type 0
AreLeftOut command policy [] = Unit {0}
AreLeftOut command policy (Accepted found ∷ later) = (policy.kept ≡ None) × IsKept command found.octets
AreLeftOut command policy (Refused refused ∷ later) = ⊥

-- For each item until the run ends, what was written: for a message of which there is a result what `Is` says, or what
-- stands for it where it cannot be changed; for octets that are refused, what the policy has in
-- their place.
abbrev pub AreWritten : (List ℕ → List ℕ → Type 0) → Command → Policy → List Item → List (List ℕ) → Type 0
AreWritten Is command policy items [] = AreLeftOut command policy items
AreWritten Is command policy [] (octets ∷ later) = ⊥
AreWritten Is command policy (Accepted found ∷ items) (octets ∷ later) =
    ((HasResult command found.octets × Is found.octets octets) ⊎ StandsFor command policy.kept found.octets octets)
    × AreWritten Is command policy items later
AreWritten Is command policy (Refused refused ∷ items) (octets ∷ later) =
    (octets ≡ refused_instead policy.refused refused.octets) × AreWritten Is command policy items later

-- Octets are what was written for the items, one after another; for all of them unless the run ended with a message that
-- cannot be changed.
pub record WritesItems (Is : List ℕ → List ℕ → Type 0) (command : Command) (policy : Policy) (outcome : Outcome) (items : List Item) (octets : List ℕ) : Type 0 where
  pub outputs : List (List ℕ)
  pub joined : octets ≡ concat outputs
  pub are : AreWritten Is command policy items outputs
  pub all : is_kept outcome ≡ false → length outputs ≡ length items

-- the stated answer to octets, of which more may follow or not
abbrev pub stated_of : Command → Policy → Bool → List ℕ → Stated
stated_of command policy more octets = stated_by command.ending (answer_of (plan_by command policy) more octets)

-- it writes this for the items
abbrev pub Writes : (List ℕ → List ℕ → Type 0) → Command → Policy → Bool → List ℕ → Type 0
Writes Is command policy more octets =
    let stated = stated_of command policy more octets in
    WritesItems Is command policy stated.outcome (items_of command.profile policy more octets).items (written stated.acts)
