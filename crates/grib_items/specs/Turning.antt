-- What was done with the octets that were read, and what is waited for.
use Rattle.std.specs.Prelude.{◌≡◌, ℕ, ◌<◌, ◌≤◌, ◌⊎◌, Bool, true, false, not, is_some, ◌&&◌, List, ◌++◌, length, take, Ok, Err}
use Rattle.std.specs.declared.option.Option.{Option}
use Rattle.std.specs.declared.result.Result.{Result}
use Rattle.grib_stream.specs.declared.outcome.Outcome.{Outcome}
use Rattle.grib_stream.specs.declared.performer.Whole.{Whole}
use Rattle.grib_stream.specs.Stream.{begins, Judgement, Message}
use Rattle.grib_stream.specs.Acts.{World}
use Rattle.grib_stream.specs.Outcomes.{is_cut_within}
use Rattle.grib_stream.specs.Task.{Task}
use Rattle.grib_stream.specs.Listening.{EndsHeard, AnswersHeard}
use Rattle.grib_items.specs.declared.policy.Policy.{Policy}
use Rattle.grib_items.specs.declared.policy.ItemTotals.{ItemTotals}
use Rattle.grib_items.specs.declared.deciding.Gone.{Gone}
use Rattle.grib_items.specs.declared.deciding.Wait.{Wait}
use Rattle.grib_items.specs.declared.deciding.Turn.{Turn}
use Rattle.grib_items.specs.declared.deciding.Turn.TheVariants.{Goes as GoesOn, Waits}
use Rattle.grib_items.specs.Deeds.{Deeds, no_deeds, Outside, Done, DoneFront}
use Rattle.grib_items.specs.Answer.{counts_of, totals_by, place_by, one_answered}
use Rattle.grib_items.specs.Laws.{nothing}
use Rattle.grib_items.specs.Steps.{Plan, Step, Goes, Stops, Waits as Unknown, step, deeds_of}

-- whether an item is answered
abbrev pub is_gone : Step → Bool
is_gone (Goes size done totals) = true
is_gone (Stops outcome) = false
is_gone Unknown = false

-- no item is answered before more octets come: there are fewer than four, or those from a `GRIB` on are no item yet
abbrev pub IsQuiet : Plan → ItemTotals → ℕ → List ℕ → Type 0
IsQuiet plan totals place octets = (length octets < 4) ⊎ ((begins octets ≡ true) × (is_gone (step plan true totals place octets) ≡ false))

-- octets of which it is not known yet what comes of them, nor while there are fewer than are wanted
pub record Awaits (plan : Plan) (more : Bool) (totals : ItemTotals) (place : ℕ) (octets : List ℕ) (wanted : ℕ) : Type 0 where
  pub unknown : (length octets < 4) ⊎ ((begins octets ≡ true) × (step plan more totals place octets ≡ Unknown))
  pub fewer : length octets < wanted
  pub quiet : (later : List ℕ) → length (octets ++ later) < wanted → IsQuiet plan totals place (octets ++ later)

-- the run ends with the outcome that comes next, and nothing was done, or a device or memory broke within what was to
-- be done
pub record EndsStep (next : Step) (outcome : Outcome) (before now : Outside) : Type 0 where
  pub stopped : is_cut_within outcome ≡ false → (next ≡ Stops outcome) × Done before now no_deeds
  pub cut : is_cut_within outcome ≡ true → DoneFront before now (deeds_of next)

abbrev pub Turns : Plan → Bool → ItemTotals → ℕ → List ℕ → Result Turn Outcome → Outside → Outside → Type 0
Turns plan more totals place octets (Ok (GoesOn gone)) before now =
    (begins octets ≡ true) × ((done : Deeds) × (step plan more totals place octets ≡ Goes gone.octets done gone.totals) × Done before now done)
Turns plan more totals place octets (Ok (Waits wait)) before now = Awaits plan more totals place octets wait.wanted × Done before now no_deeds
Turns plan more totals place octets (Err outcome) before now =
    (begins octets ≡ true) × EndsStep (step plan more totals place octets) outcome before now

-- ---- what is waited for

-- whether the run ends at the first refusal and at the first message that cannot be changed
abbrev pub passes_nothing : Policy → Bool
passes_nothing policy = not (is_some policy.refused) && not (is_some policy.kept)

-- the message is heard, or it is held whole and no more than one read asks for, or is not heard
pub record HearsOrHolds (hears : List ℕ → Bool) (octets : List ℕ) (is_heard : Bool) (wanted : ℕ) : Type 0 where
  pub heard : is_heard ≡ true → (8 ≤ length octets) × (hears (take 8 octets) ≡ true)
  pub held : is_heard ≡ false → (wanted ≤ 65536) ⊎ ((8 ≤ length octets) × (hears (take 8 octets) ≡ false))

-- A message is heard only where nothing is gone past. None that begins with these octets has fewer than are wanted.
pub record WaitsFor (hears : List ℕ → Bool) (judge : List ℕ → Judgement) (policy : Policy) (octets : List ℕ) (wait : Wait) : Type 0 where
  pub alone : wait.heard ≡ true → policy ≡ nothing
  pub soon : policy ≡ nothing → HearsOrHolds hears octets wait.heard wait.wanted
  pub no_shorter : (more : List ℕ) (total : ℕ) → judge (octets ++ more) ≡ Message total → wait.wanted ≤ total

abbrev pub WaitsSoon : (List ℕ → Bool) → (List ℕ → Judgement) → Policy → List ℕ → Turn → Type 0
WaitsSoon hears judge policy octets (GoesOn gone) = Unit {0}
WaitsSoon hears judge policy octets (Waits wait) = WaitsFor hears judge policy octets wait

-- ---- a message that is heard

-- it was answered, and this was counted behind it, or the run ends within it
abbrev pub HearsItem : Task → ItemTotals → ℕ → Result Gone Outcome → Option (List ℕ) → Option (List ℕ) → List ℕ → List ℕ → ℕ → ℕ → World → World → Type 0
HearsItem task totals place (Ok gone) a c first pending left left_now before now =
    (message : Whole) × (gone.octets ≡ message.octets)
    × (gone.totals ≡ totals_by (one_answered (counts_of totals) message.fields message.written) totals.counted.skipped)
    × AnswersHeard task (place_by (counts_of totals) place) (Ok message) a c first pending left left_now before now
HearsItem task totals place (Err outcome) a c first pending left left_now before now =
    EndsHeard task (place_by (counts_of totals) place) outcome a c first pending left left_now before now
