-- What is done with the octets from a `GRIB` on, and how far the search then goes on behind it.
use Rattle.std.specs.Prelude.{ℕ, ◌+◌, ◌≤◌, ◌*◌, Bool, List, take}
use Rattle.grib_base.specs.declared.limits.TheConstants.{MOST_OCTETS}
use Rattle.grib_stream.specs.declared.outcome.Outcome.{Outcome}
use Rattle.grib_stream.specs.declared.outcome.Outcome.TheVariants as outcomes
use Rattle.grib_stream.specs.Stream.{message_after}
use Rattle.grib_stream.specs.Answer.{refusal_after}
use Rattle.grib_stream.specs.Task.{Task}
use Rattle.grib_stream.specs.Texts.{Texts}
use Rattle.grib_items.specs.declared.policy.Policy.{Policy}
use Rattle.grib_items.specs.declared.policy.ItemTotals.{ItemTotals}
use Rattle.grib_items.specs.Next.{Next, Accepts, Passes, Refuses, Unknown, next}
use Rattle.grib_items.specs.Items.{Accepted, Refused, passed_after}
use Rattle.grib_items.specs.Deeds.{Deeds, no_deeds}
use Rattle.grib_items.specs.Answer.{Comes, Goes as comes_goes, Stops as comes_stops, comes, counts_of, totals_by, passes}

-- what is to be done with the messages of an input, what is noted of the others, and what is passed
pub record Plan : Type 0 where
  pub task : Task
  pub texts : Texts
  pub policy : Policy

abbrev pub plan_of : Task → Texts → Policy → Plan
plan_of task texts policy = record { task = task; texts = texts; policy = policy }

-- this is done, and the search goes on behind this many octets with what was then counted; the run ends; or more
-- octets have to come
pub data Step : Type 0 where
  Goes : ℕ → Deeds → ItemTotals → Step
  Stops : Outcome → Step
  Waits : Step

abbrev pub step_comes : Comes → ℕ → ℕ → Step
step_comes (comes_goes done counts) size skipped = Goes size done (totals_by counts skipped)
step_comes (comes_stops outcome) size skipped = Stops outcome

abbrev pub step_next : Plan → ItemTotals → ℕ → List ℕ → Next → Step
step_next plan totals place octets (Accepts total) =
    step_comes (comes plan.task plan.texts plan.policy (counts_of totals) (Accepted (message_after place (take total octets)))) total
    totals.counted.skipped
step_next plan totals place octets (Passes fault size) =
    step_comes (comes plan.task plan.texts plan.policy (counts_of totals) (Refused (passed_after place fault (take size octets)))) size
    (totals.counted.skipped + size)
step_next plan totals place octets (Refuses fault) = Stops (outcomes.Refused (refusal_after totals.counted.messages fault))
step_next plan totals place octets Unknown = Waits

-- after what was counted so far, at a place: whether more octets may follow
abbrev pub step : Plan → Bool → ItemTotals → ℕ → List ℕ → Step
step plan more totals place octets = step_next plan totals place octets (next plan.task.judge (passes plan.policy) more octets)

abbrev pub deeds_of : Step → Deeds
deeds_of (Goes size done totals) = done
deeds_of (Stops outcome) = no_deeds
deeds_of Waits = no_deeds

-- what was counted of an input before this place fits it
pub record Fits (totals : ItemTotals) (place : ℕ) : Type 0 where
  pub messages : totals.counted.messages ≤ place
  pub fields : totals.counted.fields ≤ place
  pub skipped : totals.counted.skipped ≤ place
  pub written : 20 * totals.counted.written ≤ MOST_OCTETS * place
  pub refused : totals.refused ≤ place
  pub kept : totals.kept ≤ place
