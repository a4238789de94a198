-- What a run may end with at an item.
use Rattle.std.proofs.Common.{◌≡◌, ◌≢◌, ℕ, Bool, true, false, cond, ◌&&◌, List, take, Option, Some, None, refl, sym, subst}
use Rattle.grib_base.specs.declared.fault.Fault.{Fault}
use Rattle.grib_reasons.specs.declared.cause.Kept.{Kept as KeptMessage}
use Rattle.grib_stream.specs.declared.outcome.Outcome.{Outcome}
use Rattle.grib_stream.specs.declared.outcome.Outcome.TheVariants.{Refused, ReadFault, InputTooLong}
use Rattle.grib_stream.specs.declared.place.Place.{Place}
use Rattle.grib_stream.specs.Stream.{Judgement, Message, Faulty}
use Rattle.grib_stream.specs.Outcomes.{is_truncated, is_of_message, is_whole}
use Rattle.grib_stream.specs.Answer.{refusal_after}
use Rattle.grib_stream.specs.Task.{Task, IsLawful, Given, Gives, Ends}
use Rattle.grib_stream.proofs.ByKind.{of_message}
use Rattle.grib_stream.specs.Texts.{Texts}
use Rattle.grib_items.specs.declared.policy.Instead.{Instead}
use Rattle.grib_items.specs.declared.policy.ItemTotals.{ItemTotals}
use Rattle.grib_items.specs.Next.{Unknown, Refuses, next_judged, next_passed, passed}
use Rattle.grib_items.specs.Answer.{Counts, on_given, on_outcome, kept_of, counts_of, place_by, passes}
use Rattle.grib_items.specs.Steps.{Plan, Stops, step, step_next, step_comes}

-- an outcome before the end of an input that is not too long
pub record AtItem (outcome : Outcome) : Type 0 where
  pub not_long : outcome ≢ InputTooLong
  pub not_read : outcome ≢ ReadFault
  pub before_end : is_whole outcome ≡ false

at_message : (outcome : Outcome) → is_of_message outcome ≡ true → AtItem outcome
at_message outcome is = let of = of_message outcome is in record { not_long = of.not_long; not_read = of.not_read; before_end = of.before_end }

outcome_ends : (texts : Texts) (counts : Counts) (at : Place) (fields : ℕ) (message : List ℕ) (outcome other : Outcome) (instead : Option Instead) (kept : Option KeptMessage) (n skipped : ℕ)
    → is_of_message outcome ≡ true → step_comes (on_outcome texts counts at fields message outcome instead kept) n skipped ≡ Stops other → AtItem other
outcome_ends texts counts at fields message outcome other None kept n skipped kind is =
    let same : outcome ≡ other = cc in at_message other (subst (λ o. is_of_message o ≡ true) same kind)
outcome_ends texts counts at fields message outcome other (Some instead) None n skipped kind is =
    let same : outcome ≡ other = cc in at_message other (subst (λ o. is_of_message o ≡ true) same kind)
outcome_ends texts counts at fields message outcome other (Some instead) (Some kept) n skipped kind is = let no : ⊥ = cc in absurd no

given_ends : (task : Task) → IsLawful task → (texts : Texts) (instead : Option Instead) (counts : Counts) (at : Place) (fields : ℕ) (message : List ℕ) (given : Given) (other : Outcome)
    (n skipped : ℕ) → task.result at message ≡ given → step_comes (on_given texts instead counts at fields message given) n skipped ≡ Stops other → AtItem other
given_ends task lawful texts instead counts at fields message (Gives acts written) other n skipped given is = let no : ⊥ = cc in absurd no
given_ends task lawful texts instead counts at fields message (Ends outcome) other n skipped given is =
    outcome_ends texts counts at fields message outcome other instead (kept_of outcome) n skipped (lawful.ends_at_message at message outcome given) is

refused_ends : (plan : Plan) (totals : ItemTotals) (place : ℕ) (octets : List ℕ) (fault : Fault) (t passing : Bool) (p : Option ℕ) (outcome : Outcome)
    → step_next plan totals place octets (cond t Unknown (cond passing (next_passed fault p) (Refuses fault))) ≡ Stops outcome → AtItem outcome
refused_ends plan totals place octets fault true passing p outcome is = let no : ⊥ = cc in absurd no
refused_ends plan totals place octets fault false false p outcome is =
    let same : Refused (refusal_after totals.counted.messages fault) ≡ outcome = cc in
    subst AtItem same record { not_long = λ e. cc; not_read = λ e. cc; before_end = refl }
refused_ends plan totals place octets fault false true None outcome is = let no : ⊥ = cc in absurd no
refused_ends plan totals place octets fault false true (Some size) outcome is = let no : ⊥ = cc in absurd no

judged_ends : (plan : Plan) → IsLawful plan.task → (more : Bool) (totals : ItemTotals) (place : ℕ) (octets : List ℕ) (outcome : Outcome) (j : Judgement)
    → step_next plan totals place octets (next_judged (passes plan.policy) more octets j) ≡ Stops outcome → AtItem outcome
judged_ends plan lawful more totals place octets outcome (Message total) is =
    given_ends plan.task lawful plan.texts plan.policy.kept (counts_of totals) (place_by (counts_of totals) place) (plan.task.fields (take total octets)) (take total octets)
    (plan.task.result (place_by (counts_of totals) place) (take total octets)) outcome total totals.counted.skipped refl is
judged_ends plan lawful more totals place octets outcome (Faulty fault) is =
    refused_ends plan totals place octets fault (more && is_truncated fault.reason) (passes plan.policy) (passed more octets) outcome is

pub step_ends : (plan : Plan) → IsLawful plan.task → (more : Bool) (totals : ItemTotals) (place : ℕ) (octets : List ℕ) (outcome : Outcome)
    → step plan more totals place octets ≡ Stops outcome → AtItem outcome
step_ends plan lawful more totals place octets outcome is = judged_ends plan lawful more totals place octets outcome (plan.task.judge octets) is
