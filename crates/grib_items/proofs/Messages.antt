-- Where nothing is gone past, each item is a message.
use Rattle.std.proofs.Common.{◌≡◌, ◌≢◌, ℕ, ◌+◌, ◌<◌, ◌≤◌, Bool, true, false, cond, ◌&&◌, not, is_some, List, ◌++◌, length, take, drop, Option, Some, None, refl, sym, ap, ◌∙◌, ⊎_elim, take-append-drop}
use Rattle.std.proofs.lemmas.Bool.{cases_lt, false≢true}
use Rattle.std.proofs.lemmas.List.{take-append-le}
use Rattle.grib_base.specs.declared.fault.Fault.{Fault}
use Rattle.grib_reasons.specs.declared.cause.Kept.{Kept}
use Rattle.grib_stream.specs.declared.outcome.Outcome.{Outcome}
use Rattle.grib_stream.specs.declared.place.Place.{Place}
use Rattle.grib_stream.specs.Stream.{Judgement, Message, Faulty}
use Rattle.grib_stream.specs.Outcomes.{is_truncated}
use Rattle.grib_stream.specs.Task.{Task, IsLawful, Given, Gives, Ends}
use Rattle.grib_stream.specs.Texts.{Texts}
use Rattle.grib_items.specs.declared.policy.Instead.{Instead}
use Rattle.grib_items.specs.declared.policy.Policy.{Policy}
use Rattle.grib_items.specs.declared.policy.ItemTotals.{ItemTotals}
use Rattle.grib_items.specs.Next.{Refuses, Unknown, next_judged, next_passed, passed}
use Rattle.grib_items.specs.Deeds.{Deeds}
use Rattle.grib_items.specs.Answer.{Counts, on_given, on_outcome, kept_of, one_answered, counts_of, totals_by, place_by, passes}
use Rattle.grib_items.specs.Laws.{nothing}
use Rattle.grib_items.specs.Steps.{Plan, Goes, step, step_next, step_comes}
use Rattle.grib_items.specs.Turning.{is_gone, passes_nothing}

both_absent : (refused kept : Option Instead) → (not (is_some refused) && not (is_some kept)) ≡ true → record { refused = refused; kept = kept } ≡ nothing
both_absent None None is = refl
both_absent None (Some instead) is = absurd (false≢true is)
both_absent (Some instead) kept is = absurd (false≢true is)

pub is_nothing : (policy : Policy) → passes_nothing policy ≡ true → policy ≡ nothing
is_nothing policy is = both_absent policy.refused policy.kept is

pub nothing_is : (policy : Policy) → policy ≡ nothing → passes_nothing policy ≡ true
nothing_is policy is = ap passes_nothing is

-- an item, and what was then counted
pub record GoneMessage (plan : Plan) (octets : List ℕ) (totals totals_now : ItemTotals) (n : ℕ) : Type 0 where
  pub accepted : plan.task.judge octets ≡ Message n
  pub counted : totals_now.counted.messages ≡ totals.counted.messages + 1

gone_outcome : (texts : Texts) (counts : Counts) (at : Place) (fields : ℕ) (message : List ℕ) (outcome : Outcome) (instead : Option Instead) (kept : Option Kept) (size skipped n : ℕ)
    (done : Deeds) (totals_now : ItemTotals) → instead ≡ None → step_comes (on_outcome texts counts at fields message outcome instead kept) size skipped ≡ Goes n done totals_now → ⊥
gone_outcome texts counts at fields message outcome None kept size skipped n done totals_now none is = cc
gone_outcome texts counts at fields message outcome (Some instead) kept size skipped n done totals_now none is = cc

gone_given : (plan : Plan) (octets : List ℕ) (totals : ItemTotals) (instead : Option Instead) (at : Place) (fields : ℕ) (message : List ℕ) (given : Given) (size n : ℕ) (done : Deeds)
    (totals_now : ItemTotals) → instead ≡ None → plan.task.judge octets ≡ Message size
    → step_comes (on_given plan.texts instead (counts_of totals) at fields message given) size totals.counted.skipped ≡ Goes n done totals_now → GoneMessage plan octets totals totals_now n
gone_given plan octets totals instead at fields message (Gives acts written) size n done totals_now none so is =
    let same : size ≡ n = cc in
    let now : totals_by (one_answered (counts_of totals) fields written) totals.counted.skipped ≡ totals_now = cc in
    record { accepted = so ∙ ap Message same; counted = ap (λ t. t.counted.messages) (sym now) }
gone_given plan octets totals instead at fields message (Ends outcome) size n done totals_now none so is =
    absurd (gone_outcome plan.texts (counts_of totals) at fields message outcome instead (kept_of outcome) size totals.counted.skipped n done totals_now none is)

gone_refused : (plan : Plan) (totals : ItemTotals) (place : ℕ) (octets : List ℕ) (fault : Fault) (t passing : Bool) (p : Option ℕ) (n : ℕ) (done : Deeds) (totals_now : ItemTotals)
    → passing ≡ false → step_next plan totals place octets (cond t Unknown (cond passing (next_passed fault p) (Refuses fault))) ≡ Goes n done totals_now → ⊥
gone_refused plan totals place octets fault true passing p n done totals_now none is = cc
gone_refused plan totals place octets fault false false p n done totals_now none is = cc
gone_refused plan totals place octets fault false true p n done totals_now none is = false≢true (sym none)

gone_judged : (plan : Plan) (more : Bool) (totals : ItemTotals) (place : ℕ) (octets : List ℕ) (j : Judgement) (n : ℕ) (done : Deeds) (totals_now : ItemTotals)
    → plan.policy ≡ nothing → plan.task.judge octets ≡ j → step_next plan totals place octets (next_judged (passes plan.policy) more octets j) ≡ Goes n done totals_now
    → GoneMessage plan octets totals totals_now n
gone_judged plan more totals place octets (Message total) n done totals_now none so is =
    let at : Place = place_by (counts_of totals) place in
    gone_given plan octets totals plan.policy.kept at (plan.task.fields (take total octets)) (take total octets) (plan.task.result at (take total octets)) total n done totals_now
    (ap (λ p. p.kept) none) so is
gone_judged plan more totals place octets (Faulty fault) n done totals_now none so is =
    absurd (gone_refused plan totals place octets fault (more && is_truncated fault.reason) (passes plan.policy) (passed more octets) n done totals_now (ap passes none) is)

pub gone_message : (plan : Plan) (more : Bool) (totals : ItemTotals) (place : ℕ) (octets : List ℕ) (n : ℕ) (done : Deeds) (totals_now : ItemTotals)
    → plan.policy ≡ nothing → step plan more totals place octets ≡ Goes n done totals_now → GoneMessage plan octets totals totals_now n
gone_message plan more totals place octets n done totals_now none is = gone_judged plan more totals place octets (plan.task.judge octets) n done totals_now none refl is

-- octets that are no message are no item
quiet_refused : (plan : Plan) (totals : ItemTotals) (place : ℕ) (octets : List ℕ) (fault : Fault) (t passing : Bool) (p : Option ℕ) → passing ≡ false
    → is_gone (step_next plan totals place octets (cond t Unknown (cond passing (next_passed fault p) (Refuses fault)))) ≡ false
quiet_refused plan totals place octets fault true passing p none = refl
quiet_refused plan totals place octets fault false false p none = refl
quiet_refused plan totals place octets fault false true p none = absurd (false≢true (sym none))

quiet_judged : (plan : Plan) (more : Bool) (totals : ItemTotals) (place : ℕ) (octets : List ℕ) (j : Judgement) → plan.policy ≡ nothing → plan.task.judge octets ≡ j
    → ((total : ℕ) → plan.task.judge octets ≢ Message total) → is_gone (step_next plan totals place octets (next_judged (passes plan.policy) more octets j)) ≡ false
quiet_judged plan more totals place octets (Message total) none so no_message = absurd (no_message total so)
quiet_judged plan more totals place octets (Faulty fault) none so no_message =
    quiet_refused plan totals place octets fault (more && is_truncated fault.reason) (passes plan.policy) (passed more octets) (ap passes none)

pub quiet_unaccepted : (plan : Plan) (more : Bool) (totals : ItemTotals) (place : ℕ) (octets : List ℕ) → plan.policy ≡ nothing
    → ((total : ℕ) → plan.task.judge octets ≢ Message total) → is_gone (step plan more totals place octets) ≡ false
quiet_unaccepted plan more totals place octets none no_message = quiet_judged plan more totals place octets (plan.task.judge octets) none refl no_message

-- octets that are refused are fewer than their message has
pub longer : (task : Task) → IsLawful task → (octets more : List ℕ) (fault : Fault) (total : ℕ) → task.judge octets ≡ Faulty fault
    → task.judge (octets ++ more) ≡ Message total → length octets < total
longer task lawful octets more fault total is later =
    ⊎_elim (λ (less : length octets < total). less)
    (λ (there : total ≤ length octets).
    let alone : task.judge (take total octets) ≡ Message total =
    ap task.judge (sym (take-append-le total octets more there)) ∙ lawful.alone (octets ++ more) total later in
    let here : task.judge octets ≡ Message total =
    ap task.judge (sym (take-append-drop total octets)) ∙ lawful.message_stays (take total octets) (drop total octets) total alone in
    let e : Faulty fault ≡ Message total = sym is ∙ here in
    let no : ⊥ = cc in absurd no)
    (cases_lt (length octets) total)
