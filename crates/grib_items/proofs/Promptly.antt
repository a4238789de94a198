-- How soon a refusal comes, where nothing is gone past.
use Rattle.std.proofs.Common.{◌≡◌, ◌≢◌, ◌⊎◌, inl, inr, ℕ, zero, suc, ◌+◌, ◌<◌, ◌≤◌, max, Bool, true, false, not, cond, ◌&&◌, List, [], ◌++◌, Option, Some, None, length, take, drop, refl, sym, ap, ◌∙◌, subst, arith, ⊎_elim, length-drop, append-nil}
use Rattle.std.proofs.lemmas.Bool.{cases_lt, cases_Bool, false≢true}
use Rattle.std.proofs.lemmas.List.{take-append-le}
use Rattle.std.specs.declared.result.Result.{Result}
use Rattle.grib_base.specs.declared.fault.Fault.{Fault}
use Rattle.grib_base.specs.declared.fault.Refusal.{Refusal}
use Rattle.grib_stream.specs.declared.outcome.Outcome.{Outcome}
use Rattle.grib_stream.specs.declared.outcome.Outcome.TheVariants.{Refused, InputTooLong}
use Rattle.grib_stream.specs.declared.place.Place.{Place}
use Rattle.grib_stream.specs.declared.gathering.Rest.{Rest}
use Rattle.grib_stream.specs.declared.gathering.Rest.TheVariants.{Open, Full, Ended}
use Rattle.grib_stream.specs.Reading.{Takes}
use Rattle.grib_stream.specs.Stream.{begins, Judgement, Message, Faulty}
use Rattle.grib_stream.specs.Searching.{Unmarked}
use Rattle.grib_stream.specs.Outcomes.{is_truncated, is_cut_within, is_broken}
use Rattle.grib_stream.specs.Task.{Task, IsLawful, Given, Gives, Ends}
use Rattle.grib_stream.specs.Texts.{Texts}
use Rattle.grib_stream.specs.Answer.{refusal_after}
use Rattle.grib_stream.specs.Listening.{refusal_at}
use Rattle.grib_stream.specs.Hearing.{is_closed}
use Rattle.grib_stream.specs.Soon.{StandsAt, IsPrompt, IsSoon, RefusesSoon}
use Rattle.grib_stream.proofs.Streams.{begun_stays}
use Rattle.grib_stream.proofs.Fronts.{front_stands}
use Rattle.grib_stream.proofs.Hearers.{closed_whole}
use Rattle.grib_items.specs.declared.policy.Instead.{Instead}
use Rattle.grib_items.specs.declared.policy.ItemTotals.{ItemTotals}
use Rattle.grib_items.specs.declared.deciding.Wait.{Wait}
use Rattle.grib_items.specs.Next.{Refuses, Unknown, next_judged, next_passed, passed}
use Rattle.grib_items.specs.Deeds.{Outside}
use Rattle.grib_items.specs.Answer.{Counts, on_given, counts_of, place_by, passes}
use Rattle.grib_items.specs.Laws.{nothing}
use Rattle.grib_items.specs.Reading.{Advances}
use Rattle.grib_items.specs.Steps.{Plan, Stops, Waits, step, step_next, step_comes}
use Rattle.grib_items.specs.Turning.{Awaits, EndsStep, WaitsFor}
use Rattle.grib_items.proofs.Exits.{Going}

-- ---- the window is short, where its message is heard or refused by its first eight octets

pub record Held (hears : List ℕ → Bool) (judge : List ℕ → Judgement) (window : List ℕ) : Type 0 where
  pub begun : begins window ≡ true
  pub unheard : hears (take 8 window) ≡ false
  pub unrefused : is_closed (judge (take 8 window)) ≡ false
  pub alone : (total : ℕ) → judge window ≡ Message total → length window ≤ total

abbrev pub Short : (List ℕ → Bool) → (List ℕ → Judgement) → List ℕ → Type 0
Short hears judge window = (length window ≤ 65536) ⊎ Held hears judge window

pub short_start : (hears : List ℕ → Bool) (judge : List ℕ → Judgement) (window : List ℕ) → window ≡ [] → Short hears judge window
short_start hears judge window is = inl (subst (λ xs. length xs ≤ 65536) (sym is) (omega arith))

pub short_passed : {hears : List ℕ → Bool} {judge : List ℕ → Judgement} {window : List ℕ} (n : ℕ) (next : List ℕ) → Short hears judge window → Unmarked n window
    → next ≡ drop n window → Short hears judge next
short_passed {hears} {judge} {window} n next (inl few) unmarked is = inl (subst (λ xs. length xs ≤ 65536) (sym is) (omega (arith, few, length-drop n window)))
short_passed {hears} {judge} {window} zero next (inr held) unmarked is = inr (subst (Held hears judge) (sym is) held)
short_passed {hears} {judge} {window} (suc n) next (inr held) unmarked is =
    absurd (false≢true (sym (unmarked.none.none 0 (omega arith)) ∙ held.begun))

-- the window was shown before and after octets that begin no message were passed over
pub short_shown : {hears : List ℕ → Bool} {judge : List ℕ → Judgement} {window first next shown : List ℕ} (n : ℕ) → Short hears judge window → first ≡ window → Unmarked n first
    → next ≡ drop n window → shown ≡ next → Short hears judge shown
short_shown {hears} {judge} {window} {first} {next} {shown} n short is unmarked passed is_shown =
    short_passed n shown short (subst (Unmarked n) is unmarked) (is_shown ∙ passed)

pub short_message : {hears : List ℕ → Bool} {judge : List ℕ → Judgement} {window : List ℕ} (total : ℕ) (next : List ℕ) → Short hears judge window
    → judge window ≡ Message total → next ≡ drop total window → length next ≤ 65536
short_message {hears} {judge} {window} total next (inl few) is passed =
    subst (λ xs. length xs ≤ 65536) (sym passed) (omega (arith, few, length-drop total window))
short_message {hears} {judge} {window} total next (inr held) is passed =
    subst (λ xs. length xs ≤ 65536) (sym passed) (omega (arith, held.alone total is, length-drop total window))

-- ---- octets for which nothing can be done yet

waits_refused : (plan : Plan) (totals : ItemTotals) (place : ℕ) (octets : List ℕ) (fault : Fault) (t passing : Bool) (p : Option ℕ) → passing ≡ false
    → step_next plan totals place octets (cond t Unknown (cond passing (next_passed fault p) (Refuses fault))) ≡ Waits → not t ≡ false
waits_refused plan totals place octets fault true passing p none is = refl
waits_refused plan totals place octets fault false true p none is = absurd (false≢true (sym none))
waits_refused plan totals place octets fault false false p none is = let no : ⊥ = cc in absurd no

waits_judged : (plan : Plan) (totals : ItemTotals) (place : ℕ) (octets : List ℕ) (j : Judgement) → plan.policy ≡ nothing
    → step_next plan totals place octets (next_judged (passes plan.policy) true octets j) ≡ Waits → is_closed j ≡ false
waits_judged plan totals place octets (Message total) none is = refl
waits_judged plan totals place octets (Faulty fault) none is =
    waits_refused plan totals place octets fault (is_truncated fault.reason) (passes plan.policy) (passed true octets) (ap passes none) is

-- nor are their first ones refused, whatever follows
front_open : (plan : Plan) → IsLawful plan.task → (totals : ItemTotals) (place : ℕ) (k : ℕ) (octets : List ℕ) → plan.policy ≡ nothing → step plan true totals place octets ≡ Waits
    → is_closed (plan.task.judge (take k octets)) ≡ false
front_open plan lawful totals place k octets none waits =
    ⊎_elim
    (λ (closed : is_closed (plan.task.judge (take k octets)) ≡ true).
    let whole : is_closed (plan.task.judge octets) ≡ true = closed_whole plan.task lawful k octets closed in
    absurd (false≢true (sym (waits_judged plan totals place octets (plan.task.judge octets) none waits) ∙ whole)))
    (λ unclosed. unclosed) (cases_Bool (is_closed (plan.task.judge (take k octets))))

short_held : (plan : Plan) → IsLawful plan.task → (hears : List ℕ → Bool) (totals : ItemTotals) (place : ℕ) (shown piece window : List ℕ) (wait : Wait) → plan.policy ≡ nothing
    → (length shown < 4) ⊎ ((begins shown ≡ true) × (step plan true totals place shown ≡ Waits)) → WaitsFor hears plan.task.judge plan.policy shown wait
    → (wait.wanted ≤ 65536) ⊎ ((8 ≤ length shown) × (hears (take 8 shown) ≡ false)) → window ≡ shown ++ piece
    → length window ≤ max wait.wanted 65536 → 65536 < length window → Short hears plan.task.judge window
short_held plan lawful hears totals place shown piece window wait none unknown waits (inl few) is most long = inl (omega (arith, few, most))
short_held plan lawful hears totals place shown piece window wait none (inl few) waits (inr (eight, unheard)) is most long = absurd (omega (arith, few, eight))
short_held plan lawful hears totals place shown piece window wait none (inr (begun, unknown)) waits (inr (eight, unheard)) is most long =
    let front : take 8 window ≡ take 8 shown = ap (take 8) is ∙ take-append-le 8 shown piece eight in
    inr record {
      begun = subst (λ xs. begins xs ≡ true) (sym is) (begun_stays shown piece begun);
      unheard = ap hears front ∙ unheard;
      unrefused = ap (λ xs. is_closed (plan.task.judge xs)) front ∙ front_open plan lawful totals place 8 shown none unknown;
      alone = λ total e. omega (arith, waits.no_shorter piece total (ap plan.task.judge (sym is) ∙ e), most, long);
    }

-- what was read stands behind the others
pub read_behind : (rest : Rest) (result : Result Rest Outcome) (b c : Option (List ℕ)) (window window_now : List ℕ) (left left_now wanted count count_now : ℕ)
    → Advances rest result b c window window_now left left_now wanted count count_now → (piece : List ℕ) × (window_now ≡ window ++ piece)
read_behind Open result b c window window_now left left_now wanted count count_now advances = (advances.gathers.piece, advances.gathers.grown)
read_behind Full result b c window window_now left left_now wanted count count_now advances = ([], advances.kept ∙ sym (append-nil window))
read_behind Ended result b c window window_now left left_now wanted count count_now advances = ([], advances.kept ∙ sym (append-nil window))

pub short_read : {plan : Plan} {window window_now : List ℕ} → IsLawful plan.task → (hears : List ℕ → Bool) (totals : ItemTotals) (place : ℕ) (shown : List ℕ) (wait : Wait)
    → plan.policy ≡ nothing → Awaits plan true totals place shown wait.wanted → WaitsFor hears plan.task.judge plan.policy shown wait → wait.heard ≡ false → shown ≡ window
    → (piece : List ℕ) × (window_now ≡ window ++ piece) → length window_now ≤ max wait.wanted 65536 → Short hears plan.task.judge window_now
short_read {plan} {window} {window_now} lawful hears totals place shown wait none awaits waits unheard is (piece, grown) most =
    ⊎_elim
    (λ long.
    short_held plan lawful hears totals place shown piece window_now wait none awaits.unknown waits ((waits.soon none).held unheard) (grown ∙ ap (λ xs. xs ++ piece) (sym is)) most long)
    (λ (few : length window_now ≤ 65536). inl few) (cases_lt 65536 (length window_now))

-- a message that is heard has a short window
pub short_heard : {hears : List ℕ → Bool} {judge : List ℕ → Judgement} {window : List ℕ} → Short hears judge window → hears (take 8 window) ≡ true → length window ≤ 65536
short_heard {hears} {judge} {window} (inl few) heard = few
short_heard {hears} {judge} {window} (inr held) heard = absurd (false≢true (sym held.unheard ∙ heard))

short_bound : {hears : List ℕ → Bool} {judge : List ℕ → Judgement} {window : List ℕ} → Short hears judge window → IsPrompt hears judge window → (k : ℕ)
    → length window ≤ k + 65536
short_bound {hears} {judge} {window} (inl few) prompt k = omega (arith, few)
short_bound {hears} {judge} {window} (inr held) (inl heard) k = absurd (false≢true (sym held.unheard ∙ heard))
short_bound {hears} {judge} {window} (inr held) (inr closed) k = absurd (false≢true (sym held.unrefused ∙ closed))

-- ---- where a refusal comes

stops_given : (texts : Texts) (counts : Counts) (at : Place) (fields : ℕ) (message : List ℕ) (given : Given) (size skipped : ℕ) (instead : Option Instead) (outcome : Outcome)
    → instead ≡ None → step_comes (on_given texts instead counts at fields message given) size skipped ≡ Stops outcome → given ≡ Ends outcome
stops_given texts counts at fields message (Gives acts written) size skipped instead outcome none is = let no : ⊥ = cc in absurd no
stops_given texts counts at fields message (Ends other) size skipped None outcome none is = let same : other ≡ outcome = cc in ap Ends same
stops_given texts counts at fields message (Ends other) size skipped (Some instead) outcome none is = let no : ⊥ = cc in absurd no

refusal_by : (plan : Plan) (totals : ItemTotals) (place : ℕ) (octets : List ℕ) (fault : Fault) (t passing : Bool) (p : Option ℕ) (outcome : Outcome) → passing ≡ false
    → step_next plan totals place octets (cond t Unknown (cond passing (next_passed fault p) (Refuses fault))) ≡ Stops outcome
    → outcome ≡ Refused (refusal_after totals.counted.messages fault)
refusal_by plan totals place octets fault true passing p outcome none is = let no : ⊥ = cc in absurd no
refusal_by plan totals place octets fault false true p outcome none is = absurd (false≢true (sym none))
refusal_by plan totals place octets fault false false p outcome none is = cc

refusal_judged : (plan : Plan) (more : Bool) (totals : ItemTotals) (place : ℕ) (octets : List ℕ) (j : Judgement) (outcome : Outcome) → plan.policy ≡ nothing
    → step_next plan totals place octets (next_judged (passes plan.policy) more octets j) ≡ Stops outcome → ((at : Place) (message : List ℕ) → plan.task.result at message ≢ Ends outcome)
    → (fault : Fault) × (outcome ≡ Refused (refusal_after totals.counted.messages fault))
refusal_judged plan more totals place octets (Message total) outcome none is never =
    let at : Place = place_by (counts_of totals) place in
    absurd (never at (take total octets)
    (stops_given plan.texts (counts_of totals) at (plan.task.fields (take total octets)) (take total octets) (plan.task.result at (take total octets)) total totals.counted.skipped plan.policy.kept outcome
    (ap (λ p. p.kept) none) is))
refusal_judged plan more totals place octets (Faulty fault) outcome none is never =
    (fault, refusal_by plan totals place octets fault (more && is_truncated fault.reason) (passes plan.policy) (passed more octets) outcome (ap passes none) is)

pub soon_here : {plan : Plan} {limit left : ℕ} {ahead : Bool} {a b : Option (List ℕ)} {before mid : Outside} {totals : ItemTotals} {place : ℕ} {shown : List ℕ} (hears : List ℕ → Bool) (n : ℕ)
    → plan.policy ≡ nothing → Going plan limit left ahead a b before mid totals place shown → begins shown ≡ true → n ≡ totals.counted.messages + 1
    → (IsPrompt hears plan.task.judge shown → (k : ℕ) → is_closed (plan.task.judge (take k shown)) ≡ true → length shown ≤ k + 65536)
    → (taken : List ℕ) × Takes a b taken × IsSoon hears plan.task.judge taken n
soon_here {plan} {limit} {left} {ahead} {a} {b} {before} {mid} {totals} {place} {shown} hears n none going begun is bound = (
  going.taken,
  going.consumed,
  record {
    before = place;
    rest = shown;
    place = subst (λ m. StandsAt plan.task.judge going.taken m place shown) (sym is) (front_stands plan.task going.taken totals.counted.messages place shown begun (going.front none));
    bound = λ prompt k closed. omega (arith, bound prompt k closed, going.so.size);
  },
)

-- the run ends at an item that was held
pub turn_soon : {plan : Plan} {limit left : ℕ} {ahead : Bool} {a b : Option (List ℕ)} {before mid : Outside} {totals : ItemTotals} {place : ℕ} {shown : List ℕ} (hears : List ℕ → Bool) (now : Outside) (outcome : Outcome)
    → plan.policy ≡ nothing → Going plan limit left ahead a b before mid totals place shown → begins shown ≡ true → Short hears plan.task.judge shown
    → EndsStep (step plan ahead totals place shown) outcome mid now → RefusesSoon hears plan.task outcome a b
turn_soon {plan} {limit} {left} {ahead} {a} {b} {before} {mid} {totals} {place} {shown} hears now outcome none going begun short ends refusal is closed never =
    let (fault, same) = refusal_judged plan ahead totals place shown (plan.task.judge shown) outcome none (ends.stopped (ap is_cut_within is)).0 never in
    let one : Refused refusal ≡ Refused (refusal_after totals.counted.messages fault) = sym is ∙ same in
    let number : refusal ≡ refusal_after totals.counted.messages fault = cc in
    soon_here hears refusal.message none going begun (ap (λ r. r.message) number) (λ prompt k _. short_bound short prompt k)

-- an outcome that is no refusal, or one for the end of the input
pub soon_otherwise : (task : Task) (hears : List ℕ → Bool) (outcome : Outcome) (a b : Option (List ℕ)) → ((refusal : Refusal) → outcome ≡ Refused refusal → ⊥)
    → RefusesSoon hears task outcome a b
soon_otherwise task hears outcome a b other refusal is closed never = absurd (other refusal is)

pub soon_truncated : (task : Task) (hears : List ℕ → Bool) (a b : Option (List ℕ)) (place : Place) (fault : Fault) (outcome : Outcome) → is_truncated fault.reason ≡ true
    → outcome ≡ Refused (refusal_at place fault) → RefusesSoon hears task outcome a b
soon_truncated task hears a b place fault outcome truncated same refusal is closed never =
    let one : Refused refusal ≡ Refused (refusal_at place fault) = sym is ∙ same in
    let number : refusal ≡ refusal_at place fault = cc in
    absurd (false≢true (sym closed ∙ (ap (λ r. is_truncated r.fault.reason) number ∙ truncated)))

-- a device or a lack of memory
pub soon_broken : (task : Task) (hears : List ℕ → Bool) (a b : Option (List ℕ)) (outcome : Outcome) → is_broken outcome ≡ true → RefusesSoon hears task outcome a b
soon_broken task hears a b outcome broken =
    soon_otherwise task hears outcome a b (λ refusal is. let e : is_broken (Refused refusal) ≡ true = subst (λ o. is_broken o ≡ true) is broken in false≢true e)

-- an input that is too long
pub soon_long : (task : Task) (hears : List ℕ → Bool) (a b : Option (List ℕ)) (outcome : Outcome) → outcome ≡ InputTooLong → RefusesSoon hears task outcome a b
soon_long task hears a b outcome long = soon_otherwise task hears outcome a b (λ refusal is. let no : InputTooLong ≡ Refused refusal = sym long ∙ is in cc)
