-- The answer, by what is done with the octets that are left.
use Rattle.std.proofs.Common.{◌≡◌, ◌≢◌, ℕ, zero, suc, ◌+◌, ◌-◌, ◌<◌, ◌≤◌, Bool, true, false, cond, ◌&&◌, List, [], ◌∷◌, ◌++◌, length, take, drop, Option, None, Some, refl, sym, ap, ◌∙◌, arith, length-drop, ⊎_elim}
use Rattle.std.proofs.lemmas.Bool.{cases_Bool, false≢true}
use Rattle.std.proofs.lemmas.List.{take-append-le, drop_all}
use Rattle.grib_base.specs.Rules.{choose}
use Rattle.grib_base.specs.declared.fault.Fault.{Fault}
use Rattle.grib_stream.specs.declared.outcome.Outcome.TheVariants as outcomes
use Rattle.grib_stream.specs.Stream.{begins, Judgement, Message, Faulty, message_after}
use Rattle.grib_stream.specs.Searching.{Markless}
use Rattle.grib_stream.specs.Outcomes.{is_truncated}
use Rattle.grib_stream.specs.Task.{Task, IsLawful}
use Rattle.grib_stream.specs.Answer.{totals_of}
use Rattle.grib_stream.proofs.Streams.{none_in_few}
use Rattle.grib_items.specs.declared.policy.ItemTotals.{ItemTotals}
use Rattle.grib_items.specs.Next.{Next, Accepts, Passes, Refuses, Unknown, next, next_judged, next_passed, passed}
use Rattle.grib_items.specs.Items.{Item, Accepted, Refused, passed_after, followed_by, end_by, on_next, items_from}
use Rattle.grib_items.specs.Answer.{Comes, Goes as comes_goes, Stops as comes_stops, Answered, after, answer_to, comes, on_comes, on_end, ends_with, done, counts_of, passes}
use Rattle.grib_items.specs.Run.{answer_at}
use Rattle.grib_items.specs.Steps.{Plan, Step, Goes, Stops, Waits, step, step_next, step_comes}
use Rattle.grib_items.proofs.Heads.{passed_size, passed_stays, passed_known, and_off}

-- ---- items, step by step

items_inside : (judge : List ℕ → Judgement) (passes more : Bool) (inside place skipped : ℕ) (octets : List ℕ)
    → items_from judge passes more inside place skipped octets ≡ items_from judge passes more 0 (place + inside) skipped (drop inside octets)
items_inside judge passes more zero place skipped octets =
    let e : place ≡ place + 0 = omega arith in ap (λ p. items_from judge passes more 0 p skipped octets) e
items_inside judge passes more (suc inside) place skipped [] = refl
items_inside judge passes more (suc inside) place skipped (octet ∷ octets) =
    let e : place + 1 + inside ≡ place + suc inside = omega arith in
    items_inside judge passes more inside (place + 1) skipped octets ∙ ap (λ p. items_from judge passes more 0 p skipped (drop inside octets)) e

-- what is behind an item of this many octets
items_behind : (judge : List ℕ → Judgement) (passes more : Bool) (n place skipped octet : ℕ) (octets : List ℕ) → 1 ≤ n
    → items_from judge passes more (n - 1) (place + 1) skipped octets ≡ items_from judge passes more 0 (place + n) skipped (drop n (octet ∷ octets))
items_behind judge passes more zero place skipped octet octets some = absurd (omega (arith, some))
items_behind judge passes more (suc k) place skipped octet octets some =
    let less : suc k - 1 ≡ k = omega arith in
    let on : place + 1 + k ≡ place + suc k = omega arith in
    ap (λ n. items_from judge passes more n (place + 1) skipped octets) less
    ∙ (items_inside judge passes more k (place + 1) skipped octets ∙ ap (λ p. items_from judge passes more 0 p skipped (drop k octets)) on)

items_begun : (judge : List ℕ → Judgement) (passes more : Bool) (place skipped octet : ℕ) (octets : List ℕ) → begins (octet ∷ octets) ≡ true
    → items_from judge passes more 0 place skipped (octet ∷ octets)
    ≡ on_next (next judge passes more (octet ∷ octets)) place skipped (octet ∷ octets) (λ inside skipped. items_from judge passes more inside (place + 1) skipped octets)
items_begun judge passes more place skipped octet octets begun =
    ap (λ b. choose b (λ _. on_next (next judge passes more (octet ∷ octets)) place skipped (octet ∷ octets)
    (λ inside skipped. items_from judge passes more inside (place + 1) skipped octets))
    (λ _. items_from judge passes more zero (place + 1) (skipped + 1) octets)) begun

items_skip : (judge : List ℕ → Judgement) (passes more : Bool) (place skipped octet : ℕ) (octets : List ℕ) → begins (octet ∷ octets) ≡ false
    → items_from judge passes more 0 place skipped (octet ∷ octets) ≡ items_from judge passes more 0 (place + 1) (skipped + 1) octets
items_skip judge passes more place skipped octet octets none =
    ap (λ b. choose b (λ _. on_next (next judge passes more (octet ∷ octets)) place skipped (octet ∷ octets)
    (λ inside skipped. items_from judge passes more inside (place + 1) skipped octets))
    (λ _. items_from judge passes more zero (place + 1) (skipped + 1) octets)) none

items_passed : (judge : List ℕ → Judgement) (passes more : Bool) (place skipped n : ℕ) (octets : List ℕ) → n ≤ length octets → Markless n octets
    → items_from judge passes more 0 place skipped octets ≡ items_from judge passes more 0 (place + n) (skipped + n) (drop n octets)
items_passed judge passes more place skipped zero octets within markless =
    let e : place ≡ place + 0 = omega arith in
    let f : skipped ≡ skipped + 0 = omega arith in
    ap (λ p. items_from judge passes more 0 p skipped octets) e ∙ ap (λ s. items_from judge passes more 0 (place + 0) s octets) f
items_passed judge passes more place skipped (suc n) [] within markless = absurd (omega (arith, within))
items_passed judge passes more place skipped (suc n) (octet ∷ octets) within markless =
    let e : place + 1 + n ≡ place + suc n = omega arith in
    let f : skipped + 1 + n ≡ skipped + suc n = omega arith in
    let later : Markless n octets = record { none = λ k low. markless.none (suc k) (omega arith) } in
    let fits : n ≤ length octets = omega (arith, within) in
    items_skip judge passes more place skipped octet octets (markless.none 0 (omega arith))
    ∙ (items_passed judge passes more (place + 1) (skipped + 1) n octets fits later
    ∙ (ap (λ p. items_from judge passes more 0 p (skipped + 1 + n) (drop n octets)) e
    ∙ ap (λ s. items_from judge passes more 0 (place + suc n) s (drop n octets)) f))

-- ---- the answer

abbrev pub skipping : ItemTotals → ℕ → ItemTotals
skipping totals n = record totals { counted = totals_of totals.counted.messages totals.counted.fields (totals.counted.skipped + n) totals.counted.written }

abbrev pub answer_by : Plan → Bool → ℕ → List ℕ → Step → Answered
answer_by plan more place octets (Goes n done totals) = after done (answer_at plan more totals (place + n) (drop n octets))
answer_by plan more place octets (Stops outcome) = ends_with outcome
answer_by plan more place octets Waits = ends_with outcomes.InputTooLong

-- what comes of an item, and then of what is behind it
comes_by : (plan : Plan) (more : Bool) (place : ℕ) (octets : List ℕ) (c : Comes) (n skipped : ℕ)
    → on_comes c (λ done counts. after done (answer_to plan.task plan.texts plan.policy counts
    (items_from plan.task.judge (passes plan.policy) more 0 (place + n) skipped (drop n octets))))
    ≡ answer_by plan more place octets (step_comes c n skipped)
comes_by plan more place octets (comes_goes done counts) n skipped = refl
comes_by plan more place octets (comes_stops outcome) n skipped = refl

item_by : (plan : Plan) (more : Bool) (totals : ItemTotals) (place : ℕ) (octet : ℕ) (octets : List ℕ) (item : Item) (n skipped : ℕ) → 1 ≤ n
    → answer_to plan.task plan.texts plan.policy (counts_of totals)
    (followed_by item (items_from plan.task.judge (passes plan.policy) more (n - 1) (place + 1) skipped octets))
    ≡ answer_by plan more place (octet ∷ octets) (step_comes (comes plan.task plan.texts plan.policy (counts_of totals) item) n skipped)
item_by plan more totals place octet octets item n skipped some =
    ap (λ items. answer_to plan.task plan.texts plan.policy (counts_of totals) (followed_by item items))
    (items_behind plan.task.judge (passes plan.policy) more n place skipped octet octets some)
    ∙ comes_by plan more place (octet ∷ octets) (comes plan.task plan.texts plan.policy (counts_of totals) item) n skipped

-- an item has an octet at least
abbrev HasSize : Next → Type 0
HasSize (Accepts total) = 1 ≤ total
HasSize (Passes fault size) = 1 ≤ size
HasSize (Refuses fault) = Unit {0}
HasSize Unknown = Unit {0}

next_by : (plan : Plan) (more : Bool) (totals : ItemTotals) (place octet : ℕ) (octets : List ℕ) (n : Next) → HasSize n
    → answer_to plan.task plan.texts plan.policy (counts_of totals)
    (on_next n place totals.counted.skipped (octet ∷ octets) (λ inside skipped. items_from plan.task.judge (passes plan.policy) more inside (place + 1) skipped octets))
    ≡ answer_by plan more place (octet ∷ octets) (step_next plan totals place (octet ∷ octets) n)
next_by plan more totals place octet octets (Accepts total) some =
    item_by plan more totals place octet octets (Accepted (message_after place (take total (octet ∷ octets)))) total totals.counted.skipped some
next_by plan more totals place octet octets (Passes fault size) some =
    item_by plan more totals place octet octets (Refused (passed_after place fault (take size (octet ∷ octets)))) size (totals.counted.skipped + size) some
next_by plan more totals place octet octets (Refuses fault) some = refl
next_by plan more totals place octet octets Unknown some = refl

size_refused : (b passes : Bool) (fault : Fault) (size : Option ℕ) → ((n : ℕ) → size ≡ Some n → 1 ≤ n)
    → HasSize (cond b Unknown (cond passes (next_passed fault size) (Refuses fault)))
size_refused true passes fault size some = tt
size_refused false false fault size some = tt
size_refused false true fault None some = tt
size_refused false true fault (Some n) some = some n refl

size_judged : (task : Task) → IsLawful task → (passes more : Bool) (octets : List ℕ) (j : Judgement) → begins octets ≡ true → task.judge octets ≡ j
    → HasSize (next_judged passes more octets j)
size_judged task lawful passes more octets (Message total) begun is = let least : 4 ≤ total = lawful.least octets total is in omega arith
size_judged task lawful passes more octets (Faulty fault) begun is =
    size_refused (more && is_truncated fault.reason) passes fault (passed more octets)
    (λ n so. let size = passed_size more n octets begun so in omega (arith, size.0))

pub answer_next : (plan : Plan) → IsLawful plan.task → (more : Bool) (totals : ItemTotals) (place : ℕ) (octets : List ℕ) → begins octets ≡ true
    → answer_at plan more totals place octets ≡ answer_by plan more place octets (step plan more totals place octets)
answer_next plan lawful more totals place [] begun = absurd (false≢true begun)
answer_next plan lawful more totals place (octet ∷ octets) begun =
    ap (answer_to plan.task plan.texts plan.policy (counts_of totals))
    (items_begun plan.task.judge (passes plan.policy) more place totals.counted.skipped octet octets begun)
    ∙ next_by plan more totals place octet octets (next plan.task.judge (passes plan.policy) more (octet ∷ octets))
    (size_judged plan.task lawful (passes plan.policy) more (octet ∷ octets) (plan.task.judge (octet ∷ octets)) begun refl)

-- octets that begin no item
pub answer_passed : (plan : Plan) (more : Bool) (totals : ItemTotals) (place n : ℕ) (octets : List ℕ) → n ≤ length octets → Markless n octets
    → answer_at plan more totals place octets ≡ answer_at plan more (skipping totals n) (place + n) (drop n octets)
answer_passed plan more totals place n octets within markless =
    ap (answer_to plan.task plan.texts plan.policy (counts_of totals))
    (items_passed plan.task.judge (passes plan.policy) more place totals.counted.skipped n octets within markless)

-- octets that are too few for one
pub answer_few : (plan : Plan) (more : Bool) (totals : ItemTotals) (place : ℕ) (octets : List ℕ) → length octets < 4
    → answer_at plan more totals place octets ≡ on_end plan.task (counts_of totals) (end_by more (totals.counted.skipped + length octets))
answer_few plan more totals place octets few =
    let markless : Markless (length octets) octets = record {
      none = λ k low. none_in_few (drop k octets) (omega (arith, length-drop k octets));
    } in
    answer_passed plan more totals place (length octets) octets (omega arith) markless
    ∙ ap (answer_at plan more (skipping totals (length octets)) (place + length octets)) (drop_all (length octets) octets (omega arith))

-- ---- what is known stays known

-- a refusal that is not for the end of the octets
next_closed : (passes more : Bool) (octets : List ℕ) (fault : Fault) → is_truncated fault.reason ≡ false
    → next_judged passes more octets (Faulty fault) ≡ cond passes (next_passed fault (passed more octets)) (Refuses fault)
next_closed passes more octets fault closed =
    ap (λ b. cond b Unknown (cond passes (next_passed fault (passed more octets)) (Refuses fault))) (and_off more (is_truncated fault.reason) closed)

next_cut : (passes : Bool) (octets : List ℕ) (fault : Fault) → is_truncated fault.reason ≡ true → next_judged passes true octets (Faulty fault) ≡ Unknown
next_cut passes octets fault truncated = ap (λ b. cond b Unknown (cond passes (next_passed fault (passed true octets)) (Refuses fault))) truncated

passing_stays : (passes more : Bool) (octets later : List ℕ) (n : Next) (fault : Fault) (p : Option ℕ) → passed true octets ≡ p
    → cond passes (next_passed fault p) (Refuses fault) ≡ n → n ≢ Unknown
    → cond passes (next_passed fault (passed more (octets ++ later))) (Refuses fault) ≡ n
passing_stays false more octets later n fault p so is known = is
passing_stays true more octets later n fault None so is known = absurd (known (sym is))
passing_stays true more octets later n fault (Some size) so is known = ap (next_passed fault) (passed_stays more size octets later so) ∙ is

next_stays_by : (task : Task) → IsLawful task → (passes more : Bool) (octets later : List ℕ) (n : Next) (j : Judgement) → task.judge octets ≡ j
    → next_judged passes true octets j ≡ n → n ≢ Unknown → next task.judge passes more (octets ++ later) ≡ n
next_stays_by task lawful passes more octets later n (Message total) so is known =
    ap (next_judged passes more (octets ++ later)) (lawful.message_stays octets later total so) ∙ is
next_stays_by task lawful passes more octets later n (Faulty fault) so is known =
    ⊎_elim (λ truncated. absurd (known (sym is ∙ next_cut passes octets fault truncated)))
    (λ closed.
    ap (next_judged passes more (octets ++ later)) (lawful.refusal_stays octets later fault so closed)
    ∙ (next_closed passes more (octets ++ later) fault closed
    ∙ passing_stays passes more octets later n fault (passed true octets) refl (sym (next_closed passes true octets fault closed) ∙ is) known))
    (cases_Bool (is_truncated fault.reason))

pub next_stays : (task : Task) → IsLawful task → (passes more : Bool) (octets later : List ℕ) → next task.judge passes true octets ≢ Unknown
    → next task.judge passes more (octets ++ later) ≡ next task.judge passes true octets
next_stays task lawful passes more octets later known = next_stays_by task lawful passes more octets later _ (task.judge octets) refl refl known

-- a step that is known needs no more octets than those of its item
waits_unknown : (plan : Plan) (totals : ItemTotals) (place : ℕ) (octets : List ℕ) (n : Next) → n ≡ Unknown → step_next plan totals place octets n ≡ Waits
waits_unknown plan totals place octets n is = ap (step_next plan totals place octets) is

not_accepts : (t passes : Bool) (fault : Fault) (p : Option ℕ) (total : ℕ) → cond t Unknown (cond passes (next_passed fault p) (Refuses fault)) ≡ Accepts total → ⊥
not_accepts true passes fault p total is = cc
not_accepts false false fault p total is = cc
not_accepts false true fault None total is = cc
not_accepts false true fault (Some size) total is = cc

passes_size : (t passes : Bool) (fault other : Fault) (p : Option ℕ) (size : ℕ) → cond t Unknown (cond passes (next_passed fault p) (Refuses fault)) ≡ Passes other size
    → p ≡ Some size
passes_size true passes fault other p size is = let no : ⊥ = cc in absurd no
passes_size false false fault other p size is = let no : ⊥ = cc in absurd no
passes_size false true fault other None size is = let no : ⊥ = cc in absurd no
passes_size false true fault other (Some n) size is = let same : n ≡ size = cc in ap Some same

comes_not_waits : (c : Comes) (n skipped : ℕ) → step_comes c n skipped ≡ Waits → ⊥
comes_not_waits (comes_goes done counts) n skipped is = cc
comes_not_waits (comes_stops outcome) n skipped is = cc

step_front : (plan : Plan) → IsLawful plan.task → (totals : ItemTotals) (place : ℕ) (octets later : List ℕ) (n : Next) (j : Judgement) → begins octets ≡ true
    → plan.task.judge octets ≡ j → next_judged (passes plan.policy) true octets j ≡ n → step_next plan totals place (octets ++ later) n ≡ step_next plan totals place octets n
step_front plan lawful totals place octets later (Accepts total) (Message t) begun so is =
    let same : t ≡ total = cc in
    let there : t ≤ length octets = lawful.there octets t so in
    ap (λ message. step_comes (comes plan.task plan.texts plan.policy (counts_of totals) (Accepted (message_after place message))) total totals.counted.skipped)
    (take-append-le total octets later (omega (arith, there, same)))
step_front plan lawful totals place octets later (Accepts total) (Faulty fault) begun so is =
    let no : ⊥ = not_accepts (is_truncated fault.reason) (passes plan.policy) fault (passed true octets) total is in absurd no
step_front plan lawful totals place octets later (Passes fault size) (Message t) begun so is = let no : ⊥ = cc in absurd no
step_front plan lawful totals place octets later (Passes fault size) (Faulty other) begun so is =
    let known : passed true octets ≡ Some size = passes_size (is_truncated other.reason) (passes plan.policy) other fault (passed true octets) size is in
    let there = passed_size true size octets begun known in
    ap (λ xs. step_comes (comes plan.task plan.texts plan.policy (counts_of totals) (Refused (passed_after place fault xs))) size (totals.counted.skipped + size))
    (take-append-le size octets later there.1)
step_front plan lawful totals place octets later (Refuses fault) j begun so is = refl
step_front plan lawful totals place octets later Unknown j begun so is = refl

pub step_stays : (plan : Plan) → IsLawful plan.task → (more : Bool) (totals : ItemTotals) (place : ℕ) (octets later : List ℕ) → begins octets ≡ true
    → step plan true totals place octets ≢ Waits → step plan more totals place (octets ++ later) ≡ step plan true totals place octets
step_stays plan lawful more totals place octets later begun known =
    ap (step_next plan totals place (octets ++ later))
    (next_stays plan.task lawful (passes plan.policy) more octets later (λ is. known (waits_unknown plan totals place octets _ is)))
    ∙ step_front plan lawful totals place octets later _ (plan.task.judge octets) begun refl refl

-- where nothing follows, it is known
known_refused : (passes : Bool) (fault : Fault) (p : Option ℕ) → p ≢ None → cond passes (next_passed fault p) (Refuses fault) ≢ Unknown
known_refused false fault p some = λ e. cc
known_refused true fault None some = λ e. some refl
known_refused true fault (Some size) some = λ e. cc

known_judged : (passes : Bool) (octets : List ℕ) (j : Judgement) → next_judged passes false octets j ≢ Unknown
known_judged passes octets (Message total) = λ e. cc
known_judged passes octets (Faulty fault) = known_refused passes fault (passed false octets) (passed_known octets)

waits_only : (plan : Plan) (totals : ItemTotals) (place : ℕ) (octets : List ℕ) (n : Next) → step_next plan totals place octets n ≡ Waits → n ≡ Unknown
waits_only plan totals place octets (Accepts total) is = absurd (comes_not_waits (comes plan.task plan.texts plan.policy (counts_of totals) (Accepted (message_after place (take total octets)))) _ _ is)
waits_only plan totals place octets (Passes fault size) is = cc
waits_only plan totals place octets (Refuses fault) is = cc
waits_only plan totals place octets Unknown is = refl

pub step_known : (plan : Plan) (totals : ItemTotals) (place : ℕ) (octets : List ℕ) → step plan false totals place octets ≢ Waits
step_known plan totals place octets is = known_judged (passes plan.policy) octets (plan.task.judge octets) (waits_only plan totals place octets _ is)
