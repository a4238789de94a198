-- What was answered so far, whatever follows.
use Rattle.std.proofs.Common.{◌≡◌, ◌≢◌, ℕ, ◌+◌, ◌*◌, ◌≤◌, Bool, true, false, cond, ◌&&◌, List, [], ◌++◌, length, take, drop, Option, Some, None, refl, sym, ap, ◌∙◌, subst, arith, append_assoc, append-nil, length-append, length-drop, length-take-le}
use lib.Seq.{drop-append-le}
use Rattle.std.proofs.lemmas.Bool.{false≢true}
use Rattle.grib_base.specs.declared.fault.Fault.{Fault}
use Rattle.grib_base.specs.declared.limits.TheConstants.{MOST_OCTETS}
use Rattle.grib_reasons.specs.declared.cause.Kept.{Kept}
use Rattle.grib_stream.specs.declared.outcome.Outcome.{Outcome}
use Rattle.grib_stream.specs.declared.place.Place.{Place}
use Rattle.grib_stream.specs.Stream.{begins, Judgement, Message, Faulty}
use Rattle.grib_stream.specs.Searching.{Unmarked}
use Rattle.grib_stream.specs.Outcomes.{is_truncated}
use Rattle.grib_stream.specs.Task.{Task, IsLawful, Given, Gives, Ends}
use Rattle.grib_stream.proofs.Streams.{unmarked_within, markless_more, begun_stays}
use Rattle.grib_stream.specs.Texts.{Texts}
use Rattle.grib_items.specs.declared.policy.Instead.{Instead}
use Rattle.grib_items.specs.declared.policy.Instead.TheVariants.{Copy, Pass}
use Rattle.grib_items.specs.declared.policy.ItemTotals.{ItemTotals}
use Rattle.grib_items.specs.Next.{Refuses, Unknown, next_judged, next_passed, passed}
use Rattle.grib_items.specs.Deeds.{Deeds, no_deeds, then}
use Rattle.grib_items.specs.Answer.{Answered, after, on_given, on_outcome, kept_of, instead_of, counts_of, totals_by, no_counts, place_by, passes, is_copied, refused_instead}
use Rattle.grib_items.specs.Run.{answer_at, answer_of}
use Rattle.grib_items.specs.Steps.{Plan, Step, Goes, Waits, step, step_next, step_comes, Fits}
use Rattle.grib_items.proofs.Heads.{passed_size}
use Rattle.grib_items.proofs.Effects.{then_assoc}
use Rattle.grib_items.proofs.Steps.{answer_by, answer_next, answer_passed, skipping, step_stays}

-- What may follow octets: nothing, where the input is at its end.
abbrev pub Follows : Bool → Bool → List ℕ → Type 0
Follows ahead more later = ahead ≡ false → (more ≡ false) × (later ≡ [])

pub follows_open : (more : Bool) (later : List ℕ) → Follows true more later
follows_open more later e = absurd (false≢true (sym e))

-- After these octets were taken, this was done, and these octets are still to be answered, of which this many were
-- answered before.
pub record SoFar (plan : Plan) (ahead : Bool) (taken : List ℕ) (done : Deeds) (totals : ItemTotals) (place : ℕ) (pending : List ℕ) : Type 0 where
  pub whole : (more : Bool) (later : List ℕ) → Follows ahead more later
      → answer_of plan more (taken ++ later) ≡ after done (answer_at plan more totals place (pending ++ later))
  pub size : place + length pending ≡ length taken
  pub fits : Fits totals place

pub nothing_so_far : (plan : Plan) → SoFar plan true [] no_deeds (totals_by no_counts 0) 0 []
nothing_so_far plan = record {
  whole = λ more later follows. refl;
  size = refl;
  fits = record { messages = omega arith; fields = omega arith; skipped = omega arith; written = omega arith; refused = omega arith; kept = omega arith };
}

pub after_after : (xs ys : Deeds) (answer : Answered) → after xs (after ys answer) ≡ after (then xs ys) answer
after_after xs ys answer = ap (λ done. record answer { deeds = done }) (sym (then_assoc xs ys answer.deeds))

-- more was taken
pub so_far_read : (plan : Plan) (taken : List ℕ) (done : Deeds) (totals : ItemTotals) (place : ℕ) (pending piece : List ℕ) → SoFar plan true taken done totals place pending
    → SoFar plan true (taken ++ piece) done totals place (pending ++ piece)
so_far_read plan taken done totals place pending piece so = record {
  whole = λ more later follows.
      ap (answer_of plan more) (append_assoc taken piece later)
      ∙ (so.whole more (piece ++ later) (follows_open more (piece ++ later))
      ∙ ap (λ xs. after done (answer_at plan more totals place xs)) (sym (append_assoc pending piece later)));
  size = omega (arith, so.size, length-append taken piece, length-append pending piece);
  fits = so.fits;
}

-- octets that begin no item were passed over
pub so_far_passed : (plan : Plan) (ahead : Bool) (taken : List ℕ) (done : Deeds) (totals : ItemTotals) (place n : ℕ) (pending : List ℕ) → Unmarked n pending
    → SoFar plan ahead taken done totals place pending → SoFar plan ahead taken done (skipping totals n) (place + n) (drop n pending)
so_far_passed plan ahead taken done totals place n pending unmarked so =
    let within : n ≤ length pending = unmarked_within n pending unmarked in
    record {
      whole = λ more later follows.
          so.whole more later follows
          ∙ ap (after done)
          (answer_passed plan more totals place n (pending ++ later) (omega (arith, length-append pending later)) (markless_more n pending later unmarked)
          ∙ ap (answer_at plan more (skipping totals n) (place + n)) (drop-append-le n pending later within));
      size = omega (arith, so.size, length-drop n pending);
      fits = record {
        messages = omega (arith, so.fits.messages);
        fields = omega (arith, so.fits.fields);
        skipped = omega (arith, so.fits.skipped);
        written = omega (arith, so.fits.written);
        refused = omega (arith, so.fits.refused);
        kept = omega (arith, so.fits.kept);
      };
    }

-- ---- what an item counts

-- an item of this many octets, behind which this was counted
pub record Counted (size : ℕ) (octets : List ℕ) (totals totals_now : ItemTotals) : Type 0 where
  pub least : 4 ≤ size
  pub within : size ≤ length octets
  pub grown : (place : ℕ) → Fits totals place → Fits totals_now (place + size)

instead_size : (instead : Instead) (message : List ℕ) → length (instead_of instead message) ≤ length message
instead_size Copy message = omega arith
instead_size Pass message = omega arith

counted_outcome : (texts : Texts) (totals : ItemTotals) (at : Place) (fields : ℕ) (message octets : List ℕ) (total : ℕ) (outcome : Outcome) (instead : Option Instead)
    (kept : Option Kept) (n : ℕ) (done : Deeds) (totals_now : ItemTotals) → 4 ≤ total → total ≤ length octets → length message ≡ total → fields ≤ total
    → step_comes (on_outcome texts (counts_of totals) at fields message outcome instead kept) total totals.counted.skipped ≡ Goes n done totals_now
    → Counted n octets totals totals_now
counted_outcome texts totals at fields message octets total outcome None kept n done totals_now least there size few is = let no : ⊥ = cc in absurd no
counted_outcome texts totals at fields message octets total outcome (Some instead) None n done totals_now least there size few is = let no : ⊥ = cc in absurd no
counted_outcome texts totals at fields message octets total outcome (Some instead) (Some kept) n done totals_now least there size few is =
    let same : total ≡ n = cc in
    let now : record { counted = record { messages = totals.counted.messages + 1; fields = totals.counted.fields + fields; skipped = totals.counted.skipped; written = totals.counted.written + length (instead_of instead message) }; refused = totals.refused; kept = totals.kept + 1 } ≡ totals_now = cc in
    let little = instead_size instead message in
    subst (λ m. Counted m octets totals totals_now) same
    (subst (Counted total octets totals) now record {
      least = least;
      within = there;
      grown = λ place fits. record {
        messages = omega (arith, fits.messages, least);
        fields = omega (arith, fits.fields, few);
        skipped = omega (arith, fits.skipped);
        written = omega (arith, fits.written, little, size);
        refused = omega (arith, fits.refused);
        kept = omega (arith, fits.kept, least);
      };
    })

counted_given : (task : Task) → IsLawful task → (texts : Texts) (instead : Option Instead) (totals : ItemTotals) (at : Place) (octets : List ℕ) (total : ℕ) (given : Given)
    (n : ℕ) (done : Deeds) (totals_now : ItemTotals) → begins octets ≡ true → task.judge octets ≡ Message total → task.result at (take total octets) ≡ given
    → step_comes (on_given texts instead (counts_of totals) at (task.fields (take total octets)) (take total octets) given) total totals.counted.skipped
    ≡ Goes n done totals_now → Counted n octets totals totals_now
counted_given task lawful texts instead totals at octets total (Gives acts written) n done totals_now begun so given is =
    let least : 4 ≤ total = lawful.least octets total so in
    let there : total ≤ length octets = lawful.there octets total so in
    let few : task.fields (take total octets) ≤ total = lawful.few_fields octets total so in
    let little : 20 * written ≤ MOST_OCTETS * total = lawful.few_written at octets total acts written begun so given in
    let same : total ≡ n = cc in
    let now : record { counted = record { messages = totals.counted.messages + 1; fields = totals.counted.fields + task.fields (take total octets); skipped = totals.counted.skipped; written = totals.counted.written + written }; refused = totals.refused; kept = totals.kept } ≡ totals_now = cc in
    subst (λ m. Counted m octets totals totals_now) same
    (subst (Counted total octets totals) now record {
      least = least;
      within = there;
      grown = λ place fits. record {
        messages = omega (arith, fits.messages, least);
        fields = omega (arith, fits.fields, few);
        skipped = omega (arith, fits.skipped);
        written = omega (arith, fits.written, little);
        refused = omega (arith, fits.refused);
        kept = omega (arith, fits.kept);
      };
    })
counted_given task lawful texts instead totals at octets total (Ends outcome) n done totals_now begun so given is =
    let least : 4 ≤ total = lawful.least octets total so in
    let there : total ≤ length octets = lawful.there octets total so in
    counted_outcome texts totals at (task.fields (take total octets)) (take total octets) octets total outcome instead (kept_of outcome) n done totals_now least there
    (length-take-le total octets there) (lawful.few_fields octets total so) is

refused_size : (b : Bool) (octets : List ℕ) → length (cond b octets []) ≤ length octets
refused_size true octets = omega arith
refused_size false octets = omega arith

counted_passed : (plan : Plan) (more : Bool) (totals : ItemTotals) (place : ℕ) (octets : List ℕ) (fault : Fault) (passing t : Bool) (p : Option ℕ) (n : ℕ) (done : Deeds)
    (totals_now : ItemTotals) → ((size : ℕ) → p ≡ Some size → (4 ≤ size) × (size ≤ length octets))
    → step_next plan totals place octets (cond t Unknown (cond passing (next_passed fault p) (Refuses fault))) ≡ Goes n done totals_now
    → Counted n octets totals totals_now
counted_passed plan more totals place octets fault passing true p n done totals_now there is = let no : ⊥ = cc in absurd no
counted_passed plan more totals place octets fault false false p n done totals_now there is = let no : ⊥ = cc in absurd no
counted_passed plan more totals place octets fault true false None n done totals_now there is = let no : ⊥ = cc in absurd no
counted_passed plan more totals place octets fault true false (Some size) n done totals_now there is =
    let (least, within) = there size refl in
    let same : size ≡ n = cc in
    let written : List ℕ = refused_instead plan.policy.refused (take size octets) in
    let now : record { counted = record { messages = totals.counted.messages; fields = totals.counted.fields; skipped = totals.counted.skipped + size; written = totals.counted.written + length written }; refused = totals.refused + 1; kept = totals.kept } ≡ totals_now = cc in
    let little : length written ≤ length (take size octets) = refused_size (is_copied plan.policy.refused (take size octets)) (take size octets) in
    let front : length (take size octets) ≡ size = length-take-le size octets within in
    subst (λ m. Counted m octets totals totals_now) same
    (subst (Counted size octets totals) now record {
      least = least;
      within = within;
      grown = λ place fits. record {
        messages = omega (arith, fits.messages);
        fields = omega (arith, fits.fields);
        skipped = omega (arith, fits.skipped);
        written = omega (arith, fits.written, little, front);
        refused = omega (arith, fits.refused, least);
        kept = omega (arith, fits.kept);
      };
    })

counted_judged : (plan : Plan) → IsLawful plan.task → (more : Bool) (totals : ItemTotals) (place : ℕ) (octets : List ℕ) (j : Judgement) (n : ℕ) (done : Deeds)
    (totals_now : ItemTotals) → begins octets ≡ true → plan.task.judge octets ≡ j
    → step_next plan totals place octets (next_judged (passes plan.policy) more octets j) ≡ Goes n done totals_now → Counted n octets totals totals_now
counted_judged plan lawful more totals place octets (Message total) n done totals_now begun so is =
    let at : Place = place_by (counts_of totals) place in
    counted_given plan.task lawful plan.texts plan.policy.kept totals at octets total (plan.task.result at (take total octets)) n done totals_now begun so refl is
counted_judged plan lawful more totals place octets (Faulty fault) n done totals_now begun so is =
    counted_passed plan more totals place octets fault (passes plan.policy) (more && is_truncated fault.reason) (passed more octets) n done totals_now
    (λ size known. passed_size more size octets begun known) is

pub step_counted : (plan : Plan) → IsLawful plan.task → (more : Bool) (totals : ItemTotals) (place : ℕ) (octets : List ℕ) (n : ℕ) (done : Deeds)
    (totals_now : ItemTotals) → begins octets ≡ true → step plan more totals place octets ≡ Goes n done totals_now → Counted n octets totals totals_now
step_counted plan lawful more totals place octets n done totals_now begun is =
    counted_judged plan lawful more totals place octets (plan.task.judge octets) n done totals_now begun refl is

-- what comes next stays, and so does the answer
pub answer_follows : (plan : Plan) → IsLawful plan.task → (ahead more : Bool) (totals : ItemTotals) (place : ℕ) (octets later : List ℕ) (s : Step) → begins octets ≡ true
    → step plan ahead totals place octets ≡ s → s ≢ Waits → Follows ahead more later
    → answer_at plan more totals place (octets ++ later) ≡ answer_by plan more place (octets ++ later) s
answer_follows plan lawful true more totals place octets later s begun is known follows =
    answer_next plan lawful more totals place (octets ++ later) (begun_stays octets later begun)
    ∙ ap (answer_by plan more place (octets ++ later)) (step_stays plan lawful more totals place octets later begun (λ e. known (sym is ∙ e)) ∙ is)
answer_follows plan lawful false more totals place octets later s begun is known follows =
    let (last, none) = follows refl in
    let same : octets ++ later ≡ octets = ap (λ xs. octets ++ xs) none ∙ append-nil octets in
    subst (λ m. answer_at plan m totals place (octets ++ later) ≡ answer_by plan m place (octets ++ later) s) (sym last)
    (subst (λ xs. answer_at plan false totals place xs ≡ answer_by plan false place xs s) (sym same)
    (answer_next plan lawful false totals place octets begun ∙ ap (answer_by plan false place octets) is))

goes_not_waits : (n : ℕ) (done : Deeds) (totals : ItemTotals) → Goes n done totals ≢ Waits
goes_not_waits n done totals = λ e. cc

-- an item was answered
pub so_far_gone : (plan : Plan) → IsLawful plan.task → (ahead : Bool) (taken : List ℕ) (before done : Deeds) (totals totals_now : ItemTotals) (place n : ℕ) (pending : List ℕ)
    → begins pending ≡ true → step plan ahead totals place pending ≡ Goes n done totals_now → SoFar plan ahead taken before totals place pending
    → SoFar plan ahead taken (then before done) totals_now (place + n) (drop n pending)
so_far_gone plan lawful ahead taken before done totals totals_now place n pending begun is so =
    let counted = step_counted plan lawful ahead totals place pending n done totals_now begun is in
    record {
      whole = λ more later follows.
          so.whole more later follows
          ∙ (ap (after before)
          (answer_follows plan lawful ahead more totals place pending later (Goes n done totals_now) begun is (goes_not_waits n done totals_now) follows
          ∙ ap (λ xs. after done (answer_at plan more totals_now (place + n) xs)) (drop-append-le n pending later counted.within))
          ∙ after_after before done _);
      size = omega (arith, so.size, length-drop n pending, counted.within);
      fits = counted.grown place so.fits;
    }
