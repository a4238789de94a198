-- How a run ends, by what was taken and done.
use Rattle.std.proofs.Common.{◌≡◌, ◌≢◌, ℕ, ◌+◌, ◌-◌, ◌<◌, ◌≤◌, Bool, true, false, List, [], ◌++◌, Some, None, Err, IfSome, length, take, drop, refl, sym, ap, ◌∙◌, subst, arith, ⊎_elim, append-nil, length-append}
use Rattle.std.proofs.lemmas.Bool.{cases_lt, lt-ltb, le-ltb, cases_Bool, false≢true}
use Rattle.std.proofs.Math.Seq.{take-append-add}
use Rattle.std.specs.declared.option.Option.{Option}
use Rattle.std.specs.declared.result.Result.{Result}
use Rattle.std.specs.Io.KnownBytes.{Consumes, IsAtEnd}
use Rattle.grib_base.specs.Rules.{choose}
use Rattle.grib_stream.specs.declared.outcome.Outcome.{Outcome}
use Rattle.grib_stream.specs.declared.outcome.Outcome.TheVariants.{ReadFault, InputTooLong}
use Rattle.grib_stream.specs.Stream.{begins}
use Rattle.grib_stream.specs.Searching.{Unmarked}
use Rattle.grib_stream.specs.Reading.{Gathers, Takes}
use Rattle.grib_stream.specs.Outcomes.{is_broken, is_cut_within, is_whole}
use Rattle.grib_stream.specs.Task.{IsLawful}
use Rattle.grib_stream.proofs.ByKind.{cut_within, broken_early}
use Rattle.grib_stream.proofs.Fronts.{Fronted, front_start, front_passed, front_message, front_read}
use Rattle.grib_stream.proofs.Windows.{takes_none, takes_more, takes_still}
use Rattle.grib_items.specs.declared.policy.ItemTotals.{ItemTotals}
use Rattle.grib_items.specs.Deeds.{Deeds, deeds, no_deeds, then, Outside, Done, DoneFront}
use Rattle.grib_items.specs.Answer.{Answered, after, ends_with, done, totals_by, no_counts}
use Rattle.grib_items.specs.Laws.{nothing}
use Rattle.grib_items.specs.Run.{answer_at, answer_of, answer_within, Gives, Runs}
use Rattle.grib_items.specs.Steps.{Plan, Step, Goes, Stops, Waits, step, deeds_of}
use Rattle.grib_items.specs.Turning.{EndsStep}
use Rattle.grib_items.proofs.Messages.{gone_message}
use Rattle.grib_items.proofs.Effects.{done_none, done_then, done_still, then_nothing, front_whole, front_more, front_after}
use Rattle.grib_items.proofs.Steps.{skipping}
use Rattle.grib_items.proofs.SoFar.{Follows, follows_open, SoFar, nothing_so_far, so_far_read, so_far_passed, so_far_gone, answer_follows}
use Rattle.grib_items.proofs.Stopping.{step_ends}

-- ---- the answer to an input whose front was taken

-- the front of an input that is longer than is answered
front_taken : (limit : ℕ) (taken left : List ℕ) → length taken ≤ limit → take limit (taken ++ left) ≡ taken ++ take (limit - length taken) left
front_taken limit taken left short =
    let e : limit ≡ length taken + (limit - length taken) = omega arith in
    ap (λ n. take n (taken ++ left)) e ∙ take-append-add taken left (limit - length taken)

pub within_short : (plan : Plan) (limit : ℕ) (input : List ℕ) → length input ≤ limit → answer_within limit plan input ≡ answer_of plan false input
within_short plan limit input short =
    ap (λ b. choose b (λ _. answer_of plan true (take limit input)) (λ _. answer_of plan false input)) (le-ltb limit (length input) short)

pub within_long : (plan : Plan) (limit : ℕ) (input : List ℕ) → limit < length input → answer_within limit plan input ≡ answer_of plan true (take limit input)
within_long plan limit input long =
    ap (λ b. choose b (λ _. answer_of plan true (take limit input)) (λ _. answer_of plan false input)) (lt-ltb limit (length input) long)

-- whatever is so of each answer, by what may follow
within_by : (plan : Plan) (ahead : Bool) (limit : ℕ) (taken left : List ℕ) (P : Answered → Type 0) → length taken ≤ limit → (ahead ≡ false → left ≡ [])
    → ((more : Bool) (later : List ℕ) → Follows ahead more later → P (answer_of plan more (taken ++ later))) → P (answer_within limit plan (taken ++ left))
within_by plan ahead limit taken left P short none holds =
    ⊎_elim
    (λ long.
    let not_ended : ahead ≡ false → ⊥ = λ e. let size : length left ≡ 0 = ap length (none e) in omega (arith, long, short, size, length-append taken left) in
    subst P (sym (within_long plan limit (taken ++ left) long ∙ ap (answer_of plan true) (front_taken limit taken left short)))
    (holds true (take (limit - length taken) left) (λ e. absurd (not_ended e))))
    (λ few. subst P (sym (within_short plan limit (taken ++ left) few)) (holds false left (λ e. (refl, none e)))) (cases_lt limit (length (taken ++ left)))

-- what holds of an input that may be told
pub if_any : (a b : Option (List ℕ)) (ahead : Bool) (taken : List ℕ) (P : List ℕ → Type 0) → Consumes a b taken → (ahead ≡ false → IsAtEnd b)
    → ((left : List ℕ) → (ahead ≡ false → left ≡ []) → P (taken ++ left)) → IfSome a P
if_any None b ahead taken P consumed ended holds = tt
if_any (Some input) None ahead taken P consumed ended holds = absurd consumed
if_any (Some input) (Some left) ahead taken P consumed ended holds = subst P (sym consumed) (holds left ended)

-- ---- the state of a run

-- What was taken and done so far, with this many octets that may still be taken.
pub record Going (plan : Plan) (limit left : ℕ) (ahead : Bool) (a b : Option (List ℕ)) (before now : Outside) (totals : ItemTotals) (place : ℕ) (pending : List ℕ) : Type 0 where
  pub taken : List ℕ
  pub done : Deeds
  pub consumed : Takes a b taken
  pub counted : length taken + left ≡ limit
  pub did : Done before now done
  pub so : SoFar plan ahead taken done totals place pending
  pub ended : ahead ≡ false → IsAtEnd b
  pub front : plan.policy ≡ nothing → Fronted plan.task taken totals.counted.messages place pending

pub going_start : (plan : Plan) (limit : ℕ) (a : Option (List ℕ)) (before : Outside) (totals : ItemTotals) (window : List ℕ) → window ≡ [] → totals ≡ totals_by no_counts 0
    → Going plan limit limit true a a before before totals 0 window
going_start plan limit a before totals window is none =
    subst (λ t. Going plan limit limit true a a before before t 0 window) (sym none)
    (subst (Going plan limit limit true a a before before (totals_by no_counts 0) 0) (sym is)
    record {
      taken = [];
      done = no_deeds;
      consumed = takes_none a;
      counted = omega arith;
      did = done_none before;
      so = nothing_so_far plan;
      ended = λ e. absurd (false≢true (sym e));
      front = λ none. front_start plan.task;
    })

-- whether more may follow, by another name
pub going_flag : {plan : Plan} {limit left : ℕ} {ahead : Bool} {a b : Option (List ℕ)} {before mid : Outside} {totals : ItemTotals} {place : ℕ} {pending : List ℕ} (more : Bool)
    → Going plan limit left ahead a b before mid totals place pending → more ≡ ahead → Going plan limit left more a b before mid totals place pending
going_flag {plan} {limit} {left} {ahead} {a} {b} {before} {mid} {totals} {place} {pending} more going is =
    subst (λ m. Going plan limit left m a b before mid totals place pending) (sym is) going

-- octets that begin no item were passed over; the window was shown before and after
pub going_shown : {plan : Plan} {limit left : ℕ} {ahead : Bool} {a b : Option (List ℕ)} {before mid : Outside} {totals : ItemTotals} {place : ℕ} {pending : List ℕ} (n : ℕ) (first next shown : List ℕ)
    → Going plan limit left ahead a b before mid totals place pending → first ≡ pending → Unmarked n first → next ≡ drop n pending → shown ≡ next
    → Going plan limit left ahead a b before mid (skipping totals n) (place + n) shown
going_shown {plan} {limit} {left} {ahead} {a} {b} {before} {mid} {totals} {place} {pending} n first next shown going is unmarked passed is_shown =
    let here : Unmarked n pending = subst (Unmarked n) is unmarked in
    let same : drop n pending ≡ shown = sym passed ∙ sym is_shown in
    record {
      taken = going.taken;
      done = going.done;
      consumed = going.consumed;
      counted = going.counted;
      did = going.did;
      so = subst (SoFar plan ahead going.taken going.done (skipping totals n) (place + n)) same (so_far_passed plan ahead going.taken going.done totals place n pending here going.so);
      ended = going.ended;
      front = λ none.
          subst (Fronted plan.task going.taken totals.counted.messages (place + n)) same
          (front_passed plan.task going.taken totals.counted.messages place n pending here (going.front none));
    }

-- an item was answered and passed over
pub going_gone : {plan : Plan} {limit left : ℕ} {ahead : Bool} {a b : Option (List ℕ)} {before mid : Outside} {totals : ItemTotals} {place : ℕ} {shown : List ℕ} (lawful : IsLawful plan.task)
    (now : Outside) (n : ℕ) (done : Deeds) (totals_now : ItemTotals) (window : List ℕ) → Going plan limit left ahead a b before mid totals place shown → begins shown ≡ true
    → step plan ahead totals place shown ≡ Goes n done totals_now → Done mid now done → window ≡ drop n shown
    → Going plan limit left ahead a b before now totals_now (place + n) window
going_gone {plan} {limit} {left} {ahead} {a} {b} {before} {mid} {totals} {place} {shown} lawful now n done totals_now window going begun is did passed = record {
  taken = going.taken;
  done = then going.done done;
  consumed = going.consumed;
  counted = going.counted;
  did = done_then before mid now going.done done going.did did;
  so = subst (SoFar plan ahead going.taken (then going.done done) totals_now (place + n)) (sym passed)
      (so_far_gone plan lawful ahead going.taken going.done done totals totals_now place n shown begun is going.so);
  ended = going.ended;
  front = λ none.
      let gone = gone_message plan ahead totals place shown n done totals_now none is in
      subst (λ m. Fronted plan.task going.taken m (place + n) window) (sym gone.counted)
      (subst (Fronted plan.task going.taken (totals.counted.messages + 1) (place + n)) (sym passed)
      (front_message plan.task lawful going.taken totals.counted.messages place n shown begun gone.accepted (going.front none)));
}

-- more was read, and nothing was done
pub going_read : {plan : Plan} {limit left left_now : ℕ} {a b c : Option (List ℕ)} {before mid : Outside} {totals : ItemTotals} {place : ℕ} {shown window window_now : List ℕ}
    (now : Outside) → Going plan limit left true a b before mid totals place shown → shown ≡ window → Done mid now no_deeds → Gathers b c window window_now left left_now
    → Going plan limit left_now true a c before now totals place window_now
going_read {plan} {limit} {left} {left_now} {a} {b} {c} {before} {mid} {totals} {place} {shown} {window} {window_now} now going is still gathers =
    let grown : shown ++ gathers.piece ≡ window_now = ap (λ xs. xs ++ gathers.piece) is ∙ sym gathers.grown in
    record {
      taken = going.taken ++ gathers.piece;
      done = going.done;
      consumed = takes_more a b c going.taken gathers.piece going.consumed gathers.taken;
      counted = omega (arith, length-append going.taken gathers.piece, going.counted, gathers.size);
      did = done_still before mid now going.done going.did still;
      so = subst (SoFar plan true (going.taken ++ gathers.piece) going.done totals place) grown
          (so_far_read plan going.taken going.done totals place shown gathers.piece going.so);
      ended = λ e. absurd (false≢true (sym e));
      front = λ none.
          subst (Fronted plan.task (going.taken ++ gathers.piece) totals.counted.messages place) grown
          (front_read plan.task going.taken totals.counted.messages place shown gathers.piece (going.front none));
    }

-- the input is found to be at its end
pub going_ended : {plan : Plan} {limit left : ℕ} {a b c : Option (List ℕ)} {before mid : Outside} {totals : ItemTotals} {place : ℕ} {shown window : List ℕ} (ahead : Bool)
    (now : Outside) → Going plan limit left true a b before mid totals place shown → shown ≡ window → Done mid now no_deeds → Consumes b c [] → IsAtEnd c
    → Going plan limit left ahead a c before now totals place window
going_ended {plan} {limit} {left} {a} {b} {c} {before} {mid} {totals} {place} {shown} {window} ahead now going is still consumed end = record {
  taken = going.taken;
  done = going.done;
  consumed = takes_still a b c going.taken going.consumed consumed;
  counted = going.counted;
  did = done_still before mid now going.done going.did still;
  so = record {
    whole = λ more later follows.
        going.so.whole more later (follows_open more later) ∙ ap (λ xs. after going.done (answer_at plan more totals place (xs ++ later))) is;
    size = omega (arith, going.so.size, ap length is);
    fits = going.so.fits;
  };
  ended = λ e. end;
  front = λ none. subst (Fronted plan.task going.taken totals.counted.messages place) is (going.front none);
}

-- nothing was done and nothing taken since; the window was shown before
pub going_still : {plan : Plan} {limit left : ℕ} {ahead : Bool} {a b : Option (List ℕ)} {before mid : Outside} {totals : ItemTotals} {place : ℕ} {shown : List ℕ} (now : Outside) (window : List ℕ)
    → Going plan limit left ahead a b before mid totals place shown → shown ≡ window → Done mid now no_deeds → Going plan limit left ahead a b before now totals place window
going_still {plan} {limit} {left} {ahead} {a} {b} {before} {mid} {totals} {place} {shown} now window going is still =
    subst (Going plan limit left ahead a b before now totals place) is
    record {
      taken = going.taken;
      done = going.done;
      consumed = going.consumed;
      counted = going.counted;
      did = done_still before mid now going.done going.did still;
      so = going.so;
      ended = going.ended;
      front = going.front;
    }

-- ---- what was done is a front of the answer

pub so_far_front : (plan : Plan) (ahead : Bool) (taken : List ℕ) (done : Deeds) (totals : ItemTotals) (place : ℕ) (pending : List ℕ) (before now : Outside)
    → SoFar plan ahead taken done totals place pending → DoneFront before now done → (more : Bool) (later : List ℕ) → Follows ahead more later
    → DoneFront before now (answer_of plan more (taken ++ later)).deeds
so_far_front plan ahead taken done totals place pending before now so front more later follows =
    subst (λ answer. DoneFront before now answer.deeds) (sym (so.whole more later follows))
    (front_more before now done (answer_at plan more totals place (pending ++ later)).deeds front)

broken_by : (plan : Plan) → IsLawful plan.task → (ahead : Bool) (taken : List ℕ) (done : Deeds) (totals : ItemTotals) (place : ℕ) (pending : List ℕ) (before mid now : Outside) (s : Step)
    → begins pending ≡ true → SoFar plan ahead taken done totals place pending → Done before mid done → step plan ahead totals place pending ≡ s
    → DoneFront mid now (deeds_of s) → (more : Bool) (later : List ℕ) → Follows ahead more later → DoneFront before now (answer_of plan more (taken ++ later)).deeds
broken_by plan lawful ahead taken done totals place pending before mid now (Goes n given totals_now) begun so did is front more later follows =
    so_far_front plan ahead taken (then done given) totals_now (place + n) (drop n pending) before now
    (so_far_gone plan lawful ahead taken done given totals totals_now place n pending begun is so) (front_after before mid now done given did front) more later follows
broken_by plan lawful ahead taken done totals place pending before mid now (Stops outcome) begun so did is front more later follows =
    so_far_front plan ahead taken done totals place pending before now so
    (subst (DoneFront before now) (then_nothing done) (front_after before mid now done no_deeds did front)) more later follows
broken_by plan lawful ahead taken done totals place pending before mid now Waits begun so did is front more later follows =
    so_far_front plan ahead taken done totals place pending before now so
    (subst (DoneFront before now) (then_nothing done) (front_after before mid now done no_deeds did front)) more later follows

-- the octets alone that were taken
pub gives_alone : (plan : Plan) (limit : ℕ) (taken : List ℕ) (result : Result ItemTotals Outcome) (before now : Outside)
    → Gives (answer_within limit plan (taken ++ [])) result before now → Gives (answer_within limit plan taken) result before now
gives_alone plan limit taken result before now gives = subst (λ input. Gives (answer_within limit plan input) result before now) (append-nil taken) gives

-- ---- a run that a device or a lack of memory ended

pub runs_broken : (plan : Plan) (limit : ℕ) (ahead : Bool) (outcome : Outcome) (a b : Option (List ℕ)) (before now : Outside) (taken : List ℕ) → is_broken outcome ≡ true
    → Takes a b taken → (ahead ≡ false → IsAtEnd b) → length taken ≤ limit
    → ((more : Bool) (later : List ℕ) → Follows ahead more later → DoneFront before now (answer_of plan more (taken ++ later)).deeds)
    → (outcome ≡ ReadFault → Done before now (answer_of plan true taken).deeds) → Runs plan limit (Err outcome) a b before now
runs_broken plan limit ahead outcome a b before now taken broken consumed ended short front read =
    let never = λ (unbroken : is_broken outcome ≡ false). false≢true (sym unbroken ∙ broken) in
    let gives : (left : List ℕ) → (ahead ≡ false → left ≡ []) → Gives (answer_within limit plan (taken ++ left)) (Err outcome) before now = λ left none.
    within_by plan ahead limit taken left (λ answer. Gives answer (Err outcome) before now) short none
    (λ more later follows. record {
      ends = λ unbroken. absurd (never unbroken);
      whole = λ unbroken. absurd (never unbroken);
      front = front_more before now (answer_of plan more (taken ++ later)).deeds (deeds (answer_of plan more (taken ++ later)).ending []) (front more later follows);
    }) in
    record {
      gives = if_any a b ahead taken (λ input. Gives (answer_within limit plan input) (Err outcome) before now) consumed.consumed ended gives;
      taken = (
        taken,
        consumed,
        record {
          most = omega arith;
          short = λ unbroken other. short;
          long = λ e. let same : is_broken InputTooLong ≡ true = subst (λ o. is_broken o ≡ true) e broken in absurd (false≢true same);
          answered = gives_alone plan limit taken (Err outcome) before now (gives [] (λ e. refl));
          read_fault = read;
        },
      );
      end = tt;
    }

-- ---- a run that ends at an item

-- an answer that ends with this outcome, after this
stopped_gives : (before_it : Deeds) (outcome : Outcome) (before now : Outside) → Done before now before_it → Gives (after before_it (ends_with outcome)) (Err outcome) before now
stopped_gives before_it outcome before now did =
    let whole : Done before now (then (then before_it no_deeds) no_deeds) =
    subst (Done before now) (sym (then_nothing before_it) ∙ sym (then_nothing (then before_it no_deeds))) did in
    record { ends = λ unbroken. refl; whole = λ unbroken. whole; front = front_whole before now (then (then before_it no_deeds) no_deeds) whole }

runs_stopped : (plan : Plan) (limit : ℕ) (ahead : Bool) (outcome : Outcome) (a b : Option (List ℕ)) (before now : Outside) (taken : List ℕ) (done : Deeds)
    → outcome ≢ InputTooLong → outcome ≢ ReadFault → Takes a b taken → (ahead ≡ false → IsAtEnd b) → length taken ≤ limit → Done before now done
    → ((more : Bool) (later : List ℕ) → Follows ahead more later → answer_of plan more (taken ++ later) ≡ after done (ends_with outcome))
    → Runs plan limit (Err outcome) a b before now
runs_stopped plan limit ahead outcome a b before now taken done not_long not_read consumed ended short did whole =
    let gives : (left : List ℕ) → (ahead ≡ false → left ≡ []) → Gives (answer_within limit plan (taken ++ left)) (Err outcome) before now = λ left none.
    within_by plan ahead limit taken left (λ answer. Gives answer (Err outcome) before now) short none
    (λ more later follows. subst (λ answer. Gives answer (Err outcome) before now) (sym (whole more later follows)) (stopped_gives done outcome before now did)) in
    record {
      gives = if_any a b ahead taken (λ input. Gives (answer_within limit plan input) (Err outcome) before now) consumed.consumed ended gives;
      taken = (
        taken,
        consumed,
        record {
          most = omega arith;
          short = λ unbroken other. short;
          long = λ e. absurd (not_long e);
          answered = gives_alone plan limit taken (Err outcome) before now (gives [] (λ e. refl));
          read_fault = λ e. absurd (not_read e);
        },
      );
      end = tt;
    }

stops_not_waits : (outcome : Outcome) → Stops outcome ≢ Waits
stops_not_waits outcome = λ e. cc

pub turn_ends : {plan : Plan} {limit left : ℕ} {ahead : Bool} {a b : Option (List ℕ)} {before mid : Outside} {totals : ItemTotals} {place : ℕ} {shown : List ℕ} (lawful : IsLawful plan.task)
    (now : Outside) (outcome : Outcome) → Going plan limit left ahead a b before mid totals place shown → begins shown ≡ true
    → EndsStep (step plan ahead totals place shown) outcome mid now → Runs plan limit (Err outcome) a b before now × ((outcome ≢ ReadFault) × (is_whole outcome ≡ false))
turn_ends {plan} {limit} {left} {ahead} {a} {b} {before} {mid} {totals} {place} {shown} lawful now outcome going begun ends =
    let short : length going.taken ≤ limit = omega (arith, going.counted) in
    ⊎_elim
    (λ (cut : is_cut_within outcome ≡ true).
    let within = cut_within outcome cut in (
      runs_broken plan limit ahead outcome a b before now going.taken within.broken going.consumed going.ended short
          (broken_by plan lawful ahead going.taken going.done totals place shown before mid now (step plan ahead totals place shown) begun going.so going.did refl (ends.cut cut))
          (λ e. absurd (within.not_read e)),
      (within.not_read, broken_early outcome within.broken),
    ))
    (λ (whole : is_cut_within outcome ≡ false).
    let (stops, still) = ends.stopped whole in
    let kind = step_ends plan lawful ahead totals place shown outcome stops in (
      runs_stopped plan limit ahead outcome a b before now going.taken going.done kind.not_long kind.not_read going.consumed going.ended short
          (done_still before mid now going.done going.did still)
          (λ more later follows.
          going.so.whole more later follows
          ∙ ap (after going.done) (answer_follows plan lawful ahead more totals place shown later (Stops outcome) begun stops (stops_not_waits outcome) follows)),
      (kind.not_read, kind.before_end),
    ))
    (cases_Bool (is_cut_within outcome))
