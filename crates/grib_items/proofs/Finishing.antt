-- Where a run stops reading, and how it finishes.
use Rattle.std.proofs.Common.{◌≡◌, ◌≢◌, ◌⊎◌, inl, inr, ℕ, ◌+◌, ◌*◌, ◌<◌, ◌≤◌, true, false, List, [], ◌++◌, Ok, Err, IfErr, length, take, refl, sym, ap, ◌∙◌, subst, arith, ⊎_elim, append_assoc, append-nil, length-append, take_at}
use Rattle.std.proofs.lemmas.Bool.{false≢true}
use Rattle.std.specs.declared.option.Option.{Option}
use Rattle.std.specs.declared.result.Result.{Result}
use Rattle.std.specs.Io.KnownBytes.{IsAtEnd}
use Rattle.std.proofs.KnownBytes.{Consumes-whole}
use Rattle.grib_base.specs.declared.fault.Refusal.{Refusal}
use Rattle.grib_io.specs.Outside.{Counted}
use Rattle.grib_stream.specs.declared.outcome.Outcome.{Outcome}
use Rattle.grib_stream.specs.declared.outcome.Outcome.TheVariants.{Refused, ReadFault, WriteFault, ShelfFault, Memory, InputTooLong}
use Rattle.grib_stream.specs.declared.gathering.Rest.{Rest}
use Rattle.grib_stream.specs.declared.gathering.Rest.TheVariants.{Open, Full, Ended}
use Rattle.grib_stream.specs.Stream.{begins}
use Rattle.grib_stream.specs.Outcomes.{is_broken, is_cut_short, is_whole}
use Rattle.grib_stream.specs.Reading.{Gathers, Probes, Takes}
use Rattle.grib_stream.specs.Rest.{Stands}
use Rattle.grib_stream.specs.Task.{IsLawful}
use Rattle.grib_stream.proofs.ByKind.{cut_broken}
use Rattle.grib_stream.proofs.Windows.{takes_more, takes_kept}
use Rattle.grib_items.specs.declared.policy.ItemTotals.{ItemTotals}
use Rattle.grib_items.specs.Deeds.{Deeds, deeds, no_deeds, then, Outside, Done, DoneFront}
use Rattle.grib_items.specs.Answer.{after, ends_with, done, totals_by, counts_of}
use Rattle.grib_items.specs.Reading.{Advances, goes_on, advances_left}
use Rattle.grib_items.specs.Run.{answer_at, answer_of, answer_within, Gives, Runs, IsOver}
use Rattle.grib_items.specs.Steps.{Plan, Step, Goes, Stops, Waits, step}
use Rattle.grib_items.specs.Turning.{is_gone, IsQuiet, Awaits}
use Rattle.grib_items.proofs.Effects.{done_then, done_still, then_nothing, front_whole, front_after}
use Rattle.grib_items.proofs.Steps.{answer_by, answer_next, answer_few, step_known}
use Rattle.grib_items.proofs.SoFar.{follows_open, SoFar}
use Rattle.grib_items.proofs.Residuals.{err_less, err_of, ok_of, on_ok, ok_not_err}
use Rattle.grib_items.proofs.Exits.{Going, going_read, going_ended, runs_broken, so_far_front, within_short, if_any, within_long, gives_alone}

-- ---- octets for which nothing can be done yet

quiet_step : (plan : Plan) (place : ℕ) (octets : List ℕ) (s : Step) → is_gone s ≡ false → (answer_by plan true place octets s).deeds ≡ no_deeds
quiet_step plan place octets (Goes n done totals) quiet = absurd (false≢true (sym quiet))
quiet_step plan place octets (Stops outcome) quiet = refl
quiet_step plan place octets Waits quiet = refl

pub quiet_answer : (plan : Plan) → IsLawful plan.task → (totals : ItemTotals) (place : ℕ) (octets : List ℕ) → IsQuiet plan totals place octets
    → (answer_at plan true totals place octets).deeds ≡ no_deeds
quiet_answer plan lawful totals place octets (inl few) = ap (λ answer. answer.deeds) (answer_few plan true totals place octets few)
quiet_answer plan lawful totals place octets (inr (begun, quiet)) =
    ap (λ answer. answer.deeds) (answer_next plan lawful true totals place octets begun) ∙ quiet_step plan place octets (step plan true totals place octets) quiet

pub unknown_answer : (plan : Plan) → IsLawful plan.task → (totals : ItemTotals) (place : ℕ) (octets : List ℕ)
    → (length octets < 4) ⊎ ((begins octets ≡ true) × (step plan true totals place octets ≡ Waits)) → answer_at plan true totals place octets ≡ ends_with InputTooLong
unknown_answer plan lawful totals place octets (inl few) = answer_few plan true totals place octets few
unknown_answer plan lawful totals place octets (inr (begun, waits)) =
    answer_next plan lawful true totals place octets begun ∙ ap (answer_by plan true place octets) waits

-- where nothing follows, there are fewer than four
few_left : (plan : Plan) (totals : ItemTotals) (place : ℕ) (octets : List ℕ)
    → (length octets < 4) ⊎ ((begins octets ≡ true) × (step plan false totals place octets ≡ Waits)) → length octets < 4
few_left plan totals place octets (inl few) = few
few_left plan totals place octets (inr (begun, waits)) = absurd (step_known plan totals place octets waits)

-- what the octets taken give, while more may follow
pub taken_alone : (plan : Plan) (taken : List ℕ) (done : Deeds) (totals : ItemTotals) (place : ℕ) (pending : List ℕ) → SoFar plan true taken done totals place pending
    → answer_of plan true taken ≡ after done (answer_at plan true totals place pending)
taken_alone plan taken done totals place pending so =
    ap (answer_of plan true) (sym (append-nil taken))
    ∙ (so.whole true [] (follows_open true []) ∙ ap (λ xs. after done (answer_at plan true totals place xs)) (append-nil pending))

pub exactly : (plan : Plan) (taken : List ℕ) (done : Deeds) (totals : ItemTotals) (place : ℕ) (pending : List ℕ) (before now : Outside) → SoFar plan true taken done totals place pending
    → Done before now done → (answer_at plan true totals place pending).deeds ≡ no_deeds → Done before now (answer_of plan true taken).deeds
exactly plan taken done totals place pending before now so did nothing =
    subst (Done before now)
    (sym (then_nothing done) ∙ (ap (λ xs. then done xs) (sym nothing) ∙ sym (ap (λ answer. answer.deeds) (taken_alone plan taken done totals place pending so)))) did

-- ---- reading broke, or the input goes on

-- what reading stops with
read_broken : (outcome : Outcome) → (outcome ≡ ReadFault) ⊎ (outcome ≡ Memory) → is_broken outcome ≡ true
read_broken outcome (inl is) = ap is_broken is
read_broken outcome (inr is) = ap is_broken is

-- what stands in the end of a turn stands at the start of the next
stands_on : (rest : Rest) (wanted size left : ℕ) (now : Option (List ℕ)) → Stands rest wanted size left now → Stands rest 0 0 left now
stands_on Open wanted size left now stands = omega arith
stands_on Full wanted size left now stands = stands
stands_on Ended wanted size left now stands = stands

read_ends : {plan : Plan} {limit left left_now : ℕ} {a b c : Option (List ℕ)} {before mid : Outside} {totals : ItemTotals} {place : ℕ} {shown window window_now : List ℕ}
    (lawful : IsLawful plan.task) (now : Outside) (outcome : Outcome) (wanted : ℕ) → Going plan limit left true a b before mid totals place shown → shown ≡ window
    → Awaits plan true totals place shown wanted → Done mid now no_deeds → Gathers b c window window_now left left_now → length window_now < wanted
    → is_broken outcome ≡ true → Runs plan limit (Err outcome) a c before now
read_ends {plan} {limit} {left} {left_now} {a} {b} {c} {before} {mid} {totals} {place} {shown} {window} {window_now} lawful now outcome wanted going is awaits still gathers less broken =
    let read = going_read now going is still gathers in
    let short : length read.taken ≤ limit = omega (arith, read.counted) in
    let grown : shown ++ gathers.piece ≡ window_now = ap (λ xs. xs ++ gathers.piece) is ∙ sym gathers.grown in
    let quiet : IsQuiet plan totals place window_now =
    subst (IsQuiet plan totals place) grown (awaits.quiet gathers.piece (subst (λ xs. length xs < wanted) (sym grown) less)) in
    runs_broken plan limit true outcome a c before now read.taken broken read.consumed read.ended short
    (so_far_front plan true read.taken read.done totals place window_now before now read.so (front_whole before now read.done read.did))
    (λ e. exactly plan read.taken read.done totals place window_now before now read.so read.did (quiet_answer plan lawful totals place window_now quiet))

pub runs_long : (plan : Plan) (limit : ℕ) (a b : Option (List ℕ)) (before now : Outside) (first piece : List ℕ) (done : Deeds) → Takes a b (first ++ piece)
    → length first ≡ limit → length piece ≡ 1 → Done before now done → answer_of plan true first ≡ after done (ends_with InputTooLong)
    → Runs plan limit (Err InputTooLong) a b before now
runs_long plan limit a b before now first piece done consumed size one did is =
    let whole : Done before now (then (then done no_deeds) no_deeds) = subst (Done before now) (sym (then_nothing done) ∙ sym (then_nothing (then done no_deeds))) did in
    let gives : Gives (after done (ends_with InputTooLong)) (Err InputTooLong) before now = record {
      ends = λ unbroken. refl;
      whole = λ unbroken. whole;
      front = front_whole before now (then (then done no_deeds) no_deeds) whole;
    } in
    let within = λ (left : List ℕ).
    let longer : limit < length ((first ++ piece) ++ left) = omega (arith, length-append (first ++ piece) left, length-append first piece, size, one) in
    let front : take limit ((first ++ piece) ++ left) ≡ first = ap (take limit) (append_assoc first piece left) ∙ take_at first (piece ++ left) limit size in
    let e : answer_within limit plan ((first ++ piece) ++ left) ≡ after done (ends_with InputTooLong) =
    within_long plan limit ((first ++ piece) ++ left) longer ∙ (ap (answer_of plan true) front ∙ is) in
    e in
    let more : length (first ++ piece) ≡ limit + 1 = omega (arith, length-append first piece, size, one) in
    record {
      gives = if_any a b true (first ++ piece) (λ input. Gives (answer_within limit plan input) (Err InputTooLong) before now) consumed.consumed (λ e. absurd (false≢true (sym e)))
          (λ left none. subst (λ answer. Gives answer (Err InputTooLong) before now) (sym (within left)) gives);
      taken = (
        first ++ piece,
        consumed,
        record {
          most = omega (arith, more);
          short = λ unbroken other. absurd (other refl);
          long = λ e. more;
          answered = gives_alone plan limit (first ++ piece) (Err InputTooLong) before now (subst (λ answer. Gives answer (Err InputTooLong) before now) (sym (within [])) gives);
          read_fault = λ e. cc;
        },
      );
      end = tt;
    }

probe_one_of : {T : Type 0} (result : Result T Outcome) (outcome : Outcome) → result ≡ Err outcome
    → IfErr result (λ o. (o ≡ InputTooLong) ⊎ (o ≡ ReadFault)) → (outcome ≡ InputTooLong) ⊎ (outcome ≡ ReadFault)
probe_one_of {T} (Ok x) outcome is one_of = let no : ⊥ = cc in absurd no
probe_one_of {T} (Err o) outcome is one_of = let same : o ≡ outcome = cc in subst (λ p. (p ≡ InputTooLong) ⊎ (p ≡ ReadFault)) same one_of

-- the octet that shows whether the input is too long
probe_ends : {plan : Plan} {limit left : ℕ} {a b c : Option (List ℕ)} {before mid : Outside} {totals : ItemTotals} {place : ℕ} {shown : List ℕ} {T : Type 0}
    (lawful : IsLawful plan.task) (now : Outside) (result : Result T Outcome) (outcome : Outcome) (wanted count count_now : ℕ)
    → Going plan limit left true a b before mid totals place shown → left ≡ 0 → Awaits plan true totals place shown wanted → Done mid now no_deeds
    → Probes result b c count count_now → result ≡ Err outcome → Runs plan limit (Err outcome) a c before now
probe_ends {plan} {limit} {left} {a} {b} {c} {before} {mid} {totals} {place} {shown} {T} lawful now result outcome wanted count count_now going none awaits still probes is =
    let alone = taken_alone plan going.taken going.done totals place shown going.so in
    let unknown = unknown_answer plan lawful totals place shown awaits.unknown in
    let did : Done before now going.done = done_still before mid now going.done going.did still in
    let size : length going.taken ≡ limit = omega (arith, going.counted, none) in
    ⊎_elim
    (λ (long : outcome ≡ InputTooLong).
    let (piece, one, consumed) = probes.goes_on (is ∙ ap Err long) in
    subst (λ o. Runs plan limit (Err o) a c before now) (sym long)
    (runs_long plan limit a c before now going.taken piece going.done (takes_more a b c going.taken piece going.consumed consumed) size one did
    (alone ∙ ap (after going.done) unknown)))
    (λ (failed : outcome ≡ ReadFault).
    let kept = probes.failed (is ∙ ap Err failed) in
    runs_broken plan limit true outcome a c before now going.taken (ap is_broken failed) (takes_kept a b c going.taken going.consumed kept)
    (λ e. absurd (false≢true (sym e))) (omega (arith, size))
    (so_far_front plan true going.taken going.done totals place shown before now going.so (front_whole before now going.done did))
    (λ e. exactly plan going.taken going.done totals place shown before now going.so did (ap (λ answer. answer.deeds) unknown)))
    (probe_one_of result outcome is probes.one_of)

-- ---- reading on

-- a run whose reading broke
pub advance_ends : {plan : Plan} {limit left : ℕ} {a b c : Option (List ℕ)} {before mid : Outside} {totals : ItemTotals} {place : ℕ} {shown window : List ℕ}
    (lawful : IsLawful plan.task) (left_now : ℕ) (window_now : List ℕ) (now : Outside) (rest : Rest) (result : Result Rest Outcome) (outcome : Outcome) (wanted count count_now : ℕ)
    → Going plan limit left (goes_on rest) a b before mid totals place shown → goes_on rest ≡ true → Stands rest 0 0 left b → shown ≡ window
    → Awaits plan (goes_on rest) totals place shown wanted → Done mid now no_deeds → Advances rest result b c window window_now left left_now wanted count count_now
    → result ≡ Err outcome → Runs plan limit (Err outcome) a c before now
advance_ends lawful left_now window_now now Open result outcome wanted count count_now going goes stands is awaits still advances failed =
    read_ends lawful now outcome wanted going is awaits still advances.gathers (err_less result outcome _ failed advances.fewer)
    (read_broken outcome (err_of result outcome _ failed advances.one_of))
advance_ends lawful left_now window_now now Full result outcome wanted count count_now going goes stands is awaits still advances failed =
    probe_ends lawful now result outcome wanted count count_now going stands awaits still advances.probes failed
advance_ends lawful left_now window_now now Ended result outcome wanted count count_now going goes stands is awaits still advances failed = absurd (false≢true goes)

-- reading went on, or the input is found to be at its end
pub record Advanced (plan : Plan) (limit left_now : ℕ) (a c : Option (List ℕ)) (before now : Outside) (totals : ItemTotals) (place : ℕ) (window_now : List ℕ) (rest_now : Rest) (measure : ℕ) (count count_now : ℕ) : Type 0 where
  pub going : Going plan limit left_now (goes_on rest_now) a c before now totals place window_now
  pub stands : Stands rest_now 0 0 left_now c
  pub less : 2 * left_now + length window_now + advances_left rest_now < measure
  pub calm : count_now ≡ count

pub open_still : {plan : Plan} {limit left : ℕ} {a b : Option (List ℕ)} {before now : Outside} {totals : ItemTotals} {place : ℕ} {pending : List ℕ} (rest : Rest)
    → Going plan limit left true a b before now totals place pending → (rest ≡ Ended → IsAtEnd b) → Going plan limit left (goes_on rest) a b before now totals place pending
open_still Open going end = going
open_still Full going end = going
open_still {plan} {limit} {left} {a} {b} {before} {now} {totals} {place} {pending} Ended going end = record {
  taken = going.taken;
  done = going.done;
  consumed = going.consumed;
  counted = going.counted;
  did = going.did;
  so = record { whole = λ more later follows. going.so.whole more later (follows_open more later); size = going.so.size; fits = going.so.fits };
  ended = λ e. end refl;
  front = going.front;
}

stands_end : (rest : Rest) (wanted size left : ℕ) (now : Option (List ℕ)) → Stands rest wanted size left now → rest ≡ Ended → IsAtEnd now
stands_end Open wanted size left now stands is = let no : ⊥ = cc in absurd no
stands_end Full wanted size left now stands is = let no : ⊥ = cc in absurd no
stands_end Ended wanted size left now stands is = stands

read_less : (rest : Rest) (wanted size size_now left left_now piece : ℕ) (now : Option (List ℕ)) → Stands rest wanted size_now left_now now → size < wanted
    → size_now ≡ size + piece → left_now + piece ≡ left → 2 * left_now + size_now + advances_left rest < 2 * left + size + 2
read_less Open wanted size size_now left left_now piece now stands few grown taken = omega (arith, stands, few, grown, taken)
read_less Full wanted size size_now left left_now piece now stands few grown taken = omega (arith, grown, taken)
read_less Ended wanted size size_now left left_now piece now stands few grown taken = omega (arith, grown, taken)

pub advance_on : {plan : Plan} {limit left left_now : ℕ} {a b c : Option (List ℕ)} {before mid : Outside} {totals : ItemTotals} {place : ℕ} {shown window window_now : List ℕ}
    (now : Outside) (rest rest_now : Rest) (result : Result Rest Outcome) (wanted count count_now : ℕ)
    → Going plan limit left (goes_on rest) a b before mid totals place shown → goes_on rest ≡ true → shown ≡ window
    → length window < wanted → Done mid now no_deeds → Advances rest result b c window window_now left left_now wanted count count_now
    → result ≡ Ok rest_now → Advanced plan limit left_now a c before now totals place window_now rest_now (2 * left + length window + advances_left rest) count count_now
advance_on {plan} {limit} {left} {left_now} {a} {b} {c} {before} {mid} {totals} {place} {shown} {window} {window_now} now Open rest_now result wanted count count_now going goes is few still advances done =
    let stands : Stands rest_now wanted (length window_now) left_now c = ok_of result rest_now _ done advances.stands in
    let grown : length window_now ≡ length window + length advances.gathers.piece = ap length advances.gathers.grown ∙ length-append window advances.gathers.piece in
    record {
      going = open_still rest_now (going_read now going is still advances.gathers) (stands_end rest_now wanted (length window_now) left_now c stands);
      stands = stands_on rest_now wanted (length window_now) left_now c stands;
      less = read_less rest_now wanted (length window) (length window_now) left left_now (length advances.gathers.piece) c stands few grown advances.gathers.size;
      calm = advances.calm (λ e. let no : ⊥ = ok_not_err result rest_now ReadFault done e in no);
    }
advance_on {plan} {limit} {left} {left_now} {a} {b} {c} {before} {mid} {totals} {place} {shown} {window} {window_now} now Full rest_now result wanted count count_now going goes is few still advances done =
    let ends : rest_now ≡ Ended = ok_of result rest_now _ done advances.ended in
    let probed = on_ok result rest_now _ done advances.probes.ended in
    let none : left_now ≡ left = advances.none_taken in
    let kept : window_now ≡ window = advances.kept in
    let grown : length window_now ≡ length window = ap length kept in
    let end_now : Going plan limit left_now false a c before now totals place window_now =
    subst (λ n. Going plan limit n false a c before now totals place window_now) (sym none) (going_ended false now going (is ∙ sym kept) still probed.1 probed.0) in
    subst (λ r. Advanced plan limit left_now a c before now totals place window_now r (2 * left + length window + 1) count count_now) (sym ends)
    record {
      going = end_now;
      stands = probed.0;
      less = omega (arith, none, grown);
      calm = advances.probes.calm (λ e. let no : ⊥ = ok_not_err result rest_now ReadFault done e in no);
    }
advance_on now Ended rest_now result wanted count count_now going goes is few still advances done = absurd (false≢true goes)

-- how reading on ends a run
pub record OfInput (outcome : Outcome) (count count_now : ℕ) : Type 0 where
  pub not_write : outcome ≢ WriteFault
  pub not_shelf : outcome ≢ ShelfFault
  pub not_refused : (refusal : Refusal) → outcome ≡ Refused refusal → ⊥
  pub before_end : is_whole outcome ≡ false
  pub counted : outcome ≡ ReadFault → Counted count count_now
  pub calm : outcome ≢ ReadFault → count_now ≡ count

of_failed : (outcome : Outcome) (count count_now : ℕ) → outcome ≡ ReadFault → Counted count count_now → OfInput outcome count count_now
of_failed outcome count count_now is counted = subst (λ o. OfInput o count count_now) (sym is) record {
  not_write = λ e. cc;
  not_shelf = λ e. cc;
  not_refused = λ refusal e. cc;
  before_end = refl;
  counted = λ e. counted;
  calm = λ other. absurd (other refl);
}

of_memory : (outcome : Outcome) (count count_now : ℕ) → outcome ≡ Memory → count_now ≡ count → OfInput outcome count count_now
of_memory outcome count count_now is calm = subst (λ o. OfInput o count count_now) (sym is) record {
  not_write = λ e. cc;
  not_shelf = λ e. cc;
  not_refused = λ refusal e. cc;
  before_end = refl;
  counted = λ e. cc;
  calm = λ other. calm;
}

of_long : (outcome : Outcome) (count count_now : ℕ) → outcome ≡ InputTooLong → count_now ≡ count → OfInput outcome count count_now
of_long outcome count count_now is calm = subst (λ o. OfInput o count count_now) (sym is) record {
  not_write = λ e. cc;
  not_shelf = λ e. cc;
  not_refused = λ refusal e. cc;
  before_end = refl;
  counted = λ e. cc;
  calm = λ other. calm;
}

of_probe : {b c : Option (List ℕ)} (result : Result Rest Outcome) (outcome : Outcome) (count count_now : ℕ) → Probes result b c count count_now → result ≡ Err outcome
    → OfInput outcome count count_now
of_probe {b} {c} result outcome count count_now probes failed =
    ⊎_elim
    (λ (long : outcome ≡ InputTooLong).
    of_long outcome count count_now long (probes.calm (λ e. let no : Err outcome ≡ Err ReadFault = sym failed ∙ e in let other : outcome ≡ ReadFault = cc in let two : InputTooLong ≡ ReadFault = sym long ∙ other in cc)))
    (λ (broke : outcome ≡ ReadFault). of_failed outcome count count_now broke (probes.counted (failed ∙ ap Err broke))) (probe_one_of result outcome failed probes.one_of)

pub advance_of : (rest : Rest) (result : Result Rest Outcome) (outcome : Outcome) (b c : Option (List ℕ)) (window window_now : List ℕ) (left left_now wanted count count_now : ℕ)
    → Advances rest result b c window window_now left left_now wanted count count_now → result ≡ Err outcome → OfInput outcome count count_now
advance_of Open result outcome b c window window_now left left_now wanted count count_now advances failed =
    ⊎_elim
    (λ (broke : outcome ≡ ReadFault). of_failed outcome count count_now broke (advances.counted (failed ∙ ap Err broke)))
    (λ (none : outcome ≡ Memory).
    of_memory outcome count count_now none (advances.calm (λ e. let no : Err outcome ≡ Err ReadFault = sym failed ∙ e in let other : outcome ≡ ReadFault = cc in let two : Memory ≡ ReadFault = sym none ∙ other in cc)))
    (err_of result outcome _ failed advances.one_of)
advance_of Full result outcome b c window window_now left left_now wanted count count_now advances failed = of_probe result outcome count count_now advances.probes failed
advance_of Ended result outcome b c window window_now left left_now wanted count count_now advances failed = of_probe result outcome count count_now advances.probes failed

-- ---- passing on

-- an outcome of the output
pub record OfOutput (outcome : Outcome) : Type 0 where
  pub broken : is_broken outcome ≡ true
  pub not_read : outcome ≢ ReadFault
  pub not_shelf : outcome ≢ ShelfFault
  pub before_end : is_whole outcome ≡ false

pub of_output : (outcome : Outcome) → (outcome ≡ WriteFault) ⊎ (outcome ≡ Memory) → OfOutput outcome
of_output outcome (inl is) = subst OfOutput (sym is) record { broken = refl; not_read = λ e. cc; not_shelf = λ e. cc; before_end = refl }
of_output outcome (inr is) = subst OfOutput (sym is) record { broken = refl; not_read = λ e. cc; not_shelf = λ e. cc; before_end = refl }

pub output_cut : (outcome : Outcome) → (outcome ≡ WriteFault) ⊎ (outcome ≡ Memory) → is_cut_short outcome ≡ true
output_cut outcome (inl is) = ap is_cut_short is
output_cut outcome (inr is) = ap is_cut_short is

-- what was done was not passed on
pub passing_ends : {plan : Plan} {limit left : ℕ} {a b : Option (List ℕ)} {before mid : Outside} {totals : ItemTotals} {place : ℕ} {shown : List ℕ} (now : Outside) (outcome : Outcome)
    → Going plan limit left true a b before mid totals place shown → DoneFront mid now no_deeds → OfOutput outcome → Runs plan limit (Err outcome) a b before now
passing_ends {plan} {limit} {left} {a} {b} {before} {mid} {totals} {place} {shown} now outcome going front of =
    runs_broken plan limit true outcome a b before now going.taken of.broken going.consumed going.ended (omega (arith, going.counted))
    (so_far_front plan true going.taken going.done totals place shown before now going.so
    (subst (DoneFront before now) (then_nothing going.done) (front_after before mid now going.done no_deeds going.did front))) (λ e. absurd (of.not_read e))

-- ---- the end of the input

pub concludes : {plan : Plan} {limit left : ℕ} {a c : Option (List ℕ)} {before mid : Outside} {totals : ItemTotals} {place : ℕ} {shown : List ℕ} (now : Outside) (wanted : ℕ)
    → Going plan limit left false a c before mid totals place shown → Awaits plan false totals place shown wanted → Done mid now no_deeds
    → IsOver plan limit (totals_by (counts_of totals) (totals.counted.skipped + length shown)) a c before now
concludes {plan} {limit} {left} {a} {c} {before} {mid} {totals} {place} {shown} now wanted going awaits still =
    let few = few_left plan totals place shown awaits.unknown in
    record {
      taken = going.taken;
      done_before = going.done;
      consumed = going.consumed;
      end = going.ended refl;
      short = omega (arith, going.counted);
      did = done_still before mid now going.done going.did still;
      whole = ap (answer_of plan false) (sym (append-nil going.taken))
          ∙ (going.so.whole false [] (λ e. (refl, refl))
          ∙ (ap (λ xs. after going.done (answer_at plan false totals place xs)) (append-nil shown)
          ∙ ap (after going.done) (answer_few plan false totals place shown few)));
    }

-- ---- the ending

pub over_done : {plan : Plan} {limit : ℕ} {totals : ItemTotals} {a b : Option (List ℕ)} {before mid : Outside} (now : Outside) → IsOver plan limit totals a b before mid
    → Done mid now (deeds (plan.task.ending totals.counted).acts []) → Runs plan limit (Ok totals) a b before now
over_done {plan} {limit} {totals} {a} {b} {before} {mid} now over ending =
    let all : Done before now (then (then over.done_before no_deeds) (deeds (plan.task.ending totals.counted).acts [])) =
    subst (λ xs. Done before now (then xs (deeds (plan.task.ending totals.counted).acts []))) (sym (then_nothing over.done_before))
    (done_then before mid now over.done_before (deeds (plan.task.ending totals.counted).acts []) over.did ending) in
    let gives : Gives (after over.done_before (done plan.task totals)) (Ok totals) before now = record {
      ends = λ unbroken. refl;
      whole = λ unbroken. all;
      front = front_whole before now _ all;
    } in
    let answered : Gives (answer_within limit plan over.taken) (Ok totals) before now =
    subst (λ answer. Gives answer (Ok totals) before now) (sym (within_short plan limit over.taken over.short ∙ over.whole)) gives in
    record {
      gives = Consumes-whole a b over.taken (λ input. Gives (answer_within limit plan input) (Ok totals) before now) over.consumed.consumed over.end answered;
      taken = (
        over.taken,
        over.consumed,
        record { most = omega (arith, over.short); short = λ unbroken other. over.short; long = λ e. cc; answered = answered; read_fault = λ e. cc },
      );
      end = over.end;
    }

-- the ending broke
pub over_undone : {plan : Plan} {limit : ℕ} {totals : ItemTotals} {a b : Option (List ℕ)} {before mid : Outside} (now : Outside) (outcome : Outcome) → is_cut_short outcome ≡ true
    → IsOver plan limit totals a b before mid → DoneFront mid now (deeds (plan.task.ending totals.counted).acts []) → Runs plan limit (Err outcome) a b before now
over_undone {plan} {limit} {totals} {a} {b} {before} {mid} now outcome cut over ending =
    let broken = cut_broken outcome cut in
    let never = λ (unbroken : is_broken outcome ≡ false). false≢true (sym unbroken ∙ broken) in
    let front : DoneFront before now (then (then over.done_before no_deeds) (deeds (plan.task.ending totals.counted).acts [])) =
    subst (λ xs. DoneFront before now (then xs (deeds (plan.task.ending totals.counted).acts []))) (sym (then_nothing over.done_before))
    (front_after before mid now over.done_before (deeds (plan.task.ending totals.counted).acts []) over.did ending) in
    let gives : Gives (after over.done_before (done plan.task totals)) (Err outcome) before now = record {
      ends = λ unbroken. absurd (never unbroken);
      whole = λ unbroken. absurd (never unbroken);
      front = front;
    } in
    let answered : Gives (answer_within limit plan over.taken) (Err outcome) before now =
    subst (λ answer. Gives answer (Err outcome) before now) (sym (within_short plan limit over.taken over.short ∙ over.whole)) gives in
    record {
      gives = Consumes-whole a b over.taken (λ input. Gives (answer_within limit plan input) (Err outcome) before now) over.consumed.consumed over.end answered;
      taken = (
        over.taken,
        over.consumed,
        record {
          most = omega (arith, over.short);
          short = λ unbroken other. over.short;
          long = λ e. let same : is_broken InputTooLong ≡ true = subst (λ o. is_broken o ≡ true) e broken in absurd (false≢true same);
          answered = answered;
          read_fault = λ e. let same : is_cut_short ReadFault ≡ true = subst (λ o. is_cut_short o ≡ true) e cut in absurd (false≢true same);
        },
      );
      end = tt;
    }
