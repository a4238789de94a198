-- A run within a message that is heard.
use Rattle.std.proofs.Common.{◌≡◌, ◌⊎◌, inl, inr, ℕ, ◌+◌, ◌*◌, ◌<◌, ◌≤◌, ◌^◌, Bool, true, false, List, [], ◌++◌, Option, None, Ok, Err, length, refl, sym, ap, ◌∙◌, subst, arith, append-nil, length-append, drop_at}
use Rattle.std.proofs.KnownBytes.{Appends-nil}
use Rattle.std.proofs.lemmas.Bool.{false≢true}
use Rattle.std.specs.Io.KnownBytes.{IsAtEnd}
use Rattle.grib_stream.specs.declared.outcome.Outcome.{Outcome}
use Rattle.grib_stream.specs.declared.outcome.Outcome.TheVariants.{Refused, ReadFault, Memory, InputTooLong}
use Rattle.grib_stream.specs.declared.performer.Whole.{Whole as AnsweredMessage}
use Rattle.grib_stream.specs.declared.place.Place.{Place}
use Rattle.grib_stream.specs.declared.gathering.Rest.{Rest}
use Rattle.grib_stream.specs.declared.gathering.Rest.TheVariants.{Open, Full, Ended}
use Rattle.grib_stream.specs.Stream.{begins, Message}
use Rattle.grib_stream.specs.Acts.{Act, World, Did}
use Rattle.grib_stream.specs.Outcomes.{is_broken, is_cut_within, is_whole}
use Rattle.grib_stream.specs.Task.{Task, IsLawful, next_of}
use Rattle.grib_stream.specs.Reading.{Gathers}
use Rattle.grib_stream.specs.Rest.{Stands}
use Rattle.grib_stream.specs.Performed.{EndsWith}
use Rattle.grib_stream.specs.Hearing.{Heeds, IsNoMessage}
use Rattle.grib_stream.specs.Listening.{refusal_at, RefusesHeard, CutsHeard, StopsHeard, GoesOn, EndsHeard, AnswersHeard}
use Rattle.grib_stream.specs.Soon.{RefusesSoon}
use Rattle.grib_stream.proofs.Windows.{takes_more}
use Rattle.grib_stream.proofs.Streams.{begun_stays}
use Rattle.grib_stream.proofs.Nexts.{message_next, message_stays_next, stops_never}
use Rattle.grib_items.specs.declared.policy.ItemTotals.{ItemTotals}
use Rattle.grib_items.specs.Deeds.{Outside, outside, deeds, Done}
use Rattle.grib_items.specs.Answer.{after, one_answered, counts_of, totals_by, place_by}
use Rattle.grib_items.specs.Laws.{nothing}
use Rattle.grib_items.specs.Run.{Runs}
use Rattle.grib_items.specs.Steps.{Plan, Goes, Waits, step, Fits}
use Rattle.grib_items.specs.Reading.{goes_on}
use Rattle.grib_items.specs.Turning.{Awaits, EndsStep}
use Rattle.grib_items.proofs.Effects.{done_none, front_whole}
use Rattle.grib_items.proofs.Messages.{quiet_unaccepted}
use Rattle.grib_items.proofs.Decided.{step_whole, step_cut, refusal_ends, ends_step, Small, small_gone}
use Rattle.grib_items.proofs.Exits.{Going, going_read, going_gone, runs_broken, so_far_front, turn_ends}
use Rattle.grib_items.proofs.Finishing.{unknown_answer, quiet_answer, taken_alone, exactly, runs_long, open_still}
use Rattle.grib_items.proofs.Promptly.{soon_here, soon_truncated, soon_broken, soon_long}

begun_heard : {b c : Option (List ℕ)} {window octets : List ℕ} {left left_now : ℕ} → begins window ≡ true → Gathers b c window octets left left_now → begins octets ≡ true
begun_heard {b} {c} {window} {octets} {left} {left_now} begun gathers =
    subst (λ xs. begins xs ≡ true) (sym gathers.grown) (begun_stays window gathers.piece begun)

all_of : {b c : Option (List ℕ)} {window octets : List ℕ} {left left_now : ℕ} → Gathers b c window (octets ++ []) left left_now → Gathers b c window octets left left_now
all_of {b} {c} {window} {octets} {left} {left_now} gathers = subst (λ xs. Gathers b c window xs left left_now) (append-nil octets) gathers

-- what was done for the output is all that was done
by_output : (mid now : World) (notes : Option (List ℕ)) (acts : List Act) → Did mid now acts → Done (outside mid notes) (outside now notes) (deeds acts [])
by_output mid now notes acts did = record { did = did; noted = Appends-nil notes }

-- ---- a message that was heard whole

abbrev pub totals_behind : ItemTotals → AnsweredMessage → ItemTotals
totals_behind totals message = totals_by (one_answered (counts_of totals) message.fields message.written) totals.counted.skipped

-- what comes of it, of the octets behind it too
pub record HeardWhole (plan : Plan) (totals : ItemTotals) (place : ℕ) (octets pending : List ℕ) (message : AnsweredMessage) (before now : World) : Type 0 where
  pub acts : List Act
  pub is : step plan true totals place (octets ++ pending) ≡ Goes message.octets (deeds acts []) (totals_behind totals message)
  pub size : length octets ≡ message.octets
  pub did : Did before now acts

heard_whole : {a c : Option (List ℕ)} {first pending : List ℕ} {left left_now : ℕ} {before now : World} (plan : Plan) → IsLawful plan.task → (totals : ItemTotals) (place : ℕ) (message : AnsweredMessage)
    (heard : AnswersHeard plan.task (place_by (counts_of totals) place) (Ok message) a c first pending left left_now before now)
    → HeardWhole plan totals place heard.octets pending message before now
heard_whole {a} {c} {first} {pending} {left} {left_now} {before} {now} plan lawful totals place message heard =
    let at : Place = place_by (counts_of totals) place in
    let (whole, (acts, next, did)) = heard.judged in
    let found = message_next plan.task at heard.octets message.octets message.fields message.written acts next in
    let same : Message message.octets ≡ Message (length heard.octets) = sym found.accepted ∙ whole in
    let size : length heard.octets ≡ message.octets = cc in
    record {
      acts = acts;
      is = step_whole plan true totals place (heard.octets ++ pending) message.octets message.fields message.written acts
          (message_stays_next plan.task lawful at heard.octets pending (length heard.octets) whole ∙ next);
      size = size;
      did = did;
    }

-- what is then counted
pub heard_small : {a c : Option (List ℕ)} {first pending : List ℕ} {left left_now : ℕ} {before now : World} (plan : Plan) → IsLawful plan.task → (totals : ItemTotals) (place : ℕ) (message : AnsweredMessage)
    → Fits totals place → begins first ≡ true → place + length first + left ≤ 2 ^ 40
    → AnswersHeard plan.task (place_by (counts_of totals) place) (Ok message) a c first pending left left_now before now → Small (totals_behind totals message)
heard_small {a} {c} {first} {pending} {left} {left_now} {before} {now} plan lawful totals place message fits begun most heard =
    let whole = heard_whole plan lawful totals place message heard in
    let size : length (heard.octets ++ pending) ≡ length first + length heard.gathers.piece = ap length heard.gathers.grown ∙ length-append first heard.gathers.piece in
    small_gone plan lawful true totals place (heard.octets ++ pending) message.octets (deeds whole.acts []) (totals_behind totals message) (begun_heard begun heard.gathers) fits
    (omega (arith, size, heard.gathers.size, most)) whole.is

-- the run goes on behind it
pub heard_going : {plan : Plan} {limit left left_now : ℕ} {a b c : Option (List ℕ)} {before : Outside} {mid : World} {notes : Option (List ℕ)} {totals : ItemTotals} {place : ℕ} {window pending : List ℕ}
    (lawful : IsLawful plan.task) (now : World) (message : AnsweredMessage) → Going plan limit left true a b before (outside mid notes) totals place window → begins window ≡ true
    → AnswersHeard plan.task (place_by (counts_of totals) place) (Ok message) b c window pending left left_now mid now
    → Going plan limit left_now true a c before (outside now notes) (totals_behind totals message) (place + message.octets) pending
heard_going {plan} {limit} {left} {left_now} {a} {b} {c} {before} {mid} {notes} {totals} {place} {window} {pending} lawful now message going begun heard =
    let whole = heard_whole plan lawful totals place message heard in
    let read = going_read (outside mid notes) going refl (done_none (outside mid notes)) heard.gathers in
    going_gone lawful (outside now notes) message.octets (deeds whole.acts []) (totals_behind totals message) pending read (begun_heard begun heard.gathers) whole.is
    (by_output mid now notes whole.acts whole.did) (sym (drop_at heard.octets pending message.octets whole.size))

pub heard_less : {b c : Option (List ℕ)} {window pending : List ℕ} {left left_now : ℕ} {mid now : World} (task : Task) (at : Place) (message : AnsweredMessage) → IsLawful task
    → AnswersHeard task at (Ok message) b c window pending left left_now mid now → 2 * left_now + length pending < 2 * left + length window
heard_less {b} {c} {window} {pending} {left} {left_now} {mid} {now} task at message lawful heard =
    let least : 4 ≤ length heard.octets = lawful.least heard.octets (length heard.octets) heard.judged.0 in
    let size : length heard.octets + length pending ≡ length window + length heard.gathers.piece =
    sym (length-append heard.octets pending) ∙ (ap length heard.gathers.grown ∙ length-append window heard.gathers.piece) in
    omega (arith, least, size, heard.gathers.size)

-- no more may be taken behind it, where none might before
pub heard_left : {b c : Option (List ℕ)} {window pending : List ℕ} {left left_now : ℕ} {mid now : World} (task : Task) (at : Place) (message : AnsweredMessage)
    → AnswersHeard task at (Ok message) b c window pending left left_now mid now → left_now ≤ left
heard_left {b} {c} {window} {pending} {left} {left_now} {mid} {now} task at message heard = omega (arith, heard.gathers.size)

-- ---- how a run ends within it

-- the outcome with what is taken of the input
pub record HeardRun (plan : Plan) (hears : List ℕ → Bool) (limit : ℕ) (outcome : Outcome) (a c : Option (List ℕ)) (before now : Outside) : Type 0 where
  pub runs : Runs plan limit (Err outcome) a c before now
  pub soon : RefusesSoon hears plan.task outcome a c
  pub before_end : is_whole outcome ≡ false

module _ (plan : Plan) (lawful : IsLawful plan.task) (none : plan.policy ≡ nothing) (hears : List ℕ → Bool) (limit left left_now place : ℕ) (a b c : Option (List ℕ)) (before : Outside) (mid now : World) (notes : Option (List ℕ)) (totals : ItemTotals) (window : List ℕ) (outcome : Outcome) where
  abbrev at : Place
  at = place_by (counts_of totals) place

  unrefused : plan.policy.refused ≡ None
  unrefused = ap (λ p. p.refused) none

  by_refused : Going plan limit left true a b before (outside mid notes) totals place window → begins window ≡ true → Heeds b c window [] left left_now (RefusesHeard plan.task at outcome)
      → Did mid now [] → HeardRun plan hears limit outcome a c before (outside now notes)
  by_refused going begun heeds did =
      let (fault, refused, same) = heeds.judged in
      let gathers = all_of heeds.gathers in
      let read = going_read (outside mid notes) going refl (done_none (outside mid notes)) gathers in
      let begun_now = begun_heard begun gathers in
      let ends : EndsStep (step plan true totals place heeds.octets) outcome (outside mid notes) (outside now notes) =
      refusal_ends plan true totals place heeds.octets fault outcome (outside mid notes) (outside now notes) refused.refused refused.closed unrefused same (by_output mid now notes [] did) in
      let (runs, (not_read, before_end)) = turn_ends lawful (outside now notes) outcome read begun_now ends in
      record {
        runs = runs;
        soon = λ refusal is closed never.
            let one : Refused refusal ≡ Refused (refusal_at at fault) = sym is ∙ same in
            let number : refusal ≡ refusal_at at fault = cc in
            soon_here hears refusal.message none read begun_now (ap (λ r. r.message) number) (λ prompt k shut. refused.soon k shut);
        before_end = before_end;
      }

  by_stopped : (pending : List ℕ) → Going plan limit left true a b before (outside mid notes) totals place window → begins window ≡ true
      → Heeds b c window pending left left_now (StopsHeard plan.task at outcome mid now) → HeardRun plan hears limit outcome a c before (outside now notes)
  by_stopped pending going begun heeds =
      let read = going_read (outside mid notes) going refl (done_none (outside mid notes)) heeds.gathers in
      let (whole, ends) = heeds.judged in
      let same : next_of plan.task at (heeds.octets ++ pending) ≡ next_of plan.task at heeds.octets =
      message_stays_next plan.task lawful at heeds.octets pending (length heeds.octets) whole in
      let ends_now : EndsWith (next_of plan.task at (heeds.octets ++ pending)) outcome mid now = subst (λ n. EndsWith n outcome mid now) (sym same) ends in
      let (runs, (not_read, before_end)) =
      turn_ends lawful (outside now notes) outcome read (begun_heard begun heeds.gathers)
      (ends_step plan true totals place (heeds.octets ++ pending) outcome mid now notes ends_now (inl (ap (λ p. p.kept) none))) in
      record {
        runs = runs;
        soon = λ refusal is closed never. absurd (stops_never plan.task at heeds.octets outcome (ends.stopped (ap is_cut_within is)).0 never);
        before_end = before_end;
      }

  by_cut : Going plan limit left true a b before (outside mid notes) totals place window → begins window ≡ true → Heeds b c window [] left left_now (CutsHeard plan.task at outcome) → IsAtEnd c
      → Did mid now [] → HeardRun plan hears limit outcome a c before (outside now notes)
  by_cut going begun heeds end did =
      let (fault, cut, same) = heeds.judged in
      let gathers = all_of heeds.gathers in
      let read = open_still Ended (going_read (outside now notes) going refl (by_output mid now notes [] did) gathers) (λ _. end) in
      let ends : EndsStep (step plan false totals place heeds.octets) outcome (outside now notes) (outside now notes) =
      refusal_ends plan false totals place heeds.octets fault outcome (outside now notes) (outside now notes) cut.0 refl unrefused same (done_none (outside now notes)) in
      let (runs, (not_read, before_end)) = turn_ends lawful (outside now notes) outcome read (begun_heard begun gathers) ends in
      record { runs = runs; soon = soon_truncated plan.task hears a c at fault outcome cut.1 same; before_end = before_end }

  by_longer : Going plan limit left true a b before (outside mid notes) totals place window → begins window ≡ true → outcome ≡ InputTooLong → GoesOn plan.task b c window left left_now → Did mid now []
      → HeardRun plan hears limit outcome a c before (outside now notes)
  by_longer going begun long on did =
      let heeds = on.heard in
      let (fault, cut) = heeds.judged in
      let gathers = all_of heeds.gathers in
      let read = going_read (outside now notes) going refl (by_output mid now notes [] did) gathers in
      let waits : step plan true totals place heeds.octets ≡ Waits = step_cut plan true totals place heeds.octets fault cut.0 cut.1 in
      let unknown = unknown_answer plan lawful totals place heeds.octets (inr (begun_heard begun gathers, waits)) in
      let size : length read.taken ≡ limit = omega (arith, read.counted, on.full) in
      record {
        runs = subst (λ o. Runs plan limit (Err o) a c before (outside now notes)) (sym long)
            (runs_long plan limit a c before (outside now notes) read.taken on.piece read.done (takes_more a on.middle c read.taken on.piece read.consumed on.taken) size on.one read.did
            (taken_alone plan read.taken read.done totals place heeds.octets read.so ∙ ap (after read.done) unknown));
        soon = soon_long plan.task hears a c outcome long;
        before_end = ap is_whole long;
      }

  by_failed : Going plan limit left true a b before (outside mid notes) totals place window → begins window ≡ true → outcome ≡ ReadFault
      → Heeds b c window [] left left_now (IsNoMessage plan.task.judge) → Did mid now [] → HeardRun plan hears limit outcome a c before (outside now notes)
  by_failed going begun failed heeds did =
      let gathers = all_of heeds.gathers in
      let read = going_read (outside now notes) going refl (by_output mid now notes [] did) gathers in
      let quiet = quiet_answer plan lawful totals place heeds.octets (inr (begun_heard begun gathers, quiet_unaccepted plan true totals place heeds.octets none heeds.judged)) in
      record {
        runs = runs_broken plan limit true outcome a c before (outside now notes) read.taken (ap is_broken failed) read.consumed read.ended (omega (arith, read.counted))
            (so_far_front plan true read.taken read.done totals place heeds.octets before (outside now notes) read.so (front_whole before (outside now notes) read.done read.did))
            (λ e. exactly plan read.taken read.done totals place heeds.octets before (outside now notes) read.so read.did quiet);
        soon = soon_broken plan.task hears a c outcome (ap is_broken failed);
        before_end = ap is_whole failed;
      }

  by_memory : Going plan limit left true a b before (outside mid notes) totals place window → outcome ≡ Memory → Heeds b c window [] left left_now (λ octets. Unit {0}) → Did mid now []
      → HeardRun plan hears limit outcome a c before (outside now notes)
  by_memory going absent heeds did =
      let read = going_read (outside now notes) going refl (by_output mid now notes [] did) (all_of heeds.gathers) in
      record {
        runs = runs_broken plan limit true outcome a c before (outside now notes) read.taken (ap is_broken absent) read.consumed read.ended (omega (arith, read.counted))
            (so_far_front plan true read.taken read.done totals place heeds.octets before (outside now notes) read.so (front_whole before (outside now notes) read.done read.did))
            (λ e. let no : Memory ≡ ReadFault = sym absent ∙ e in cc);
        soon = soon_broken plan.task hears a c outcome (ap is_broken absent);
        before_end = ap is_whole absent;
      }

pub heard_ends : {plan : Plan} {limit left left_now : ℕ} {a b c : Option (List ℕ)} {before : Outside} {mid : World} {notes : Option (List ℕ)} {totals : ItemTotals} {place : ℕ} {window : List ℕ}
    (lawful : IsLawful plan.task) → plan.policy ≡ nothing → (hears : List ℕ → Bool) (now : World) (pending : List ℕ) (outcome : Outcome)
    → Going plan limit left true a b before (outside mid notes) totals place window → begins window ≡ true
    → EndsHeard plan.task (place_by (counts_of totals) place) outcome b c window pending left left_now mid now → HeardRun plan hears limit outcome a c before (outside now notes)
heard_ends {plan} {limit} {left} {left_now} {a} {b} {c} {before} {mid} {notes} {totals} {place} {window} lawful none hears now pending outcome going begun (inl (heeds, did)) =
    by_refused plan lawful none hears limit left left_now place a b c before mid now notes totals window outcome going begun heeds did
heard_ends {plan} {limit} {left} {left_now} {a} {b} {c} {before} {mid} {notes} {totals} {place} {window} lawful none hears now pending outcome going begun (inr (inl heeds)) =
    by_stopped plan lawful none hears limit left left_now place a b c before mid now notes totals window outcome pending going begun heeds
heard_ends {plan} {limit} {left} {left_now} {a} {b} {c} {before} {mid} {notes} {totals} {place} {window} lawful none hears now pending outcome going begun (inr (inr (inl (heeds, (end, did))))) =
    by_cut plan lawful none hears limit left left_now place a b c before mid now notes totals window outcome going begun heeds end did
heard_ends {plan} {limit} {left} {left_now} {a} {b} {c} {before} {mid} {notes} {totals} {place} {window} lawful none hears now pending outcome going begun (inr (inr (inr (inl (long, (on, did)))))) =
    by_longer plan lawful none hears limit left left_now place a b c before mid now notes totals window outcome going begun long on did
heard_ends {plan} {limit} {left} {left_now} {a} {b} {c} {before} {mid} {notes} {totals} {place} {window} lawful none hears now pending outcome going begun (inr (inr (inr (inr (inl (failed, (heeds, did))))))) =
    by_failed plan lawful none hears limit left left_now place a b c before mid now notes totals window outcome going begun failed heeds did
heard_ends {plan} {limit} {left} {left_now} {a} {b} {c} {before} {mid} {notes} {totals} {place} {window} lawful none hears now pending outcome going begun (inr (inr (inr (inr (inr (absent, (heeds, did))))))) =
    by_memory plan lawful none hears limit left left_now place a b c before mid now notes totals window outcome going absent heeds did

-- ---- where a message is heard

begun_of : (plan : Plan) (more : Bool) (totals : ItemTotals) (place : ℕ) (octets : List ℕ) → (length octets < 4) ⊎ ((begins octets ≡ true) × (step plan more totals place octets ≡ Waits))
    → 8 ≤ length octets → begins octets ≡ true
begun_of plan more totals place octets (inl few) eight = absurd (omega (arith, few, eight))
begun_of plan more totals place octets (inr (begun, waits)) eight = begun

pub awaits_begun : (plan : Plan) (more : Bool) (totals : ItemTotals) (place : ℕ) (octets : List ℕ) (wanted : ℕ) → Awaits plan more totals place octets wanted → 8 ≤ length octets
    → begins octets ≡ true
awaits_begun plan more totals place octets wanted awaits eight = begun_of plan more totals place octets awaits.unknown eight

pub stands_heard : (rest : Rest) (left left_now : ℕ) (b c : Option (List ℕ)) → goes_on rest ≡ true → Stands rest 0 0 left b → left_now ≤ left → Stands rest 0 0 left_now c
stands_heard Open left left_now b c goes stands less = omega arith
stands_heard Full left left_now b c goes stands less = omega (arith, stands, less)
stands_heard Ended left left_now b c goes stands less = absurd (false≢true goes)
