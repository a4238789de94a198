-- What is done with the octets from a `GRIB` on, by what they were found to be.
use Rattle.std.proofs.Common.{◌≡◌, ◌⊎◌, inl, inr, ℕ, ◌+◌, ◌<◌, ◌≤◌, Bool, true, false, cond, is_some, ◌&&◌, List, [], ◌∷◌, ◌++◌, ◌^◌, length, take, Option, Some, None, Ok, Err, refl, sym, ap, ◌∙◌, subst, arith, ⊎_elim, append-nil, length-append}
use Rattle.std.proofs.lemmas.Bool.{cases_lt, false≢true}
use Rattle.std.specs.declared.result.Result.{Result}
use Rattle.std.specs.Io.KnownBytes.{Appends}
use Rattle.std.specs.List.{concat}
use Rattle.grib_base.specs.Rules.{first_fault}
use Rattle.grib_base.specs.declared.fault.Fault.{Fault}
use Rattle.grib2_sections.specs.Head.{head_rules, head_of}
use Rattle.grib_reasons.specs.declared.cause.Kept.{Kept}
use Rattle.grib_io.specs.Outside.{AppendsFront}
use Rattle.grib_stream.specs.declared.outcome.Outcome.{Outcome}
use Rattle.grib_stream.specs.declared.outcome.Outcome.TheVariants as outcomes
use Rattle.grib_stream.specs.declared.place.Place.{Place}
use Rattle.grib_stream.specs.Stream.{begins, Judgement, Message, Faulty}
use Rattle.grib_stream.specs.Acts.{Act, World, world, DidFront, writes}
use Rattle.grib_stream.specs.Outcomes.{is_truncated, is_cut_within}
use Rattle.grib_stream.specs.Task as tasks
use Rattle.grib_stream.specs.Task.{Task, IsLawful, Given, Gives, Ends, next_of, next_given, acts_of}
use Rattle.grib_stream.specs.Performed.{EndsWith}
use Rattle.grib_stream.specs.Texts.{Texts, States}
use Rattle.grib_stream.proofs.Nexts.{judged, message_next}
use Rattle.grib_stream.proofs.Streams.{begun_stays}
use Rattle.grib_items.specs.declared.policy.Instead.{Instead}
use Rattle.grib_items.specs.declared.policy.ItemTotals.{ItemTotals}
use Rattle.grib_items.specs.declared.deciding.Gone.{Gone}
use Rattle.grib_items.specs.declared.deciding.Turn.{Turn}
use Rattle.grib_items.specs.declared.deciding.Turn.TheVariants.{Goes as GoesOn, Waits as WaitsFor}
use Rattle.grib_items.specs.declared.deciding.Wait.{Wait}
use Rattle.grib_items.specs.Next.{Refuses, Unknown, next_judged, next_passed, passed}
use Rattle.grib_items.specs.Deeds.{Deeds, deeds, no_deeds, Outside, outside, Done, DoneFront}
use Rattle.grib_items.specs.Answer.{Counts, one_answered, one_kept, one_refused, on_given, on_outcome, kept_of, instead_of, counts_of, totals_by, place_by, passes, is_copied}
use Rattle.grib_items.specs.Steps.{Plan, Step, Goes, Stops, Waits, step, step_next, step_comes, deeds_of, Fits}
use Rattle.grib_items.specs.Turning.{is_gone, Awaits, EndsStep, Turns}
use Rattle.grib_items.proofs.Heads.{stated_stays, passed_later, passed_known}
use Rattle.grib_items.proofs.SoFar.{step_counted}
use Rattle.grib_stream.proofs.Worlds.{did_none, did_write, did_write_front}
use Rattle.grib_io.specs.Shelves.{Held}
use Rattle.grib_items.proofs.Effects.{done_none, done_then, front_whole, front_after, front_of_nothing, octets_none, octets_more, octets_whole}

-- ---- a message that is answered

judged_step : (plan : Plan) (more : Bool) (totals : ItemTotals) (place : ℕ) (octets : List ℕ) (j : Judgement) → plan.task.judge octets ≡ j
    → step plan more totals place octets ≡ step_next plan totals place octets (next_judged (passes plan.policy) more octets j)
judged_step plan more totals place octets j is = ap (λ k. step_next plan totals place octets (next_judged (passes plan.policy) more octets k)) is

pub step_whole : (plan : Plan) (more : Bool) (totals : ItemTotals) (place : ℕ) (octets : List ℕ) (total fields written : ℕ) (acts : List Act)
    → next_of plan.task (place_by (counts_of totals) place) octets ≡ tasks.Whole total fields written acts
    → step plan more totals place octets ≡ Goes total (deeds acts []) (totals_by (one_answered (counts_of totals) fields written) totals.counted.skipped)
step_whole plan more totals place octets total fields written acts is =
    let at : Place = place_by (counts_of totals) place in
    let message = message_next plan.task at octets total fields written acts is in
    judged_step plan more totals place octets (Message total) message.accepted
    ∙ (ap (λ given. step_comes (on_given plan.texts plan.policy.kept (counts_of totals) at (plan.task.fields (take total octets)) (take total octets) given) total totals.counted.skipped)
    message.given
    ∙ ap (λ n. Goes total (deeds acts []) (totals_by (one_answered (counts_of totals) n written) totals.counted.skipped)) message.counted)

-- ---- octets that are refused

refused_step : (plan : Plan) (more : Bool) (totals : ItemTotals) (place : ℕ) (octets : List ℕ) (fault : Fault) (t passing : Bool) (p : Option ℕ)
    → plan.task.judge octets ≡ Faulty fault → (more && is_truncated fault.reason) ≡ t → passes plan.policy ≡ passing → passed more octets ≡ p
    → step plan more totals place octets ≡ step_next plan totals place octets (cond t Unknown (cond passing (next_passed fault p) (Refuses fault)))
refused_step plan more totals place octets fault t passing p so cut policy known =
    judged_step plan more totals place octets (Faulty fault) so
    ∙ (ap (λ b. step_next plan totals place octets (cond b Unknown (cond (passes plan.policy) (next_passed fault (passed more octets)) (Refuses fault)))) cut
    ∙ (ap (λ b. step_next plan totals place octets (cond t Unknown (cond b (next_passed fault (passed more octets)) (Refuses fault)))) policy
    ∙ ap (λ q. step_next plan totals place octets (cond t Unknown (cond passing (next_passed fault q) (Refuses fault)))) known))

pub step_cut : (plan : Plan) (more : Bool) (totals : ItemTotals) (place : ℕ) (octets : List ℕ) (fault : Fault) → plan.task.judge octets ≡ Faulty fault
    → (more && is_truncated fault.reason) ≡ true → step plan more totals place octets ≡ Waits
step_cut plan more totals place octets fault so cut = refused_step plan more totals place octets fault true (passes plan.policy) (passed more octets) so cut refl refl

pub step_refused : (plan : Plan) (more : Bool) (totals : ItemTotals) (place : ℕ) (octets : List ℕ) (fault : Fault) → plan.task.judge octets ≡ Faulty fault
    → (more && is_truncated fault.reason) ≡ false → plan.policy.refused ≡ None
    → step plan more totals place octets ≡ Stops (outcomes.Refused (record { message = totals.counted.messages + 1; fault = fault }))
step_refused plan more totals place octets fault so closed none =
    refused_step plan more totals place octets fault false false (passed more octets) so closed (ap is_some none) refl

pub step_unknown : (plan : Plan) (more : Bool) (totals : ItemTotals) (place : ℕ) (octets : List ℕ) (fault : Fault) (instead : Instead) → plan.task.judge octets ≡ Faulty fault
    → (more && is_truncated fault.reason) ≡ false → plan.policy.refused ≡ Some instead → passed more octets ≡ None → step plan more totals place octets ≡ Waits
step_unknown plan more totals place octets fault instead so closed some known =
    refused_step plan more totals place octets fault false true None so closed (ap is_some some) known

-- what is done for a refusal that is passed by this many octets, which are copied or not
abbrev pub gone_past : Plan → ItemTotals → ℕ → List ℕ → Fault → ℕ → Bool → Step
gone_past plan totals place octets fault size copied =
    let written = cond copied (take size octets) [] in
    Goes size (deeds (writes written) (plan.texts.refused copied (place_by (counts_of totals) place) fault ∷ []))
    (totals_by (one_refused (counts_of totals) (length written)) (totals.counted.skipped + size))

pub step_passes : (plan : Plan) (more : Bool) (totals : ItemTotals) (place : ℕ) (octets : List ℕ) (fault : Fault) (instead : Instead) (size : ℕ) (copied : Bool)
    → plan.task.judge octets ≡ Faulty fault → (more && is_truncated fault.reason) ≡ false → plan.policy.refused ≡ Some instead → passed more octets ≡ Some size
    → copied ≡ is_copied (Some instead) (take size octets) → step plan more totals place octets ≡ gone_past plan totals place octets fault size copied
step_passes plan more totals place octets fault instead size copied so closed some known is =
    refused_step plan more totals place octets fault false true (Some size) so closed (ap is_some some) known
    ∙ ap (gone_past plan totals place octets fault size) (ap (λ i. is_copied i (take size octets)) some ∙ sym is)

-- ---- a message that ends the run, or cannot be changed

pub record Ended (task : Task) (at : Place) (octets : List ℕ) (outcome : Outcome) : Type 0 where
  pub total : ℕ
  pub accepted : task.judge octets ≡ Message total
  pub given : task.result at (take total octets) ≡ Ends outcome

given_ended : (task : Task) (at : Place) (octets : List ℕ) (outcome : Outcome) (total : ℕ) (given : Given) → task.judge octets ≡ Message total
    → task.result at (take total octets) ≡ given → next_given given total (task.fields (take total octets)) ≡ tasks.Stops outcome → Ended task at octets outcome
given_ended task at octets outcome total (Gives acts written) so given is = let no : ⊥ = cc in absurd no
given_ended task at octets outcome total (Ends other) so given is = let same : other ≡ outcome = cc in record { total = total; accepted = so; given = given ∙ ap Ends same }

ended_by : (task : Task) (at : Place) (octets : List ℕ) (outcome : Outcome) (j : Judgement) → task.judge octets ≡ j → next_of task at octets ≡ tasks.Stops outcome
    → Ended task at octets outcome
ended_by task at octets outcome (Message total) so is =
    given_ended task at octets outcome total (task.result at (take total octets)) so refl (sym (judged task at octets (Message total) so) ∙ is)
ended_by task at octets outcome (Faulty fault) so is =
    let e : tasks.Refuses fault ≡ tasks.Stops outcome = sym (judged task at octets (Faulty fault) so) ∙ is in let no : ⊥ = cc in absurd no

pub is_ended_at : (task : Task) (at : Place) (octets : List ℕ) (outcome : Outcome) → next_of task at octets ≡ tasks.Stops outcome → Ended task at octets outcome
is_ended_at task at octets outcome is = ended_by task at octets outcome (task.judge octets) refl is

ended_step : (plan : Plan) (more : Bool) (totals : ItemTotals) (place : ℕ) (octets : List ℕ) (outcome : Outcome) (total : ℕ)
    → plan.task.judge octets ≡ Message total → plan.task.result (place_by (counts_of totals) place) (take total octets) ≡ Ends outcome
    → step plan more totals place octets
    ≡ step_comes (on_outcome plan.texts (counts_of totals) (place_by (counts_of totals) place) (plan.task.fields (take total octets)) (take total octets) outcome plan.policy.kept (kept_of outcome))
    total totals.counted.skipped
ended_step plan more totals place octets outcome total so given =
    let at : Place = place_by (counts_of totals) place in
    judged_step plan more totals place octets (Message total) so
    ∙ ap (λ g. step_comes (on_given plan.texts plan.policy.kept (counts_of totals) at (plan.task.fields (take total octets)) (take total octets) g) total totals.counted.skipped) given

stops_by : (texts : Texts) (counts : Counts) (at : Place) (fields : ℕ) (message : List ℕ) (outcome : Outcome) (instead : Option Instead) (kept : Option Kept) (n skipped : ℕ)
    → (instead ≡ None) ⊎ (kept ≡ None) → step_comes (on_outcome texts counts at fields message outcome instead kept) n skipped ≡ Stops outcome
stops_by texts counts at fields message outcome None kept n skipped none = refl
stops_by texts counts at fields message outcome (Some instead) None n skipped none = refl
stops_by texts counts at fields message outcome (Some instead) (Some kept) n skipped (inl none) = let no : ⊥ = cc in absurd no
stops_by texts counts at fields message outcome (Some instead) (Some kept) n skipped (inr none) = let no : ⊥ = cc in absurd no

pub step_stops : (plan : Plan) (more : Bool) (totals : ItemTotals) (place : ℕ) (octets : List ℕ) (outcome : Outcome)
    → next_of plan.task (place_by (counts_of totals) place) octets ≡ tasks.Stops outcome → (plan.policy.kept ≡ None) ⊎ (kept_of outcome ≡ None)
    → step plan more totals place octets ≡ Stops outcome
step_stops plan more totals place octets outcome is none =
    let ended = is_ended_at plan.task (place_by (counts_of totals) place) octets outcome is in
    ended_step plan more totals place octets outcome ended.total ended.accepted ended.given
    ∙ stops_by plan.texts (counts_of totals) (place_by (counts_of totals) place) _ _ outcome plan.policy.kept (kept_of outcome) ended.total totals.counted.skipped none

message_same : (task : Task) (octets : List ℕ) (m n : ℕ) → task.judge octets ≡ Message m → task.judge octets ≡ Message n → m ≡ n
message_same task octets m n first second = let e : Message m ≡ Message n = sym first ∙ second in cc

pub step_keeps : (plan : Plan) (more : Bool) (totals : ItemTotals) (place : ℕ) (octets : List ℕ) (kept : Kept) (instead : Instead) (total fields : ℕ)
    → next_of plan.task (place_by (counts_of totals) place) octets ≡ tasks.Stops (outcomes.Kept kept) → plan.policy.kept ≡ Some instead
    → plan.task.judge octets ≡ Message total → plan.task.fields (take total octets) ≡ fields
    → step plan more totals place octets
    ≡ Goes total (deeds (writes (instead_of instead (take total octets))) (plan.texts.kept (place_by (counts_of totals) place) kept ∷ []))
    (totals_by (one_kept (counts_of totals) fields (length (instead_of instead (take total octets)))) totals.counted.skipped)
step_keeps plan more totals place octets kept instead total fields is some so counted =
    let at : Place = place_by (counts_of totals) place in
    let ended = is_ended_at plan.task at octets (outcomes.Kept kept) is in
    let same : ended.total ≡ total = message_same plan.task octets ended.total total ended.accepted so in
    let given : plan.task.result at (take total octets) ≡ Ends (outcomes.Kept kept) =
    subst (λ n. plan.task.result at (take n octets) ≡ Ends (outcomes.Kept kept)) same ended.given in
    ended_step plan more totals place octets (outcomes.Kept kept) total so given
    ∙ (ap (λ i. step_comes (on_outcome plan.texts (counts_of totals) at (plan.task.fields (take total octets)) (take total octets) (outcomes.Kept kept) i (Some kept)) total totals.counted.skipped) some
    ∙ ap (λ n. Goes total (deeds (writes (instead_of instead (take total octets))) (plan.texts.kept at kept ∷ []))
    (totals_by (one_kept (counts_of totals) n (length (instead_of instead (take total octets)))) totals.counted.skipped)) counted)

-- ---- what was done, where the task was at work

-- a front of what the task does for the octets
acts_front : (plan : Plan) (more : Bool) (totals : ItemTotals) (place : ℕ) (octets : List ℕ) (before now : World) (notes : Option (List ℕ)) (n : tasks.Next)
    → next_of plan.task (place_by (counts_of totals) place) octets ≡ n → DidFront before now (acts_of n)
    → DoneFront (outside before notes) (outside now notes) (deeds_of (step plan more totals place octets))
acts_front plan more totals place octets before now notes (tasks.Whole total fields written acts) is front =
    subst (λ s. DoneFront (outside before notes) (outside now notes) (deeds_of s)) (sym (step_whole plan more totals place octets total fields written acts is))
    record { did = front; noted = octets_none notes [] }
acts_front plan more totals place octets before now notes (tasks.Refuses fault) is front =
    front_of_nothing (outside before notes) (outside now notes) _ record { did = front; noted = octets_none notes [] }
acts_front plan more totals place octets before now notes (tasks.Stops outcome) is front =
    front_of_nothing (outside before notes) (outside now notes) _ record { did = front; noted = octets_none notes [] }

-- the run ends with an outcome of the task that is not gone past
pub ends_step : (plan : Plan) (more : Bool) (totals : ItemTotals) (place : ℕ) (octets : List ℕ) (outcome : Outcome) (before now : World) (notes : Option (List ℕ))
    → EndsWith (next_of plan.task (place_by (counts_of totals) place) octets) outcome before now → (plan.policy.kept ≡ None) ⊎ (kept_of outcome ≡ None)
    → EndsStep (step plan more totals place octets) outcome (outside before notes) (outside now notes)
ends_step plan more totals place octets outcome before now notes ends none = record {
  stopped = λ whole.
      let (stops, still) = ends.stopped whole in
      (step_stops plan more totals place octets outcome stops none, record { did = still; noted = (done_none (outside now notes)).noted });
  cut = λ cut. acts_front plan more totals place octets before now notes _ refl (ends.cut cut);
}

-- nothing was done before
pub turns_after : (plan : Plan) (more : Bool) (totals : ItemTotals) (place : ℕ) (octets : List ℕ) (result : Result Turn Outcome) (a b c : Outside) → Done a b no_deeds
    → Turns plan more totals place octets result b c → Turns plan more totals place octets result a c
turns_after plan more totals place octets (Ok (GoesOn gone)) a b c still (begun, (done, is, did)) = (begun, (done, is, done_then a b c no_deeds done still did))
turns_after plan more totals place octets (Ok (WaitsFor wait)) a b c still (awaits, did) = (awaits, done_then a b c no_deeds no_deeds still did)
turns_after plan more totals place octets (Err outcome) a b c still (begun, ends) = (
  begun,
  record {
    stopped = λ whole. let (stops, did) = ends.stopped whole in (stops, done_then a b c no_deeds no_deeds still did);
    cut = λ cut. front_after a b c no_deeds _ still (ends.cut cut);
  },
)

-- ---- octets for which nothing can be done yet

quiet_next : (plan : Plan) (totals : ItemTotals) (place : ℕ) (octets : List ℕ) (t passing : Bool) (fault : Fault)
    → is_gone (step_next plan totals place octets (cond t Unknown (cond passing (next_passed fault None) (Refuses fault)))) ≡ false
quiet_next plan totals place octets true passing fault = refl
quiet_next plan totals place octets false false fault = refl
quiet_next plan totals place octets false true fault = refl

-- where a stated length is not there
quiet_by : (plan : Plan) → IsLawful plan.task → (totals : ItemTotals) (place : ℕ) (octets : List ℕ) (j : Judgement)
    → ((total : ℕ) → plan.task.judge octets ≡ Message total → States octets total) → first_fault (head_rules octets) ≡ None → length octets < (head_of octets).total
    → plan.task.judge octets ≡ j → is_gone (step plan true totals place octets) ≡ false
quiet_by plan lawful totals place octets (Message total) states none fewer so =
    let there : total ≤ length octets = lawful.there octets total so in
    absurd (omega (arith, (states total so).1, there, fewer))
quiet_by plan lawful totals place octets (Faulty fault) states none fewer so =
    ap is_gone (refused_step plan true totals place octets fault (is_truncated fault.reason) (passes plan.policy) None so refl refl (passed_later octets none fewer))
    ∙ quiet_next plan totals place octets (is_truncated fault.reason) (passes plan.policy) fault

no_more : (xs : List ℕ) → length xs < 1 → xs ≡ []
no_more [] few = refl
no_more (x ∷ xs) few = absurd (omega (arith, few))

pub awaits_more : (plan : Plan) → IsLawful plan.task → ((octets : List ℕ) (total : ℕ) → plan.task.judge octets ≡ Message total → States octets total)
    → (totals : ItemTotals) (place : ℕ) (octets : List ℕ) (wanted : ℕ) → begins octets ≡ true → step plan true totals place octets ≡ Waits → length octets < wanted
    → (length octets + 1 < wanted → (first_fault (head_rules octets) ≡ None) × ((head_of octets).total ≡ wanted)) → Awaits plan true totals place octets wanted
awaits_more plan lawful states totals place octets wanted begun waits fewer stated = record {
  unknown = inr (begun, waits);
  fewer = fewer;
  quiet = λ later less.
      inr (
        begun_stays octets later begun,
        ⊎_elim
            (λ (long : length octets + 1 < wanted).
            let (none, total) = stated long in
            let (none_now, total_now) = stated_stays octets later none in
            quiet_by plan lawful totals place (octets ++ later) (plan.task.judge (octets ++ later)) (states (octets ++ later)) none_now (omega (arith, total, total_now, less)) refl)
            (λ (short : wanted ≤ length octets + 1).
            let nothing : later ≡ [] = no_more later (omega (arith, short, less, length-append octets later)) in
            let same : octets ++ later ≡ octets = ap (λ xs. octets ++ xs) nothing ∙ append-nil octets in
            ap (λ xs. is_gone (step plan true totals place xs)) same ∙ ap is_gone waits)
            (cases_lt (length octets + 1) wanted),
      );
}

-- ---- numbers that can be counted

pub record Small (totals : ItemTotals) : Type 0 where
  pub messages : totals.counted.messages < 2 ^ 64
  pub fields : totals.counted.fields < 2 ^ 64
  pub skipped : totals.counted.skipped < 2 ^ 64
  pub written : totals.counted.written < 2 ^ 64
  pub refused : totals.refused < 2 ^ 64
  pub kept : totals.kept < 2 ^ 64

pub small_gone : (plan : Plan) → IsLawful plan.task → (more : Bool) (totals : ItemTotals) (place : ℕ) (octets : List ℕ) (n : ℕ) (done : Deeds) (totals_now : ItemTotals)
    → begins octets ≡ true → Fits totals place → place + length octets ≤ 2 ^ 40 → step plan more totals place octets ≡ Goes n done totals_now → Small totals_now
small_gone plan lawful more totals place octets n done totals_now begun fits most is =
    let counted = step_counted plan lawful more totals place octets n done totals_now begun is in
    let now = counted.grown place fits in
    let within = counted.within in
    record {
      messages = omega (arith, now.messages, within, most);
      fields = omega (arith, now.fields, within, most);
      skipped = omega (arith, now.skipped, within, most);
      written = omega (arith, now.written, within, most);
      refused = omega (arith, now.refused, within, most);
      kept = omega (arith, now.kept, within, most);
    }

-- ---- where a device or memory broke

pub nothing_broke : (a : Outside) (s : Step) (outcome : Outcome) → is_cut_within outcome ≡ true → EndsStep s outcome a a
nothing_broke a s outcome cut = record {
  stopped = λ whole. absurd (false≢true (sym whole ∙ cut));
  cut = λ e. front_of_nothing a a (deeds_of s) (front_whole a a no_deeds (done_none a));
}

write_cut : (outcome : Outcome) → (outcome ≡ outcomes.WriteFault) ⊎ (outcome ≡ outcomes.Memory) → is_cut_within outcome ≡ true
write_cut outcome (inl is) = ap is_cut_within is
write_cut outcome (inr is) = ap is_cut_within is

broke : (s : Step) (n : ℕ) (done : Deeds) (totals : ItemTotals) (outcome : Outcome) (a b : Outside) → s ≡ Goes n done totals
    → (outcome ≡ outcomes.WriteFault) ⊎ (outcome ≡ outcomes.Memory) → DoneFront a b done → EndsStep s outcome a b
broke s n done totals outcome a b is one_of front = record {
  stopped = λ whole. absurd (false≢true (sym whole ∙ write_cut outcome one_of));
  cut = λ e. subst (λ t. DoneFront a b (deeds_of t)) (sym is) front;
}

-- the line was not noted whole
pub line_broke : (seen : World) (notes notes_now : Option (List ℕ)) (s : Step) (n : ℕ) (acts : List Act) (text : List ℕ) (totals : ItemTotals) (outcome : Outcome)
    → s ≡ Goes n (deeds acts (text ∷ [])) totals → AppendsFront notes notes_now text → (outcome ≡ outcomes.WriteFault) ⊎ (outcome ≡ outcomes.Memory)
    → EndsStep s outcome (outside seen notes) (outside seen notes_now)
line_broke seen notes notes_now s n acts text totals outcome is front one_of =
    broke s n (deeds acts (text ∷ [])) totals outcome (outside seen notes) (outside seen notes_now) is one_of
    record { did = ([], acts, refl, did_none seen); noted = octets_more notes notes_now text [] front }

-- the line was noted, and what is written instead was not written whole
pub copy_broke : (out out_now : Option (List ℕ)) (names : Option Held) (notes notes_now : Option (List ℕ)) (s : Step) (n : ℕ) (octets text : List ℕ) (totals : ItemTotals)
    (outcome : Outcome) → s ≡ Goes n (deeds (writes octets) (text ∷ [])) totals → Appends notes notes_now text → AppendsFront out out_now octets
    → (outcome ≡ outcomes.WriteFault) ⊎ (outcome ≡ outcomes.Memory) → EndsStep s outcome (outside (world out names) notes) (outside (world out_now names) notes_now)
copy_broke out out_now names notes notes_now s n octets text totals outcome is noted front one_of =
    broke s n (deeds (writes octets) (text ∷ [])) totals outcome (outside (world out names) notes) (outside (world out_now names) notes_now) is one_of
    record { did = did_write_front out out_now names octets front; noted = octets_more notes notes_now text [] (octets_whole notes notes_now text noted) }

-- ---- where all was done

one_line : (notes notes_now : Option (List ℕ)) (text : List ℕ) → Appends notes notes_now text → Appends notes notes_now (concat (text ∷ []))
one_line notes notes_now text noted = subst (Appends notes notes_now) (sym (append-nil text)) noted

pub done_line : (seen : World) (notes notes_now : Option (List ℕ)) (text : List ℕ) → Appends notes notes_now text
    → Done (outside seen notes) (outside seen notes_now) (deeds [] (text ∷ []))
done_line seen notes notes_now text noted = record { did = did_none seen; noted = one_line notes notes_now text noted }

pub done_copy : (out out_now : Option (List ℕ)) (names : Option Held) (notes notes_now : Option (List ℕ)) (octets text : List ℕ) → Appends notes notes_now text
    → Appends out out_now octets → Done (outside (world out names) notes) (outside (world out_now names) notes_now) (deeds (writes octets) (text ∷ []))
done_copy out out_now names notes notes_now octets text noted wrote =
    record { did = did_write out out_now names octets wrote; noted = one_line notes notes_now text noted }

-- ---- what a refusal waits for

abbrev StatedBy : List ℕ → ℕ → Type 0
StatedBy octets wanted = length octets + 1 < wanted → States octets wanted

pub awaits_cut : (plan : Plan) → IsLawful plan.task → ((octets : List ℕ) (total : ℕ) → plan.task.judge octets ≡ Message total → States octets total)
    → (more : Bool) (totals : ItemTotals) (place : ℕ) (octets : List ℕ) (fault : Fault) (wanted : ℕ) → begins octets ≡ true → plan.task.judge octets ≡ Faulty fault
    → (more && is_truncated fault.reason) ≡ true → length octets < wanted → StatedBy octets wanted → Awaits plan more totals place octets wanted
awaits_cut plan lawful states true totals place octets fault wanted begun so cut fewer stated =
    awaits_more plan lawful states totals place octets wanted begun (step_cut plan true totals place octets fault so cut) fewer stated
awaits_cut plan lawful states false totals place octets fault wanted begun so cut fewer stated = absurd (false≢true cut)

pub awaits_end : (plan : Plan) → IsLawful plan.task → ((octets : List ℕ) (total : ℕ) → plan.task.judge octets ≡ Message total → States octets total)
    → (more : Bool) (totals : ItemTotals) (place : ℕ) (octets : List ℕ) (fault : Fault) (instead : Instead) (wanted : ℕ) → begins octets ≡ true → plan.task.judge octets ≡ Faulty fault
    → (more && is_truncated fault.reason) ≡ false → plan.policy.refused ≡ Some instead → passed more octets ≡ None → length octets < wanted → StatedBy octets wanted
    → Awaits plan more totals place octets wanted
awaits_end plan lawful states true totals place octets fault instead wanted begun so closed policy known fewer stated =
    awaits_more plan lawful states totals place octets wanted begun (step_unknown plan true totals place octets fault instead so closed policy known) fewer stated
awaits_end plan lawful states false totals place octets fault instead wanted begun so closed policy known fewer stated = absurd (passed_known octets known)

-- ---- what a turn was

pub record IsGone (plan : Plan) (more : Bool) (totals : ItemTotals) (place : ℕ) (octets : List ℕ) (n : ℕ) (totals_now : ItemTotals) (before now : Outside) : Type 0 where
  pub begun : begins octets ≡ true
  pub done : Deeds
  pub is : step plan more totals place octets ≡ Goes n done totals_now
  pub did : Done before now done

pub turns_gone : (plan : Plan) (more : Bool) (totals : ItemTotals) (place : ℕ) (octets : List ℕ) (turn : Turn) (gone : Gone) (before now : Outside) → turn ≡ GoesOn gone
    → Turns plan more totals place octets (Ok turn) before now → IsGone plan more totals place octets gone.octets gone.totals before now
turns_gone plan more totals place octets (GoesOn other) gone before now same (begun, (done, is, did)) =
    let e : other ≡ gone = cc in
    subst (λ g. IsGone plan more totals place octets g.octets g.totals before now) e record { begun = begun; done = done; is = is; did = did }
turns_gone plan more totals place octets (WaitsFor wait) gone before now same turns = let no : ⊥ = cc in absurd no

pub turns_wait : (plan : Plan) (more : Bool) (totals : ItemTotals) (place : ℕ) (octets : List ℕ) (turn : Turn) (wait : Wait) (before now : Outside) → turn ≡ WaitsFor wait
    → Turns plan more totals place octets (Ok turn) before now → Awaits plan more totals place octets wait.wanted × Done before now no_deeds
turns_wait plan more totals place octets (GoesOn other) wait before now same turns = let no : ⊥ = cc in absurd no
turns_wait plan more totals place octets (WaitsFor other) wait before now same (awaits, did) =
    let e : other ≡ wait = cc in (subst (λ w. Awaits plan more totals place octets w.wanted) e awaits, did)

-- ---- a refusal that ends the run

pub refusal_ends : (plan : Plan) (more : Bool) (totals : ItemTotals) (place : ℕ) (octets : List ℕ) (fault : Fault) (outcome : Outcome) (a b : Outside) → plan.task.judge octets ≡ Faulty fault
    → (more && is_truncated fault.reason) ≡ false → plan.policy.refused ≡ None → outcome ≡ outcomes.Refused (record { message = totals.counted.messages + 1; fault = fault })
    → Done a b no_deeds → EndsStep (step plan more totals place octets) outcome a b
refusal_ends plan more totals place octets fault outcome a b so closed none is still = record {
  stopped = λ whole. (step_refused plan more totals place octets fault so closed none ∙ ap Stops (sym is), still);
  cut = λ cut. absurd (false≢true (sym (ap is_cut_within is) ∙ cut));
}
