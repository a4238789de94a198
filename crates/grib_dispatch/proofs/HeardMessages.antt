-- Messages of edition 2 that were heard.
use Rattle.std.proofs.Common.{◌≡◌, ◌≢◌, ◌⊎◌, inl, inr, ℕ, ◌+◌, ◌<◌, ◌≤◌, Bool, true, false, ◌&&◌, ◌==◌, not, List, [], ◌++◌, Some, None, Ok, Err, length, take, drop, refl, sym, ap, ◌∙◌, subst, arith, ⊎_elim, nat_lt, eqb-true, take-append-drop, take-take, length-take-le}
use Rattle.std.proofs.Math.Seq.{take-length}
use Rattle.std.proofs.lemmas.Bool.{cases_lt, cases_Bool, false≢true, le-ltb}
use Rattle.std.proofs.lemmas.List.{length-take, take_all}
use Rattle.std.proofs.lemmas.Slice.Eq.{bytes_eq-Decides}
use Rattle.grib2_arrival.specs.Heard.{BeginsLikeTwo, IsUndecided}
use Rattle.std.specs.Str.{bytes_eq}
use Rattle.std.specs.declared.option.Option.{Option}
use Rattle.grib_base.specs.declared.fault.Fault.{Fault}
use Rattle.grib_base.specs.declared.fault.Refusal.{Refusal}
use Rattle.grib_base.specs.declared.profile.Profile.{Profile}
use Rattle.grib_base.specs.Rules.{choose}
use Rattle.grib2_sections.specs.Head.{indicator, edition}
use Rattle.grib_base.specs.declared.fault.Reason.{Reason}
use Rattle.grib_base.specs.declared.fault.Reason.TheVariants.{Edition, Truncated}
use Rattle.grib2_sections.specs.Verdict.{Verdict, Accepted, Refused}
use Rattle.grib2_message.specs.Acceptance.{verdict_under}
use Rattle.grib2_message.specs.Fields.{field_count}
use Rattle.grib_stream.specs.declared.outcome.Outcome.{Outcome}
use Rattle.grib_stream.specs.declared.outcome.Outcome.TheVariants as outcomes
use Rattle.grib_stream.specs.declared.place.Place.{Place}
use Rattle.grib_stream.specs.Stream.{begins, Judgement, Message, Faulty}
use Rattle.grib_stream.specs.Acts.{Act, World, DidFront, writes}
use Rattle.grib_stream.specs.Outcomes.{is_cut_within, is_truncated, KeepsOrCuts, is_cut_short}
use Rattle.grib_stream.specs.Task.{Task, Given, Gives, Ends, Next, next_given, next_of, acts_of}
use Rattle.grib_stream.specs.Performed.{Performs, EndsWith, performed_of}
use Rattle.grib_stream.specs.Hearing.{is_closed}
use Rattle.grib_stream.specs.Soon.{IsPrompt, IsSoon, RefusesSoon, StandsAt}
use Rattle.grib_stream.proofs.Nexts.{judged as next_judged_as}
use Rattle.grib_command.specs.declared.answered.Answered.{Answered}
use Rattle.grib_command.specs.declared.answered.Answered.TheVariants.{Whole, Kept, WriteFault, ShelfFault, Memory}
use Rattle.grib_command.specs.Answering.{Answers, acts_given}
use Rattle.grib_command.specs.Command.{Command, under, task, given, printing}
use Rattle.grib_command.specs.Judging.{judge_under, judged, fields_of}
use Rattle.grib_dispatch.specs.Hearing.{heard_of, judge_2_under, is_second, hears_by, IsRefusedSoon, RefusesInTime}
use Rattle.grib_dispatch.specs.HearingLaws.{not_one, both}
use Rattle.grib_dispatch.specs.Lawful.{short_edition, same_edition, short_verdict, message_of, other}
use Rattle.grib_command.specs.declared.ending.Ending.{Ending}

-- ---- what a message gives that was heard

acts_same : (given : Given) (total fields : ℕ) → acts_of (next_given given total fields) ≡ acts_given given
acts_same (Gives acts written) total fields = refl
acts_same (Ends outcome) total fields = refl

cut_heard : (place : Place) (outcome : Outcome) (given : Given) (total fields : ℕ) (a b : World) → is_cut_within outcome ≡ true → DidFront a b (acts_given given)
    → EndsWith (next_given given total fields) outcome a b
cut_heard place outcome given total fields a b cut front = record {
  stopped = λ whole. absurd (false≢true (sym whole ∙ cut));
  cut = λ _. subst (DidFront a b) (sym (acts_same given total fields)) front;
}

performs_given : (answered : Answered) (place : Place) (given : Given) (total fields : ℕ) (a b : World) → Answers answered place.message given a b
    → Performs (next_given given total fields) (performed_of (heard_of answered place total fields)) a b
performs_given (Whole written) place given total fields a b (acts, is, did) = (acts, ap (λ g. next_given g total fields) is, did)
performs_given (Kept cause) place given total fields a b (is, did) = record {
  stopped = λ whole. (ap (λ g. next_given g total fields) is, did);
  cut = λ cut. absurd (false≢true cut);
}
performs_given WriteFault place given total fields a b front = cut_heard place outcomes.WriteFault given total fields a b refl front
performs_given ShelfFault place given total fields a b front = cut_heard place outcomes.ShelfFault given total fields a b refl front
performs_given Memory place given total fields a b front = cut_heard place outcomes.Memory given total fields a b refl front

-- what comes next of a message of edition 2 and no more
next_heard : (command : Command) (place : Place) (octets : List ℕ) → (edition octets == 1) ≡ false → judge_under command.profile octets ≡ Message (length octets)
    → next_of (task command) place octets ≡ next_given (command.second place octets) (length octets) (field_count octets)
next_heard command place octets second is =
    next_judged_as (task command) place octets (Message (length octets)) is
    ∙ (ap (λ message. next_given (given command place message) (length octets) (fields_of message)) (take-length octets)
    ∙ (ap (λ b. next_given (choose b (λ _. command.first place octets) (λ _. command.second place octets)) (length octets) (choose b (λ _. 1) (λ _. field_count octets))) second))

pub performs_heard : (command : Command) (place : Place) (octets more : List ℕ) (answered : Answered) (total fields : ℕ) (a b : World) → is_second (take 8 (octets ++ more)) ≡ true
    → judge_under command.profile octets ≡ Message (length octets) → total ≡ length octets → fields ≡ field_count octets
    → Answers answered place.message (command.second place octets) a b
    → Performs (next_of (task command) place octets) (performed_of (heard_of answered place total fields)) a b
performs_heard command place octets more answered total fields a b second is size count answers =
    subst (λ n. Performs n (performed_of (heard_of answered place total fields)) a b) (sym (next_heard command place octets (not_one octets more second) is))
    (subst (λ l. Performs (next_given (command.second place octets) l (field_count octets)) (performed_of (heard_of answered place total fields)) a b) size
    (subst (λ f. Performs (next_given (command.second place octets) total f) (performed_of (heard_of answered place total fields)) a b) count
    (performs_given answered place (command.second place octets) total fields a b answers)))

-- ---- how soon a message is refused

-- fewer octets than eight are refused for their end alone
short_open : (profile : Profile) (octets : List ℕ) → length octets < 8 → is_closed (judge_under profile octets) ≡ false
short_open profile octets short =
    let none : (edition octets == 1) ≡ false = ap (λ n. n == 1) (short_edition octets short) in
    ap is_closed (other profile octets none ∙ ap judged (short_verdict profile octets short))

-- an edition that is neither 1 nor 2 is refused by the first eight octets
edition_refused : (profile : Profile) (octets : List ℕ) → (nat_lt (length octets) 8) ≡ false → (edition octets == 1) ≡ false → (edition octets == 2) ≡ false
    → verdict_under profile octets ≡ Refused (record { octet = 8; reason = Edition; detail = edition octets })
edition_refused profile octets long not_first not_second = rw (long, not_first, not_second) refl

other_number : (a b : ℕ) → a ≢ b → (a == b) ≡ false
other_number a b other = ⊎_elim (λ yes. absurd (other (eqb-true a b yes))) (λ no. no) (cases_Bool (a == b))

-- the first eight octets of a message that is not of edition 1 say that it is heard, or refuse it
prompt : (profile : Profile) (rest : List ℕ) → begins rest ≡ true → edition rest ≢ 1 → 8 ≤ length rest → IsPrompt is_second (judge_under profile) rest
prompt profile rest begun not_first long =
    let size : length (take 8 rest) ≡ 8 = length-take-le 8 rest long in
    let same : edition (take 8 rest) ≡ edition rest =
    sym (same_edition (take 8 rest) (drop 8 rest) (omega (arith, size))) ∙ ap edition (take-append-drop 8 rest) in
    let mark : take 4 (take 8 rest) ≡ take 4 rest = take-take 4 8 rest (omega arith) in
    let begins_so : bytes_eq (take 4 (take 8 rest)) indicator ≡ true = ap (λ xs. bytes_eq xs indicator) mark ∙ begun in
    let first : (edition (take 8 rest) == 1) ≡ false = ap (λ n. n == 1) same ∙ other_number (edition rest) 1 not_first in
    ⊎_elim
    (λ (two : (edition (take 8 rest) == 2) ≡ true). inl (ap (λ b. b && (edition (take 8 rest) == 2)) begins_so ∙ two))
    (λ (other_two : (edition (take 8 rest) == 2) ≡ false).
    let enough : nat_lt (length (take 8 rest)) 8 ≡ false = le-ltb (length (take 8 rest)) 8 (omega (arith, size)) in
    inr (ap is_closed (other profile (take 8 rest) first ∙ ap judged (edition_refused profile (take 8 rest) enough first other_two))))
    (cases_Bool (edition (take 8 rest) == 2))

bound_in_time : (profile : Profile) (rest : List ℕ) (taken before k : ℕ) → begins rest ≡ true
    → (IsPrompt is_second (judge_under profile) rest → (k : ℕ) → is_closed (judge_under profile (take k rest)) ≡ true → taken ≤ before + k + 65536)
    → edition rest ≢ 1 → is_closed (judge_under profile (take k rest)) ≡ true → taken ≤ before + k + 65536
bound_in_time profile rest taken before k begun bound not_first closed =
    ⊎_elim
    (λ (short : length rest < 8).
    let few : length (take k rest) < 8 = omega (arith, short, length-take k rest) in
    absurd (false≢true (sym (short_open profile (take k rest) few) ∙ closed)))
    (λ (long : 8 ≤ length rest). bound (prompt profile rest begun not_first long) k closed)
    (cases_lt (length rest) 8)

given_never : (b : Bool) (first second : List Act) (outcome : Outcome) → choose b (λ _. Gives first 0) (λ _. Gives second 0) ≡ Ends outcome → ⊥
given_never true first second outcome is = cc
given_never false first second outcome is = cc

-- a command that prints refuses no message itself
pub in_time : (profile : Profile) (first second : Place → List ℕ → List ℕ) (ending : Ending) (outcome : Outcome) (a b : Option (List ℕ))
    → RefusesSoon is_second (task (under profile (printing first second ending))) outcome a b → RefusesInTime profile outcome a b
in_time profile first second ending outcome a b soon refusal is closed =
    let (taken, consumed, refused) = soon refusal is closed
    (λ place message e. given_never (edition message == 1) (writes (first place message)) (writes (second place message)) outcome e) in (
      taken,
      consumed,
      record {
        before = refused.before;
        rest = refused.rest;
        place = refused.place;
        bound = λ not_first k shut.
            bound_in_time profile refused.rest (length taken) refused.before k refused.place.begun refused.bound not_first shut;
      },
    )

-- a command that hears messages of edition 2 hears them alone
pub soon_heard : (hears : Bool) (own : Task) (outcome : Outcome) (a b : Option (List ℕ)) → hears ≡ true → RefusesSoon (hears_by hears) own outcome a b
    → RefusesSoon is_second own outcome a b
soon_heard hears own outcome a b is soon = subst (λ h. RefusesSoon (hears_by h) own outcome a b) is soon

-- the end of a run keeps a refusal
pub soon_kept : (command : Command) (outcome result : Outcome) (a b : Option (List ℕ)) → KeepsOrCuts outcome result → RefusesSoon is_second (task command) outcome a b
    → RefusesSoon is_second (task command) result a b
soon_kept command outcome result a b (inl same) soon = subst (λ o. RefusesSoon is_second (task command) o a b) (sym same) soon
soon_kept command outcome result a b (inr cut) soon = λ refusal is closed never. absurd (false≢true (sym (ap is_cut_short is) ∙ cut))

pub done_soon : (command : Command) (a b : Option (List ℕ)) → RefusesSoon is_second (task command) outcomes.Done a b
done_soon command a b refusal is closed never = absurd (cc is)

-- ---- what a hearer says

pub not_truncated : (reason : Reason) → reason ≢ Truncated → is_truncated reason ≡ false
not_truncated Truncated other = absurd (other refl)
not_truncated reason other = refl

-- what was judged of a message that was heard
pub heard_verdict : (profile : Profile) (octets more : List ℕ) → is_second (take 8 (octets ++ more)) ≡ true → judge_under profile octets ≡ Message (length octets)
    → verdict_under profile octets ≡ Accepted (length octets)
heard_verdict profile octets more second is =
    message_of (verdict_under profile octets) (length octets) (sym (other profile octets (not_one octets more second)) ∙ is)

-- by whichever profile it was heard
pub second_verdict : (profile own : Profile) (octets : List ℕ) → judge_2_under profile ≡ judge_2_under own → judge_2_under profile octets ≡ Message (length octets)
    → verdict_under own octets ≡ Accepted (length octets)
second_verdict profile own octets same is = message_of (verdict_under own octets) (length octets) (sym (ap (λ judge. judge octets) same) ∙ is)

-- that a message with its mark is heard
pub second_is : (octets : List ℕ) → 8 ≤ length octets → is_second (take 8 octets) ≡ true → BeginsLikeTwo octets
second_is octets long second =
    let parts = both (bytes_eq (take 4 (take 8 octets)) indicator) (edition (take 8 octets) == 2) second in
    let size : length (take 8 octets) ≡ 8 = length-take-le 8 octets long in
    let same : edition octets ≡ edition (take 8 octets) =
    ap edition (sym (take-append-drop 8 octets)) ∙ same_edition (take 8 octets) (drop 8 octets) (omega (arith, size)) in
    record {
      indicated = sym (take-take 4 8 octets (omega arith)) ∙ ((bytes_eq-Decides (take 4 (take 8 octets)) indicator).0 parts.0 ∙ sym (take_all (length octets) indicator (omega (arith, long))));
      second = λ _. same ∙ eqb-true (edition (take 8 octets)) 2 parts.1;
    }

-- a message of edition 2 has eight octets at least that say so
pub second_long : (octets : List ℕ) → is_second (take 8 octets) ≡ true → 8 ≤ length octets
second_long octets second =
    ⊎_elim
    (λ (short : length octets < 8).
    let few : length (take 8 octets) < 8 = omega (arith, short, length-take 8 octets) in
    let none : edition (take 8 octets) ≡ 0 = short_edition (take 8 octets) few in
    let two : edition (take 8 octets) ≡ 2 = eqb-true (edition (take 8 octets)) 2 (both (bytes_eq (take 4 (take 8 octets)) indicator) (edition (take 8 octets) == 2) second).1 in
    absurd (omega (arith, none, two)))
    (λ (long : 8 ≤ length octets). long) (cases_lt (length octets) 8)

pub undecided_open : (verdict : Verdict) → IsUndecided verdict → is_closed (judged verdict) ≡ false
undecided_open (Accepted total) undecided = refl
undecided_open (Refused fault) undecided = ap (λ reason. not (is_truncated reason)) undecided

-- a fault of the output, or of the shelf
pub heard_write : (answered : Answered) (place : Place) (total fields : ℕ) → heard_of answered place total fields ≡ Err outcomes.WriteFault → answered ≡ WriteFault
heard_write (Whole written) place total fields is = absurd (cc is)
heard_write (Kept cause) place total fields is = absurd (cc is)
heard_write WriteFault place total fields is = refl
heard_write ShelfFault place total fields is = absurd (cc is)
heard_write Memory place total fields is = absurd (cc is)

pub heard_shelf : (answered : Answered) (place : Place) (total fields : ℕ) → heard_of answered place total fields ≡ Err outcomes.ShelfFault → answered ≡ ShelfFault
heard_shelf (Whole written) place total fields is = absurd (cc is)
heard_shelf (Kept cause) place total fields is = absurd (cc is)
heard_shelf WriteFault place total fields is = absurd (cc is)
heard_shelf ShelfFault place total fields is = refl
heard_shelf Memory place total fields is = absurd (cc is)
