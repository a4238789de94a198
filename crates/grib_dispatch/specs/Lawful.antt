-- What is said of octets stays said, whatever follows them.
use Rattle.std.proofs.Common.{◌≡◌, ◌≢◌, ℕ, zero, suc, ◌+◌, ◌*◌, ◌<◌, ◌≤◌, Bool, true, false, ◌⊎◌, inl, inr, Option, Some, None, List, [], ◌∷◌, ◌++◌, length, take, drop, nat_lt, ◌==◌, refl, sym, ap, ◌∙◌, arith, ⊎_elim, lt-ltb, eqb-true, eq-eqb, length-take-le, length-drop, take-append-drop}
use Rattle.std.proofs.lemmas.Bool.{cases_Bool, false≢true, cases_lt}
use Rattle.std.proofs.lemmas.List.{drop_all, take-append-le}
use Rattle.std.proofs.lemmas.List.Sums.{count_by-le-length}
use lib.Seq.{drop-append-le}
use Rattle.grib_bits.specs.Octets.{num_on, octets}
use Rattle.grib_base.specs.declared.fault.Fault.{Fault}
use Rattle.grib_base.specs.declared.fault.Reason.{Reason}
use Rattle.grib_base.specs.declared.fault.Reason.TheVariants.{Truncated}
use Rattle.grib_base.specs.Rules.{choose, first_fault}
use Rattle.grib_base.specs.declared.limits.TheConstants.{MOST_OCTETS}
use Rattle.grib_base.specs.declared.profile.Profile.{Profile}
use Rattle.grib2_sections.specs.Verdict.{Verdict, Accepted, Refused}
use Rattle.grib2_sections.specs.Head.{edition, head_rules}
use Rattle.grib2_sections.specs.Frame.{ends_at, section_at, placed_at}
use Rattle.grib1_sections.specs.Acceptance.{verdict_1}
use Rattle.grib1_sections.proofs.Stays.{accepted_stays as first_stays, refused_stays as first_refused_stays}
use Rattle.grib1_sections.proofs.Fronts.{accepted_least as first_least, accepted_there as first_there, accepted_alone as first_alone}
use Rattle.grib2_message.specs.View.{is_numbered}
use Rattle.grib2_message.specs.Acceptance.{unless_refused, verdict_under}
use Rattle.grib2_message.specs.Fields.{sections_from, sections_of, field_count}
use Rattle.grib2_message.specs.Message.{IsMessageUnder}
use Rattle.grib2_message.proofs.Opened.{any_message}
use Rattle.grib1_sections.specs.Message.{IsMessage1}
use Rattle.grib2_message.proofs.Passed.{passes_from_none}
use Rattle.grib2_message.proofs.Whole.{head_passes}
use Rattle.grib2_message.proofs.Stays.{accepted_stays, refused_stays}
use Rattle.grib2_message.proofs.Fronts.{accepted_least, accepted_there, accepted_alone}
use Rattle.grib_stream.specs.Stream.{Judgement, Message, Faulty, begins}
use Rattle.grib_stream.proofs.Streams.{begins_is}
use Rattle.grib_stream.specs.Outcomes.{is_truncated, is_of_message}
use Rattle.grib_stream.specs.Task.{Gives, Ends, IsLawful}
use Rattle.grib_stream.specs.Acts.{Act}
use Rattle.grib_stream.specs.declared.place.Place.{Place}
use Rattle.grib_stream.specs.declared.outcome.Outcome.{Outcome}
use Rattle.grib_command.specs.Command.{Command, IsLawfulCommand, given, task}
use Rattle.grib_command.specs.Judging.{judged, judge_under, fields_of}

-- ---- the judgement, by the edition

first : (profile : Profile) (octets : List ℕ) → (edition octets == 1) ≡ true → judge_under profile octets ≡ judged (verdict_1 octets)
first profile octets is = ap (λ b. choose b (λ _. judged (verdict_1 octets)) (λ _. judged (verdict_under profile octets))) is

pub other : (profile : Profile) (octets : List ℕ) → (edition octets == 1) ≡ false → judge_under profile octets ≡ judged (verdict_under profile octets)
other profile octets is = ap (λ b. choose b (λ _. judged (verdict_1 octets)) (λ _. judged (verdict_under profile octets))) is

-- an octet that is only stands
pub short_edition : (octets : List ℕ) → length octets < 8 → edition octets ≡ 0
short_edition octets short = ap (λ xs. num_on 0 (take 1 xs)) (drop_all 7 octets (omega arith))

pub same_edition : (octets more : List ℕ) → 8 ≤ length octets → edition (octets ++ more) ≡ edition octets
same_edition octets more there =
    ap (λ xs. num_on 0 (take 1 xs)) (drop-append-le 7 octets more (omega arith))
    ∙ ap (num_on 0) (take-append-le 1 (drop 7 octets) more (omega (arith, length-drop 7 octets)))

first_is_long : (octets : List ℕ) → edition octets ≡ 1 → 8 ≤ length octets
first_is_long octets is =
    ⊎_elim (λ short. (let none : edition octets ≡ 0 = short_edition octets short in absurd (omega arith))) (λ long. long) (cases_lt (length octets) 8)

-- what a judgement says of the verdict of its edition
pub record IsFirst (octets : List ℕ) (verdict : Verdict) : Type 0 where
  pub first_edition : (edition octets == 1) ≡ true
  pub edition_is : edition octets ≡ 1
  pub verdict_is : verdict_1 octets ≡ verdict

pub record IsOther (profile : Profile) (octets : List ℕ) (verdict : Verdict) : Type 0 where
  pub other_edition : (edition octets == 1) ≡ false
  pub verdict_is : verdict_under profile octets ≡ verdict

pub message_of : (v : Verdict) (total : ℕ) → judged v ≡ Message total → v ≡ Accepted total
message_of (Accepted n) total is = let e : n ≡ total = cc in ap Accepted e
message_of (Refused fault) total is = let no : ⊥ = cc in absurd no

refusal_of : (v : Verdict) (fault : Fault) → judged v ≡ Faulty fault → v ≡ Refused fault
refusal_of (Accepted n) fault is = let no : ⊥ = cc in absurd no
refusal_of (Refused f) fault is = let e : f ≡ fault = cc in ap Refused e

-- a verdict of the edition that is only
judged_by : (profile : Profile) (octets : List ℕ) (j : Judgement) (v : Verdict) → judge_under profile octets ≡ j → ((w : Verdict) → judged w ≡ j → w ≡ v) → IsFirst octets v ⊎ IsOther profile octets v
judged_by profile octets j v is only =
    ⊎_elim
    (λ one. inl (record { first_edition = one; edition_is = eqb-true (edition octets) 1 one; verdict_is = only (verdict_1 octets) (sym (first profile octets one) ∙ is) }))
    (λ not_one. inr (record { other_edition = not_one; verdict_is = only (verdict_under profile octets) (sym (other profile octets not_one) ∙ is) }))
    (cases_Bool (edition octets == 1))

pub message_judged : (profile : Profile) (octets : List ℕ) (total : ℕ) → judge_under profile octets ≡ Message total → IsFirst octets (Accepted total) ⊎ IsOther profile octets (Accepted total)
message_judged profile octets total is = judged_by profile octets (Message total) (Accepted total) is (λ w judged_w. message_of w total judged_w)

pub refusal_judged : (profile : Profile) (octets : List ℕ) (fault : Fault) → judge_under profile octets ≡ Faulty fault → IsFirst octets (Refused fault) ⊎ IsOther profile octets (Refused fault)
refusal_judged profile octets fault is = judged_by profile octets (Faulty fault) (Refused fault) is (λ w judged_w. refusal_of w fault judged_w)

pub not_first : (octets : List ℕ) → (edition octets == 1) ≡ false → edition octets ≢ 1
not_first octets not_one e = false≢true (sym not_one ∙ eq-eqb (edition octets) 1 e)

still : (octets more : List ℕ) (b : Bool) → 8 ≤ length octets → (edition octets == 1) ≡ b → (edition (octets ++ more) == 1) ≡ b
still octets more b there is = ap (λ n. n == 1) (same_edition octets more there) ∙ is

-- a message alone has the edition that it has among others
pub edition_alone : (octets : List ℕ) (total : ℕ) → 8 ≤ total → total ≤ length octets → edition (take total octets) ≡ edition octets
edition_alone octets total least there =
    let size : length (take total octets) ≡ total = length-take-le total octets there in
    sym (same_edition (take total octets) (drop total octets) (omega arith)) ∙ ap edition (take-append-drop total octets)

-- ---- the laws

pub least_message : (profile : Profile) (octets : List ℕ) (total : ℕ) → judge_under profile octets ≡ Message total → 12 ≤ total
least_message profile octets total is =
    ⊎_elim
    (λ (m : IsFirst octets (Accepted total)). first_least octets total m.edition_is m.verdict_is)
    (λ (m : IsOther profile octets (Accepted total)). omega (arith, accepted_least profile octets total (not_first octets m.other_edition) m.verdict_is))
    (message_judged profile octets total is)

pub there_message : (profile : Profile) (octets : List ℕ) (total : ℕ) → judge_under profile octets ≡ Message total → total ≤ length octets
there_message profile octets total is =
    ⊎_elim
    (λ (m : IsFirst octets (Accepted total)). first_there octets total m.edition_is m.verdict_is)
    (λ (m : IsOther profile octets (Accepted total)). accepted_there profile octets total (not_first octets m.other_edition) m.verdict_is)
    (message_judged profile octets total is)

long_message : (profile : Profile) (octets : List ℕ) (total : ℕ) → judge_under profile octets ≡ Message total → 8 ≤ length octets
long_message profile octets total is = omega (arith, least_message profile octets total is, there_message profile octets total is)

pub message_stays : (profile : Profile) (octets more : List ℕ) (total : ℕ) → judge_under profile octets ≡ Message total → judge_under profile (octets ++ more) ≡ Message total
message_stays profile octets more total is =
    let long = long_message profile octets total is in
    ⊎_elim
    (λ (m : IsFirst octets (Accepted total)).
    first profile (octets ++ more) (still octets more true long m.first_edition) ∙ ap judged (first_stays octets more total m.edition_is m.verdict_is))
    (λ (m : IsOther profile octets (Accepted total)).
    other profile (octets ++ more) (still octets more false long m.other_edition)
    ∙ ap judged (accepted_stays profile octets more total (not_first octets m.other_edition) m.verdict_is))
    (message_judged profile octets total is)

-- a refusal of fewer octets than eight is that of their end
pub short_verdict : (profile : Profile) (octets : List ℕ) → length octets < 8 → verdict_under profile octets ≡ Refused (record { octet = length octets + 1; reason = Truncated; detail = length octets })
short_verdict profile octets short =
    let first_row : nat_lt (length octets) 8 ≡ true = lt-ltb (length octets) 8 short in
    rw first_row refl

long_enough : (profile : Profile) (octets : List ℕ) (fault : Fault) → verdict_under profile octets ≡ Refused fault → is_truncated fault.reason ≡ false → 8 ≤ length octets
long_enough profile octets fault is whole =
    ⊎_elim
    (λ short.
    let same : Refused (record { octet = length octets + 1; reason = Truncated; detail = length octets }) ≡ Refused fault = sym (short_verdict profile octets short) ∙ is in
    let fault_is : record { octet = length octets + 1; reason = Truncated; detail = length octets } ≡ fault = cc in
    absurd (false≢true (sym whole ∙ sym (ap (λ f. is_truncated f.reason) fault_is))))
    (λ long. long) (cases_lt (length octets) 8)

reason_other : (reason : Reason) → is_truncated reason ≡ false → reason ≢ Truncated
reason_other reason whole e = false≢true (sym whole ∙ ap is_truncated e)

refusal_stays : (profile : Profile) (octets more : List ℕ) (fault : Fault) → judge_under profile octets ≡ Faulty fault → is_truncated fault.reason ≡ false → judge_under profile (octets ++ more) ≡ Faulty fault
refusal_stays profile octets more fault is whole =
    ⊎_elim
    (λ (m : IsFirst octets (Refused fault)).
    first profile (octets ++ more) (still octets more true (first_is_long octets m.edition_is) m.first_edition)
    ∙ ap judged (first_refused_stays octets more fault m.edition_is m.verdict_is (reason_other fault.reason whole)))
    (λ (m : IsOther profile octets (Refused fault)).
    other profile (octets ++ more) (still octets more false (long_enough profile octets fault m.verdict_is whole) m.other_edition)
    ∙ ap judged (refused_stays profile octets more fault (not_first octets m.other_edition) m.verdict_is (reason_other fault.reason whole)))
    (refusal_judged profile octets fault is)

alone : (profile : Profile) (octets : List ℕ) (total : ℕ) → judge_under profile octets ≡ Message total → judge_under profile (take total octets) ≡ Message total
alone profile octets total is =
    let least = least_message profile octets total is in
    let same = ap (λ n. n == 1) (edition_alone octets total (omega arith) (there_message profile octets total is)) in
    ⊎_elim
    (λ (m : IsFirst octets (Accepted total)).
    first profile (take total octets) (same ∙ m.first_edition) ∙ ap judged (first_alone octets total m.edition_is m.verdict_is))
    (λ (m : IsOther profile octets (Accepted total)).
    other profile (take total octets) (same ∙ m.other_edition)
    ∙ ap judged (accepted_alone profile octets total (not_first octets m.other_edition) m.verdict_is))
    (message_judged profile octets total is)

-- fields are fewer than octets
few_sections : (turns : ℕ) (message : List ℕ) (q : ℕ) → length (sections_from turns message q) ≤ turns
few_sections zero message q = omega arith
few_sections (suc turns) message q =
    ⊎_elim
    (λ (ends : ends_at message q ≡ true).
    let e : length (sections_from (suc turns) message q) ≡ 0 =
    ap (λ b. length (choose b (λ _. []) (λ _. let s = section_at message q in placed_at q s ∷ sections_from turns message (q + length s)))) ends in
    omega arith)
    (λ (goes_on : ends_at message q ≡ false).
    let later = few_sections turns message (q + length (section_at message q)) in
    let e : length (sections_from (suc turns) message q) ≡ suc (length (sections_from turns message (q + length (section_at message q)))) =
    ap (λ b. length (choose b (λ _. []) (λ _. let s = section_at message q in placed_at q s ∷ sections_from turns message (q + length s)))) goes_on in
    omega arith)
    (cases_Bool (ends_at message q))

fields_first : (message : List ℕ) → (edition message == 1) ≡ true → fields_of message ≡ 1
fields_first message one = ap (λ b. choose b (λ _. 1) (λ _. field_count message)) one

pub fields_other : (message : List ℕ) → (edition message == 1) ≡ false → fields_of message ≡ field_count message
fields_other message not_one = ap (λ b. choose b (λ _. 1) (λ _. field_count message)) not_one

few_fields : (message : List ℕ) → 1 ≤ length message → fields_of message ≤ length message
few_fields message some =
    let few : field_count message ≤ length message =
    omega (arith, count_by-le-length (is_numbered 7) (sections_of message), few_sections (length message) message 17) in
    ⊎_elim
    (λ one. omega (arith, fields_first message one))
    (λ not_one. omega (arith, fields_other message not_one))
    (cases_Bool (edition message == 1))

-- an accepted message alone
pub head_none : (first : Option Fault) (next : Unit {0} → Verdict) (total : ℕ) → unless_refused first next ≡ Accepted total → first ≡ None
head_none None next total is = refl
head_none (Some fault) next total is = let no : ⊥ = cc in absurd no

pub message_alone : (profile : Profile) (rest : List ℕ) (total : ℕ) → begins rest ≡ true → IsOther profile rest (Accepted total) → IsMessageUnder profile (take total rest)
message_alone profile rest total begun m =
    let other = not_first rest m.other_edition in
    let least : 20 ≤ total = accepted_least profile rest total other m.verdict_is in
    let there : total ≤ length rest = accepted_there profile rest total other m.verdict_is in
    let size : length (take total rest) ≡ total = length-take-le total rest there in
    let head = head_none (first_fault (head_rules rest)) _ total m.verdict_is in
    let second : edition rest ≡ 2 = (head_passes rest other (passes_from_none (head_rules rest) head)).second_edition in
    record {
      indicated = sym (take-append-le 4 (take total rest) (drop total rest) (omega arith)) ∙ (ap (take 4) (take-append-drop total rest) ∙ begins_is rest begun);
      edition_stands = edition_alone rest total (omega arith) there ∙ second;
      accepted = accepted_alone profile rest total other m.verdict_is ∙ ap Accepted (sym size);
    }

pub first_alone_message : (rest : List ℕ) (total : ℕ) → begins rest ≡ true → IsFirst rest (Accepted total) → IsMessage1 (take total rest)
first_alone_message rest total begun m =
    let least : 12 ≤ total = first_least rest total m.edition_is m.verdict_is in
    let there : total ≤ length rest = first_there rest total m.edition_is m.verdict_is in
    let size : length (take total rest) ≡ total = length-take-le total rest there in
    record {
      indicated = sym (take-append-le 4 (take total rest) (drop total rest) (omega arith)) ∙ (ap (take 4) (take-append-drop total rest) ∙ begins_is rest begun);
      edition_stands = edition_alone rest total (omega arith) there ∙ m.edition_is;
      accepted = first_alone rest total m.edition_is m.verdict_is ∙ ap Accepted (sym size);
    }

-- what is given, by the edition
given_first : (command : Command) (place : Place) (message : List ℕ) → (edition message == 1) ≡ true → given command place message ≡ command.first place message
given_first command place message one = ap (λ b. choose b (λ _. command.first place message) (λ _. command.second place message)) one

given_other : (command : Command) (place : Place) (message : List ℕ) → (edition message == 1) ≡ false → given command place message ≡ command.second place message
given_other command place message not_one = ap (λ b. choose b (λ _. command.first place message) (λ _. command.second place message)) not_one

few_given : (command : Command) → IsLawfulCommand command → (place : Place) (octets : List ℕ) (total : ℕ) (acts : List Act) (written : ℕ) → begins octets ≡ true
    → judge_under command.profile octets ≡ Message total → given command place (take total octets) ≡ Gives acts written → 20 * written ≤ MOST_OCTETS * total
few_given command law place octets total acts written begun is gives =
    let message = take total octets in
    let least = least_message command.profile octets total is in
    let there = there_message command.profile octets total is in
    let size : length message ≡ total = length-take-le total octets there in
    let same = ap (λ n. n == 1) (edition_alone octets total (omega arith) there) in
    ⊎_elim
    (λ (m : IsFirst octets (Accepted total)).
    let few = law.few_first place message acts written (first_alone_message octets total begun m) (sym (given_first command place message (same ∙ m.first_edition)) ∙ gives) in
    omega arith)
    (λ (m : IsOther command.profile octets (Accepted total)).
    let few = law.few_second place message acts written (any_message command.profile message (message_alone command.profile octets total begun m)) (sym (given_other command place message (same ∙ m.other_edition)) ∙ gives) in
    omega arith)
    (message_judged command.profile octets total is)

ends_given : (command : Command) → IsLawfulCommand command → (place : Place) (message : List ℕ) (outcome : Outcome) → given command place message ≡ Ends outcome
    → is_of_message outcome ≡ true
ends_given command law place message outcome is =
    ⊎_elim
    (λ one. law.ends_first place message outcome (sym (given_first command place message one) ∙ is))
    (λ not_one. law.ends_second place message outcome (sym (given_other command place message not_one) ∙ is))
    (cases_Bool (edition message == 1))

pub lawful : (command : Command) → IsLawfulCommand command → IsLawful (task command)
lawful command law = record {
  message_stays = message_stays command.profile;
  refusal_stays = refusal_stays command.profile;
  least = λ octets total is. omega (arith, least_message command.profile octets total is);
  there = there_message command.profile;
  alone = alone command.profile;
  few_fields = λ octets total is.
      let size = length-take-le total octets (there_message command.profile octets total is) in
      let some : 1 ≤ length (take total octets) = omega (arith, least_message command.profile octets total is) in
      omega (arith, few_fields (take total octets) some);
  few_written = few_given command law;
  ends_at_message = ends_given command law;
}
