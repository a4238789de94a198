-- Octets of which it is known what they begin with, whatever follows them.
use Rattle.std.proofs.Common.{◌≡◌, ◌≢◌, ℕ, ◌+◌, ◌≤◌, ◌==◌, nat_lt, ltb-false, Bool, true, false, cond, Option, None, Some, List, [], ◌++◌, length, refl, sym, ap, ◌∙◌, subst, ⊎_elim, inl, inr}
use Rattle.std.proofs.lemmas.Bool.{false≢true}
use Rattle.grib_base.specs.declared.fault.Fault.{Fault}
use Rattle.grib_base.specs.declared.profile.Profile.TheVariants.{Stated}
use Rattle.grib_base.specs.declared.fault.Reason.{Reason}
use Rattle.grib_base.specs.declared.fault.Reason.TheVariants.{Truncated}
use Rattle.grib_base.specs.Rules.{first_fault, refusal, choose, or_later}
use Rattle.grib2_sections.specs.Head.{edition, total_length_1, head_rules, head_of}
use Rattle.grib2_message.specs.Acceptance.{unless_refused, verdict_from, verdict_under}
use Rattle.grib1_sections.specs.Acceptance.{sections_fault, verdict_by, verdict_1}
use Rattle.grib_stream.specs.Stream.{Judgement, Message, Faulty}
use Rattle.grib_stream.specs.Outcomes.{is_truncated}
use Rattle.grib_items.specs.Next.{is_ended, passed_by, passed}
use Rattle.grib_items.proofs.Heads.{passed_here, passed_stays, stated_long}
use Rattle.grib_command.specs.Judging.{judged, judge}
use Rattle.grib2_sections.specs.Verdict.{Verdict, Refused}
use Rattle.grib1_sections.proofs.Stays.{refused_stays as first_refused_stays}
use Rattle.grib2_message.proofs.Stays.{refused_stays}
use Rattle.grib_dispatch.specs.Lawful.{IsFirst, IsOther, message_stays, other, not_first, same_edition, refusal_judged}
use Rattle.grib.specs.There.{IsThere}
use Rattle.grib.proofs.Truncated.{refused_whole}

-- ---- a refusal that is not for the end of the octets stays

reason_other : (reason : Reason) → is_truncated reason ≡ false → reason ≢ Truncated
reason_other reason closed e = false≢true (sym closed ∙ ap is_truncated e)

first_judged : (octets : List ℕ) → (edition octets == 1) ≡ true → judge octets ≡ judged (verdict_1 octets)
first_judged octets is = ap (λ b. choose b (λ _. judged (verdict_1 octets)) (λ _. judged (verdict_under Stated octets))) is

still : (octets more : List ℕ) (b : Bool) → 8 ≤ length octets → (edition octets == 1) ≡ b → (edition (octets ++ more) == 1) ≡ b
still octets more b there is = ap (λ n. n == 1) (same_edition octets more there) ∙ is

refusal_stays : (octets more : List ℕ) (fault : Fault) → 8 ≤ length octets → judge octets ≡ Faulty fault → is_truncated fault.reason ≡ false → judge (octets ++ more) ≡ Faulty fault
refusal_stays octets more fault long is closed =
    ⊎_elim
    (λ (one : IsFirst octets (Refused fault)).
    first_judged (octets ++ more) (still octets more true long one.first_edition)
    ∙ ap judged (first_refused_stays octets more fault one.edition_is one.verdict_is (reason_other fault.reason closed)))
    (λ (two : IsOther Stated octets (Refused fault)).
    other Stated (octets ++ more) (still octets more false long two.other_edition)
    ∙ ap judged (refused_stays Stated octets more fault (not_first octets two.other_edition) two.verdict_is (reason_other fault.reason closed)))
    (refusal_judged Stated octets fault is)

-- octets whose length is there, or whose Section 0 is refused not for their end, are eight at least
not_short : (b : Bool) (octets : List ℕ) (head : Fault) (later : Option Fault) → cond b (Some (refusal (length octets + 1) Truncated (length octets))) later ≡ Some head
    → is_truncated head.reason ≡ false → b ≡ false
not_short true octets head later is closed =
    let same : refusal (length octets + 1) Truncated (length octets) ≡ head = cc in
    absurd (false≢true (sym closed ∙ sym (ap (λ (f : Fault). is_truncated f.reason) same)))
not_short false octets head later is closed = refl

refused_long : (octets : List ℕ) (head : Fault) → first_fault (head_rules octets) ≡ Some head → is_truncated head.reason ≡ false → 8 ≤ length octets
refused_long octets head is closed = ltb-false (length octets) 8 (not_short (nat_lt (length octets) 8) octets head _ is closed)

long_there : (octets : List ℕ) → IsThere octets → 8 ≤ length octets
long_there octets (inl (none, whole)) = stated_long octets none
long_there octets (inr (head, refused, closed)) = refused_long octets head refused closed

-- the judgement stays
judged_by : (octets later : List ℕ) (j : Judgement) → 8 ≤ length octets → judge octets ≡ j → ((fault : Fault) → j ≡ Faulty fault → is_truncated fault.reason ≡ false) → judge (octets ++ later) ≡ j
judged_by octets later (Message total) long is closed = message_stays Stated octets later total is
judged_by octets later (Faulty fault) long is closed = refusal_stays octets later fault long is (closed fault refl)

unless_is : (found : Option Fault) (head : Fault) (next : Unit {0} → Verdict) → found ≡ Some head → unless_refused found next ≡ Refused head
unless_is found head next is = ap (λ f. unless_refused f next) is

by_is : (found : Option Fault) (head : Fault) (later : Unit {0} → Option Fault) (total : ℕ) → found ≡ Some head → verdict_by (or_later found later) total ≡ Refused head
by_is found head later total is = ap (λ f. verdict_by (or_later f later) total) is

head_judged_by : (octets : List ℕ) (head : Fault) (b : Bool) → (edition octets == 1) ≡ b → first_fault (head_rules octets) ≡ Some head → judge octets ≡ Faulty head
head_judged_by octets head true one refused =
    let verdict : verdict_1 octets ≡ Refused head = by_is (first_fault (head_rules octets)) head (λ _. sections_fault octets) (total_length_1 octets) refused in
    first_judged octets one ∙ ap judged verdict
head_judged_by octets head false not_one refused =
    let verdict : verdict_under Stated octets ≡ Refused head =
    unless_is (first_fault (head_rules octets)) head (λ _. verdict_from Stated (length octets + 1) octets [] 17) refused in
    other Stated octets not_one ∙ ap judged verdict

head_judged : (octets : List ℕ) (head : Fault) → first_fault (head_rules octets) ≡ Some head → judge octets ≡ Faulty head
head_judged octets head refused = head_judged_by octets head (edition octets == 1) refl refused

closed_there : (octets : List ℕ) → IsThere octets → (fault : Fault) → judge octets ≡ Faulty fault → is_truncated fault.reason ≡ false
closed_there octets (inl (none, whole)) fault is = refused_whole octets fault none whole is
closed_there octets (inr (head, refused, closed)) fault is =
    let same : Faulty head ≡ Faulty fault = sym (head_judged octets head refused) ∙ is in
    subst (λ (f : Fault). is_truncated f.reason ≡ false) (let e : head ≡ fault = cc in e) closed

pub judge_stays : (octets later : List ℕ) → IsThere octets → judge (octets ++ later) ≡ judge octets
judge_stays octets later there = judged_by octets later (judge octets) (long_there octets there) refl (λ fault is. closed_there octets there fault is)

-- and so does how far it is skipped
passed_by_head : (octets : List ℕ) (n : ℕ) → IsThere octets → passed false octets ≡ Some n → passed true octets ≡ Some n
passed_by_head octets n (inl (none, whole)) is =
    passed_here true octets (head_of octets).total (is_ended (head_of octets).total octets) none refl whole refl
    ∙ (sym (passed_here false octets (head_of octets).total (is_ended (head_of octets).total octets) none refl whole refl) ∙ is)
passed_by_head octets n (inr (head, refused, closed)) is =
    ap (passed_by true octets) refused ∙ (ap (λ b. cond b None (Some 4)) closed ∙ (sym (ap (passed_by false octets) refused) ∙ is))

pub passed_settled : (octets later : List ℕ) (n : ℕ) → IsThere octets → passed false octets ≡ Some n → passed false (octets ++ later) ≡ Some n
passed_settled octets later n there is = passed_stays false n octets later (passed_by_head octets n there is)
