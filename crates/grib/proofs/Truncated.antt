-- Where as many octets are there as they state, none is refused for the end of the octets.
use Rattle.std.proofs.Common.{◌≡◌, ◌≢◌, ℕ, zero, suc, ◌+◌, ◌-◌, ◌<◌, ◌≤◌, Bool, true, false, cond, not, ◌&&◌, ◌==◌, nat_lt, Option, None, Some, List, [], ◌∷◌, length, refl, sym, ap, ◌∙◌, ◌⊎◌, inl, inr, arith, subst, le-ltb, ltb-false, eq-eqb, ⊎_elim}
use Rattle.std.proofs.lemmas.Bool.{false≢true, or_parts}
use Rattle.grib_bits.specs.Octets.{octets}
use Rattle.grib_base.specs.declared.profile.Profile.{Profile}
use Rattle.grib_base.specs.declared.profile.Profile.TheVariants.{Stated}
use Rattle.grib_base.specs.declared.fault.Fault.{Fault}
use Rattle.grib_base.specs.declared.fault.Reason.TheVariants.{Truncated}
use Rattle.grib_base.specs.Rules.{Rule, first_fault, first_fault_at, located, choose, or_later}
use Rattle.grib2_sections.specs.Verdict.{Verdict, Accepted, Refused}
use Rattle.grib2_sections.specs.Head.{edition, discipline, total_length, total_length_1, head_rules, head_of}
use Rattle.grib2_sections.specs.declared.indicator.Head.{Head}
use Rattle.grib2_sections.specs.Frame.{Placed, placed_at, section_at, ends_at, mark_rules, frame_rules, Step, End, Fails, Next, step, unless_fails}
use Rattle.grib2_message.specs.View.{last_number}
use Rattle.grib2_message.specs.Acceptance.{section_fault_under, unless_refused, verdict_at, verdict_from, verdict_under}
use Rattle.grib2_message.proofs.Passed.{passes_from_none}
use Rattle.grib2_message.proofs.Walk.{stands}
use Rattle.grib1_sections.specs.Frame.{frame_rules as frame_1_rules, section_at as section_1_at, end_rules}
use Rattle.grib1_sections.specs.Identification.{identification_rules}
use Rattle.grib1_sections.specs.Grid.{grid_rules}
use Rattle.grib1_sections.specs.Bitmap.{bitmap_rules}
use Rattle.grib1_sections.specs.Data.{data_rules}
use Rattle.grib1_sections.specs.Acceptance.{section_fault, bitmap_fault, sections_fault, message_fault, verdict_by, verdict_1, has_bitmap, grid_start, bitmap_start, data_start, end_start, points_of, values_of}
use Rattle.grib1_sections.proofs.Parts.{whole_from_none, bitmap_whole, head_first}
use Rattle.grib1_sections.proofs.Places.{grid_start-is, bitmap_start-is, data_start-flagged, data_start-plain, end_start-is}
use Rattle.grib_stream.specs.Stream.{Faulty}
use Rattle.grib_stream.specs.Outcomes.{is_truncated}
use Rattle.grib_command.specs.Judging.{judge}
use Rattle.grib_items.proofs.Heads.{and_off}
use Rattle.grib_dispatch.specs.Lawful.{IsFirst, IsOther as IsOtherEdition, not_first, refusal_judged}
use Rattle.grib_dispatch.proofs.HeardMessages.{not_truncated}
use Rattle.grib2_message.proofs.Ways.{given}
use Rattle.grib2_message.proofs.Whole.{head_passes}
use Rattle.grib2_arrival.proofs.Reasons.{IsOther, end_other, section_other, other_reason}

-- ---- rules

rule_off : (b : Bool) (fault : Fault) (later : Option Fault) → b ≡ false → IsOther later → IsOther (cond b (Some fault) later)
rule_off true fault later off other = absurd (false≢true (sym off))
rule_off false fault later off other = other

-- each rule does not fail, or fails for another reason
abbrev Passed : List Rule → Type 0
Passed [] = Unit {0}
Passed (r ∷ rules) = ((r.fails ≡ false) ⊎ (is_truncated r.fault.reason ≡ false)) × (r.fails ≡ false → Passed rules)

by_rule : (b : Bool) (fault : Fault) (later : Option Fault) → (b ≡ false) ⊎ (is_truncated fault.reason ≡ false) → (b ≡ false → IsOther later) → IsOther (cond b (Some fault) later)
by_rule true fault later (inl off) more = absurd (false≢true (sym off))
by_rule true fault later (inr plain) more = λ e. false≢true (sym plain ∙ ap is_truncated e)
by_rule false fault later either more = more refl

rules_passed : (rules : List Rule) → Passed rules → IsOther (first_fault rules)
rules_passed [] passed = tt
rules_passed (r ∷ rules) passed = by_rule r.fails r.fault (first_fault rules) passed.0 (λ off. rules_passed rules (passed.1 off))

-- ---- edition 2

mark_other : (m : List ℕ) (total last q : ℕ) → q + 3 ≤ length m → IsOther (first_fault (mark_rules m total last q))
mark_other m total last q there =
    rule_off (nat_lt (length m) (q + 3)) _ _ (le-ltb (length m) (q + 3) there)
    (end_other (record { total = total; place = q; last = last }) (octets m q (q + 3)))

frame_other : (m : List ℕ) (total last q : ℕ) → q + 4 ≤ length m → total ≤ length m → IsOther (first_fault (frame_rules m total last q))
frame_other m total last q there whole =
    let l : ℕ = octets m q (q + 3) in
    rules_passed (frame_rules m total last q) (
      inl (le-ltb (length m) (q + 4) there),
      λ _. (
        inr refl,
        λ fits. (
          inr refl,
          λ follows.
              let room : q - 1 + l + 4 ≤ total = ltb-false total (q - 1 + l + 4) (or_parts (nat_lt l 5) (nat_lt total (q - 1 + l + 4)) fits).1 in
              (inl (le-ltb (length m) (q - 1 + l) (omega arith)), λ _. tt),
        ),
      ),
    )

-- a step that refuses nothing for the end of the octets
abbrev IsStep : Step → Type 0
IsStep End = Unit {0}
IsStep (Fails fault) = fault.reason ≢ Truncated
IsStep (Next s) = Unit {0}

by_parts : (mark : Option Fault) (ends : Bool) (frame : Option Fault) (s : List ℕ) → IsOther mark → (mark ≡ None → ends ≡ false → IsOther frame)
    → IsStep (unless_fails mark (λ _. choose ends (λ _. End) (λ _. unless_fails frame (λ _. Next s))))
by_parts (Some fault) ends frame s marked framed = marked
by_parts None true frame s marked framed = tt
by_parts None false (Some fault) s marked framed = framed refl refl
by_parts None false None s marked framed = tt

not_here : (ends here : Bool) → (not ends && here) ≡ false → ends ≡ false → here ≡ false
not_here true here off none = absurd (false≢true (sym none))
not_here false here off none = off

step_other : (m : List ℕ) (total last q : ℕ) → q + 3 ≤ total → total ≤ length m → IsStep (step m total last q)
step_other m total last q room whole =
    by_parts (first_fault (mark_rules m total last q)) (ends_at m q) (first_fault (frame_rules m total last q)) (section_at m q)
    (mark_other m total last q (omega arith))
    (λ marked goes.
    let p = passes_from_none (mark_rules m total last q) marked in
    let off : (q + 3 == total) ≡ false = not_here (ends_at m q) (q + 3 == total) p.1.1.1.0 goes in
    let other : q + 3 ≢ total = λ e. false≢true (sym off ∙ eq-eqb (q + 3) total e) in
    frame_other m total last q (omega arith) whole)

abbrev IsVerdict : Verdict → Type 0
IsVerdict (Accepted total) = Unit {0}
IsVerdict (Refused fault) = fault.reason ≢ Truncated

unless_other : (fault : Option Fault) (next : Unit {0} → Verdict) → IsOther fault → (fault ≡ None → IsVerdict (next tt)) → IsVerdict (unless_refused fault next)
unless_other (Some fault) next other later = other
unless_other None next other later = later refl

at_other : (profile : Profile) (before : List Placed) (q total : ℕ) (at : Step) (next : List ℕ → Verdict) → IsStep at
    → ((s : List ℕ) → at ≡ Next s → section_fault_under profile before (placed_at q s) ≡ None → IsVerdict (next s)) → IsVerdict (verdict_at profile before q total at next)
at_other profile before q total End next other later = tt
at_other profile before q total (Fails fault) next other later = other
at_other profile before q total (Next s) next other later =
    unless_other (section_fault_under profile before (placed_at q s)) (λ _. next s) (section_other profile before (placed_at q s)) (λ none. later s refl none)

walk_other : (profile : Profile) (turns : ℕ) (m : List ℕ) (before : List Placed) (q : ℕ) → 1 ≤ q → q + 3 ≤ total_length m → total_length m ≤ length m → length m < q + turns
    → IsVerdict (verdict_from profile turns m before q)
walk_other profile zero m before q low room whole turns_left = absurd (omega arith)
walk_other profile (suc turns) m before q low room whole turns_left =
    at_other profile before q (total_length m) (step m (total_length m) (last_number before) q) _ (step_other m (total_length m) (last_number before) q room whole)
    (λ s is none.
    let g = given m (total_length m) (last_number before) q s is in
    let contents : section_fault_under profile before (placed_at q (section_at m q)) ≡ None =
    subst (λ x. section_fault_under profile before (placed_at q x) ≡ None) g.octets_are none in
    let st = stands profile m before q (total_length m) low g.frame contents in
    let long : length s ≡ octets m q (q + 3) = ap length g.octets_are ∙ st.as_long in
    let least = g.frame.least in
    let fits = g.frame.room in
    walk_other profile turns m (placed_at q s ∷ before) (q + length s) (omega arith) (omega arith) whole (omega arith))

none_other : (fault : Option Fault) → fault ≡ None → IsOther fault
none_other None is = tt
none_other (Some fault) is = cc

second_whole : (profile : Profile) (m : List ℕ) (fault : Fault) → edition m ≢ 1 → first_fault (head_rules m) ≡ None → total_length m ≤ length m
    → verdict_under profile m ≡ Refused fault → fault.reason ≢ Truncated
second_whole profile m fault other none whole is =
    let p = head_passes m other (passes_from_none (head_rules m) none) in
    let all : IsVerdict (verdict_under profile m) =
    unless_other (first_fault (head_rules m)) (λ _. verdict_from profile (length m + 1) m [] 17) (none_other (first_fault (head_rules m)) none)
    (λ _. walk_other profile (length m + 1) m [] 17 (omega arith) (omega (arith, p.least)) whole (omega arith)) in
    subst IsVerdict is all

-- ---- edition 1

or_other : (first : Option Fault) (later : Unit {0} → Option Fault) → IsOther first → (first ≡ None → IsOther (later tt)) → IsOther (or_later first later)
or_other (Some fault) later other more = other
or_other None later other more = more refl

located_other : (start : ℕ) (fault : Option Fault) → IsOther fault → IsOther (located start fault)
located_other start None other = tt
located_other start (Some fault) other = other

section_1 : (m : List ℕ) (q least : ℕ) (rules : List ℕ → List Rule) → q + 2 ≤ length m → total_length_1 m ≤ length m → IsOther (first_fault (rules (section_1_at m q)))
    → IsOther (section_fault m q least rules)
section_1 m q least rules there whole other =
    let l : ℕ = octets m q (q + 2) in
    or_other (first_fault (frame_1_rules m q least)) (λ _. first_fault_at q (rules (section_1_at m q)))
    (rules_passed (frame_1_rules m q least) (
      inl (le-ltb (length m) (q + 2) there),
      λ _. (
        inr refl,
        λ fits.
            let room : q - 1 + l + 4 ≤ total_length_1 m = ltb-false (total_length_1 m) (q - 1 + l + 4) (or_parts (nat_lt l least) (nat_lt (total_length_1 m) (q - 1 + l + 4)) fits).1 in
            (inl (le-ltb (length m) (q - 1 + l) (omega arith)), λ _. tt),
      ),
    ))
    (λ none. located_other q (first_fault (rules (section_1_at m q))) other)

identification_other : (s : List ℕ) → IsOther (first_fault (identification_rules s))
identification_other s = rules_passed (identification_rules s) (inr refl, λ _. tt)

grid_other : (s : List ℕ) → IsOther (first_fault (grid_rules s))
grid_other s = rules_passed (grid_rules s) (inr refl, λ _. (inr refl, λ _. (inr refl, λ _. (inr refl, λ _. (inr refl, λ _. (inr refl, λ _. (inr refl, λ _. tt)))))))

bitmap_other : (points : ℕ) (s : List ℕ) → IsOther (first_fault (bitmap_rules points s))
bitmap_other points s = rules_passed (bitmap_rules points s) (inr refl, λ _. (inr refl, λ _. tt))

data_other : (present : ℕ) (s : List ℕ) → IsOther (first_fault (data_rules present s))
data_other present s = rules_passed (data_rules present s) (inr refl, λ _. (inr refl, λ _. (inr refl, λ _. (inr refl, λ _. (inr refl, λ _. tt)))))

end_other_1 : (m : List ℕ) (q : ℕ) → q + 3 ≤ length m → IsOther (first_fault (end_rules m q))
end_other_1 m q there = rules_passed (end_rules m q) (inl (le-ltb (length m) (q + 3) there), λ _. (inr refl, λ _. (inr refl, λ _. tt)))

-- the bitmap, where it is flagged, and where Section 4 then begins
bitmap_section : (m : List ℕ) (b : Bool) → has_bitmap m ≡ b → bitmap_start m + 3 ≤ total_length_1 m → total_length_1 m ≤ length m → IsOther (bitmap_fault m)
bitmap_section m true on room whole =
    subst (λ b. IsOther (choose b (λ _. section_fault m (bitmap_start m) 6 (bitmap_rules (points_of m))) (λ _. None))) (sym on)
    (section_1 m (bitmap_start m) 6 (bitmap_rules (points_of m)) (omega arith) whole (bitmap_other (points_of m) (section_1_at m (bitmap_start m))))
bitmap_section m false off room whole =
    subst (λ b. IsOther (choose b (λ _. section_fault m (bitmap_start m) 6 (bitmap_rules (points_of m))) (λ _. None))) (sym off) tt

data_room : (m : List ℕ) (b : Bool) → has_bitmap m ≡ b → 1 ≤ bitmap_start m → bitmap_start m + 3 ≤ total_length_1 m → bitmap_fault m ≡ None
    → (1 ≤ data_start m) × (data_start m + 3 ≤ total_length_1 m)
data_room m true on low room none =
    let w = bitmap_whole m none on in
    let at = data_start-flagged m on in
    let fits = w.room in
    (omega (arith, at), omega (arith, at, fits))
data_room m false off low room none = let at = data_start-plain m off in (omega (arith, at), omega (arith, at))

sections_1 : (m : List ℕ) → 12 ≤ total_length_1 m → total_length_1 m ≤ length m → IsOther (sections_fault m)
sections_1 m least whole =
    or_other (section_fault m 9 28 identification_rules) _
    (section_1 m 9 28 identification_rules (omega arith) whole (identification_other (section_1_at m 9)))
    (λ first.
    let w_1 = whole_from_none m 9 28 identification_rules first in
    let room_1 = w_1.room in
    let grid_at = grid_start-is m in
    let grid_room : grid_start m + 3 ≤ total_length_1 m = omega (arith, grid_at, room_1) in
    let grid_low : 1 ≤ grid_start m = omega (arith, grid_at) in
    or_other (section_fault m (grid_start m) 6 grid_rules) _
    (section_1 m (grid_start m) 6 grid_rules (omega arith) whole (grid_other (section_1_at m (grid_start m))))
    (λ second.
    let w_2 = whole_from_none m (grid_start m) 6 grid_rules second in
    let room_2 = w_2.room in
    let bitmap_at = bitmap_start-is m in
    let bitmap_room : bitmap_start m + 3 ≤ total_length_1 m = omega (arith, bitmap_at, room_2, grid_low) in
    let bitmap_low : 1 ≤ bitmap_start m = omega (arith, bitmap_at, grid_low) in
    or_other (bitmap_fault m) _ (bitmap_section m (has_bitmap m) refl bitmap_room whole)
    (λ third.
    let data_at = data_room m (has_bitmap m) refl bitmap_low bitmap_room third in
    let data_low : 1 ≤ data_start m = data_at.0 in
    let data_fits : data_start m + 3 ≤ total_length_1 m = data_at.1 in
    or_other (section_fault m (data_start m) 11 (data_rules (values_of m))) _
    (section_1 m (data_start m) 11 (data_rules (values_of m)) (omega arith) whole (data_other (values_of m) (section_1_at m (data_start m))))
    (λ fourth.
    let w_4 = whole_from_none m (data_start m) 11 (data_rules (values_of m)) fourth in
    let room_4 = w_4.room in
    let end_at = end_start-is m in
    end_other_1 m (end_start m) (omega (arith, end_at, room_4, data_low))))))

by_total : (found : Option Fault) (total : ℕ) (fault : Fault) → verdict_by found total ≡ Refused fault → found ≡ Some fault
by_total None total fault is = cc
by_total (Some other) total fault is = let same : other ≡ fault = cc in ap Some same

first_whole : (m : List ℕ) (fault : Fault) → edition m ≡ 1 → first_fault (head_rules m) ≡ None → total_length_1 m ≤ length m
    → verdict_1 m ≡ Refused fault → fault.reason ≢ Truncated
first_whole m fault first none whole is =
    let head = head_first m first none in
    other_reason (message_fault m) fault
    (or_other (first_fault (head_rules m)) (λ _. sections_fault m) (none_other (first_fault (head_rules m)) none) (λ _. sections_1 m head.1 whole))
    (by_total (message_fault m) (total_length_1 m) fault is)

-- ---- by the edition

total_first : (m : List ℕ) → (edition m == 1) ≡ true → (head_of m).total ≡ total_length_1 m
total_first m one =
    ap (λ b. (cond {A = Head} b (record { edition = 1; discipline = 0; total = total_length_1 m }) (record { edition = 2; discipline = discipline m; total = total_length m })).total) one

total_second : (m : List ℕ) → (edition m == 1) ≡ false → (head_of m).total ≡ total_length m
total_second m other =
    ap (λ b. (cond {A = Head} b (record { edition = 1; discipline = 0; total = total_length_1 m }) (record { edition = 2; discipline = discipline m; total = total_length m })).total) other

pub refused_whole : (m : List ℕ) (fault : Fault) → first_fault (head_rules m) ≡ None → (head_of m).total ≤ length m → judge m ≡ Faulty fault → is_truncated fault.reason ≡ false
refused_whole m fault none whole is =
    ⊎_elim
    (λ (one : IsFirst m (Refused fault)).
    let stated : (head_of m).total ≡ total_length_1 m = total_first m one.first_edition in
    not_truncated fault.reason (first_whole m fault one.edition_is none (omega (arith, stated, whole)) one.verdict_is))
    (λ (two : IsOtherEdition Stated m (Refused fault)).
    let stated : (head_of m).total ≡ total_length m = total_second m two.other_edition in
    not_truncated fault.reason (second_whole Stated m fault (not_first m two.other_edition) none (omega (arith, stated, whole)) two.verdict_is))
    (refusal_judged Stated m fault is)

-- ---- the rules of Section 0, where sixteen octets are there

pub head_closed : (octets : List ℕ) (fault : Fault) → 16 ≤ length octets → first_fault (head_rules octets) ≡ Some fault → is_truncated fault.reason ≡ false
head_closed octets fault long is =
    let few : nat_lt (length octets) 8 ≡ false = le-ltb (length octets) 8 (omega (arith, long)) in
    let whole : (edition octets == 2 && nat_lt (length octets) 16) ≡ false = and_off (edition octets == 2) (nat_lt (length octets) 16) (le-ltb (length octets) 16 long) in
    let other : IsOther (first_fault (head_rules octets)) = rules_passed (head_rules octets) (inl few, λ _. (inr refl, λ _. (inl whole, λ _. (inr refl, λ _. (inr refl, λ _. tt))))) in
    not_truncated fault.reason (other_reason (first_fault (head_rules octets)) fault other is)
