-- What is said of octets stays said whatever follows them, unless they end too early.
use Rattle.std.proofs.Common.{◌≡◌, ◌≢◌, ℕ, zero, suc, ◌+◌, ◌-◌, ◌≤◌, Bool, true, false, not, cond, ◌&&◌, ◌||◌, ◌⊎◌, Option, Some, None, List, [], ◌∷◌, ◌++◌, length, take, nat_lt, ◌==◌, inl, inr, refl, sym, ap, ◌∙◌, arith, length-append, length-take-le, take_at, ltb-false, le-ltb, ne_eqb}
use Rattle.std.proofs.lemmas.Bool.{and_right, not-false, not_from_false}
use Rattle.grib_bits.specs.Octets.{num_on, octets, octet_list}
use Rattle.grib_bits.proofs.Counted.{list_of_front}
use Rattle.grib_base.specs.declared.profile.Profile.{Profile}
use Rattle.grib_base.specs.declared.fault.Fault.{Fault}
use Rattle.grib_base.specs.declared.fault.Reason.TheVariants.{Truncated, Edition, TotalLength, SectionLength, SectionOrder, LengthDisagrees, EndMark}
use Rattle.grib_base.specs.Rules.{rule, refusal, first_fault, choose}
use Rattle.grib2_sections.specs.Verdict.{Verdict, Accepted, Refused}
use Rattle.grib2_sections.specs.Head.{edition, total_length, total_length_1, head_rules}
use Rattle.grib2_sections.specs.Frame.{Placed, placed_at, section_at, ends_at, may_follow, may_end, mark_rules, frame_rules, Step, End, Fails, Next, unless_fails, step}
use Rattle.grib2_message.specs.View.{last_number}
use Rattle.grib2_message.specs.Acceptance.{section_fault_under, unless_refused, verdict_at, verdict_from, verdict_under}
use Rattle.grib2_message.proofs.Passed.{passes_from_none}
use Rattle.grib2_message.proofs.Walk.{second_fails, frame_passes, mark_passes}
use Rattle.grib2_message.proofs.Whole.{head_passes}

-- ---- octets that stand

-- the octets of u stand at the front of w
pub record IsFront (u w : List ℕ) : Type 0 where
  pub longer : length u ≤ length w
  pub lists : (first last : ℕ) → 1 ≤ first → first ≤ last → last ≤ length u → octet_list w first last ≡ octet_list u first last

pub front_of_more : (u more : List ℕ) → IsFront u (u ++ more)
front_of_more u more = record {
  longer = omega (arith, length-append u more);
  lists = λ first last low order within.
      sym (list_of_front (u ++ more) (length u) first last low order within)
      ∙ ap (λ xs. octet_list xs first last) (take_at u more (length u) refl);
}

-- a front of n octets
pub front_of : (m : List ℕ) (n : ℕ) → n ≤ length m → IsFront (take n m) m
front_of m n within =
    let long : length (take n m) ≡ n = length-take-le n m within in
    record {
      longer = omega arith;
      lists = λ first last low order inside. sym (list_of_front m n first last low order (let e : last ≤ n = omega (arith, inside, long) in e));
    }

pub same_octets : (u w : List ℕ) (first last : ℕ) → IsFront u w → 1 ≤ first → first ≤ last → last ≤ length u → octets w first last ≡ octets u first last
same_octets u w first last h low order within = ap (num_on 0) (h.lists first last low order within)

-- a section that stands whole
pub same_section : (u w : List ℕ) (q : ℕ) → IsFront u w → 1 ≤ q → q + 3 ≤ length u → 1 ≤ octets u q (q + 3) → q - 1 + octets u q (q + 3) ≤ length u
    → section_at w q ≡ section_at u q
same_section u w q h low there some whole =
    ap (λ l. octet_list w q (q - 1 + l)) (same_octets u w q (q + 3) h low (omega arith) there)
    ∙ h.lists q (q - 1 + octets u q (q + 3)) low (omega arith) whole

-- ---- a refusal that asks for more, or the same

abbrev pub IsTruncated : Option Fault → Type 0
IsTruncated None = ⊥
IsTruncated (Some fault) = fault.reason ≡ Truncated

abbrev pub Kept : Option Fault → Option Fault → Type 0
Kept fault later = IsTruncated fault ⊎ (later ≡ fault)

-- a rule that asks for more
cut_rule : (a b : Bool) (f g : Fault) (x y : Option Fault) → f.reason ≡ Truncated → (a ≡ false → (b ≡ false) × Kept x y)
    → Kept (cond a (Some f) x) (cond b (Some g) y)
cut_rule true b f g x y cut later = inl cut
cut_rule false b f g x y cut later =
    let both = later refl in
    let off : b ≡ false = both.0 in
    rw off both.1

-- any other rule
kept_rule : (a b : Bool) (f g : Fault) (x y : Option Fault) → b ≡ a → g ≡ f → (a ≡ false → Kept x y)
    → Kept (cond a (Some f) x) (cond b (Some g) y)
kept_rule true b f g x y same fault later = inr (rw same (ap Some fault))
kept_rule false b f g x y same fault later = rw same (later refl)

-- the rules of Section 0, where the edition is not 1
abbrev total_rules : ℕ → ℕ → ℕ → Option Fault
total_rules e total total_1 = first_fault (
    rule (e == 2 && (nat_lt total 20 || nat_lt 268435456 total)) 9 TotalLength total
    ∷ rule (e == 1 && nat_lt total_1 12) 5 TotalLength total_1
    ∷ [])

is_second : (e : ℕ) → e ≢ 1 → (not (e == 1) && not (e == 2)) ≡ false → (e == 2) ≡ true
is_second e other off =
    let first : (e == 1) ≡ false = ne_eqb e 1 other in
    not-false (e == 2) (second_fails (not (e == 1)) (not (e == 2)) off (not_from_false (e == 1) first))

pub head_kept : (u w : List ℕ) → IsFront u w → edition u ≢ 1 → Kept (first_fault (head_rules u)) (first_fault (head_rules w))
head_kept u w h other =
    cut_rule (nat_lt (length u) 8) (nat_lt (length w) 8) _ _ _ _ refl (λ pass.
    let eight : 8 ≤ length u = ltb-false (length u) 8 pass in
    let e : edition w ≡ edition u = same_octets u w 8 8 h (omega arith) (omega arith) eight in (
      le-ltb (length w) 8 (omega (arith, h.longer)),
      kept_rule (not (edition u == 1) && not (edition u == 2)) (not (edition w == 1) && not (edition w == 2)) _ _ _ _
          (ap (λ n. not (n == 1) && not (n == 2)) e) (ap (λ n. refusal 8 Edition n) e) (λ pass_2.
          let second : (edition u == 2) ≡ true = is_second (edition u) other pass_2 in
          cut_rule (edition u == 2 && nat_lt (length u) 16) (edition w == 2 && nat_lt (length w) 16) _ _ _ _ refl (λ pass_3.
          let sixteen : 16 ≤ length u = ltb-false (length u) 16 (second_fails (edition u == 2) (nat_lt (length u) 16) pass_3 second) in
          let t : total_length w ≡ total_length u = same_octets u w 9 16 h (omega arith) (omega arith) sixteen in
          let t_1 : total_length_1 w ≡ total_length_1 u = same_octets u w 5 7 h (omega arith) (omega arith) (omega arith) in (
            and_right (edition w == 2) (nat_lt (length w) 16) (le-ltb (length w) 16 (omega (arith, h.longer))),
            inr (ap (λ n. total_rules n (total_length w) (total_length_1 w)) e
                ∙ (ap (λ n. total_rules (edition u) n (total_length_1 w)) t ∙ ap (total_rules (edition u) (total_length u)) t_1)),
          ))),
    ))

-- the rules of a mark
abbrev after_mark : ℕ → ℕ → ℕ → ℕ → Option Fault
after_mark total last q mark = first_fault (
    rule ((mark == 926365495) && not (may_end last)) q SectionOrder 8
    ∷ rule ((mark == 926365495) && nat_lt (q + 3) total) (q + 4) LengthDisagrees (total - (q + 3))
    ∷ rule (not (mark == 926365495) && (q + 3 == total)) q EndMark mark
    ∷ [])

mark_kept : (u w : List ℕ) (total last q : ℕ) → IsFront u w → 1 ≤ q
    → Kept (first_fault (mark_rules u total last q)) (first_fault (mark_rules w total last q))
mark_kept u w total last q h low =
    cut_rule (nat_lt (length u) (q + 3)) (nat_lt (length w) (q + 3)) _ _ _ _ refl (λ pass. (
      le-ltb (length w) (q + 3) (omega (arith, h.longer, ltb-false (length u) (q + 3) pass)),
      inr (ap (after_mark total last q) (same_octets u w q (q + 3) h low (omega arith) (ltb-false (length u) (q + 3) pass))),
    ))

-- and of a frame
frame_kept : (u w : List ℕ) (total last q : ℕ) → IsFront u w → 1 ≤ q
    → Kept (first_fault (frame_rules u total last q)) (first_fault (frame_rules w total last q))
frame_kept u w total last q h low =
    let l : List ℕ → ℕ = λ m. octets m q (q + 3) in
    let number : List ℕ → ℕ = λ m. octets m (q + 4) (q + 4) in
    cut_rule (nat_lt (length u) (q + 4)) (nat_lt (length w) (q + 4)) _ _ _ _ refl (λ pass.
    let there : q + 4 ≤ length u = ltb-false (length u) (q + 4) pass in
    let same_l : octets w q (q + 3) ≡ octets u q (q + 3) = same_octets u w q (q + 3) h low (omega arith) (omega arith) in
    let same_number : octets w (q + 4) (q + 4) ≡ octets u (q + 4) (q + 4) = same_octets u w (q + 4) (q + 4) h (omega arith) (omega arith) there in (
      le-ltb (length w) (q + 4) (omega (arith, h.longer)),
      kept_rule (nat_lt (octets u q (q + 3)) 5 || nat_lt total (q - 1 + octets u q (q + 3) + 4)) (nat_lt (octets w q (q + 3)) 5 || nat_lt total (q - 1 + octets w q (q + 3) + 4)) _ _ _ _
          (ap (λ n. nat_lt n 5 || nat_lt total (q - 1 + n + 4)) same_l) (ap (λ n. refusal q SectionLength n) same_l) (λ pass_6.
          kept_rule (not (may_follow last (octets u (q + 4) (q + 4)))) (not (may_follow last (octets w (q + 4) (q + 4)))) _ _ _ _
          (ap (λ n. not (may_follow last n)) same_number) (ap (λ n. refusal (q + 4) SectionOrder n) same_number) (λ pass_7.
          cut_rule (nat_lt (length u) (q - 1 + octets u q (q + 3))) (nat_lt (length w) (q - 1 + octets w q (q + 3))) _ _ None None refl (λ pass_8. (
            le-ltb (length w) (q - 1 + octets w q (q + 3)) (omega (arith, h.longer, ltb-false (length u) (q - 1 + octets u q (q + 3)) pass_8)),
            inr refl,
          )))),
    ))

-- ---- one step

abbrev IsCutStep : Step → Type 0
IsCutStep End = ⊥
IsCutStep (Fails fault) = fault.reason ≡ Truncated
IsCutStep (Next s) = ⊥

abbrev KeptStep : Step → Step → Type 0
KeptStep at later = IsCutStep at ⊎ (later ≡ at)

parts_kept : (mark mark' : Option Fault) (ends ends' : Bool) (frame frame' : Option Fault) (s s' : List ℕ) → Kept mark mark'
    → (mark ≡ None → (ends' ≡ ends) × Kept frame frame') → (mark ≡ None → frame ≡ None → s' ≡ s)
    → KeptStep (unless_fails mark (λ _. choose ends (λ _. End) (λ _. unless_fails frame (λ _. Next s))))
    (unless_fails mark' (λ _. choose ends' (λ _. End) (λ _. unless_fails frame' (λ _. Next s'))))
parts_kept (Some f) mark' ends ends' frame frame' s s' (inl cut) more same = inl cut
parts_kept (Some f) mark' ends ends' frame frame' s s' (inr e) more same = inr (rw e)
parts_kept None mark' ends ends' frame frame' s s' (inl cut) more same = absurd cut
parts_kept None mark' true ends' frame frame' s s' (inr e) more same =
    let on : ends' ≡ true = (more refl).0 in
    inr (rw (e, on))
parts_kept None mark' false ends' (Some f) frame' s s' (inr e) more same =
    let off : ends' ≡ false = (more refl).0 in
    elim (more refl).1 [ inl cut ↦ inl cut | inr framed ↦ inr (rw (e, off, framed)) ]
parts_kept None mark' false ends' None frame' s s' (inr e) more same =
    let off : ends' ≡ false = (more refl).0 in
    let section : s' ≡ s = same refl refl in
    elim (more refl).1 [ inl cut ↦ absurd cut | inr framed ↦ inr (rw (e, off, framed, section)) ]

pub step_kept : (u w : List ℕ) (total last q : ℕ) → IsFront u w → 1 ≤ q → KeptStep (step u total last q) (step w total last q)
step_kept u w total last q h low =
    parts_kept (first_fault (mark_rules u total last q)) (first_fault (mark_rules w total last q)) (ends_at u q) (ends_at w q)
    (first_fault (frame_rules u total last q)) (first_fault (frame_rules w total last q)) (section_at u q) (section_at w q)
    (mark_kept u w total last q h low)
    (λ marked.
    let there = (mark_passes u total last q (passes_from_none (mark_rules u total last q) marked)).there in
    (ap (λ n. n == 926365495) (same_octets u w q (q + 3) h low (omega arith) there), frame_kept u w total last q h low))
    (λ marked framed.
    let there = (mark_passes u total last q (passes_from_none (mark_rules u total last q) marked)).there in
    let f = frame_passes u total last q (passes_from_none (frame_rules u total last q) framed) in
    same_section u w q h low there (omega (arith, f.least)) f.there)

-- ---- the verdict

abbrev pub IsCut : Verdict → Type 0
IsCut (Accepted total) = ⊥
IsCut (Refused fault) = fault.reason ≡ Truncated

abbrev pub KeptVerdict : Verdict → Verdict → Type 0
KeptVerdict said later = IsCut said ⊎ (later ≡ said)

kept_as : (said later same : Verdict) → KeptVerdict said later → same ≡ later → KeptVerdict said same
kept_as said later same (inl cut) e = inl cut
kept_as said later same (inr kept) e = inr (e ∙ kept)

unless_kept : (fault : Option Fault) (said later : Unit {0} → Verdict) → KeptVerdict (said tt) (later tt)
    → KeptVerdict (unless_refused fault said) (unless_refused fault later)
unless_kept (Some fault) said later h = inr refl
unless_kept None said later h = h

at_kept : (profile : Profile) (before : List Placed) (q total : ℕ) (at : Step) (next later : List ℕ → Verdict) → ((s : List ℕ) → KeptVerdict (next s) (later s))
    → KeptVerdict (verdict_at profile before q total at next) (verdict_at profile before q total at later)
at_kept profile before q total End next later h = inr refl
at_kept profile before q total (Fails fault) next later h = inr refl
at_kept profile before q total (Next s) next later h = unless_kept (section_fault_under profile before (placed_at q s)) (λ _. next s) (λ _. later s) (h s)

at_cut : (profile : Profile) (before : List Placed) (q total : ℕ) (at : Step) (next : List ℕ → Verdict) → IsCutStep at → IsCut (verdict_at profile before q total at next)
at_cut profile before q total End next cut = absurd cut
at_cut profile before q total (Fails fault) next cut = cut
at_cut profile before q total (Next s) next cut = absurd cut

walk_kept : (profile : Profile) (turns more : ℕ) (u w : List ℕ) (before : List Placed) (q : ℕ) → IsFront u w → 16 ≤ length u → 1 ≤ q → turns ≤ more
    → KeptVerdict (verdict_from profile turns u before q) (verdict_from profile more w before q)
walk_kept profile zero more u w before q h long low enough = inl refl
walk_kept profile (suc turns) zero u w before q h long low enough = absurd (omega arith)
walk_kept profile (suc turns) (suc more) u w before q h long low enough =
    let last = last_number before in
    let next : List ℕ → Verdict = λ s. verdict_from profile turns u (placed_at q s ∷ before) (q + length s) in
    let later : List ℕ → Verdict = λ s. verdict_from profile more w (placed_at q s ∷ before) (q + length s) in
    let total : total_length w ≡ total_length u = same_octets u w 9 16 h (omega arith) (omega arith) long in
    elim (step_kept u w (total_length u) last q h low) [
      | inl cut ↦ inl (at_cut profile before q (total_length u) (step u (total_length u) last q) next cut)
      | inr same ↦
          kept_as _ (verdict_at profile before q (total_length u) (step u (total_length u) last q) later) _
          (at_kept profile before q (total_length u) (step u (total_length u) last q) next later
          (λ s. walk_kept profile turns more u w (placed_at q s ∷ before) (q + length s) h long (omega arith) (omega arith)))
          (ap (λ t. verdict_at profile before q t (step w t last q) later) total
          ∙ ap (λ at. verdict_at profile before q (total_length u) at later) same)
    ]

head_then : (fault fault' : Option Fault) (said later : Unit {0} → Verdict) → Kept fault fault' → (fault ≡ None → KeptVerdict (said tt) (later tt))
    → KeptVerdict (unless_refused fault said) (unless_refused fault' later)
head_then (Some fault) fault' said later (inl cut) h = inl cut
head_then (Some fault) fault' said later (inr e) h = inr (rw e)
head_then None fault' said later (inl cut) h = absurd cut
head_then None fault' said later (inr e) h = rw e (h refl)

-- what is said of a front is said of the whole, unless it asks for more
pub verdict_kept : (profile : Profile) (u w : List ℕ) → IsFront u w → edition u ≢ 1 → KeptVerdict (verdict_under profile u) (verdict_under profile w)
verdict_kept profile u w h other =
    head_then (first_fault (head_rules u)) (first_fault (head_rules w))
    (λ _. verdict_from profile (length u + 1) u [] 17) (λ _. verdict_from profile (length w + 1) w [] 17)
    (head_kept u w h other)
    (λ passed.
    let p = head_passes u other (passes_from_none (head_rules u) passed) in
    walk_kept profile (length u + 1) (length w + 1) u w [] 17 h p.there (omega arith) (omega (arith, h.longer)))

stays_refused : (said later : Verdict) (fault : Fault) → KeptVerdict said later → said ≡ Refused fault → fault.reason ≢ Truncated → later ≡ Refused fault
stays_refused (Accepted total) later fault h e whole = cc
stays_refused (Refused found) later fault (inl cut) e whole =
    let same : found ≡ fault = cc in
    absurd (whole (sym (ap (λ f. f.reason) same) ∙ cut))
stays_refused (Refused found) later fault (inr kept) e whole = kept ∙ e

stays_accepted : (said later : Verdict) (total : ℕ) → KeptVerdict said later → said ≡ Accepted total → later ≡ Accepted total
stays_accepted (Refused fault) later total h e = cc
stays_accepted (Accepted found) later total (inl cut) e = absurd cut
stays_accepted (Accepted found) later total (inr kept) e = kept ∙ e

-- so a refusal that asks for no more stays
pub refused_stays : (profile : Profile) (u more : List ℕ) (fault : Fault) → edition u ≢ 1 → verdict_under profile u ≡ Refused fault → fault.reason ≢ Truncated
    → verdict_under profile (u ++ more) ≡ Refused fault
refused_stays profile u more fault other e whole =
    stays_refused (verdict_under profile u) (verdict_under profile (u ++ more)) fault (verdict_kept profile u (u ++ more) (front_of_more u more) other) e whole

-- and an acceptance stays
pub accepted_stays : (profile : Profile) (u more : List ℕ) (total : ℕ) → edition u ≢ 1 → verdict_under profile u ≡ Accepted total → verdict_under profile (u ++ more) ≡ Accepted total
accepted_stays profile u more total other e =
    stays_accepted (verdict_under profile u) (verdict_under profile (u ++ more)) total (verdict_kept profile u (u ++ more) (front_of_more u more) other) e
