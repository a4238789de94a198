-- Octets that begin like a message of edition 2 and are fewer than those of Section 0.
use Rattle.std.proofs.Common.{◌≡◌, ◌≢◌, ℕ, ◌+◌, ◌≤◌, Bool, true, false, not, cond, ◌&&◌, ◌||◌, Option, Some, None, List, [], ◌++◌, length, take, slice_get, nat_lt, ◌==◌, inl, inr, refl, sym, ap, ap₂, ◌∙◌, arith, subst, lt-ltb, le-ltb, eq-eqb, ne_eqb, take_at, take-take, length-append}
use Rattle.std.proofs.lemmas.Bool.{cases_lt}
use Rattle.std.proofs.lemmas.List.{take_all}
use Rattle.std.proofs.lemmas.Option.{slice_get_within}
use Rattle.grib_base.specs.declared.profile.Profile.{Profile}
use Rattle.grib_base.specs.declared.fault.Fault.{Fault}
use Rattle.grib_base.specs.declared.fault.Reason.TheVariants.{Truncated, Edition, TotalLength}
use Rattle.grib_base.specs.Rules.{first_fault, refusal}
use Rattle.grib2_sections.specs.Verdict.{Refused}
use Rattle.grib2_sections.specs.Head.{indicator, edition, discipline, head_rules, head_of, total_length, total_length_1}
use Rattle.grib2_sections.specs.declared.indicator.Head.{Head}
use Rattle.grib2_sections.specs.Frame.{Position}
use Rattle.grib2_message.specs.Summary.{summary_in_force}
use Rattle.grib2_message.specs.Acceptance.{verdict_under, verdict_from, unless_refused}
use Rattle.grib2_message.proofs.Whole.{octets_before, head_passes}
use Rattle.grib2_message.proofs.Stays.{Kept as HeadKept, head_kept, front_of_more}
use Rattle.grib2_message.proofs.Ways.{way_start}
use Rattle.grib2_message.specs.Kept.{HasInForce}
use Rattle.grib2_message.proofs.Passed.{passes_from_none}
use Rattle.grib2_arrival.specs.declared.kept.Kept.{Kept}
use Rattle.grib2_arrival.specs.Standing.{Stands}
use Rattle.grib2_arrival.specs.Walked.{Walked}
use Rattle.grib2_arrival.proofs.Onward.{from_way}
use Rattle.grib2_arrival.specs.declared.head.Beginning.{Beginning}
use Rattle.grib2_arrival.specs.Heard.{cut_off, BeginsLikeTwo, BeginsHeard}

-- the refusal by the rules of Section 0, by their tests
abbrev by_head : Fault → Fault → Fault → Fault → Fault → Bool → Bool → Bool → Bool → Bool → Option Fault
by_head a b c d e f1 f2 f3 f4 f5 = cond f1 (Some a) (cond f2 (Some b) (cond f3 (Some c) (cond f4 (Some d) (cond f5 (Some e) None))))

module _ (profile : Profile) (m : List ℕ) where
  abbrev rules : Bool → Bool → Bool → Option Fault
  rules f1 f2 f3 =
      by_head (cut_off m) (refusal 8 Edition (edition m)) (cut_off m) (refusal 9 TotalLength (total_length m)) (refusal 5 TotalLength (total_length_1 m))
      f1 f2 f3 (edition m == 2 && (nat_lt (total_length m) 20 || nat_lt 268435456 (total_length m))) (edition m == 1 && nat_lt (total_length_1 m) 12)

  head_is : first_fault (head_rules m)
      ≡ rules (nat_lt (length m) 8) (not (edition m == 1) && not (edition m == 2)) (edition m == 2 && nat_lt (length m) 16)
  head_is = refl

  -- they are cut off
  head_cut : length m ≤ 15 → (8 ≤ length m → edition m ≡ 2) → first_fault (head_rules m) ≡ Some (cut_off m)
  head_cut few second = elim (cases_lt (length m) 8) [
    | inl short ↦
        ap (λ (f : Bool). rules f (not (edition m == 1) && not (edition m == 2)) (edition m == 2 && nat_lt (length m) 16)) (lt-ltb (length m) 8 short)
    | inr long ↦
        let two = second long in
        let f1 : nat_lt (length m) 8 ≡ false = le-ltb (length m) 8 long in
        let f2 : (not (edition m == 1) && not (edition m == 2)) ≡ false =
        ap₂ (λ (a b : Bool). not a && not b) (ne_eqb (edition m) 1 (λ one. absurd (omega arith))) (eq-eqb (edition m) 2 two) in
        let f3 : (edition m == 2 && nat_lt (length m) 16) ≡ true = ap₂ (λ (a b : Bool). a && b) (eq-eqb (edition m) 2 two) (lt-ltb (length m) 16 (omega arith)) in
        λ i. rules (f1 i) (f2 i) (f3 i)
  ]

  pub begins_cut : length m ≤ 15 → BeginsLikeTwo m → verdict_under profile m ≡ Refused (cut_off m)
  begins_cut few b = ap (λ (o : Option Fault). unless_refused o (λ _. verdict_from profile (length m + 1) m [] 17)) (head_cut few b.second)

  -- where all octets of Section 0 came, the total length is refused
  head_reason : (f4 f5 : Bool) (d e fault : Fault) → d.reason ≡ TotalLength → e.reason ≡ TotalLength
      → cond f4 (Some d) (cond f5 (Some e) None) ≡ Some fault → fault.reason ≢ Truncated
  head_reason true f5 d e fault is_d is_e h = λ t. (let same : d ≡ fault = cc in let bad : TotalLength ≡ Truncated = sym is_d ∙ ap (λ f. f.reason) same ∙ t in cc)
  head_reason false true d e fault is_d is_e h = λ t. (let same : e ≡ fault = cc in let bad : TotalLength ≡ Truncated = sym is_e ∙ ap (λ f. f.reason) same ∙ t in cc)
  head_reason false false d e fault is_d is_e h = cc

  pub head_refused : 16 ≤ length m → edition m ≡ 2 → (fault : Fault) → first_fault (head_rules m) ≡ Some fault
      → (verdict_under profile m ≡ Refused fault) × (fault.reason ≢ Truncated)
  head_refused long two fault e =
      let f1 : nat_lt (length m) 8 ≡ false = le-ltb (length m) 8 (omega arith) in
      let f2 : (not (edition m == 1) && not (edition m == 2)) ≡ false =
      ap₂ (λ (a b : Bool). not a && not b) (ne_eqb (edition m) 1 (λ one. absurd (omega arith))) (eq-eqb (edition m) 2 two) in
      let f3 : (edition m == 2 && nat_lt (length m) 16) ≡ false = ap₂ (λ (a b : Bool). a && b) (eq-eqb (edition m) 2 two) (le-ltb (length m) 16 long) in
      let by : first_fault (head_rules m) ≡ rules false false false = λ i. rules (f1 i) (f2 i) (f3 i) in (
        ap (λ (o : Option Fault). unless_refused o (λ _. verdict_from profile (length m + 1) m [] 17)) e,
        head_reason (edition m == 2 && (nat_lt (total_length m) 20 || nat_lt 268435456 (total_length m))) (edition m == 1 && nat_lt (total_length_1 m) 12)
            (refusal 9 TotalLength (total_length m)) (refusal 5 TotalLength (total_length_1 m)) fault refl refl (sym by ∙ e),
      )

-- an arrival has heard but one list while Section 0 is not whole
pub heard_one : (profile other : Profile) (beginning : Beginning) (u v : List ℕ) → BeginsHeard profile beginning u → BeginsHeard other beginning v → u ≡ v
heard_one profile other beginning u v a b =
    sym a.first ∙ ap (λ (n : ℕ). take n beginning.first) (sym a.count ∙ b.count) ∙ b.first

front_indicated : (u more : List ℕ) → take 4 (u ++ more) ≡ take (length (u ++ more)) indicator → take 4 u ≡ take (length u) indicator
front_indicated u more h =
    let n = length u in
    let w = u ++ more in
    let long : n ≤ length w = omega (arith, length-append u more) in
    let front : take n w ≡ u = take_at u more n refl in
    elim (cases_lt n 4) [
      | inl short ↦
          let within : n ≤ 4 = omega arith in
          take_all 4 u within
          ∙ sym front
          ∙ sym (take-take n 4 w within)
          ∙ ap (take n) h
          ∙ take-take n (length w) indicator long
      | inr enough ↦
          let all : take (length w) indicator ≡ indicator = take_all (length w) indicator (omega arith) in
          ap (take 4) (sym front)
          ∙ take-take 4 n w enough
          ∙ h
          ∙ all
          ∙ sym (take_all n indicator enough)
    ]

-- a front begins like it
pub front_begins : (u more : List ℕ) → BeginsLikeTwo (u ++ more) → BeginsLikeTwo u
front_begins u more b = record {
  indicated = front_indicated u more b.indicated;
  second = λ long. sym (octets_before u more 8 8 (omega arith) (omega arith) long) ∙ b.second (omega (arith, length-append u more));
}

-- ---- Section 0 is whole

pub head_stays : (u more : List ℕ) → edition u ≡ 2 → first_fault (head_rules u) ≡ None → first_fault (head_rules (u ++ more)) ≡ None
head_stays u more two none = go (first_fault (head_rules u)) none (head_kept u (u ++ more) (front_of_more u more) (λ one. absurd (omega arith))) where
  go : (o : Option Fault) → o ≡ None → HeadKept o (first_fault (head_rules (u ++ more))) → first_fault (head_rules (u ++ more)) ≡ None
  go None e (inl cut) = absurd cut
  go None e (inr same) = same
  go (Some fault) e h = cc

pub walked_head : (profile : Profile) (u : List ℕ) → length u ≡ 16 → edition u ≡ 2 → first_fault (head_rules u) ≡ None → Walked profile u [] 17
walked_head profile u long two none = record {
  low = omega arith;
  within = omega arith;
  goes_on = λ more.
      let m = u ++ more in
      let second : edition m ≡ 2 = octets_before u more 8 8 (omega arith) (omega arith) (omega arith) ∙ two in
      from_way profile m (length m) [] _ (way_start profile m (total_length m) second (head_stays u more two none) refl);
}

-- what is kept then
pub stands_first : (profile : Profile) (u : List ℕ) (kept : Kept) → length u ≡ 16 → edition u ≡ 2 → first_fault (head_rules u) ≡ None → kept.frame ≡ record { total = total_length u; place = 17; last = 0 }
    → HasInForce [] kept.force → kept.force.profile ≡ profile → kept.line ≡ summary_in_force (discipline u) [] → kept.summaries.items ≡ [] → Stands profile u [] kept
stands_first profile u kept long two none frame force under line summaries =
    let p = head_passes u (λ one. absurd (omega arith)) (passes_from_none (head_rules u) none) in
    let total = ap (λ (at : Position). at.total) frame in
    let place = ap (λ (at : Position). at.place) frame in
    let last = ap (λ (at : Position). at.last) frame in
    record {
      walked = subst (λ (q : ℕ). Walked profile u [] q) (sym place) (walked_head profile u long two none);
      second = two;
      total = total;
      most = omega (arith, total, p.most);
      room = omega (arith, total, place, p.least);
      last = last;
      numbered = omega (arith, last);
      line = line;
      force = force;
      under = under;
      count = ap length summaries;
      summaries = λ more i summary got.
          let within = slice_get_within [] i summary (ap (λ xs. slice_get xs i) (sym summaries) ∙ got) in
          absurd (omega arith);
    }

-- all octets of Section 0
pub all_sixteen : (first u : List ℕ) → length first ≡ 16 → take 16 first ≡ u → first ≡ u
all_sixteen first u long is = sym (take_all 16 first (omega arith)) ∙ is

pub begun_indicated : (u : List ℕ) → 4 ≤ length u → BeginsLikeTwo u → take 4 u ≡ indicator
begun_indicated u enough b = b.indicated ∙ take_all (length u) indicator enough

-- what Section 0 says of edition 2
pub head_two : (u : List ℕ) → edition u ≡ 2 → head_of u ≡ record { edition = 2; discipline = discipline u; total = total_length u }
head_two u two =
    let one : Head = record { edition = 1; discipline = 0; total = total_length_1 u } in
    let both : Head = record { edition = 2; discipline = discipline u; total = total_length u } in
    ap (λ (b : Bool). cond b one both) (ne_eqb (edition u) 1 (λ one. absurd (omega arith)))

-- Section 0 was noted whole
pub noted_whole : (profile : Profile) (beginning : Beginning) (u part first : List ℕ) → BeginsHeard profile beginning u
    → take (beginning.count + length part) first ≡ take beginning.count beginning.first ++ part → length first ≡ 16 → beginning.count + length part ≡ 16
    → first ≡ u ++ part
noted_whole profile beginning u part first h noted long all =
    let front : take beginning.count beginning.first ≡ u = ap (λ (n : ℕ). take n beginning.first) h.count ∙ h.first in
    all_sixteen first (u ++ part) long (ap (λ (n : ℕ). take n first) (sym all) ∙ noted ∙ ap (λ (xs : List ℕ). xs ++ part) front)
