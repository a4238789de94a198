-- What is accepted rests on the octets of the message alone.
use Rattle.std.proofs.Common.{◌≡◌, ◌≢◌, ℕ, zero, suc, ◌+◌, ◌-◌, ◌≤◌, true, false, None, List, [], ◌∷◌, length, take, ◌==◌, inl, inr, sym, ap, ◌∙◌, arith, length-take-le}
use Rattle.grib_bits.specs.Octets.{octets}
use Rattle.grib_base.specs.declared.profile.Profile.{Profile}
use Rattle.grib_base.specs.Rules.{first_fault}
use Rattle.grib2_sections.specs.Verdict.{Accepted}
use Rattle.grib2_sections.specs.Head.{edition, total_length, head_rules}
use Rattle.grib2_sections.specs.Frame.{Placed, placed_at, section_at, ends_at}
use Rattle.grib2_message.specs.View.{last_number}
use Rattle.grib2_message.specs.Acceptance.{section_fault_under, verdict_from, verdict_under}
use Rattle.grib2_message.proofs.Passed.{passes_from_none, none_from_passes, unless_tells, unless_none}
use Rattle.grib2_message.proofs.Steps.{here, step_tells}
use Rattle.grib2_message.proofs.Walk.{mark_passes, frame_passes, stands}
use Rattle.grib2_message.proofs.Joined.{goes_on, stops, marks_pass, goes_pass, frame_pass}
use Rattle.grib2_message.proofs.Whole.{HeadPasses, head_passes, head_pass}
use Rattle.grib2_message.proofs.Stays.{IsFront, front_of, same_octets, same_section}

-- an accepting walk ends with the stated total, which is there
pub record Reached (m : List ℕ) (total : ℕ) : Type 0 where
  pub states : total_length m ≡ total
  pub there : total ≤ length m

pub reached : (profile : Profile) (turns : ℕ) (m : List ℕ) (before : List Placed) (q total : ℕ) → verdict_from profile turns m before q ≡ Accepted total → Reached m total
reached profile zero m before q total e = cc
reached profile (suc turns) m before q total e =
    let told = step_tells profile turns m before q total e in
    let mark = mark_passes m (total_length m) (last_number before) q told.0 in
    elim told.1 [
      | inl ended ↦ record { states = ended.states; there = (let last = mark.at_end ended.ends in omega (arith, ended.states, mark.there)) }
      | inr went ↦ reached profile turns m (here m q ∷ before) (q + length (section_at m q)) total went.next
    ]

-- the walk over a front that has the octets of the message says the same
front_walked : (profile : Profile) (turns more : ℕ) (u w : List ℕ) (before : List Placed) (q total : ℕ) → IsFront u w → 20 ≤ total → total ≤ length u → total_length u ≡ total
    → 1 ≤ q → q + 3 ≤ total → total ≤ q + more → verdict_from profile turns w before q ≡ Accepted total → verdict_from profile more u before q ≡ Accepted total
front_walked profile zero more u w before q total h least long states low room enough e = cc
front_walked profile (suc turns) zero u w before q total h least long states low room enough e = absurd (omega arith)
front_walked profile (suc turns) (suc more) u w before q total h least long states low room enough e =
    let last = last_number before in
    let states_w : total_length w ≡ total = same_octets u w 9 16 h (omega arith) (omega arith) (omega arith) ∙ states in
    let told = step_tells profile turns w before q total e in
    let mark = mark_passes w (total_length w) last q told.0 in
    let same_l : octets w q (q + 3) ≡ octets u q (q + 3) = same_octets u w q (q + 3) h low (omega arith) (omega arith) in
    let same_mark : ends_at w q ≡ ends_at u q = ap (λ n. n == 926365495) same_l in
    elim told.1 [
      | inl ended ↦
          let ends : ends_at u q ≡ true = sym same_mark ∙ ended.ends in
          let at_end : total_length w ≤ q + 3 = mark.at_end ended.ends in
          stops profile more u before q ends (marks_pass u (total_length u) last q ends (omega arith) (omega arith) (mark.may_end ended.ends)) ∙ ap Accepted states
      | inr went ↦
          let f = frame_passes w (total_length w) last q went.frame in
          let s = stands profile w before q (total_length w) low f went.contents in
          let l_least : 5 ≤ octets w q (q + 3) = f.least in
          let l_room : q - 1 + octets w q (q + 3) + 4 ≤ total_length w = f.room in
          let as_long : length (section_at w q) ≡ octets w q (q + 3) = s.as_long in
          let same_number : octets w (q + 4) (q + 4) ≡ octets u (q + 4) (q + 4) = same_octets u w (q + 4) (q + 4) h (omega arith) (omega arith) (omega arith) in
          let section : section_at w q ≡ section_at u q = same_section u w q h low (omega arith) (omega arith) (omega arith) in
          let goes : ends_at u q ≡ false = sym same_mark ∙ went.goes in
          let marks = goes_pass u (total_length u) last q goes (omega arith) (omega arith) in
          let frame = frame_pass u (total_length u) last q (octets w q (q + 3)) (octets w (q + 4) (q + 4)) (sym same_l) (sym same_number) low l_least (omega arith) (omega arith) f.follows in
          let contents : section_fault_under profile before (here u q) ≡ None = ap (λ x. section_fault_under profile before (placed_at q x)) (sym section) ∙ went.contents in
          goes_on profile more u before q goes marks frame contents
          ∙ (ap (λ x. verdict_from profile more u (placed_at q x ∷ before) (q + length x)) (sym section)
          ∙ front_walked profile turns more u w (here w q ∷ before) (q + length (section_at w q)) total h least long states (omega arith) (omega arith) (omega arith) went.next)
    ]

-- ---- what is said of the whole message

record Accepts (profile : Profile) (m : List ℕ) (total : ℕ) : Type 0 where
  pub head : HeadPasses m
  pub walked : verdict_from profile (length m + 1) m [] 17 ≡ Accepted total

accepts : (profile : Profile) (m : List ℕ) (total : ℕ) → edition m ≢ 1 → verdict_under profile m ≡ Accepted total → Accepts profile m total
accepts profile m total other e =
    let told = unless_tells (first_fault (head_rules m)) (λ _. verdict_from profile (length m + 1) m [] 17) total e in
    record { head = head_passes m other (passes_from_none (head_rules m) told.0); walked = told.1 }

pub accepted_states : (profile : Profile) (m : List ℕ) (total : ℕ) → edition m ≢ 1 → verdict_under profile m ≡ Accepted total → total_length m ≡ total
accepted_states profile m total other e = (reached profile (length m + 1) m [] 17 total (accepts profile m total other e).walked).states

pub accepted_there : (profile : Profile) (m : List ℕ) (total : ℕ) → edition m ≢ 1 → verdict_under profile m ≡ Accepted total → total ≤ length m
accepted_there profile m total other e = (reached profile (length m + 1) m [] 17 total (accepts profile m total other e).walked).there

pub accepted_least : (profile : Profile) (m : List ℕ) (total : ℕ) → edition m ≢ 1 → verdict_under profile m ≡ Accepted total → 20 ≤ total
accepted_least profile m total other e = omega (arith, accepted_states profile m total other e, (accepts profile m total other e).head.least)

pub accepted_alone : (profile : Profile) (m : List ℕ) (total : ℕ) → edition m ≢ 1 → verdict_under profile m ≡ Accepted total → verdict_under profile (take total m) ≡ Accepted total
accepted_alone profile m total other e =
    let a = accepts profile m total other e in
    let states : total_length m ≡ total = accepted_states profile m total other e in
    let there : total ≤ length m = accepted_there profile m total other e in
    let least : 20 ≤ total = accepted_least profile m total other e in
    let most : total_length m ≤ 268435456 = a.head.most in
    let u = take total m in
    let long : length u ≡ total = length-take-le total m there in
    let h : IsFront u m = front_of m total there in
    let second : edition u ≡ 2 = sym (same_octets u m 8 8 h (omega arith) (omega arith) (omega arith)) ∙ a.head.second_edition in
    let states_u : total_length u ≡ total = sym (same_octets u m 9 16 h (omega arith) (omega arith) (omega arith)) ∙ states in
    unless_none (first_fault (head_rules u)) (λ _. verdict_from profile (length u + 1) u [] 17)
    (none_from_passes (head_rules u) (head_pass u second (omega arith) (omega arith) (omega arith)))
    ∙ front_walked profile (length m + 1) (length u + 1) u m [] 17 total h least (omega arith) states_u (omega arith) (omega arith) (omega arith) a.walked
