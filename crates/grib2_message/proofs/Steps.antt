-- One step of the walk that decides acceptance.
use Rattle.std.proofs.Common.{◌≡◌, ℕ, suc, ◌+◌, Bool, true, false, ◌⊎◌, Option, Some, None, List, ◌∷◌, length, refl, sym, ◌∙◌, inl, inr}
use Rattle.grib_base.specs.declared.profile.Profile.{Profile}
use Rattle.grib_base.specs.declared.fault.Fault.{Fault}
use Rattle.grib2_sections.specs.Verdict.{Verdict, Accepted}
use Rattle.grib2_sections.specs.Head.{total_length}
use Rattle.grib2_sections.specs.Frame.{Placed, placed_at, section_at, ends_at, mark_rules, frame_rules, End, Next, unless_fails}
use Rattle.grib2_message.specs.View.{last_number}
use Rattle.grib2_message.specs.Acceptance.{verdict_from, verdict_at, section_fault_under, unless_refused}
use Rattle.grib_base.specs.Rules.{first_fault, choose}
use Rattle.grib2_message.proofs.Passed.{AllPass, passes_from_none, at_mark, mark_tells, unless_tells}

-- the section at octet q
abbrev pub here : List ℕ → ℕ → Placed
here m q = placed_at q (section_at m q)

-- the verdict after that section
abbrev pub after_section : (profile : Profile) → ℕ → List ℕ → List Placed → ℕ → Verdict
after_section profile turns m before q = verdict_from profile turns m (here m q ∷ before) (q + length (section_at m q))

-- the verdict from the rules of its contents on
abbrev pub at_contents : (profile : Profile) → ℕ → List ℕ → List Placed → ℕ → Verdict
at_contents profile turns m before q = unless_refused (section_fault_under profile before (here m q)) (λ _. after_section profile turns m before q)

-- the verdict from the rules of its frame on
abbrev pub at_section : (profile : Profile) → ℕ → List ℕ → List Placed → ℕ → Verdict
at_section profile turns m before q =
    unless_refused (first_fault (frame_rules m (total_length m) (last_number before) q)) (λ _. at_contents profile turns m before q)

-- the verdict from the rules of a mark on
abbrev pub at_place : (profile : Profile) → ℕ → List ℕ → List Placed → ℕ → Verdict
at_place profile turns m before q =
    at_mark (first_fault (mark_rules m (total_length m) (last_number before) q)) (ends_at m q) (total_length m) (λ _. at_section profile turns m before q)

-- what stands at a place says the same rule by rule
rule_by_rule : (profile : Profile) (before : List Placed) (q total : ℕ) (mark : Option Fault) (ends : Bool) (frame : Option Fault) (s : List ℕ) (next : List ℕ → Verdict)
    → verdict_at profile before q total (unless_fails mark (λ _. choose ends (λ _. End) (λ _. unless_fails frame (λ _. Next s)))) next
    ≡ at_mark mark ends total (λ _. unless_refused frame (λ _. unless_refused (section_fault_under profile before (placed_at q s)) (λ _. next s)))
rule_by_rule profile before q total (Some fault) ends frame s next = refl
rule_by_rule profile before q total None true frame s next = refl
rule_by_rule profile before q total None false (Some fault) s next = refl
rule_by_rule profile before q total None false None s next = refl

-- so the walk goes on rule by rule
pub walk_is : (profile : Profile) (turns : ℕ) (m : List ℕ) (before : List Placed) (q : ℕ) → verdict_from profile (suc turns) m before q ≡ at_place profile turns m before q
walk_is profile turns m before q =
    let total = total_length m in
    rule_by_rule profile before q total (first_fault (mark_rules m total (last_number before) q)) (ends_at m q)
    (first_fault (frame_rules m total (last_number before) q)) (section_at m q) (λ s. verdict_from profile turns m (placed_at q s ∷ before) (q + length s))

-- the End Section stands at q
pub record Ended (m : List ℕ) (q total : ℕ) : Type 0 where
  pub ends : ends_at m q ≡ true
  pub states : total_length m ≡ total

-- a section stands at q, and what comes after it is accepted
pub record Went (profile : Profile) (turns : ℕ) (m : List ℕ) (before : List Placed) (q total : ℕ) : Type 0 where
  pub goes : ends_at m q ≡ false
  pub frame : AllPass (frame_rules m (total_length m) (last_number before) q)
  pub contents : section_fault_under profile before (here m q) ≡ None
  pub next : after_section profile turns m before q ≡ Accepted total

-- it is so where no End Section stands and what is said of the section is accepted
went : (profile : Profile) (turns : ℕ) (m : List ℕ) (before : List Placed) (q total : ℕ) → ends_at m q ≡ false → at_section profile turns m before q ≡ Accepted total
    → Went profile turns m before q total
went profile turns m before q total goes e =
    let frame = unless_tells (first_fault (frame_rules m (total_length m) (last_number before) q)) (λ _. at_contents profile turns m before q) total e in
    let contents = unless_tells (section_fault_under profile before (here m q)) (λ _. after_section profile turns m before q) total frame.1 in
    record {
      goes = goes;
      frame = passes_from_none (frame_rules m (total_length m) (last_number before) q) frame.0;
      contents = contents.0;
      next = contents.1;
    }

-- what an accepting step tells
pub step_tells : (profile : Profile) (turns : ℕ) (m : List ℕ) (before : List Placed) (q total : ℕ) → verdict_from profile (suc turns) m before q ≡ Accepted total
    → AllPass (mark_rules m (total_length m) (last_number before) q) × (Ended m q total ⊎ Went profile turns m before q total)
step_tells profile turns m before q total e =
    let mark = mark_tells (first_fault (mark_rules m (total_length m) (last_number before) q)) (ends_at m q) (total_length m) (λ _. at_section profile turns m before q) total (sym (walk_is profile turns m before q) ∙ e) in (
      passes_from_none (mark_rules m (total_length m) (last_number before) q) mark.0,
      elim mark.1 [ inl ends ↦ inl record { ends = ends.0; states = ends.1 } | inr goes ↦ inr (went profile turns m before q total goes.0 goes.1) ],
    )
