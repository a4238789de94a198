-- Lemmas on opaque packings, and on a Section 5 under a profile.
use Rattle.std.proofs.Common.{◌≡◌, ℕ, ◌<◌, ◌≤◌, Bool, true, false, not, cond, ◌||◌, ◌==◌, unwrap_or, nat_lt, Option, Some, None, List, [], refl, sym, ap, ◌∙◌, arith, length}
use Rattle.std.proofs.lemmas.Bool.{ltb-false, lt-ltb}
use Rattle.grib_base.specs.declared.fault.Fault.{Fault}
use Rattle.grib_base.specs.declared.fault.Reason.TheVariants.{SectionLength}
use Rattle.grib_base.specs.declared.profile.Profile.{Profile}
use Rattle.grib_base.specs.declared.profile.Profile.TheVariants.{Stated, Open}
use Rattle.grib_base.specs.Rules.{Rule, choose, first_fault, or_then, refusal}
use Rattle.grib_base.proofs.Passing.{passes_from_none}
use Rattle.grib_packing.specs.Entries.{PackingTemplate, simple_packing, complex_packing, coded_packing, unlisted_packing, is_packing, packing_of, is_opaque_packing, is_stated_packing, unstated_rules, opaque_packing_rules, packing_rules, packing_fault, packing_fault_under, data_fault, entries_of}
use Rattle.grib_packing.specs.Packing.{packing_template, value_count}
use Rattle.grib_packing.proofs.Packings.{packing_passes, packing_shared}

-- ---- a template that is not in the list

-- it has the packing of no template
unlisted : (t : ℕ) → not (is_packing t) ≡ true → packing_of t ≡ unlisted_packing t
unlisted t opaque = by_tests (0 == t) (2 == t) (3 == t) (42 == t) opaque where
  by_tests : (a b c d : Bool) → not (a || (b || (c || (d || false)))) ≡ true
      → unwrap_or (cond a (Some simple_packing) (cond b (Some (complex_packing 2 47)) (cond c (Some (complex_packing 3 49)) (cond d (Some coded_packing) None)))) (unlisted_packing t) ≡ unlisted_packing t
  by_tests true b c d never = cc
  by_tests false true c d never = cc
  by_tests false false true d never = cc
  by_tests false false false true never = cc
  by_tests false false false false e = refl

module _ (s s7 : List ℕ) (opaque : is_opaque_packing s ≡ true) where
  -- no Section 7 is refused
  pub opaque_data : data_fault s s7 ≡ None
  opaque_data = ap (λ (p : PackingTemplate). p.fault s s7) (unlisted (packing_template s) opaque)

  -- and none has entries
  pub opaque_entries : entries_of s s7 ≡ []
  opaque_entries = ap (λ (p : PackingTemplate). p.entries s s7) (unlisted (packing_template s) opaque)

-- ---- under a profile

-- a Section 5 that no rule refuses has a packing of the list
pub accepted_known : (s : List ℕ) (points : ℕ) → packing_fault s points ≡ None → is_opaque_packing s ≡ false
accepted_known s points none = (passes_from_none (packing_rules s points) (packing_shared s points none)).1.0

-- such a packing has the same rules under the open profile,
pub known_open : (s : List ℕ) (points : ℕ) → is_opaque_packing s ≡ false → packing_fault_under Open s points ≡ packing_fault s points
known_open s points known = ap (λ (b : Bool). choose b (λ _. first_fault (opaque_packing_rules s points)) (λ _. packing_fault s points)) known

-- and one that the stated profile has, under each
stated_own : (s : List ℕ) (points : ℕ) → is_stated_packing s ≡ true → packing_fault_under Stated s points ≡ packing_fault s points
stated_own s points stated = ap (λ (b : Bool). choose b (λ _. packing_fault s points) (λ _. first_fault (unstated_rules s))) stated

unstated_own : (s : List ℕ) (points : ℕ) → is_stated_packing s ≡ false → packing_fault_under Stated s points ≡ first_fault (unstated_rules s)
unstated_own s points unstated = ap (λ (b : Bool). choose b (λ _. packing_fault s points) (λ _. first_fault (unstated_rules s))) unstated

-- the stated profile has packings of the list alone
pub stated_known : (s : List ℕ) → is_stated_packing s ≡ true → is_opaque_packing s ≡ false
stated_known s stated = by_choice (is_opaque_packing s) refl where
  by_choice : (b : Bool) → is_opaque_packing s ≡ b → b ≡ false
  by_choice false e = refl
  by_choice true e = let never : false ≡ true = sym (ap (λ (p : PackingTemplate). p.stated) (unlisted (packing_template s) e)) ∙ stated in cc

pub stated_under : (profile : Profile) (s : List ℕ) (points : ℕ) → is_stated_packing s ≡ true → packing_fault_under profile s points ≡ packing_fault s points
stated_under Stated s points stated = stated_own s points stated
stated_under Open s points stated = known_open s points (stated_known s stated)

-- a section that the stated profile does not have is refused
some_refuses : (s : List ℕ) → first_fault (unstated_rules s) ≡ None → ⊥
some_refuses s none = let rules = passes_from_none (unstated_rules s) none in let never : true ≡ false = rules.1.0 in cc

-- what no rule refuses is accepted under the open profile, and under the stated one where it has the packing
pub accepted_open : (s : List ℕ) (points : ℕ) → packing_fault s points ≡ None → packing_fault_under Open s points ≡ None
accepted_open s points none = known_open s points (accepted_known s points none) ∙ none

pub accepted_stated : (profile : Profile) (s : List ℕ) (points : ℕ) → is_stated_packing s ≡ true → packing_fault s points ≡ None → packing_fault_under profile s points ≡ None
accepted_stated profile s points stated none = stated_under profile s points stated ∙ none

-- what the stated profile accepts no rule refuses
pub stated_accepts : (s : List ℕ) (points : ℕ) → packing_fault_under Stated s points ≡ None → (is_stated_packing s ≡ true) × (packing_fault s points ≡ None)
stated_accepts s points none = by_choice (is_stated_packing s) refl where
  by_choice : (b : Bool) → is_stated_packing s ≡ b → (is_stated_packing s ≡ true) × (packing_fault s points ≡ None)
  by_choice true e = (e, sym (stated_own s points e) ∙ none)
  by_choice false e = absurd (some_refuses s (sym (unstated_own s points e) ∙ none))

-- nor one of a packing of the list that some profile accepts
pub read_under : (profile : Profile) (s : List ℕ) (points : ℕ) → is_opaque_packing s ≡ false → packing_fault_under profile s points ≡ None → packing_fault s points ≡ None
read_under Stated s points known none = (stated_accepts s points none).1
read_under Open s points known none = sym (known_open s points known) ∙ none

-- what is accepted under the stated profile is accepted under each
pub opened_under : (profile : Profile) (s : List ℕ) (points : ℕ) → packing_fault_under Stated s points ≡ None → packing_fault_under profile s points ≡ None
opened_under Stated s points none = none
opened_under Open s points none = accepted_open s points (stated_accepts s points none).1

-- an opaque packing has its own rules under the open profile
pub opaque_under : (s : List ℕ) (points : ℕ) → is_opaque_packing s ≡ true → packing_fault_under Open s points ≡ first_fault (opaque_packing_rules s points)
opaque_under s points opaque = ap (λ (b : Bool). choose b (λ _. first_fault (opaque_packing_rules s points)) (λ _. packing_fault s points)) opaque

same_first : (b : Bool) (fault : Fault) (rest more : Option Fault) (later : Unit {0} → List Rule) → b ≡ true → cond b (Some fault) rest ≡ or_then (cond b (Some fault) more) later
same_first true fault rest more later is = refl
same_first false fault rest more later is = cc

-- a section that is too short for a template is refused alike
pub short_under : (profile : Profile) (s : List ℕ) (points : ℕ) → length s < 11 → packing_fault_under profile s points ≡ packing_fault s points
short_under Stated s points short = by_choice (is_stated_packing s) where
  by_choice : (b : Bool) → choose b (λ _. packing_fault s points) (λ _. first_fault (unstated_rules s)) ≡ packing_fault s points
  by_choice true = refl
  by_choice false = same_first (nat_lt (length s) 11) (refusal 1 SectionLength (length s)) _ _ _ (lt-ltb (length s) 11 short)
short_under Open s points short = by_choice (is_opaque_packing s) where
  by_choice : (b : Bool) → choose b (λ _. first_fault (opaque_packing_rules s points)) (λ _. packing_fault s points) ≡ packing_fault s points
  by_choice true = same_first (nat_lt (length s) 11) (refusal 1 SectionLength (length s)) _ _ _ (lt-ltb (length s) 11 short)
  by_choice false = refl

-- what is known of a Section 5 that is accepted under a profile
pub record PassesUnder (s : List ℕ) (points : ℕ) : Type 0 where
  pub long : 11 ≤ length s
  pub few : value_count s ≤ points

opaque_passes : (s : List ℕ) (points : ℕ) → first_fault (opaque_packing_rules s points) ≡ None → PassesUnder s points
opaque_passes s points none =
    let rules = passes_from_none (opaque_packing_rules s points) none in
    record { long = ltb-false (length s) 11 rules.0; few = ltb-false points (value_count s) rules.1.0 }

known_passes : (s : List ℕ) (points : ℕ) → packing_fault s points ≡ None → PassesUnder s points
known_passes s points none =
    let passes = packing_passes s points none in
    record { long = omega (arith, passes.long); few = passes.few }

pub passes_under : (profile : Profile) (s : List ℕ) (points : ℕ) → packing_fault_under profile s points ≡ None → PassesUnder s points
passes_under Stated s points none = known_passes s points (stated_accepts s points none).1
passes_under Open s points none = by_choice (is_opaque_packing s) none where
  by_choice : (b : Bool) → choose b (λ _. first_fault (opaque_packing_rules s points)) (λ _. packing_fault s points) ≡ None → PassesUnder s points
  by_choice true e = opaque_passes s points e
  by_choice false e = known_passes s points e
