-- Lemmas on the list of the packings: what it says of a section by its template, and of a Section 5 that no rule refuses.
use Rattle.std.proofs.Common.{◌≡◌, ℕ, ◌≤◌, ◌⊎◌, inl, inr, Bool, true, false, ◌||◌, ◌==◌, cond, unwrap_or, Option, Some, None, List, length, refl, sym, ap, ◌∙◌, arith, subst, eqb-true}
use Rattle.std.proofs.lemmas.Bool.{ltb-false, not-false}
use Rattle.grib_bits.specs.Binary32.{ieee_exponent}
use Rattle.grib_base.specs.declared.fault.Fault.{Fault}
use Rattle.grib_base.specs.Rules.{Rule, first_fault, or_then}
use Rattle.grib_base.proofs.Passing.{passes_from_none}
use Rattle.grib_packing.specs.Complex.{complex_rules}
use Rattle.grib_packing.specs.Coded.{coded_rules, coded_data_fault, coded_entries}
use Rattle.grib_packing.specs.Entries.{PackingTemplate, simple_packing, complex_packing, coded_packing, unlisted_packing, is_packing, packing_of, own_packing, packing_rules, packing_fault, data_fault, entries_of, complex_data_fault, complex_entries}
use Rattle.grib_packing.specs.Packing.{packing_template, value_count, reference_word, bit_width}
use Rattle.grib_packing.specs.Simple.{simple_rules, simple_entries}

-- what holds of each packing and of a template that is not in the list holds of the packing of a template
by_tests : (P : PackingTemplate → Type 0) (t : ℕ) (a b c d : Bool) → P simple_packing → P (complex_packing 2 47) → P (complex_packing 3 49) → P coded_packing → P (unlisted_packing t)
    → P (unwrap_or (cond a (Some simple_packing) (cond b (Some (complex_packing 2 47)) (cond c (Some (complex_packing 3 49)) (cond d (Some coded_packing) None)))) (unlisted_packing t))
by_tests P t true b c d simple two three coded unlisted = simple
by_tests P t false true c d simple two three coded unlisted = two
by_tests P t false false true d simple two three coded unlisted = three
by_tests P t false false false true simple two three coded unlisted = coded
by_tests P t false false false false simple two three coded unlisted = unlisted

pub each_packing : (P : PackingTemplate → Type 0) (t : ℕ) → P simple_packing → P (complex_packing 2 47) → P (complex_packing 3 49) → P coded_packing → P (unlisted_packing t) → P (packing_of t)
each_packing P t simple two three coded unlisted = by_tests P t (0 == t) (2 == t) (3 == t) (42 == t) simple two three coded unlisted

-- ---- simple packing

module _ (s5 s7 : List ℕ) (simple : packing_template s5 ≡ 0) where
  pub data_fault-simple : data_fault s5 s7 ≡ first_fault (simple_rules s5 (length s7))
  data_fault-simple = ap (λ (t : ℕ). (packing_of t).fault s5 s7) simple

  pub entries_of-simple : entries_of s5 s7 ≡ simple_entries s5 s7
  entries_of-simple = ap (λ (t : ℕ). (packing_of t).entries s5 s7) simple

-- ---- complex packing

-- the templates of complex packing
abbrev pub IsComplexTemplate : ℕ → Type 0
IsComplexTemplate t = (t ≡ 2) ⊎ (t ≡ 3)

-- what both say alike
by_complex : {A : Type 0} (f : ℕ → A) (x : A) (t : ℕ) → f 2 ≡ x → f 3 ≡ x → IsComplexTemplate t → f t ≡ x
by_complex f x t two three (inl is) = ap f is ∙ two
by_complex f x t two three (inr is) = ap f is ∙ three

module _ (s5 s7 : List ℕ) (complex : IsComplexTemplate (packing_template s5)) where
  pub data_fault-complex : data_fault s5 s7 ≡ complex_data_fault s5 s7
  data_fault-complex = by_complex (λ t. (packing_of t).fault s5 s7) (complex_data_fault s5 s7) (packing_template s5) refl refl complex

  pub entries_of-complex : entries_of s5 s7 ≡ complex_entries s5 s7
  entries_of-complex = by_complex (λ t. (packing_of t).entries s5 s7) (complex_entries s5 s7) (packing_template s5) refl refl complex

-- packed numbers and group references have 48 bits at most, and 32 in complex packing
pub most-simple : (t : ℕ) → t ≡ 0 → (packing_of t).most ≡ 48
most-simple t simple = ap (λ (n : ℕ). (packing_of n).most) simple

pub most-complex : (t : ℕ) → IsComplexTemplate t → (packing_of t).most ≡ 32
most-complex t complex = by_complex (λ n. (packing_of n).most) 32 t refl refl complex

-- ---- CCSDS packing

module _ (s5 s7 : List ℕ) (coded : packing_template s5 ≡ 42) where
  pub data_fault-coded : data_fault s5 s7 ≡ coded_data_fault s5 s7
  data_fault-coded = ap (λ (t : ℕ). (packing_of t).fault s5 s7) coded

  pub entries_of-coded : entries_of s5 s7 ≡ coded_entries s5 s7
  entries_of-coded = ap (λ (t : ℕ). (packing_of t).entries s5 s7) coded

pub most-coded : (t : ℕ) → t ≡ 42 → (packing_of t).most ≡ 32
most-coded t coded = ap (λ (n : ℕ). (packing_of n).most) coded

-- ---- Section 5 where the rules pass that all templates share

module _ (s : List ℕ) (points : ℕ) (shared : first_fault (packing_rules s points) ≡ None) where
  own_rules : packing_fault s points ≡ first_fault ((own_packing s).rules s)
  own_rules = ap (λ (f : Option Fault). or_then f (λ _. (own_packing s).rules s)) shared

  pub packing_fault-simple : packing_template s ≡ 0 → packing_fault s points ≡ None
  packing_fault-simple simple = own_rules ∙ ap (λ (t : ℕ). first_fault ((packing_of t).rules s)) simple

  pub packing_fault-complex : IsComplexTemplate (packing_template s) → packing_fault s points ≡ first_fault (complex_rules s)
  packing_fault-complex complex =
      own_rules ∙ by_complex (λ t. first_fault ((packing_of t).rules s)) (first_fault (complex_rules s)) (packing_template s) refl refl complex

  pub packing_fault-coded : packing_template s ≡ 42 → packing_fault s points ≡ first_fault (coded_rules s)
  packing_fault-coded coded = own_rules ∙ ap (λ (t : ℕ). first_fault ((packing_of t).rules s)) coded

-- ---- a Section 5 that no rule refuses

or_true : (a b : Bool) → (a || b) ≡ true → (a ≡ true) ⊎ (b ≡ true)
or_true true b e = inl refl
or_true false b e = inr e

-- simple packing, complex packing or CCSDS packing
abbrev pub IsListed : ℕ → Type 0
IsListed t = (t ≡ 0) ⊎ (IsComplexTemplate t ⊎ (t ≡ 42))

pub known_packing : (t : ℕ) → is_packing t ≡ true → IsListed t
known_packing t e = elim (or_true (0 == t) ((2 == t) || ((3 == t) || ((42 == t) || false))) e) [
  | inl none ↦ inl (sym (eqb-true 0 t none))
  | inr more ↦ elim (or_true (2 == t) ((3 == t) || ((42 == t) || false)) more) [
    | inl two ↦ inr (inl (inl (sym (eqb-true 2 t two))))
    | inr most ↦ elim (or_true (3 == t) ((42 == t) || false) most) [
      | inl three ↦ inr (inl (inr (sym (eqb-true 3 t three))))
      | inr last ↦ elim (or_true (42 == t) false last) [ inl coded ↦ inr (inr (sym (eqb-true 42 t coded))) | inr never ↦ absurd (cc) ]
    ]
  ]
]

-- no packing has less than 21 octets in Section 5
least-some : (t : ℕ) → IsListed t → 21 ≤ (packing_of t).least
least-some t (inl is) = subst (λ (n : ℕ). 21 ≤ (packing_of n).least) (sym is) (omega arith)
least-some t (inr (inl (inl is))) = subst (λ (n : ℕ). 21 ≤ (packing_of n).least) (sym is) (omega arith)
least-some t (inr (inl (inr is))) = subst (λ (n : ℕ). 21 ≤ (packing_of n).least) (sym is) (omega arith)
least-some t (inr (inr is)) = subst (λ (n : ℕ). 21 ≤ (packing_of n).least) (sym is) (omega arith)

-- what the rules say that all templates share
pub record PackingPasses (s : List ℕ) (points : ℕ) : Type 0 where
  pub template : IsListed (packing_template s)
  pub least : (own_packing s).least ≤ length s
  pub long : 21 ≤ length s
  pub few : value_count s ≤ points
  pub finite : (ieee_exponent (reference_word s) == 255) ≡ false
  pub narrow : bit_width s ≤ (own_packing s).most

pub shared_passes : (s : List ℕ) (points : ℕ) → first_fault (packing_rules s points) ≡ None → PackingPasses s points
shared_passes s points none =
    let rules = passes_from_none (packing_rules s points) none in
    let template = known_packing (packing_template s) (not-false (is_packing (packing_template s)) rules.1.0) in
    let least = ltb-false (length s) (own_packing s).least rules.1.1.0 in
    let some = least-some (packing_template s) template in
    record {
      template = template;
      least = least;
      long = omega (arith, least, some);
      few = ltb-false points (value_count s) rules.1.1.1.0;
      finite = rules.1.1.1.1.0;
      narrow = ltb-false (own_packing s).most (bit_width s) rules.1.1.1.1.1.0;
    }

-- and a section that no rule refuses passes them
pub packing_shared : (s : List ℕ) (points : ℕ) → packing_fault s points ≡ None → first_fault (packing_rules s points) ≡ None
packing_shared s points none = first_none (first_fault (packing_rules s points)) (λ _. (own_packing s).rules s) none where
  first_none : (fault : Option Fault) (later : Unit {0} → List Rule) → or_then fault later ≡ None → fault ≡ None
  first_none (Some fault) later none = absurd (cc)
  first_none None later none = refl

pub packing_passes : (s : List ℕ) (points : ℕ) → packing_fault s points ≡ None → PackingPasses s points
packing_passes s points none = shared_passes s points (packing_shared s points none)

-- a packing that is neither the simple one nor CCSDS packing is complex packing
pub complex_unless : (t : ℕ) → IsListed t → (t ≡ 0 → ⊥) → (t ≡ 42 → ⊥) → IsComplexTemplate t
complex_unless t (inl simple) other coded = absurd (other simple)
complex_unless t (inr (inl complex)) other coded = complex
complex_unless t (inr (inr is)) other coded = absurd (coded is)
