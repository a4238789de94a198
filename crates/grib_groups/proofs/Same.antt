-- Runs of codes that are all the same.
use Rattle.std.proofs.Common.{◌≡◌, ℕ, zero, suc, ◌-◌, ◌≤◌, ◌||◌, ◌&&◌, ◌==◌, max, Bool, true, false, List, [], ◌∷◌, ◌++◌, take, map, replicate, refl, sym, ap, ap₂, ◌∙◌, arith, eq-eqb}
use Rattle.std.specs.List.{list_any, list_all}
use Rattle.std.proofs.lemmas.List.{take-replicate, drop-replicate}
use Rattle.std.proofs.lemmas.List.Elements.{All-head, All-tail}
use Rattle.grib_base.specs.declared.code.Code.{Code}
use Rattle.grib_base.specs.declared.code.Code.TheVariants.{Present, Primary, Secondary}
use Rattle.grib_codes.specs.declared.span.Span.{Span}
use Rattle.grib_codes.specs.Span.{IsSpan}
use Rattle.grib_packing.specs.Groupings.{IsGrouping, digits, greatest, smallest, present_codes, is_present, is_primary, is_secondary, is_uniform, joined, runs, width_of, width_bits_of}
use Rattle.grib_packing.specs.Packed.{fields, group_fields, reference_of}
use Rattle.grib_codes.proofs.Spans.{reference_of-by}
use Rattle.grib_groups.proofs.Parts.{sum-more}

-- ---- what such a run has

pub all_same : {X : Type 0} (p : X → Bool) (x : X) (n : ℕ) → p x ≡ true → list_all p (replicate n x) ≡ true
all_same p x zero is = refl
all_same p x (suc n) is = rw is (all_same p x n is)

pub any_same : {X : Type 0} (p : X → Bool) (x : X) (n : ℕ) → list_any p (replicate (suc n) x) ≡ list_any p (x ∷ [])
any_same p x zero = refl
any_same p x (suc n) = ap (λ (b : Bool). p x || b) (any_same p x n) ∙ twice (p x) where
  twice : (b : Bool) → (b || (b || false)) ≡ (b || false)
  twice true = refl
  twice false = refl

greatest_same : (x n : ℕ) → greatest (replicate (suc n) x) ≡ x
greatest_same x zero = omega arith
greatest_same x (suc n) = omega (arith, greatest_same x n)

smallest_same : (x n : ℕ) → smallest (replicate (suc n) x) ≡ x
smallest_same x zero = refl
smallest_same x (suc n) = omega (arith, smallest_same x n)

numbers_same : (x n : ℕ) → present_codes (replicate n (Present x)) ≡ replicate n x
numbers_same x zero = refl
numbers_same x (suc n) = ap (λ (xs : List ℕ). x ∷ xs) (numbers_same x n)

primary_alone : (n : ℕ) → present_codes (replicate n Primary) ≡ []
primary_alone zero = refl
primary_alone (suc n) = primary_alone n

secondary_alone : (n : ℕ) → present_codes (replicate n Secondary) ≡ []
secondary_alone zero = refl
secondary_alone (suc n) = secondary_alone n

least_same : (c : Code) (n : ℕ) → smallest (present_codes (replicate (suc n) c)) ≡ smallest (present_codes (c ∷ []))
least_same (Present x) n = ap smallest (numbers_same x (suc n)) ∙ smallest_same x n
least_same Primary n = ap smallest (primary_alone (suc n))
least_same Secondary n = ap smallest (secondary_alone (suc n))

most_same : (c : Code) (n : ℕ) → greatest (present_codes (replicate (suc n) c)) ≡ greatest (present_codes (c ∷ []))
most_same (Present x) n = ap greatest (numbers_same x (suc n)) ∙ greatest_same x n ∙ (let one : x ≡ max x 0 = omega arith in one)
most_same Primary n = ap greatest (primary_alone (suc n))
most_same Secondary n = ap greatest (secondary_alone (suc n))

pub span_same : (span : Span) (c : Code) (n : ℕ) → IsSpan span (c ∷ []) → IsSpan span (replicate (suc n) c)
span_same span c n is = record {
  least = is.least ∙ sym (least_same c n);
  greatest = is.greatest ∙ sym (most_same c n);
  present = is.present ∙ sym (any_same is_present c n);
  primary = is.primary ∙ sym (any_same is_primary c n);
  secondary = is.secondary ∙ sym (any_same is_secondary c n);
}

pub reference_same : (b : ℕ) (c : Code) (n : ℕ) → reference_of b (replicate (suc n) c) ≡ reference_of b (c ∷ [])
reference_same b c n =
    reference_of-by b (replicate (suc n) c)
    ∙ rw (any_same is_present c n, any_same is_primary c n, any_same is_secondary c n, least_same c n) (sym (reference_of-by b (c ∷ [])))

-- ---- it takes no bits

one_number : (x n : ℕ) → (greatest (replicate n x) == smallest (replicate n x)) ≡ true
one_number x zero = refl
one_number x (suc n) = eq-eqb (greatest (replicate (suc n) x)) (smallest (replicate (suc n) x)) (greatest_same x n ∙ sym (smallest_same x n))

uniform_same : (c : Code) (n : ℕ) → is_uniform (replicate n c) ≡ true
uniform_same (Present x) n = rw (all_same is_present (Present x) n refl, numbers_same x n, one_number x n) (last (list_all is_primary (replicate n (Present x))) (list_all is_secondary (replicate n (Present x)))) where
  last : (a b : Bool) → ((a || b) || true) ≡ true
  last true b = refl
  last false true = refl
  last false false = refl
uniform_same Primary n = rw (all_same is_primary Primary n refl) refl
uniform_same Secondary n = rw (all_same is_secondary Secondary n refl) (middle (list_all is_primary (replicate n Secondary))) where
  middle : (a : Bool) → ((a || true) || (list_all is_present (replicate n Secondary) && (greatest (present_codes (replicate n Secondary)) == smallest (present_codes (replicate n Secondary))))) ≡ true
  middle true = refl
  middle false = refl

pub width_same : (k : ℕ) (c : Code) (n : ℕ) → width_of k (replicate n c) ≡ 0
width_same k c n = rw (uniform_same c n) refl

pub width_bits_same : (k : ℕ) (c : Code) (n : ℕ) → width_bits_of k (replicate n c) ≡ 0
width_bits_same k c n = ap digits (width_same k c n) ∙ refl

-- ---- its groups

pub no_bits : (numbers : List ℕ) → fields 0 numbers ≡ []
no_bits [] = refl
no_bits (n ∷ numbers) = no_bits numbers

module _ (c : Code) where
  first_run : (n l : ℕ) (ls : List ℕ) → IsGrouping n (l ∷ ls) → (1 ≤ l) × (l ≤ n)
  first_run n l ls g = ((All-head (λ l. (1 ≤ l) × (l ≤ 64)) l ls g.each).0, omega (arith, g.total, sum-more l ls))

  later_runs : (n l : ℕ) (ls : List ℕ) → IsGrouping n (l ∷ ls) → IsGrouping (n - l) ls
  later_runs n l ls g = record { each = All-tail (λ l. (1 ≤ l) × (l ≤ 64)) l ls g.each; total = omega (arith, g.total, sum-more l ls) }

  reference_of_run : (b n l : ℕ) → 1 ≤ l → l ≤ n → reference_of b (take l (replicate n c)) ≡ reference_of b (c ∷ [])
  reference_of_run b n zero some fits = absurd (omega arith)
  reference_of_run b n (suc l) some fits = ap (reference_of b) (take-replicate (suc l) n c fits) ∙ reference_same b c l

  pub references_same : (b n : ℕ) (ls : List ℕ) → IsGrouping n ls → map (reference_of b) (runs ls (replicate n c)) ≡ map (λ l. reference_of b (c ∷ [])) ls
  references_same b n [] g = refl
  references_same b n (l ∷ ls) g =
      let first = first_run n l ls g in
      ap₂ ◌∷◌ (reference_of_run b n l first.0 first.1)
      (ap (λ (cs : List Code). map (reference_of b) (runs ls cs)) (drop-replicate l n c) ∙ references_same b (n - l) ls (later_runs n l ls g))

  no_group : (k b n : ℕ) → group_fields k b (replicate n c) ≡ []
  no_group k b n = rw (width_same k c n) refl

  pub no_numbers : (k b n : ℕ) (ls : List ℕ) → IsGrouping n ls → joined (map (group_fields k b) (runs ls (replicate n c))) ≡ []
  no_numbers k b n [] g = refl
  no_numbers k b n (l ∷ ls) g =
      let first = first_run n l ls g in
      ap₂ ◌++◌ (ap (group_fields k b) (take-replicate l n c first.1) ∙ no_group k b l)
      (ap (λ (cs : List Code). joined (map (group_fields k b) (runs ls cs))) (drop-replicate l n c) ∙ no_numbers k b (n - l) ls (later_runs n l ls g))
