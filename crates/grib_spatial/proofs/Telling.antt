-- Numbers that come one after another tell their differences.
use Rattle.std.proofs.Common.{◌≡◌, ℕ, ◌-◌, ◌<◌, ◌≤◌, ◌==◌, inl, inr, cond, true, false, List, map, length, get_or, ℤ, pos, nat_abs, ◌-ℤ◌, refl, ap, sym, ◌∙◌, arith, le-ltb}
use Rattle.std.specs.List.{range_with_len}
use Rattle.std.proofs.lemmas.Bool.{cases_lt}
use Rattle.std.proofs.lemmas.List.{get_or_past}
use Rattle.grib_packing.specs.Differences.{difference_at, differences, least, descriptors_of, code_at}
use Rattle.grib_complex_reading.specs.Order.{IsOrder}
use Rattle.grib_spatial.specs.Trail.{IsToldBy}
use Rattle.grib_spatial.specs.declared.trail.FirstAndLeast.{FirstAndLeast}

module _ (numbers : List ℤ) (n : ℕ) (x : ℤ) (is : get_or numbers n (pos 0) ≡ x) where
  pub first_more : (old new : ℤ) → (n ≡ 0 → new ≡ x) → (1 ≤ n → new ≡ old) → (1 ≤ n → old ≡ get_or numbers 0 (pos 0)) → new ≡ get_or numbers 0 (pos 0)
  first_more old new here later told = elim (cases_lt 0 n) [
    | inl some ↦ later (omega arith) ∙ told (omega arith)
    | inr none ↦ let zero : n ≡ 0 = omega arith in here zero ∙ sym is ∙ ap (λ (k : ℕ). get_or numbers k (pos 0)) zero
  ]

  pub second_more : (order : ℕ) (old new : ℤ) → IsOrder order → (n ≡ 1 → order ≡ 2 → new ≡ x) → ((n ≡ 1 → order ≡ 1) → new ≡ old)
      → (2 ≤ n → old ≡ cond (order == 1) (pos 0) (get_or numbers 1 (pos 0))) → (n < 2 → old ≡ pos 0) → 1 ≤ n → new ≡ cond (order == 1) (pos 0) (get_or numbers 1 (pos 0))
  second_more order old new known here later told none some = elim (cases_lt 1 n) [
    | inl more ↦ later (λ one. absurd (omega arith)) ∙ told (omega arith)
    | inr few ↦ let one : n ≡ 1 = omega arith in at_one one known
  ] where
    at_one : n ≡ 1 → IsOrder order → new ≡ cond (order == 1) (pos 0) (get_or numbers 1 (pos 0))
    at_one one (inl first) = later (λ _. first) ∙ none (omega arith) ∙ (rw first refl)
    at_one one (inr second) = here one second ∙ sym is ∙ ap (λ (k : ℕ). get_or numbers k (pos 0)) one ∙ (rw second refl)

-- all numbers came
pub told_whole : (order : ℕ) (told : FirstAndLeast) (numbers : List ℤ) → IsToldBy order told numbers → told.trail.count ≡ length numbers
    → record { order = order; first = told.first; second = told.second; minimum = told.minimum } ≡ descriptors_of order numbers
told_whole order told numbers h all = λ i. record { order = order; first = is_first i; second = is_second i; minimum = is_minimum i }
  where
    is_first : told.first ≡ get_or numbers 0 (pos 0)
    is_first = elim (cases_lt 0 (length numbers)) [
      | inl some ↦ h.first (omega arith)
      | inr none ↦ h.no_first (omega arith) ∙ sym (get_or_past numbers 0 (pos 0) (omega arith))
    ]

    nothing : (b : _) → pos 0 ≡ cond b (pos 0) (pos 0)
    nothing true = refl
    nothing false = refl

    is_second : told.second ≡ cond (order == 1) (pos 0) (get_or numbers 1 (pos 0))
    is_second = elim (cases_lt 1 (length numbers)) [
      | inl some ↦ h.second (omega arith)
      | inr none ↦ h.no_second (omega arith) ∙ nothing (order == 1) ∙ ap (λ (y : ℤ). cond (order == 1) (pos 0) y) (sym (get_or_past numbers 1 (pos 0) (omega arith)))
    ]

    is_minimum : told.minimum ≡ least (differences order numbers)
    is_minimum = h.minimum ∙ ap (λ (n : ℕ). least (map (difference_at order numbers) (range_with_len order (n - order)))) all

-- the code of a number from the order on
pub late_code : (order : ℕ) (numbers : List ℤ) (k : ℕ) (d m : ℤ) → order ≤ k → d ≡ difference_at order numbers k → m ≡ least (differences order numbers) → nat_abs (d -ℤ m) ≡ code_at order numbers k
late_code order numbers k d m from is least = rw (is, least) (rw (le-ltb k order from) refl)
