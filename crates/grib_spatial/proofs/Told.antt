-- Codes of order 1 or 2 tell one list of numbers.
use Rattle.std.proofs.Common.{◌≡◌, ℕ, suc, List, [], ◌∷◌, length, ℤ, refl, ap, arith}
use native.Mathlib.Numerals.{unary_clauses}
use Rattle.grib_packing.specs.Differences.{Differenced}
use Rattle.grib_spatial.proofs.Undone.{undone_1, undone_2, after_one, after_two, length-after_one, length-after_two, difference_one, difference_two, only_after_one, only_after_two}

pub told_1 : (f1 f2 m : ℤ) (codes : List ℕ) → Differenced 1 f1 f2 m codes (undone_1 f1 m codes)
told_1 f1 f2 m [] = record {
  as_long = refl;
  first = λ h. absurd (omega arith);
  second = λ e h. absurd (omega arith);
  order_1 = λ e k h. absurd (omega arith);
  order_2 = λ e k h. absurd (omega arith);
}
told_1 f1 f2 m (code ∷ codes) = record {
  as_long = ap suc (length-after_one m f1 codes);
  first = λ h. refl;
  second = λ e h. absurd (omega arith);
  order_1 = λ e k h. simp unary_clauses (difference_one m f1 codes k (omega (arith, length-after_one m f1 codes)));
  order_2 = λ e k h. absurd (omega arith);
}

pub told_2 : (f1 f2 m : ℤ) (codes : List ℕ) → Differenced 2 f1 f2 m codes (undone_2 f1 f2 m codes)
told_2 f1 f2 m [] = record {
  as_long = refl;
  first = λ h. absurd (omega arith);
  second = λ e h. absurd (omega arith);
  order_1 = λ e k h. absurd (omega arith);
  order_2 = λ e k h. absurd (omega arith);
}
told_2 f1 f2 m (code ∷ []) = record {
  as_long = refl;
  first = λ h. refl;
  second = λ e h. absurd (omega arith);
  order_1 = λ e k h. absurd (omega arith);
  order_2 = λ e k h. absurd (omega arith);
}
told_2 f1 f2 m (code ∷ next ∷ codes) = record {
  as_long = ap (λ n. suc (suc n)) (length-after_two m f1 f2 codes);
  first = λ h. refl;
  second = λ e h. refl;
  order_1 = λ e k h. absurd (omega arith);
  order_2 = λ e k h. simp unary_clauses (difference_two m f1 f2 codes k (omega (arith, length-after_two m f1 f2 codes)));
}

pub only_1 : (f1 f2 m : ℤ) (codes : List ℕ) (xs : List ℤ) → Differenced 1 f1 f2 m codes xs → xs ≡ undone_1 f1 m codes
only_1 f1 f2 m [] [] d = refl
only_1 f1 f2 m [] (x ∷ xs) d = absurd (omega (arith, d.as_long))
only_1 f1 f2 m (code ∷ codes) [] d = absurd (omega (arith, d.as_long))
only_1 f1 f2 m (code ∷ codes) (x ∷ xs) d =
    let here : x ≡ f1 = d.first (omega arith) in
    let as_long : length xs ≡ length codes = omega (arith, d.as_long) in
    let rest : xs ≡ after_one m x codes = only_after_one m x codes xs as_long (λ k within. simp unary_clauses at (d.order_1 refl k (omega arith))) in
    rw rest (rw here refl)

pub only_2 : (f1 f2 m : ℤ) (codes : List ℕ) (xs : List ℤ) → Differenced 2 f1 f2 m codes xs → xs ≡ undone_2 f1 f2 m codes
only_2 f1 f2 m [] [] d = refl
only_2 f1 f2 m [] (x ∷ xs) d = absurd (omega (arith, d.as_long))
only_2 f1 f2 m (code ∷ codes) [] d = absurd (omega (arith, d.as_long))
only_2 f1 f2 m (code ∷ []) (x ∷ []) d = rw (d.first (omega arith)) refl
only_2 f1 f2 m (code ∷ []) (x ∷ y ∷ xs) d = absurd (omega (arith, d.as_long))
only_2 f1 f2 m (code ∷ next ∷ codes) (x ∷ []) d = absurd (omega (arith, d.as_long))
only_2 f1 f2 m (code ∷ next ∷ codes) (x ∷ y ∷ xs) d =
    let here : x ≡ f1 = d.first (omega arith) in
    let there : y ≡ f2 = d.second refl (omega arith) in
    let as_long : length xs ≡ length codes = omega (arith, d.as_long) in
    let rest : xs ≡ after_two m x y codes = only_after_two m x y codes xs as_long (λ k within. simp unary_clauses at (d.order_2 refl k (omega arith))) in
    rw rest (rw here (rw there refl))
