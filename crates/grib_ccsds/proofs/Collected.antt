-- The numbers of points, one after another.
use Rattle.std.proofs.Common.{◌≡◌, ℕ, zero, suc, ◌+◌, ◌<◌, ◌≤◌, ℤ, nat_abs, List, [], ◌∷◌, ◌++◌, length, drop, get_or, All, refl, sym, ap, ap₂, ◌∙◌, arith, append_assoc, append-nil, drop-cons, subst}
use Rattle.std.proofs.lemmas.List.{drop_all}
use Rattle.std.proofs.lemmas.List.Elements.{All-head, All-tail}
use Rattle.grib_packing.specs.declared.column.Point.{Point}
use Rattle.grib_packing.specs.declared.column.Point.TheVariants.{Scaled, Missing, Missing2}
use Rattle.grib_packing.specs.Packed.{simple_numbers}

module _ (points : List Point) (i : ℕ) (d : Point) (within : i < length points) where
  rest_is : (point : Point) → get_or points i d ≡ point → drop i points ≡ point ∷ drop (i + 1) points
  rest_is point is =
      let next : suc i ≡ i + 1 = omega arith in
      drop-cons points i d within ∙ ap₂ (λ (p : Point) (k : ℕ). p ∷ drop k points) is next

  number_here : (x : ℤ) → get_or points i d ≡ Scaled x → simple_numbers (drop i points) ≡ nat_abs x ∷ simple_numbers (drop (i + 1) points)
  number_here x is = ap simple_numbers (rest_is (Scaled x) is)

  -- a point more, which has a number or none
  pub number_more : (numbers : List ℕ) (number : ℕ) (x : ℤ) → get_or points i d ≡ Scaled x → number ≡ nat_abs x
      → numbers ++ simple_numbers (drop i points) ≡ simple_numbers points
      → (numbers ++ number ∷ []) ++ simple_numbers (drop (i + 1) points) ≡ simple_numbers points
  number_more numbers number x is value so_far =
      append_assoc numbers (number ∷ []) (simple_numbers (drop (i + 1) points))
      ∙ ap (λ (n : ℕ). numbers ++ n ∷ simple_numbers (drop (i + 1) points)) value
      ∙ ap (λ (ns : List ℕ). numbers ++ ns) (sym (number_here x is)) ∙ so_far

  pub none_more : (numbers : List ℕ) → ((x : ℤ) → get_or points i d ≡ Scaled x → ⊥) → numbers ++ simple_numbers (drop i points) ≡ simple_numbers points
      → numbers ++ simple_numbers (drop (i + 1) points) ≡ simple_numbers points
  none_more numbers none so_far = go (get_or points i d) refl where
    go : (point : Point) → get_or points i d ≡ point → numbers ++ simple_numbers (drop (i + 1) points) ≡ simple_numbers points
    go (Scaled x) is = absurd (none x is)
    go Missing is = ap (λ (ns : List ℕ). numbers ++ ns) (sym (ap simple_numbers (rest_is Missing is))) ∙ so_far
    go Missing2 is = ap (λ (ns : List ℕ). numbers ++ ns) (sym (ap simple_numbers (rest_is Missing2 is))) ∙ so_far

-- what holds of all numbers holds of those of the points that are left
left_numbers : (P : ℕ → Type 0) (i : ℕ) (points : List Point) → All P (simple_numbers points) → All P (simple_numbers (drop i points))
left_numbers P zero points each = each
left_numbers P (suc i) [] each = each
left_numbers P (suc i) (Scaled x ∷ points) each = left_numbers P i points (All-tail P (nat_abs x) (simple_numbers points) each)
left_numbers P (suc i) (Missing ∷ points) each = left_numbers P i points each
left_numbers P (suc i) (Missing2 ∷ points) each = left_numbers P i points each

pub number_fits : (most : ℕ) (points : List Point) (i : ℕ) (d : Point) (x : ℤ) → i < length points → get_or points i d ≡ Scaled x
    → All (λ n. n < most) (simple_numbers points) → nat_abs x < most
number_fits most points i d x within is each =
    All-head (λ n. n < most) (nat_abs x) (simple_numbers (drop (i + 1) points))
    (subst (All (λ n. n < most)) (number_here points i d within x is) (left_numbers (λ n. n < most) i points each))

pub all_numbers : (points : List Point) (i : ℕ) (numbers : List ℕ) → length points ≤ i → numbers ++ simple_numbers (drop i points) ≡ simple_numbers points
    → numbers ≡ simple_numbers points
all_numbers points i numbers over so_far =
    sym (append-nil numbers) ∙ ap (λ (ps : List Point). numbers ++ simple_numbers ps) (sym (drop_all i points over)) ∙ so_far
