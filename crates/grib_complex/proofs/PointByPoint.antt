-- Lemmas on the scaled integers of points that are passed one after another.
use Rattle.std.proofs.Common.{◌≡◌, ℕ, suc, ◌+◌, ◌^◌, ◌<◌, ◌≤◌, false, ℤ, pos, nat_abs, nat_lt, List, ◌∷◌, length, drop, get_or, refl, sym, ap, ap₂, ◌∙◌, arith, drop-cons, ltb-false}
use Rattle.std.specs.List.{list_any}
use Rattle.std.proofs.lemmas.List.{drop_all}
use Rattle.std.proofs.lemmas.List.FromFn.{get_or-map-range_with_len}
use Rattle.grib_packing.specs.declared.column.Point.{Point}
use Rattle.grib_packing.specs.declared.column.Point.TheVariants.{Scaled, Missing, Missing2}
use Rattle.grib_packing.specs.Differences.{code_at, difference_codes}
use Rattle.grib_packing.specs.Entries.{is_out_of_range}
use Rattle.grib_packing.specs.Misfits.{scaled_numbers}
use Rattle.grib_simple.proofs.Fitting.{parts_false}

-- before this place so many points have a number, and the others are within the range
pub record Seen (points : List Point) (i n : ℕ) : Type 0 where
  pub left : n + length (scaled_numbers (drop i points)) ≡ length (scaled_numbers points)
  pub rest : drop n (scaled_numbers points) ≡ scaled_numbers (drop i points)
  pub within : list_any is_out_of_range (drop i points) ≡ false
  pub few : n ≤ i

module _ (points : List Point) (i n : ℕ) (d : Point) (inside : i < length points) (seen : Seen points i n) where
  here_is : (p : Point) → get_or points i d ≡ p → drop i points ≡ p ∷ drop (i + 1) points
  here_is p here =
      let more : suc i ≡ i + 1 = omega arith in
      drop-cons points i d inside ∙ ap₂ (λ (q : Point) (k : ℕ). q ∷ drop k points) here more

  pub seen_mark : (m : ℕ) (p : Point) → get_or points i d ≡ p → m ≡ n → ((ps : List Point) → scaled_numbers (p ∷ ps) ≡ scaled_numbers ps)
      → ((ps : List Point) → list_any is_out_of_range (p ∷ ps) ≡ list_any is_out_of_range ps) → Seen points (i + 1) m
  seen_mark m p here same none kept =
      let is : scaled_numbers (drop i points) ≡ scaled_numbers (drop (i + 1) points) = ap scaled_numbers (here_is p here) ∙ none (drop (i + 1) points) in
      record {
        left = omega (arith, same, seen.left, ap length is);
        rest = ap (λ (k : ℕ). drop k (scaled_numbers points)) same ∙ seen.rest ∙ is;
        within = sym (kept (drop (i + 1) points)) ∙ ap (list_any is_out_of_range) (sym (here_is p here)) ∙ seen.within;
        few = omega (arith, same, seen.few);
      }

  pub seen_other : (m : ℕ) → m ≡ n → ((x : ℤ) → get_or points i d ≡ Scaled x → ⊥) → Seen points (i + 1) m
  seen_other m same other = go (get_or points i d) refl where
    go : (p : Point) → get_or points i d ≡ p → Seen points (i + 1) m
    go (Scaled x) here = absurd (other x here)
    go Missing here = seen_mark m Missing here same (λ ps. refl) (λ ps. refl)
    go Missing2 here = seen_mark m Missing2 here same (λ ps. refl) (λ ps. refl)

  module _ (x : ℤ) (here : get_or points i d ≡ Scaled x) where
    numbers_are : drop n (scaled_numbers points) ≡ x ∷ scaled_numbers (drop (i + 1) points)
    numbers_are = seen.rest ∙ ap scaled_numbers (here_is (Scaled x) here)

    pub number_left : n < length (scaled_numbers points)
    number_left = omega (arith, seen.left, ap (λ (ps : List Point). length (scaled_numbers ps)) (here_is (Scaled x) here))

    both : nat_lt (2 ^ 60) (nat_abs x) ≡ false × list_any is_out_of_range (drop (i + 1) points) ≡ false
    both = parts_false (nat_lt (2 ^ 60) (nat_abs x)) (list_any is_out_of_range (drop (i + 1) points)) (ap (list_any is_out_of_range) (sym (here_is (Scaled x) here)) ∙ seen.within)

    pub number_is : get_or (scaled_numbers points) n (pos 0) ≡ x
    number_is =
        ap (λ (xs : List ℤ). get_or xs 0 (pos 0)) (sym (drop-cons (scaled_numbers points) n (pos 0) number_left) ∙ numbers_are)

    pub number_small : nat_abs x ≤ 2 ^ 60
    number_small = ltb-false (2 ^ 60) (nat_abs x) both.0

    pub seen_number : (m : ℕ) → m ≡ n + 1 → Seen points (i + 1) m
    seen_number m is =
        let more : suc n ≡ m = omega arith in
        record {
          left = omega (arith, is, seen.left, ap (λ (ps : List Point). length (scaled_numbers ps)) (here_is (Scaled x) here));
          rest = ap (λ (k : ℕ). drop k (scaled_numbers points)) (sym more)
              ∙ ap (λ (xs : List ℤ). drop 1 xs) (sym (drop-cons (scaled_numbers points) n (pos 0) number_left) ∙ numbers_are);
          within = both.1;
          few = omega (arith, is, seen.few);
        }

-- all points are passed
pub seen_all : (points : List Point) (i n : ℕ) → length points ≤ i → Seen points i n → n ≡ length (scaled_numbers points)
seen_all points i n past seen = omega (arith, seen.left, ap (λ (ps : List Point). length (scaled_numbers ps)) (drop_all i points past))

-- the code of a number
pub code_there : (order : ℕ) (numbers : List ℤ) (n : ℕ) → n < length numbers → get_or (difference_codes order numbers) n 0 ≡ code_at order numbers n
code_there order numbers n within = get_or-map-range_with_len (code_at order numbers) 0 (length numbers) n n 0 within (omega arith)

-- no point is passed
pub seen_none : (points : List Point) (n : ℕ) → n ≡ 0 → list_any is_out_of_range points ≡ false → Seen points 0 n
seen_none points n none within = record {
  left = omega (arith, none);
  rest = ap (λ (k : ℕ). drop k (scaled_numbers points)) none;
  within = within;
  few = omega arith;
}
