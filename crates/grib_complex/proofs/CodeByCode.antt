-- Lemmas on the codes of points.
use Rattle.std.proofs.Common.{◌≡◌, ℕ, suc, ◌+◌, ◌<◌, ◌≤◌, true, false, Some, None, List, ◌∷◌, length, drop, get_or, refl, sym, ap, ◌∙◌, arith, drop-cons, ne_eqb}
use Rattle.std.proofs.lemmas.List.{drop_all}
use Rattle.grib_base.specs.Rules.{first_place}
use Rattle.grib_packing.specs.declared.column.Point.{Point}
use Rattle.grib_packing.specs.Misfits.{OutOfRange, misfit_at, is_scaled_outside}
use Rattle.grib_simple.specs.Survey.{place_after}
use Rattle.grib_simple.proofs.Seen.{place-here, place-later, misfit-some, misfit-none}

-- ---- one point more

module _ (points : List Point) (i : ℕ) (d : Point) (within : i < length points) where
  rest_is : drop i points ≡ get_or points i d ∷ drop (i + 1) points
  rest_is = let next : suc i ≡ i + 1 = omega arith in drop-cons points i d within ∙ ap (λ (k : ℕ). get_or points i d ∷ drop k points) next

  pub inside_more : (m : ℕ) → is_scaled_outside m (get_or points i d) ≡ false
      → place_after 0 i (is_scaled_outside m) (drop i points) ≡ first_place (is_scaled_outside m) points
      → place_after 0 (i + 1) (is_scaled_outside m) (drop (i + 1) points) ≡ first_place (is_scaled_outside m) points
  inside_more m fits before =
      place-later (is_scaled_outside m) (get_or points i d) (drop (i + 1) points) 0 i 0 (i + 1) refl fits refl
      ∙ ap (place_after 0 i (is_scaled_outside m)) (sym rest_is) ∙ before

  pub outside_here : (m : ℕ) → is_scaled_outside m (get_or points i d) ≡ true
      → place_after 0 i (is_scaled_outside m) (drop i points) ≡ first_place (is_scaled_outside m) points
      → misfit_at OutOfRange (is_scaled_outside m) points ≡ Some (OutOfRange (i + 1))
  outside_here m out before =
      let here : place_after (i + 1) (i + 1) (is_scaled_outside m) (drop (i + 1) points) ≡ first_place (is_scaled_outside m) points =
      place-here (is_scaled_outside m) (get_or points i d) (drop (i + 1) points) 0 i (i + 1) (i + 1) refl out (λ some. absurd (omega arith)) (λ none. refl)
      ∙ ap (place_after 0 i (is_scaled_outside m)) (sym rest_is) ∙ before in
      let place : i + 1 ≡ first_place (is_scaled_outside m) points = sym (found_place (i + 1) (drop (i + 1) points) (omega arith)) ∙ here in
      misfit-some OutOfRange (is_scaled_outside m) points (i + 1) place (omega arith)
    where
      found_place : (n : ℕ) (ps : List Point) → 1 ≤ n → place_after n n (is_scaled_outside m) ps ≡ n
      found_place n ps some = rw (ne_eqb n 0 (λ z. omega arith)) refl

-- all points were seen
module _ (points : List Point) (i : ℕ) (past : length points ≤ i) where
  pub none_outside : (m : ℕ) → place_after 0 i (is_scaled_outside m) (drop i points) ≡ first_place (is_scaled_outside m) points
      → misfit_at OutOfRange (is_scaled_outside m) points ≡ None
  none_outside m before =
      let place : 0 ≡ first_place (is_scaled_outside m) points = ap (place_after 0 i (is_scaled_outside m)) (sym (drop_all i points past)) ∙ before in
      misfit-none OutOfRange (is_scaled_outside m) points 0 place refl
