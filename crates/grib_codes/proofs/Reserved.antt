-- Codes that points have, of which up to two are reserved.
use Rattle.std.proofs.Common.{◌≡◌, ℕ, suc, ◌+◌, ◌^◌, ◌<◌, ◌≤◌, ◌||◌, Bool, true, false, cond, Some, None, ℤ, pos, negsuc, nat_abs, nat_lt, List, [], ◌∷◌, length, map, All, refl, ap, arith, ltb-false}
use Rattle.std.specs.List.{list_any}
use Rattle.std.proofs.lemmas.List.{length-map}
use Rattle.std.proofs.lemmas.List.Elements.{All-nil, All-cons, All-head, All-tail}
use Rattle.grib_base.specs.declared.code.Code.TheVariants.{Present, Primary, Secondary}
use Rattle.grib_packing.specs.declared.column.Point.{Point}
use Rattle.grib_packing.specs.declared.column.Point.TheVariants.{Scaled, Missing, Missing2}
use Rattle.grib_packing.specs.Misfits.{Misfit, ToComplex, first_misfit, is_scaled_outside, is_missing, is_missing2, is_outside, greatest_code, management_of, scaled_numbers}
use Rattle.grib_packing.specs.Packed.{placed_codes, target_codes}
use Rattle.grib_codes.specs.Span.{IsTold}

pub parts_false : (a b : Bool) → (a || b) ≡ false → (a ≡ false) × (b ≡ false)
parts_false true b e = absurd (cc)
parts_false false b e = (refl, e)

-- what reserves codes: a point that is missing, and one that is secondary missing
pub reserved_2 : (points : List Point) → list_any is_missing2 points ≡ true → 2 ≤ management_of points
reserved_2 points e = rw e (omega arith)

pub reserved_1 : (points : List Point) → list_any is_missing points ≡ true → 1 ≤ management_of points
reserved_1 points e = go (list_any is_missing2 points) refl where
  go : (b : Bool) → list_any is_missing2 points ≡ b → 1 ≤ management_of points
  go true is = rw is (omega arith)
  go false is = rw (is, e) (omega arith)

pub management-few : (points : List Point) → management_of points ≤ 2
management-few points = go (list_any is_missing2 points) (list_any is_missing points) where
  go : (a b : Bool) → cond a 2 (cond b 1 0) ≤ 2
  go true b = omega arith
  go false true = omega arith
  go false false = omega arith

-- codes of small numbers, and of marks that are reserved
pub placed_told : (k : ℕ) (points : List Point) (numbers : List ℕ) → (list_any is_missing points ≡ true → 1 ≤ k) → (list_any is_missing2 points ≡ true → 2 ≤ k)
    → All (λ n. n + k < 2 ^ 32) numbers → All (IsTold k) (placed_codes points numbers)
placed_told k [] numbers one two each = All-nil (IsTold k)
placed_told k (Missing ∷ points) numbers one two each =
    All-cons (IsTold k) Primary (placed_codes points numbers) (one refl) (placed_told k points numbers (λ e. one refl) two each)
placed_told k (Missing2 ∷ points) numbers one two each =
    All-cons (IsTold k) Secondary (placed_codes points numbers) (two refl) (placed_told k points numbers one (λ e. two refl) each)
placed_told k (Scaled x ∷ points) [] one two each = All-nil (IsTold k)
placed_told k (Scaled x ∷ points) (n ∷ numbers) one two each =
    All-cons (IsTold k) (Present n) (placed_codes points numbers) (All-head (λ n. n + k < 2 ^ 32) n numbers each)
    (placed_told k points numbers one two (All-tail (λ n. n + k < 2 ^ 32) n numbers each))

pub number_small : (k : ℕ) (x : ℤ) → k ≤ 2 → is_outside (greatest_code k) x ≡ false → nat_abs x + k < 2 ^ 32
number_small k (pos n) few inside =
    let both = parts_false (nat_lt n 0) (nat_lt (greatest_code k) n) inside in
    omega (arith, ltb-false (greatest_code k) n both.1)
number_small k (negsuc n) few inside = absurd (cc)

numbers_small : (k : ℕ) (points : List Point) → k ≤ 2 → list_any (is_scaled_outside (greatest_code k)) points ≡ false
    → All (λ n. n + k < 2 ^ 32) (map nat_abs (scaled_numbers points))
numbers_small k [] few inside = All-nil (λ n. n + k < 2 ^ 32)
numbers_small k (Scaled x ∷ points) few inside =
    let both = parts_false (is_outside (greatest_code k) x) (list_any (is_scaled_outside (greatest_code k)) points) inside in
    All-cons (λ n. n + k < 2 ^ 32) (nat_abs x) (map nat_abs (scaled_numbers points)) (number_small k x few both.0) (numbers_small k points few both.1)
numbers_small k (Missing ∷ points) few inside = numbers_small k points few inside
numbers_small k (Missing2 ∷ points) few inside = numbers_small k points few inside

not_any : (b : Bool) (misfit : Misfit) → cond b (Some misfit) None ≡ None → b ≡ false
not_any true misfit e = absurd (cc)
not_any false misfit e = refl

module _ (points : List Point) (none : first_misfit ToComplex points ≡ None) where
  pub all_inside : list_any (is_scaled_outside (greatest_code (management_of points))) points ≡ false
  all_inside = not_any (list_any (is_scaled_outside (greatest_code (management_of points))) points) _ none

module _ (points : List Point) (none : first_misfit ToComplex points ≡ None) where
  pub plain_told : All (IsTold (management_of points)) (target_codes ToComplex points)
  plain_told =
      let k = management_of points in
      placed_told k points (map nat_abs (scaled_numbers points)) (reserved_1 points) (reserved_2 points) (numbers_small k points (management-few points) (all_inside points none))

-- there is a code for each point
pub length-placed : (points : List Point) (numbers : List ℕ) → length numbers ≡ length (scaled_numbers points) → length (placed_codes points numbers) ≡ length points
length-placed [] numbers e = refl
length-placed (Missing ∷ points) numbers e = ap suc (length-placed points numbers e)
length-placed (Missing2 ∷ points) numbers e = ap suc (length-placed points numbers e)
length-placed (Scaled x ∷ points) [] e = absurd (omega arith)
length-placed (Scaled x ∷ points) (n ∷ numbers) e = ap suc (length-placed points numbers (omega arith))

pub length-codes : (points : List Point) → length (target_codes ToComplex points) ≡ length points
length-codes points = length-placed points (map nat_abs (scaled_numbers points)) (length-map (scaled_numbers points) nat_abs)
