-- Columns that fit simple packing, or another one with a bitmap whose numbers are 0 to some number.
use Rattle.std.proofs.Common.{◌≡◌, ℕ, ◌-◌, ◌^◌, ◌<◌, ◌≤◌, ◌||◌, Bool, true, false, cond, Option, Some, None, ℤ, pos, negsuc, nat_abs, nat_lt, List, [], ◌∷◌, length, All, refl, arith, ltb-false}
use Rattle.std.specs.List.{list_any}
use Rattle.std.proofs.lemmas.List.Elements.{All-nil, All-cons, All-weaker, All-head, All-tail}
use Rattle.grib_packing.specs.declared.column.Point.{Point}
use Rattle.grib_packing.specs.declared.column.Point.TheVariants.{Scaled, Missing, Missing2}
use Rattle.grib_packing.specs.Groupings.{digits, greatest}
use Rattle.grib_packing.specs.Misfits.{Misfit, SecondaryMissing, OutOfRange, ToSimple, first_of, first_misfit, misfit_at, plain_misfit, is_missing2, is_outside, is_scaled_outside}
use Rattle.grib_packing.specs.Packed.{simple_numbers, simple_width}
use Rattle.grib_packing.proofs.Digits.{digits-lt_64, digits-most_64}

-- ---- no misfit

both_none : (a b : Option Misfit) → first_of a b ≡ None → (a ≡ None) × (b ≡ None)
both_none (Some m) b e = absurd (cc)
both_none None b e = (refl, e)

not_any : (b : Bool) (misfit : Misfit) → cond b (Some misfit) None ≡ None → b ≡ false
not_any true misfit e = absurd (cc)
not_any false misfit e = refl

pub nothing_fails : (m : ℕ) (points : List Point) → plain_misfit m points ≡ None
    → (list_any is_missing2 points ≡ false) × (list_any (is_scaled_outside m) points ≡ false)
nothing_fails m points none =
    let both = both_none (misfit_at SecondaryMissing is_missing2 points) (misfit_at OutOfRange (is_scaled_outside m) points) none in
    (not_any (list_any is_missing2 points) _ both.0, not_any (list_any (is_scaled_outside m) points) _ both.1)

pub none_fail : (points : List Point) → first_misfit ToSimple points ≡ None
    → (list_any is_missing2 points ≡ false) × (list_any (is_scaled_outside (2 ^ 48 - 1)) points ≡ false)
none_fail points none = nothing_fails (2 ^ 48 - 1) points none

-- ---- a number that fits

pub parts_false : (a b : Bool) → (a || b) ≡ false → (a ≡ false) × (b ≡ false)
parts_false true b e = absurd (cc)
parts_false false b e = (refl, e)

number_within : (m : ℕ) (x : ℤ) → is_outside m x ≡ false → nat_abs x ≤ m
number_within m (pos n) inside =
    let both = parts_false (nat_lt n 0) (nat_lt m n) inside in
    omega (arith, ltb-false m n both.1)
number_within m (negsuc n) inside = absurd (cc)

pub number_back : (m : ℕ) (x : ℤ) → is_outside m x ≡ false → pos (nat_abs x) ≡ x
number_back m (pos n) inside = refl
number_back m (negsuc n) inside = absurd (cc)

pub numbers_within : (m : ℕ) (points : List Point) → list_any (is_scaled_outside m) points ≡ false → All (λ n. n ≤ m) (simple_numbers points)
numbers_within m [] fits = All-nil (λ n. n ≤ m)
numbers_within m (Scaled x ∷ points) fits =
    let both = parts_false (is_scaled_outside m (Scaled x)) (list_any (is_scaled_outside m) points) fits in
    All-cons (λ n. n ≤ m) (nat_abs x) (simple_numbers points) (number_within m x both.0) (numbers_within m points both.1)
numbers_within m (Missing ∷ points) fits = numbers_within m points fits
numbers_within m (Missing2 ∷ points) fits = numbers_within m points fits

-- ---- the greatest number

pub greatest_below : (m : ℕ) (ns : List ℕ) → 0 < m → All (λ n. n < m) ns → greatest ns < m
greatest_below m [] some each = some
greatest_below m (n ∷ ns) some each =
    let here : n < m = All-head (λ n. n < m) n ns each in
    let rest = greatest_below m ns some (All-tail (λ n. n < m) n ns each) in
    omega arith

greatest_within : (m : ℕ) (ns : List ℕ) → All (λ n. n ≤ m) ns → greatest ns ≤ m
greatest_within m [] each = omega arith
greatest_within m (n ∷ ns) each =
    let here : n ≤ m = All-head (λ n. n ≤ m) n ns each in
    let rest = greatest_within m ns (All-tail (λ n. n ≤ m) n ns each) in
    omega arith

pub at_most : (m : ℕ) (ns : List ℕ) → greatest ns ≤ m → All (λ n. n ≤ m) ns
at_most m [] most = All-nil (λ n. n ≤ m)
at_most m (n ∷ ns) most = All-cons (λ n. n ≤ m) n ns (omega arith) (at_most m ns (omega arith))

-- the numbers have the bits of the greatest
pub holds_each : (ns : List ℕ) → greatest ns < 2 ^ 64 → All (λ n. n < 2 ^ digits (greatest ns)) ns
holds_each ns small =
    let most : greatest ns < 2 ^ digits (greatest ns) = digits-lt_64 (greatest ns) (omega arith) in
    All-weaker (λ n. n ≤ greatest ns) (λ n. n < 2 ^ digits (greatest ns)) (λ n h. omega (arith, h, most)) ns (at_most (greatest ns) ns (omega arith))

module _ (m : ℕ) (points : List Point) (none : plain_misfit m points ≡ None) where
  pub greatest_most : greatest (simple_numbers points) ≤ m
  greatest_most = let both = nothing_fails m points none in greatest_within m (simple_numbers points) (numbers_within m points both.1)

module _ (points : List Point) (none : first_misfit ToSimple points ≡ None) where
  -- which are 48 at most
  pub width_few : simple_width points ≤ 48
  width_few = let most = greatest_most (2 ^ 48 - 1) points none in digits-most_64 (greatest (simple_numbers points)) 48 (omega arith) (omega (arith, most))

  pub width_fits : All (λ n. n < 2 ^ simple_width points) (simple_numbers points)
  width_fits = let most = greatest_most (2 ^ 48 - 1) points none in holds_each (simple_numbers points) (omega (arith, most))

-- there are no more numbers than points
pub few_numbers : (points : List Point) → length (simple_numbers points) ≤ length points
few_numbers [] = omega arith
few_numbers (Scaled x ∷ points) = omega (arith, few_numbers points)
few_numbers (Missing ∷ points) = omega (arith, few_numbers points)
few_numbers (Missing2 ∷ points) = omega (arith, few_numbers points)
