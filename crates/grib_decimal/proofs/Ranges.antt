-- Where the least and the greatest value of a field have texts, all have.
use Rattle.std.proofs.Common.{◌≡◌, ℕ, ◌+◌, ◌*◌, ◌^◌, ◌<◌, ◌≤◌, ◌⊎◌, inl, inr, Bool, true, false, not, ◌&&◌, ◌||◌, ◌==◌, nat_le, Option, Some, None, List, length, get_or, option_map, ℤ, pos, negsuc, ◌≤ℤ◌, neg_ℤ, nat_abs, ltb-false, refl, ap, arith, position}
use Rattle.std.proofs.Math.Nat.{mul-le-mul_right}
use Rattle.std.proofs.lemmas.Bool.Decides.{nat_tests}
use Rattle.std.proofs.lemmas.Int.{ints}
use Rattle.std.proofs.lemmas.List.Folds.{list_any_at}
use Rattle.std.specs.List.{list_any}
use Rattle.std.specs.Int.{int_min}
use Rattle.grib_bits.proofs.Arithmetic.{sum_le}
use Rattle.grib_dyadic.specs.Reference.{two_to_difference}
use Rattle.grib_packing.specs.declared.column.Point.{Point}
use Rattle.grib_packing.specs.declared.column.Point.TheVariants.{Scaled, Missing, Missing2}
use Rattle.grib_packing.specs.Entries.{is_out_of_range}
use Rattle.grib_decimal.specs.declared.extreme.Extremes.{Extremes}
use Rattle.grib_decimal.specs.Bounds.{HasNoNumber, AreExtremes}
use Rattle.grib_decimal.specs.Decimal.{Scale, value_at, is_too_large, factor, denominator_of}
use Rattle.grib_decimal.specs.Range.{is_point_too_large, first_too_large}
use Rattle.grib_decimal.proofs.Orders.{times_le}
use Rattle.grib_decimal.proofs.Positions.{position_none, none_at}

-- a number between two others is no farther from 0 than one of them
between : (x y z : ℤ) → x ≤ℤ y → y ≤ℤ z → (nat_abs y ≤ nat_abs x) ⊎ (nat_abs y ≤ nat_abs z)
between x (pos n) z low high = inr (omega (arith, ints))
between x (negsuc n) z low high = inl (omega (arith, ints))

-- a lesser numerator is not too large either
closer : (bound n m f d : ℕ) → n ≤ m → (not (m == 0) && (nat_le bound (m * f) || nat_le bound d)) ≡ false → (not (n == 0) && (nat_le bound (n * f) || nat_le bound d)) ≡ false
closer bound n m f d less fits =
    let times : n * f ≤ m * f = mul-le-mul_right f less in
    grind (arith, nat_tests)

pub fits_between : (s : Scale) (x y z : ℤ) → x ≤ℤ y → y ≤ℤ z → is_too_large (value_at s x) s.places ≡ false → is_too_large (value_at s z) s.places ≡ false → is_too_large (value_at s y) s.places ≡ false
fits_between s x y z low high least greatest =
    let t = int_min s.reference.exponent s.e in
    let size = two_to_difference s.e t in
    let f = factor t s.d s.places in
    let d = denominator_of t s.d s.places in
    let number : ℤ → ℤ = λ k. (value_at s k).number in
    elim (between (number x) (number y) (number z) (sum_le _ _ _ (times_le x y size low)) (sum_le _ _ _ (times_le y z size high))) [
      | inl near ↦ closer (2 ^ 126) (nat_abs (number y)) (nat_abs (number x)) f d near least
      | inr near ↦ closer (2 ^ 126) (nat_abs (number y)) (nat_abs (number z)) f d near greatest
    ]

point_fits : (s : Scale) (points : List Point) (m : Extremes) (k : ℕ) (q : Point) → get_or points k Missing ≡ q → k < length points → AreExtremes points (length points) m → is_too_large (value_at s m.least) s.places ≡ false → is_too_large (value_at s m.greatest) s.places ≡ false → is_point_too_large s q ≡ false
point_fits s points m k (Scaled x) here within are least greatest =
    fits_between s m.least x m.greatest (are.least.bound k x within here) (are.greatest.bound k x within here) least greatest
point_fits s points m k Missing here within are least greatest = refl
point_fits s points m k Missing2 here within are least greatest = refl

pub all_fit : (s : Scale) (points : List Point) (m : Extremes) → AreExtremes points (length points) m → is_too_large (value_at s m.least) s.places ≡ false → is_too_large (value_at s m.greatest) s.places ≡ false → first_too_large s points ≡ None
all_fit s points m are least greatest =
    ap (option_map (λ n. n + 1)) (position_none (is_point_too_large s) points Missing (λ k within. point_fits s points m k (get_or points k Missing) refl within are least greatest))

no_value : (s : Scale) (points : List Point) (k : ℕ) (q : Point) → get_or points k Missing ≡ q → k < length points → HasNoNumber points (length points) → is_point_too_large s q ≡ false
no_value s points k (Scaled x) here within none = absurd (none k x within here)
no_value s points k Missing here within none = refl
no_value s points k Missing2 here within none = refl

pub none_fits : (s : Scale) (points : List Point) → HasNoNumber points (length points) → first_too_large s points ≡ None
none_fits s points none =
    ap (option_map (λ n. n + 1)) (position_none (is_point_too_large s) points Missing (λ k within. no_value s points k (get_or points k Missing) refl within none))

none_mapped : (found : Option ℕ) → option_map (λ n. n + 1) found ≡ None → found ≡ None
none_mapped None none = refl
none_mapped (Some n) none = let no : ⊥ = cc in absurd no

-- where no point is too large, the one at a place is not
pub fits_at : (s : Scale) (points : List Point) (k : ℕ) (d : Point) → k < length points → first_too_large s points ≡ None → is_point_too_large s (get_or points k d) ≡ false
fits_at s points k d within none = none_at (is_point_too_large s) points k d within (none_mapped (position (is_point_too_large s) points) none)

-- ---- any accepted field

none_passes : (test : Point → Bool) (points : List Point) (k : ℕ) → k < length points → list_any test points ≡ false → test (get_or points k Missing) ≡ false
none_passes test points k within none = go (test (get_or points k Missing)) refl where
  go : (b : Bool) → test (get_or points k Missing) ≡ b → b ≡ false
  go true is = let some = list_any_at test points k Missing within is in absurd (cc)
  go false is = refl

near_fits : (s : Scale) (most : ℕ) (x : ℤ) → nat_abs x ≤ most → is_too_large (value_at s (neg_ℤ (pos most))) s.places ≡ false → is_too_large (value_at s (pos most)) s.places ≡ false → is_too_large (value_at s x) s.places ≡ false
near_fits s most x near least greatest = fits_between s (neg_ℤ (pos most)) x (pos most) (omega (arith, ints)) (omega (arith, ints)) least greatest

point_near : (s : Scale) (q : Point) → is_out_of_range q ≡ false → is_too_large (value_at s (neg_ℤ (pos (2 ^ 60)))) s.places ≡ false → is_too_large (value_at s (pos (2 ^ 60))) s.places ≡ false → is_point_too_large s q ≡ false
point_near s (Scaled x) near least greatest = near_fits s (2 ^ 60) x (ltb-false (2 ^ 60) (nat_abs x) near) least greatest
point_near s Missing near least greatest = refl
point_near s Missing2 near least greatest = refl

-- where the ends of the range of all scaled numbers have texts, all points have
pub all_near_fit : (s : Scale) → is_too_large (value_at s (neg_ℤ (pos (2 ^ 60)))) s.places ≡ false → is_too_large (value_at s (pos (2 ^ 60))) s.places ≡ false
    → (points : List Point) → list_any is_out_of_range points ≡ false → first_too_large s points ≡ None
all_near_fit s least greatest points near =
    ap (option_map (λ n. n + 1)) (position_none (is_point_too_large s) points Missing
    (λ k within. point_near s (get_or points k Missing) (none_passes is_out_of_range points k within near) least greatest))
