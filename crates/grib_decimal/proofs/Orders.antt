-- The order of scaled numbers and of values.
use Rattle.std.proofs.Common.{◌≡◌, ◌≢◌, ℕ, ◌+◌, ◌-◌, ◌*◌, ◌<◌, ◌≤◌, inl, inr, List, length, get_or, Option, Some, None, IfSome, IfNone, ℤ, pos, ◌*ℤ◌, ◌≤ℤ◌, ◌<ℤ◌, refl, sym, ap, subst, ◌∙◌, arith}
use Rattle.std.proofs.Math.Nat.{mul-le-mul_right}
use Rattle.std.proofs.lemmas.Bool.{cases_lt}
use Rattle.std.proofs.lemmas.Int.{ints}
use Rattle.std.specs.Int.{int_min}
use Rattle.grib_bits.proofs.Arithmetic.{sum_le}
use borrow.Author.Differences.{up, down, product_is}
use Rattle.grib_dyadic.specs.Reference.{Binary, two_to_difference}
use Rattle.grib_dyadic.specs.Value.{value_of}
use Rattle.grib_decimal.specs.Order.{AtMost}
use Rattle.grib_packing.specs.declared.column.Point.{Point}
use Rattle.grib_packing.specs.declared.column.Point.TheVariants.{Scaled, Missing}
use Rattle.grib_decimal.specs.declared.extreme.Extremes.{Extremes}
use Rattle.grib_decimal.specs.Bounds.{HasNoNumber, IsBound, AreExtremes, AreExtremesSoFar, BoundAllValues, IsBoundSoFar}

pub times_le : (x y : ℤ) (n : ℕ) → x ≤ℤ y → (x *ℤ pos n) ≤ℤ (y *ℤ pos n)
times_le x y n le =
    let less : up x + down y ≤ up y + down x = omega (arith, ints) in
    let more : (up x + down y) * n ≤ (up y + down x) * n = mul-le-mul_right n less in
    omega (arith, ints, product_is x (pos n), product_is y (pos n))

-- values rise with the scaled numbers
pub at_most : (r : Binary) (e d x y : ℤ) → x ≤ℤ y → AtMost (value_of r e d x) (value_of r e d y)
at_most r e d x y le =
    let t = int_min r.exponent e in
    let size = two_to_difference e t in
    times_le _ _ _ (times_le _ _ _ (sum_le _ _ _ (times_le x y size le)))

pub values_bound : (points : List Point) (m : Extremes) → AreExtremes points (length points) m → BoundAllValues points m
values_bound points m is r e d k x within here =
    (at_most r e d m.least x (is.least.bound k x within here), at_most r e d x m.greatest (is.greatest.bound k x within here))

last : (n : ℕ) → n + 1 - 1 ≡ n
last n = omega arith

same_number : (points : List Point) (n k : ℕ) (x y : ℤ) → k ≡ n → get_or points n Missing ≡ Scaled x → get_or points k Missing ≡ Scaled y → x ≡ y
same_number points n k x y e here there = let same = ap (λ i. get_or points i Missing) e in cc

module _ (Before : ℤ → ℤ → Type 0) (points : List Point) (n : ℕ) where
  -- the bound stays
  pub bound_kept : (m x : ℤ) (place : ℕ) → Before m x → get_or points n Missing ≡ Scaled x → IsBound Before points n m place → IsBound Before points (n + 1) m place
  bound_kept m x place before here old = record {
    counted = old.counted;
    within = let h = old.within in omega arith;
    stands = old.stands;
    first = old.first;
    bound = λ k y within there. elim (cases_lt k n) [
      | inl l ↦ old.bound k y l there
      | inr g ↦ subst (λ z. Before m z) (same_number points n k x y (omega arith) here there) before
    ];
  }

  -- a point without a number
  pub bound_past : (m : ℤ) (place : ℕ) → ((x : ℤ) → get_or points n Missing ≢ Scaled x) → IsBound Before points n m place → IsBound Before points (n + 1) m place
  bound_past m place none old = record {
    counted = old.counted;
    within = let h = old.within in omega arith;
    stands = old.stands;
    first = old.first;
    bound = λ k y within there. elim (cases_lt k n) [
      | inl l ↦ old.bound k y l there
      | inr g ↦ let e : n ≡ k = omega arith in absurd (none y (ap (λ i. get_or points i Missing) e ∙ there))
    ];
  }

le_self : (x : ℤ) → x ≤ℤ x
le_self x = omega (arith, ints)

-- ---- bounds as numbers come

module _ (Before : ℤ → ℤ → Type 0) (begins : ℤ) (points : List Point) (n : ℕ) where
  pub bound_none : IsBoundSoFar Before begins points 0 begins 0
  bound_none = record { bound = λ k y within there. absurd (omega arith); none = λ none. refl; some = λ some. absurd (omega arith) }

  pub number_kept : (m x : ℤ) (place : ℕ) → Before m x → get_or points n Missing ≡ Scaled x → IsBoundSoFar Before begins points n m place → IsBoundSoFar Before begins points (n + 1) m place
  number_kept m x place before here old = record {
    bound = λ k y within there. elim (cases_lt k n) [
      | inl l ↦ old.bound k y l there
      | inr g ↦ subst (λ z. Before m z) (same_number points n k x y (omega arith) here there) before
    ];
    none = old.none;
    some = λ some. bound_kept Before points n m x place before here (old.some some);
  }

  pub number_moved : (m x : ℤ) (place next : ℕ) → n + 1 ≡ next → Before x x → ((y : ℤ) → Before m y → Before x y) → ¬ (Before m x) → get_or points n Missing ≡ Scaled x → IsBoundSoFar Before begins points n m place
      → IsBoundSoFar Before begins points (n + 1) x next
  number_moved m x place next is same along beyond here old =
      let all : (k : ℕ) (y : ℤ) → k < n + 1 → get_or points k Missing ≡ Scaled y → Before x y = λ k y within there. elim (cases_lt k n) [
        | inl l ↦ along y (old.bound k y l there)
        | inr g ↦ subst (λ z. Before x z) (same_number points n k x y (omega arith) here there) same
      ] in
      record {
        bound = all;
        none = λ none. absurd (omega arith);
        some = λ some. subst (IsBound Before points (n + 1) x) is (record {
          counted = omega arith;
          within = omega arith;
          stands = ap (λ k. get_or points k Missing) (last n) ∙ here;
          first = λ k before there. beyond (old.bound k x (omega arith) there);
          bound = all;
        });
      }

  pub number_past : (m : ℤ) (place : ℕ) → ((x : ℤ) → get_or points n Missing ≢ Scaled x) → IsBoundSoFar Before begins points n m place → IsBoundSoFar Before begins points (n + 1) m place
  number_past m place none old = record {
    bound = λ k y within there. elim (cases_lt k n) [
      | inl l ↦ old.bound k y l there
      | inr g ↦ let e : n ≡ k = omega arith in absurd (none y (ap (λ i. get_or points i Missing) e ∙ there))
    ];
    none = old.none;
    some = λ some. bound_past Before points n m place none (old.some some);
  }

pub least_moved : (points : List Point) (n : ℕ) (m x begins : ℤ) (place next : ℕ) → n + 1 ≡ next → x <ℤ m → get_or points n Missing ≡ Scaled x → IsBoundSoFar (λ x y. x ≤ℤ y) begins points n m place
    → IsBoundSoFar (λ x y. x ≤ℤ y) begins points (n + 1) x next
least_moved points n m x begins place next is less here old =
    number_moved (λ x y. x ≤ℤ y) begins points n m x place next is (le_self x) (λ y h. omega (arith, ints)) (λ h. omega (arith, ints)) here old

pub greatest_moved : (points : List Point) (n : ℕ) (m x begins : ℤ) (place next : ℕ) → n + 1 ≡ next → m <ℤ x → get_or points n Missing ≡ Scaled x → IsBoundSoFar (λ x y. y ≤ℤ x) begins points n m place
    → IsBoundSoFar (λ x y. y ≤ℤ x) begins points (n + 1) x next
greatest_moved points n m x begins place next is more here old =
    number_moved (λ x y. y ≤ℤ x) begins points n m x place next is (le_self x) (λ y h. omega (arith, ints)) (λ h. omega (arith, ints)) here old

-- ---- once all numbers came

module _ (points : List Point) (n : ℕ) (l g low high : ℤ) (i j : ℕ) (least : IsBoundSoFar (λ x y. x ≤ℤ y) high points n l i) (greatest : IsBoundSoFar (λ x y. y ≤ℤ x) low points n g j) where
  pub no_extremes : low <ℤ high → i ≡ 0 → j ≡ 0 → HasNoNumber points n
  no_extremes order none none' k x within there =
      let above = least.bound k x within there in
      let below = greatest.bound k x within there in
      let a = least.none none in
      let b = greatest.none none' in
      omega (arith, ints)

  -- all numbers are the greatest of all
  pub least_there : g ≤ℤ high → (place : ℕ) → (1 ≤ i → place ≡ i) → (i ≡ 0 → place ≡ j) → (i ≡ 0 → 1 ≤ j) → IsBound (λ x y. x ≤ℤ y) points n l place
  least_there top place is_some is_none other = elim (cases_lt 0 i) [
    | inl some ↦ subst (IsBound (λ x y. x ≤ℤ y) points n l) (sym (is_some some)) (least.some some)
    | inr none ↦
        let zero' : i ≡ 0 = omega arith in
        let found = greatest.some (other zero') in
        let some = found.counted in
        let within = found.within in
        let at : j - 1 < n = omega arith in
        let above = least.bound (j - 1) g at found.stands in
        let is = least.none zero' in
        let same : l ≡ g = omega (arith, ints) in
        subst (IsBound (λ x y. x ≤ℤ y) points n l) (sym (is_none zero')) (record {
          counted = some;
          within = within;
          stands = found.stands ∙ ap Scaled (sym same);
          first = λ k before there. found.first k before (there ∙ ap Scaled same);
          bound = least.bound;
        })
  ]

  pub greatest_there : low ≤ℤ l → (place : ℕ) → (1 ≤ j → place ≡ j) → (j ≡ 0 → place ≡ i) → (j ≡ 0 → 1 ≤ i) → IsBound (λ x y. y ≤ℤ x) points n g place
  greatest_there bottom place is_some is_none other = elim (cases_lt 0 j) [
    | inl some ↦ subst (IsBound (λ x y. y ≤ℤ x) points n g) (sym (is_some some)) (greatest.some some)
    | inr none ↦
        let zero' : j ≡ 0 = omega arith in
        let found = least.some (other zero') in
        let some = found.counted in
        let within = found.within in
        let at : i - 1 < n = omega arith in
        let below = greatest.bound (i - 1) l at found.stands in
        let is = greatest.none zero' in
        let same : g ≡ l = omega (arith, ints) in
        subst (IsBound (λ x y. y ≤ℤ x) points n g) (sym (is_none zero')) (record {
          counted = some;
          within = within;
          stands = found.stands ∙ ap Scaled (sym same);
          first = λ k before there. found.first k before (there ∙ ap Scaled same);
          bound = greatest.bound;
        })
  ]

pub so_far_values : (points : List Point) (n : ℕ) (found : Option Extremes) → n ≡ length points → AreExtremesSoFar points n found → IfSome found (λ m. BoundAllValues points m)
so_far_values points n None e is = tt
so_far_values points n (Some m) e is = values_bound points m (rw e at is)

pub so_far_none : (points : List Point) (found : Option Extremes) → AreExtremesSoFar points (length points) found → IfNone found (HasNoNumber points (length points))
so_far_none points None is = is
so_far_none points (Some m) is = tt

pub so_far_some : (points : List Point) (found : Option Extremes) → AreExtremesSoFar points (length points) found → IfSome found (λ m. AreExtremes points (length points) m)
so_far_some points None is = tt
so_far_some points (Some m) is = is
