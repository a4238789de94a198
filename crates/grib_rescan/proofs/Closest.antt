-- The place that is nearest.
use Rattle.std.proofs.Common.{◌≡◌, ℕ, zero, suc, ◌+◌, ◌-◌, ◌<◌, ◌≤◌, inl, inr, Bool, true, false, cond, ◌&&◌, nat_le, nat_lt, List, ◌∷◌, get_or, filter, refl, sym, ap, ◌∙◌, subst, arith, ltb-false}
use Rattle.std.specs.List.{range_with_len, list_all}
use Rattle.std.proofs.lemmas.Bool.{cases_Bool, cases_eq, leb-true, ltb-true, le-leb, and_parts, false_from_ne_true}
use Rattle.grib_rescan.specs.declared.places.Closest.{Closest}
use Rattle.grib_rescan.specs.Bounds.{nearest}
use Rattle.grib_rescan.specs.Places.{IsNearest}

-- ---- of several places, each

all_pass : (test : ℕ → Bool) (a n : ℕ) → ((m : ℕ) → a ≤ m → m < a + n → test m ≡ true) → list_all test (range_with_len a n) ≡ true
all_pass test a zero each = refl
all_pass test a (suc n) each =
    let here = each a (omega arith) (omega arith) in
    ap (λ b. b && list_all test (range_with_len (a + 1) n)) here ∙ all_pass test (a + 1) n (λ m low high. each m (omega (arith, low)) (omega (arith, high)))

passes : (test : ℕ → Bool) (a n m : ℕ) → list_all test (range_with_len a n) ≡ true → a ≤ m → m < a + n → test m ≡ true
passes test a zero m all low high = absurd (omega (arith, low, high))
passes test a (suc n) m all low high =
    let both = and_parts (test a) (list_all test (range_with_len (a + 1) n)) all in
    elim (cases_eq a m) [
      | inl same ↦ ap test (sym same) ∙ both.0
      | inr other ↦ passes test (a + 1) n m both.1 (omega (arith, low, other)) (omega (arith, high))
    ]

-- ---- the first that holds

first_here : (b : Bool) (a k : ℕ) (xs : List ℕ) → b ≡ true → a ≡ k → get_or (cond b (a ∷ xs) xs) 0 0 ≡ k
first_here true a k xs is same = same
first_here false a k xs is same = cc

first_later : (b : Bool) (a : ℕ) (xs : List ℕ) → b ≡ false → get_or (cond b (a ∷ xs) xs) 0 0 ≡ get_or xs 0 0
first_later true a xs is = cc
first_later false a xs is = refl

first_held : (holds : ℕ → Bool) (a n k : ℕ) → a ≤ k → k < a + n → holds k ≡ true → ((m : ℕ) → m < k → holds m ≡ false) → get_or (filter holds (range_with_len a n)) 0 0 ≡ k
first_held holds a zero k low high is before = absurd (omega (arith, low, high))
first_held holds a (suc n) k low high is before = elim (cases_eq a k) [
  | inl same ↦ first_here (holds a) a k (filter holds (range_with_len (a + 1) n)) (ap holds same ∙ is) same
  | inr other ↦ first_later (holds a) a (filter holds (range_with_len (a + 1) n)) (before a (omega (arith, low, other)))
      ∙ first_held holds (a + 1) n k (omega (arith, low, other)) (omega (arith, high)) is before
]

-- ---- the nearest

pub nearest_is : (distance : ℕ → ℕ) (n k : ℕ) → IsNearest distance n k → nearest distance n ≡ k
nearest_is distance n k is =
    let no_farther = λ (k : ℕ). list_all (λ m. nat_le (distance k) (distance m)) (range_with_len 0 n) in
    first_held no_farther 0 n k (omega arith) (omega (arith, is.within))
    (all_pass (λ m. nat_le (distance k) (distance m)) 0 n (λ m low high. le-leb (distance k) (distance m) (is.least m (omega (arith, high)))))
    (λ m small. false_from_ne_true (no_farther m)
    (λ all. let h = leb-true (distance m) (distance k) (passes (λ l. nat_le (distance m) (distance l)) 0 n k all (omega arith) (omega (arith, is.within))) in
    let nearer = is.first m small in
    omega (arith, h, nearer)))

-- one place more: it is nearer, or not
pub nearer : (distance : ℕ → ℕ) (n k : ℕ) → IsNearest distance n k → distance n < distance k → IsNearest distance (n + 1) n
nearer distance n k is less = record {
  within = omega arith;
  least = λ m small. elim (cases_eq m n) [
    | inl same ↦ subst (λ (l : ℕ). distance n ≤ distance l) (sym same) (omega arith)
    | inr other ↦ let h = is.least m (omega (arith, small, other)) in omega (arith, h, less)
  ];
  first = λ m small. let h = is.least m small in omega (arith, h, less);
}

pub no_nearer : (distance : ℕ → ℕ) (n k : ℕ) → IsNearest distance n k → distance k ≤ distance n → IsNearest distance (n + 1) k
no_nearer distance n k is more = record {
  within = omega (arith, is.within);
  least = λ m small. elim (cases_eq m n) [
    | inl same ↦ subst (λ (l : ℕ). distance k ≤ distance l) (sym same) more
    | inr other ↦ is.least m (omega (arith, small, other))
  ];
  first = is.first;
}

pub one_place : (distance : ℕ → ℕ) → IsNearest distance 1 0
one_place distance = record {
  within = omega arith;
  least = λ m small. let same : 0 ≡ m = omega (arith, small) in subst (λ (l : ℕ). distance 0 ≤ distance l) same (omega arith);
  first = λ m small. absurd (omega (arith, small));
}

one_of_them : (distance : ℕ → ℕ) (n : ℕ) → (k : ℕ) × IsNearest distance (n + 1) k
one_of_them distance zero = (0, one_place distance)
one_of_them distance (suc n) =
    let before = one_of_them distance n in
    let next : n + 1 ≡ suc n = omega arith in
    let is = subst (λ (m : ℕ). IsNearest distance m before.0) next before.1 in
    elim (cases_Bool (nat_lt (distance (suc n)) (distance before.0))) [
      | inl less ↦ (suc n, nearer distance (suc n) before.0 is (ltb-true _ _ less))
      | inr more ↦ (before.0, no_nearer distance (suc n) before.0 is (ltb-false _ _ more))
    ]

pub is_nearest : (distance : ℕ → ℕ) (n : ℕ) → 1 ≤ n → IsNearest distance n (nearest distance n)
is_nearest distance n some =
    let at = one_of_them distance (n - 1) in
    let all : n - 1 + 1 ≡ n = omega (arith, some) in
    let is = subst (λ (m : ℕ). IsNearest distance m at.0) all at.1 in
    subst (IsNearest distance n) (sym (nearest_is distance n at.0 is)) is

-- what a loop keeps
pub record IsSoFar (distance : ℕ → ℕ) (n : ℕ) (closest : Closest) : Type 0 where
  pub nearest : IsNearest distance n closest.place
  pub distance_is : closest.distance ≡ distance closest.place

later_or : (distance : ℕ → ℕ) (n : ℕ) (closest : Closest) (b : Bool) → nat_lt (distance n) closest.distance ≡ b → IsSoFar distance n closest
    → IsSoFar distance (n + 1) (cond b (record { place = n; distance = distance n }) closest)
later_or distance n closest true less is =
    let h = ltb-true _ _ less in
    record { nearest = nearer distance n closest.place is.nearest (omega (arith, h, is.distance_is)); distance_is = refl }
later_or distance n closest false more is =
    let h = ltb-false _ _ more in
    record { nearest = no_nearer distance n closest.place is.nearest (omega (arith, h, is.distance_is)); distance_is = is.distance_is }

pub so_far : (distance : ℕ → ℕ) (n d : ℕ) (before after : Closest) → d ≡ distance n → IsSoFar distance n before
    → after ≡ cond (nat_lt d before.distance) (record { place = n; distance = d }) before → IsSoFar distance (n + 1) after
so_far distance n d before after d_is is made =
    subst (IsSoFar distance (n + 1))
    (sym (made ∙ ap (λ (d : ℕ). cond (nat_lt d before.distance) (record { place = n; distance = d }) before) d_is))
    (later_or distance n before (nat_lt (distance n) before.distance) refl is)
