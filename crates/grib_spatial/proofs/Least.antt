-- The least of some numbers, one after another.
use Rattle.std.proofs.Common.{◌≡◌, ℕ, ◌+◌, ◌-◌, ◌≤◌, List, [], ◌∷◌, ◌++◌, length, map, ℤ, nat_abs, int_lt, cond, true, false, refl, ap, ◌∙◌, arith}
use Rattle.std.specs.List.{range_with_len}
use Rattle.std.proofs.lemmas.List.FromFn.{map-range_with_len_more, length-map-range_with_len}
use Rattle.grib_packing.specs.Differences.{lesser, least, least_of}

least_of-push : (x : ℤ) (xs : List ℤ) (y : ℤ) → least_of x (xs ++ y ∷ []) ≡ lesser (least_of x xs) y
least_of-push x [] y = refl
least_of-push x (z ∷ xs) y = least_of-push (lesser x z) xs y

least-push : (xs : List ℤ) (y : ℤ) → 1 ≤ length xs → least (xs ++ y ∷ []) ≡ lesser (least xs) y
least-push [] y some = absurd (omega arith)
least-push (x ∷ xs) y some = least_of-push x xs y

-- the least of those at places from a on, one place more
pub least-more : (f : ℕ → ℤ) (a place : ℕ) → a + 1 ≤ place
    → least (map f (range_with_len a (place + 1 - a))) ≡ lesser (least (map f (range_with_len a (place - a)))) (f place)
least-more f a place some =
    let e : place + 1 - a ≡ (place - a) + 1 = omega arith in
    let at : a + (place - a) ≡ place = omega arith in
    ap (λ n. least (map f (range_with_len a n))) e
    ∙ (ap least (map-range_with_len_more f a (place - a) place at)
    ∙ least-push (map f (range_with_len a (place - a))) (f place) (omega (arith, length-map-range_with_len f a (place - a))))

-- the lesser of two small numbers is small
pub small-lesser : (x y : ℤ) (n : ℕ) → nat_abs x ≤ n → nat_abs y ≤ n → nat_abs (lesser x y) ≤ n
small-lesser x y n a b = elim (int_lt y x) as (λ t. nat_abs (cond t y x) ≤ n) [ true ↦ b | false ↦ a ]
