-- Numbers are told again by their differences.
use Rattle.std.proofs.Common.{◌≡◌, ℕ, zero, suc, ◌+◌, ◌-◌, ◌<◌, ◌≤◌, List, [], ◌∷◌, length, get_or, ℤ, pos, nat_abs, ◌+ℤ◌, ◌-ℤ◌, ◌≤ℤ◌, refl, ap, sym, ◌∙◌, arith, le-ltb, subst}
use Rattle.std.proofs.lemmas.Int.{ints}
use Rattle.std.proofs.lemmas.List.FromFn.{get_or-map-range_with_len, length-map-range_with_len}
use Rattle.grib_packing.specs.Differences.{Differenced, difference_at, differences, lesser, least, least_of, descriptors_of, code_at, difference_codes}
use Rattle.grib_complex_reading.specs.Order.{IsOrder}

-- the lesser of two is at most each
lesser-left : (x y : ℤ) → lesser x y ≤ℤ x
lesser-left x y = grind (arith, ints)

lesser-right : (x y : ℤ) → lesser x y ≤ℤ y
lesser-right x y = grind (arith, ints)

least_of-start : (x : ℤ) (xs : List ℤ) → least_of x xs ≤ℤ x
least_of-start x [] = omega (arith, ints)
least_of-start x (y ∷ ys) = omega (arith, ints, least_of-start (lesser x y) ys, lesser-left x y)

least_of-each : (x : ℤ) (xs : List ℤ) (k : ℕ) → k < length xs → least_of x xs ≤ℤ get_or xs k (pos 0)
least_of-each x [] k within = absurd (omega arith)
least_of-each x (y ∷ ys) zero within = omega (arith, ints, least_of-start (lesser x y) ys, lesser-right x y)
least_of-each x (y ∷ ys) (suc k) within = least_of-each (lesser x y) ys k (omega arith)

-- the least of some numbers is at most each of them
least-each : (xs : List ℤ) (k : ℕ) → k < length xs → least xs ≤ℤ get_or xs k (pos 0)
least-each [] k within = absurd (omega arith)
least-each (x ∷ xs) zero within = least_of-start x xs
least-each (x ∷ xs) (suc k) within = least_of-each x xs k (omega arith)

above : (d m : ℤ) → m ≤ℤ d → (pos (nat_abs (d -ℤ m)) +ℤ m) ≡ d
above d m low = omega (arith, ints)

-- the code of a place from the order on, and the minimum, make the difference there
code_and_minimum : (order : ℕ) (xs : List ℤ) (k : ℕ) → order ≤ k → k < length xs
    → (pos (get_or (difference_codes order xs) k 0) +ℤ least (differences order xs)) ≡ difference_at order xs k
code_and_minimum order xs k from within =
    let m = least (differences order xs) in
    let d = difference_at order xs k in
    let place : order + (k - order) ≡ k = omega arith in
    let is : get_or (differences order xs) (k - order) (pos 0) ≡ d =
    get_or-map-range_with_len (difference_at order xs) order (length xs - order) (k - order) k (pos 0) (omega arith) place in
    let size : length (differences order xs) ≡ length xs - order = length-map-range_with_len (difference_at order xs) order (length xs - order) in
    let Low : ℤ → Type 0 = λ n. m ≤ℤ n in
    let low : m ≤ℤ d = subst Low is (least-each (differences order xs) (k - order) (omega (arith, size))) in
    let code : get_or (difference_codes order xs) k 0 ≡ code_at order xs k =
    get_or-map-range_with_len (code_at order xs) 0 (length xs) k k 0 within (omega arith) in
    let late : code_at order xs k ≡ nat_abs (d -ℤ m) = rw (le-ltb k order from) refl in
    ap (λ n. pos n +ℤ m) (code ∙ late) ∙ above d m low

pub told_of : (order : ℕ) (xs : List ℤ) → IsOrder order
    → Differenced order (descriptors_of order xs).first (descriptors_of order xs).second (descriptors_of order xs).minimum (difference_codes order xs) xs
told_of order xs known = record {
  as_long = sym (length-map-range_with_len (code_at order xs) 0 (length xs));
  first = λ some. refl;
  second = λ e some. rw e refl;
  order_1 = λ e k within. sym (code_and_minimum order xs (k + 1) (omega (arith, e)) within ∙ rw e (let back : k + 1 - 1 ≡ k = omega arith in rw back refl));
  order_2 = λ e k within. sym (code_and_minimum order xs (k + 2) (omega (arith, e)) within ∙ rw e (let one : k + 2 - 1 ≡ k + 1 = omega arith in let two : k + 2 - 2 ≡ k = omega arith in rw (one, two) refl));
}
