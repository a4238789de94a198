-- The number of binary digits of a number.
use Rattle.std.proofs.Common.{◌≡◌, ℕ, zero, suc, ◌+◌, ◌-◌, ◌*◌, ◌^◌, ◌<◌, ◌≤◌, Bool, ◌∷◌, ◌++◌, length, nat_lt, ◌∙◌, arith, ap, sym, subst, lt-ltb, le-ltb}
use Rattle.std.proofs.Math.Nat.{pow-suc, pow-le-pow_right}
use Rattle.std.proofs.lemmas.Nat.{leading_length}
use Rattle.grib_packing.specs.Groupings.{digits}
use Rattle.grib_base.specs.Rules.{first_place}
use Rattle.grib_base.proofs.Places.{NoneOf, first_place-at}
use Rattle.std.specs.List.{range_with_len}
use Rattle.std.proofs.lemmas.List.FromFn.{length-range_with_len}

range-split : (a m n : ℕ) → range_with_len a (m + suc n) ≡ range_with_len a m ++ (a + m) ∷ range_with_len (a + m + 1) n
range-split a zero n =
    let e : 0 + suc n ≡ suc n = omega arith in
    let at : a ≡ a + 0 = omega arith in
    ap (range_with_len a) e ∙ ap (λ k. k ∷ range_with_len (k + 1) n) at
range-split a (suc m) n =
    let e : suc m + suc n ≡ suc (m + suc n) = omega arith in
    let at : a + 1 + m ≡ a + suc m = omega arith in
    ap (range_with_len a) e ∙ ap (λ xs. a ∷ xs) (range-split (a + 1) m n ∙ ap (λ k. range_with_len (a + 1) m ++ k ∷ range_with_len (k + 1) n) at)

-- none of the widths from a on, below w, holds the number
none_below : (number w a m : ℕ) → a + m ≤ w → 1 ≤ w → 2 ^ (w - 1) ≤ number → NoneOf (λ v. nat_lt number (2 ^ v)) (range_with_len a m)
none_below number w a zero room some high = tt
none_below number w a (suc m) room some high =
    let low : 2 ^ a ≤ 2 ^ (w - 1) = pow-le-pow_right (omega arith) (omega arith) in
    (le-ltb number (2 ^ a) (omega (arith, low, high)), none_below number w (a + 1) m (omega arith) some high)

none_of_all : (number w : ℕ) → (1 ≤ w → 2 ^ (w - 1) ≤ number) → NoneOf (λ v. nat_lt number (2 ^ v)) (range_with_len 0 w)
none_of_all number zero high = tt
none_of_all number (suc w) high = none_below number (suc w) 0 (suc w) (omega arith) (omega arith) (high (omega arith))

pub digits-is : (number w : ℕ) → w ≤ 64 → number < 2 ^ w → (1 ≤ w → 2 ^ (w - 1) ≤ number) → digits number ≡ w
digits-is number w most holds high =
    let test : ℕ → Bool = λ v. nat_lt number (2 ^ v) in
    let all : 65 ≡ w + suc (64 - w) = omega arith in
    let zero_on : 0 + w ≡ w = omega arith in
    let split : range_with_len 0 65 ≡ range_with_len 0 w ++ w ∷ range_with_len (w + 1) (64 - w) =
    ap (range_with_len 0) all ∙ (range-split 0 w (64 - w) ∙ ap (λ k. range_with_len 0 w ++ k ∷ range_with_len (k + 1) (64 - w)) zero_on) in
    let found : first_place test (range_with_len 0 65) ≡ length (range_with_len 0 w) + 1 =
    ap (first_place test) split
    ∙ first_place-at test (range_with_len 0 w) w (range_with_len (w + 1) (64 - w)) (none_of_all number w high) (lt-ltb number (2 ^ w) holds) in
    let e : first_place test (range_with_len 0 65) - 1 ≡ w = omega (arith, found, length-range_with_len 0 w) in e

-- a number of n digits has its highest 1 there
pub highest : (number n : ℕ) → 2 ^ n ≤ 2 * number + 1 → 1 ≤ n → 2 ^ (n - 1) ≤ number
highest number n least some =
    let e : n ≡ suc (n - 1) = omega arith in
    let twice : 2 ^ n ≡ 2 ^ suc (n - 1) = ap (λ k. 2 ^ k) e in
    omega (arith, least, twice, pow-suc 2 (n - 1))

pub digits-lt : (number : ℕ) → number < 2 ^ 32 → number < 2 ^ digits number
digits-lt number small =
    let l = leading_length 64 number (omega arith) in
    let is : digits number ≡ l.0 = digits-is number l.0 (omega (arith, l.1)) l.2 (highest number l.0 l.3) in
    subst (λ (w : ℕ). number < 2 ^ w) (sym is) l.2

-- the same of any word
pub digits-lt_64 : (number : ℕ) → number < 2 ^ 64 → number < 2 ^ digits number
digits-lt_64 number small =
    let l = leading_length 64 number small in
    let is : digits number ≡ l.0 = digits-is number l.0 (omega (arith, l.1)) l.2 (highest number l.0 l.3) in
    subst (λ (w : ℕ). number < 2 ^ w) (sym is) l.2

-- a number below 2 ^ w has w digits at most
pub digits-most_64 : (number w : ℕ) → number < 2 ^ 64 → number < 2 ^ w → digits number ≤ w
digits-most_64 number w small below = omega (arith, clash)
  where
    clash : w < digits number → ⊥
    clash more =
        let l = leading_length 64 number small in
        let is : digits number ≡ l.0 = digits-is number l.0 (omega (arith, l.1)) l.2 (highest number l.0 l.3) in
        let low = highest number l.0 l.3 (omega arith) in
        let power : 2 ^ w ≤ 2 ^ (l.0 - 1) = pow-le-pow_right (omega arith) (omega arith) in
        omega (arith, low, power, below)

pub digits-least : (number : ℕ) → number < 2 ^ 32 → 1 ≤ digits number → 2 ^ (digits number - 1) ≤ number
digits-least number small =
    let l = leading_length 64 number (omega arith) in
    let is : digits number ≡ l.0 = digits-is number l.0 (omega (arith, l.1)) l.2 (highest number l.0 l.3) in
    subst (λ (w : ℕ). 1 ≤ w → 2 ^ (w - 1) ≤ number) (sym is) (highest number l.0 l.3)

pub digits-most : (number w : ℕ) → number < 2 ^ 32 → number < 2 ^ w → digits number ≤ w
digits-most number w small below = omega (arith, clash)
  where
    clash : w < digits number → ⊥
    clash more =
        let low = digits-least number small (omega arith) in
        let power : 2 ^ w ≤ 2 ^ (digits number - 1) = pow-le-pow_right (omega arith) (omega arith) in
        omega (arith, low, power, below)

pub digits-mono : (m n : ℕ) → m ≤ n → n < 2 ^ 32 → digits m ≤ digits n
digits-mono m n less small = digits-most m (digits n) (omega arith) (omega (arith, less, digits-lt n small))

pub digits-some : (number : ℕ) → number < 2 ^ 32 → 1 ≤ number → 1 ≤ digits number
digits-some number small some = omega (arith, clash)
  where
    clash : digits number < 1 → ⊥
    clash none =
        let e : digits number ≡ 0 = omega arith in
        let one : 2 ^ digits number ≡ 2 ^ 0 = ap (λ w. 2 ^ w) e in
        omega (arith, digits-lt number small, one)
