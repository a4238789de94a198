-- Sums of pairs of codes.
use Rattle.std.proofs.Common.{◌≡◌, ℕ, zero, suc, ◌+◌, ◌*◌, ◌/◌, ◌%◌, ◌^◌, ◌<◌, ◌≤◌, List, [], ◌∷◌, length, get_or, drop, ap, ◌∙◌, arith, add-one, drop-cons}
use Rattle.std.proofs.Math.Nat.{mul-le-mul_left}
use Rattle.std.proofs.lemmas.List.Sums.{sum_by-cons}
use Rattle.grib_coding.specs.Items.{pair_number}
use Rattle.grib_coding.specs.Choices.{high_sum, pair_sum}

pair_number-more : (first second : ℕ) → first + second ≤ pair_number first second
pair_number-more zero zero = omega arith
pair_number-more zero (suc c) =
    let one : 1 ≤ suc c = omega arith in
    omega (arith, mul-le-mul_left (suc c) one)
pair_number-more (suc a) c =
    let one : 1 ≤ suc a + c = omega arith in
    omega (arith, mul-le-mul_left (suc a + c) one)

-- a code counts no more than its pair
pub pair_sum-more : (codes : List ℕ) → length codes % 2 ≡ 0 → high_sum 0 codes ≤ pair_sum codes
pair_sum-more [] even = omega arith
pair_sum-more (one ∷ []) even = absurd (omega arith)
pair_sum-more (one ∷ other ∷ codes) even =
    let rest = pair_sum-more codes (omega arith) in
    let first = sum_by-cons (λ c. c / 2 ^ 0) one (other ∷ codes) in
    let second = sum_by-cons (λ c. c / 2 ^ 0) other codes in
    omega (arith, rest, first, second, pair_number-more one other)

two_more : (codes : List ℕ) (i : ℕ) → i + 1 < length codes
    → drop i codes ≡ get_or codes i 0 ∷ get_or codes (i + 1) 0 ∷ drop (i + 2) codes
two_more codes i within =
    let here : i < length codes = omega arith in
    let first : drop i codes ≡ get_or codes i 0 ∷ drop (suc i) codes = drop-cons codes i 0 here in
    let second : drop (i + 1) codes ≡ get_or codes (i + 1) 0 ∷ drop (suc (i + 1)) codes = drop-cons codes (i + 1) 0 within in
    let more : suc i ≡ i + 1 = omega arith in
    let two : suc (i + 1) ≡ i + 2 = omega arith in
    first ∙ (ap (λ n. get_or codes i 0 ∷ drop n codes) more
    ∙ (ap (λ xs. get_or codes i 0 ∷ xs) second ∙ ap (λ n. get_or codes i 0 ∷ get_or codes (i + 1) 0 ∷ drop n codes) two))

pub pair_step : (codes : List ℕ) (i : ℕ) → i + 1 < length codes
    → pair_sum (drop i codes) ≡ pair_number (get_or codes i 0) (get_or codes (i + 1) 0) + pair_sum (drop (i + 2) codes)
pair_step codes i within = ap pair_sum (two_more codes i within)

pub sum_step : (codes : List ℕ) (i : ℕ) → i + 1 < length codes
    → high_sum 0 (drop i codes) ≡ get_or codes i 0 + get_or codes (i + 1) 0 + high_sum 0 (drop (i + 2) codes)
sum_step codes i within =
    let one = get_or codes i 0 in
    let other = get_or codes (i + 1) 0 in
    let rest = drop (i + 2) codes in
    let first = sum_by-cons (λ c. c / 2 ^ 0) one (other ∷ rest) in
    let second = sum_by-cons (λ c. c / 2 ^ 0) other rest in
    ap (high_sum 0) (two_more codes i within) ∙ omega (arith, first, second)
