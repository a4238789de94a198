-- Numbers by their digits, one digit more.
use Rattle.std.proofs.Common.{◌≡◌, ℕ, suc, ◌+◌, ◌*◌, ◌/◌, ◌%◌, ◌^◌, ◌<◌, List, [], ◌∷◌, ◌++◌, length, take, get_or, refl, sym, ap, ◌∙◌, arith}
use Rattle.std.proofs.lemmas.List.{length_push, length-reverse, length-take-le, reverse-append, reverse-reverse, take_more}
use Rattle.std.proofs.lemmas.Nat.{pow-add, div-add-mod'}
use Rattle.std.proofs.Math.Nat.{mul_assoc, mul_comm}
use mathlib.Core.List.{reverse}
use Rattle.grib_long.specs.Digits.{big, little}

-- 2 ^ (32 * (n + 1))
pub one_more : (n : ℕ) → 2 ^ (32 * (n + 1)) ≡ 2 ^ (32 * n) * 2 ^ 32
one_more n = ap (λ k. 2 ^ k) {x = 32 * (n + 1)} {y = 32 * n + 32} (omega arith) ∙ pow-add 2 (32 * n) 32

pub times_more : (x n : ℕ) → x * 2 ^ (32 * (n + 1)) ≡ x * 2 ^ (32 * n) * 2 ^ 32
times_more x n = ap (λ p. x * p) (one_more n) ∙ sym (mul_assoc x (2 ^ (32 * n)) (2 ^ 32))

pub big_push : (digits : List ℕ) (d : ℕ) → big (digits ++ d ∷ []) ≡ big digits * 2 ^ 32 + d
big_push [] d = omega arith
big_push (x ∷ digits) d =
    let place : x * 2 ^ (32 * length (digits ++ d ∷ [])) ≡ x * 2 ^ (32 * length digits) * 2 ^ 32 =
    ap (λ n. x * 2 ^ (32 * n)) (length_push digits d) ∙ times_more x (length digits) in
    omega (arith, place, big_push digits d)

pub little_push : (digits : List ℕ) (d : ℕ) → little (digits ++ d ∷ []) ≡ little digits + d * 2 ^ (32 * length digits)
little_push [] d = omega arith
little_push (x ∷ digits) d =
    let place : d * 2 ^ (32 * suc (length digits)) ≡ d * 2 ^ (32 * length digits) * 2 ^ 32 =
    ap (λ n. d * 2 ^ (32 * n)) {x = suc (length digits)} {y = length digits + 1} (omega arith) ∙ times_more d (length digits) in
    omega (arith, place, little_push digits d)

pub little_reverse : (digits : List ℕ) → little (reverse digits) ≡ big digits
little_reverse [] = refl
little_reverse (x ∷ digits) =
    ap little (reverse-append (x ∷ []) digits)
    ∙ little_push (reverse digits) x
    ∙ ap (λ n. little (reverse digits) + x * 2 ^ (32 * n)) (length-reverse digits)
    ∙ omega (arith, little_reverse digits)

pub big_reverse : (digits : List ℕ) → big (reverse digits) ≡ little digits
big_reverse digits = sym (little_reverse (reverse digits)) ∙ ap little (reverse-reverse digits)

-- the digits so far, and the next one
pub big_more : (digits : List ℕ) (i d : ℕ) → i < length digits → big (take (i + 1) digits) ≡ big (take i digits) * 2 ^ 32 + get_or digits i d
big_more digits i d within = ap big (take_more digits i d within) ∙ big_push (take i digits) (get_or digits i d)

pub little_more : (digits : List ℕ) (i d : ℕ) → i < length digits → little (take (i + 1) digits) ≡ little (take i digits) + get_or digits i d * 2 ^ (32 * i)
little_more digits i d within =
    ap little (take_more digits i d within)
    ∙ little_push (take i digits) (get_or digits i d)
    ∙ ap (λ n. little (take i digits) + get_or digits i d * 2 ^ (32 * n)) (length-take-le i digits (omega arith))

-- a digit of a product, with what is carried: a is the number so far, of which the product has the digits p
pub product_more : (a f p c place d part : ℕ) → a * f ≡ p + c * place → part ≡ d * f + c → (a + d * place) * f ≡ p + part % 2 ^ 32 * place + part / 2 ^ 32 * (place * 2 ^ 32)
product_more a f p c place d part is part_is =
    let split : (part / 2 ^ 32 * 2 ^ 32 + part % 2 ^ 32) * place ≡ (d * f + c) * place = ap (λ k. k * place) (div-add-mod' part (2 ^ 32) ∙ part_is) in
    let swap : d * place * f ≡ d * f * place = mul_assoc d place f ∙ ap (λ k. d * k) (mul_comm place f) ∙ sym (mul_assoc d f place) in
    omega (arith, is, split, swap)

-- a digit of a quotient, with what is left
pub quotient_more : (a q by rest d part : ℕ) → a ≡ q * by + rest → part ≡ rest * 2 ^ 32 + d → a * 2 ^ 32 + d ≡ (q * 2 ^ 32 + part / by) * by + part % by
quotient_more a q by rest d part is part_is = omega (arith, is, part_is, div-add-mod' part by)
