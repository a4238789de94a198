-- Pairs of codes and their numbers.
use Rattle.std.proofs.Common.{◌≡◌, ℕ, zero, suc, ◌+◌, ◌-◌, ◌*◌, ◌/◌, ◌≤◌, refl, ap, ◌∙◌, arith}
use Rattle.grib_coding.specs.Items.{Pair, next_pair, pair_of, pair_number}

-- the number of the first pair of a sum
triangle : ℕ → ℕ
triangle d = d * (d + 1) / 2

triangle-suc : (d : ℕ) → triangle (suc d) ≡ suc (triangle d + d)
unfolding triangle
triangle-suc d = omega arith

pair : ℕ → ℕ → Pair
pair first second = record { first = first; second = second }

next-suc : (first second : ℕ) → next_pair (suc first) second ≡ pair first (second + 1)
unfolding pair
next-suc first second = refl

next-zero : (second : ℕ) → next_pair 0 second ≡ pair (second + 1) 0
unfolding pair
next-zero second = refl

after : (number first second : ℕ) → pair_of number ≡ pair first second → pair_of (suc number) ≡ next_pair first second
unfolding pair
after number first second is = ap (λ p. next_pair p.first p.second) is

along : (d c : ℕ) → pair_of (triangle d) ≡ pair d 0 → c ≤ d → pair_of (triangle d + c) ≡ pair (d - c) c
along d zero start within =
    let same : triangle d + 0 ≡ triangle d = omega arith in
    let none : d ≡ d - 0 = omega arith in
    ap pair_of same ∙ (start ∙ ap (λ n. pair n 0) none)
along d (suc c) start within =
    let before : pair_of (triangle d + c) ≡ pair (d - c) c = along d c start (omega arith) in
    let some : d - c ≡ suc (d - suc c) = omega arith in
    let number : triangle d + suc c ≡ suc (triangle d + c) = omega arith in
    let more : c + 1 ≡ suc c = omega arith in
    ap pair_of number
    ∙ (after (triangle d + c) (suc (d - suc c)) c (before ∙ ap (λ n. pair n c) some)
    ∙ (next-suc (d - suc c) c ∙ ap (pair (d - suc c)) more))

starts : (d : ℕ) → pair_of (triangle d) ≡ pair d 0
unfolding triangle pair
starts zero = refl
starts (suc d) =
    let last : pair_of (triangle d + d) ≡ pair 0 d =
    let none : d - d ≡ 0 = omega arith in
    along d d (starts d) (omega arith) ∙ ap (λ n. pair n d) none in
    let more : d + 1 ≡ suc d = omega arith in
    ap pair_of (triangle-suc d) ∙ (after (triangle d + d) 0 d last ∙ (next-zero d ∙ ap (λ n. pair n 0) more))

pub pair_of-number : (first second : ℕ) → pair_of (pair_number first second) ≡ record { first = first; second = second }
unfolding triangle pair
pair_of-number first second =
    let rest : first + second - second ≡ first = omega arith in
    along (first + second) second (starts (first + second)) (omega arith) ∙ ap (λ n. pair n second) rest
