-- Quotients of quotients.
use Rattle.std.proofs.Common.{◌≡◌, ℕ, ◌+◌, ◌*◌, ◌^◌, ◌<◌, ◌≤◌, ◌⊎◌, inl, inr, Bool, true, false, sym, ap, ◌∙◌, arith}
use Rattle.std.proofs.Math.Nat.{mul-le-mul_right, mul-lt-mul_of_pos_right, mul_assoc, mul_comm}
use Rattle.std.proofs.lemmas.Nat.{pow-add}
use Rattle.std.proofs.lemmas.Bool.{false≢true}
use Rattle.grib_long.specs.Floor.{IsFloor}
use Rattle.grib_long.specs.Begun.{IsBegun}
use Rattle.grib_long.specs.declared.leading.Leading.{Leading}

-- by 1
pub floor_whole : (number step : ℕ) → step ≡ 1 → IsFloor number number step false
floor_whole number step one =
    let times : number * step ≡ number = ap (λ k. number * k) one ∙ omega arith in
    let next : (number + 1) * step ≡ number + 1 = ap (λ k. (number + 1) * k) one ∙ omega arith in
    record {
      from = omega arith;
      below = omega arith;
      exact = λ _. omega arith;
      above = λ e. absurd (false≢true e);
    }

-- a quotient by a, by b
pub floor_twice : (number whole steps a b : ℕ) (m m' r : Bool) → 0 < a → IsFloor number whole a m → IsFloor whole steps b m' → (r ≡ false → (m ≡ false) × (m' ≡ false)) → (r ≡ true → (m ≡ true) ⊎ (m' ≡ true))
    → IsFloor number steps (a * b) r
floor_twice number whole steps a b m m' r some one two none part =
    let turned : (k : ℕ) → k * (a * b) ≡ k * b * a = λ k. ap (λ p. k * p) (mul_comm a b) ∙ sym (mul_assoc k b a) in
    let from = one.from in
    let from' = two.from in
    let below' : whole + 1 ≤ (steps + 1) * b = let below = two.below in omega arith in
    record {
      from = omega (arith, turned steps, mul-le-mul_right a from', from);
      below = omega (arith, turned (steps + 1), mul-le-mul_right a below', one.below);
      exact = λ e. one.exact (none e).0 ∙ ap (λ k. k * a) (two.exact (none e).1) ∙ sym (turned steps);
      above = λ e. elim (part e) [
        | inl m_is ↦ omega (arith, turned steps, one.above m_is, mul-le-mul_right a from')
        | inr m_is ↦ omega (arith, turned steps, from, mul-lt-mul_of_pos_right (two.above m_is) some)
      ];
    }

-- one digit more, of which only whether it is 0 is kept
floor_digit : (number steps exponent digit : ℕ) (m r : Bool) → digit < 2 ^ 32 → IsFloor number steps (2 ^ exponent) m → (r ≡ false → (m ≡ false) × (digit ≡ 0)) → (r ≡ true → (m ≡ true) ⊎ (0 < digit))
    → IsFloor (number * 2 ^ 32 + digit) steps (2 ^ (exponent + 32)) r
floor_digit number steps exponent digit m r few is none part =
    let times : (k : ℕ) → k * 2 ^ (exponent + 32) ≡ k * 2 ^ exponent * 2 ^ 32 = λ k. ap (λ p. k * p) (pow-add 2 exponent 32) ∙ sym (mul_assoc k (2 ^ exponent) (2 ^ 32)) in
    let from = is.from in
    let below = is.below in
    record {
      from = omega (arith, times steps, from);
      below = omega (arith, times (steps + 1), below, few);
      exact = λ e. omega (arith, times steps, is.exact (none e).0, (none e).1);
      above = λ e. elim (part e) [
        | inl m_is ↦ omega (arith, times steps, is.above m_is)
        | inr some ↦ omega (arith, times steps, from, some)
      ];
    }

abbrev leading_of : ℕ → Bool → ℕ → Leading
leading_of steps more exponent = record { steps = steps; more = more; exponent = exponent }

pub begun_more : (number digit : ℕ) (l : Leading) (r : Bool) → digit < 2 ^ 32 → 2 ^ 94 ≤ l.steps → (r ≡ false → (l.more ≡ false) × (digit ≡ 0)) → (r ≡ true → (l.more ≡ true) ⊎ (0 < digit)) → IsBegun number l
    → IsBegun (number * 2 ^ 32 + digit) (record { steps = l.steps; more = r; exponent = l.exponent + 32 })
begun_more number digit l r few many none part is = record {
  floor = floor_digit number l.steps l.exponent digit l.more r few is.floor none part;
  few = is.few;
  whole = λ less. absurd (omega (arith, less, many));
  none = λ less. absurd (omega (arith, less, many));
}
