-- One code and its number.
use Rattle.std.proofs.Common.{◌≡◌, ℕ, ◌+◌, ◌-◌, ◌*◌, ◌/◌, ◌%◌, ◌<◌, ◌≤◌, ◌⊎◌, inl, inr, ap, ◌∙◌, arith}
use Rattle.std.proofs.lemmas.Bool.{cases_lt}
use Rattle.std.proofs.lemmas.Bool.Decides.{nat_tests}
use Rattle.grib_coding.specs.Mapped.{reach, mapped, unmapped, half}

pub mapped-within : (most before number : ℕ) → before ≤ most → number ≤ most → mapped most before number ≤ most
mapped-within most before number b n = grind (arith, nat_tests)

pub once : (most before one other : ℕ) → before ≤ most → one ≤ most → other ≤ most
    → mapped most before one ≡ mapped most before other → one ≡ other
once most before one other b m n e = grind (arith, nat_tests)

-- a code that is even, and whose half is within reach
pub mapped-even : (most before code : ℕ) → before ≤ most → half code ≤ reach most before → code ≡ 2 * (code / 2)
    → mapped most before (before + code / 2) ≡ code
mapped-even most before code b near even = grind (arith, nat_tests)

pub mapped-odd : (most before number code : ℕ) → before ≤ most → half code ≤ reach most before → code ≡ 2 * (code / 2) + 1
    → number + half code ≡ before → mapped most before number ≡ code
mapped-odd most before number code b near odd is = grind (arith, nat_tests)

-- a code out of reach, where more numbers are above
pub mapped-up : (most before code : ℕ) → before ≤ most - before → code ≤ most → reach most before < half code
    → mapped most before code ≡ code
mapped-up most before code b within far = grind (arith, nat_tests)

pub mapped-down : (most before code : ℕ) → before ≤ most → most - before < before → code ≤ most → reach most before < half code
    → mapped most before (most - code) ≡ code
mapped-down most before code b more within far = grind (arith, nat_tests)

parity : (n : ℕ) → (n ≡ 2 * (n / 2)) ⊎ (n ≡ 2 * (n / 2) + 1)
parity n = elim (cases_lt (n % 2) 1) [ inl e ↦ inl (omega arith) | inr o ↦ inr (omega arith) ]

pub each : (most before code : ℕ) → before ≤ most → code ≤ most
    → (number : ℕ) × (number ≤ most) × (mapped most before number ≡ code)
each most before code b within = elim (cases_lt (reach most before) (half code)) [
  | inr near ↦ elim (parity code) [
    | inl even ↦ (before + code / 2, omega arith, mapped-even most before code b near even)
    | inr odd ↦ (before - half code, omega arith, mapped-odd most before (before - half code) code b near odd (omega arith))
  ]
  | inl far ↦ elim (cases_lt (most - before) before) [
    | inl more ↦ (most - code, omega arith, mapped-down most before code b more within far)
    | inr more ↦ (code, within, mapped-up most before code more within far)
  ]
]

-- the distance that a code within reach tells
pub unfolded : (most before number code : ℕ) → before ≤ most → number ≤ most → mapped most before number ≡ code
    → half code ≤ reach most before → half code ≡ (number - before) + (before - number)
unfolded most before number code b n is near = grind (arith, nat_tests)

-- what parity tells of a code within reach
pub by_parity : (most before number code : ℕ) → before ≤ most → half code ≤ reach most before
    → (code ≡ 2 * (code / 2) → number ≡ before + code / 2) → (code ≡ 2 * (code / 2) + 1 → number + half code ≡ before)
    → (number ≤ most) × (mapped most before number ≡ code)
by_parity most before number code b near even odd = elim (parity code) [
  | inl e ↦ let is : number ≡ before + code / 2 = even e in
      (omega arith, ap (mapped most before) is ∙ mapped-even most before code b near e)
  | inr o ↦ (omega (arith, odd o), mapped-odd most before number code b near o (odd o))
]

-- the number of a code is found again
pub found_again : (most before number : ℕ) → before ≤ most → number ≤ most → unmapped most before (mapped most before number) ≡ number
found_again most before number b n = grind (arith, nat_tests)
