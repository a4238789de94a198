-- What the tests of the rules say of the numbers.
use Rattle.std.proofs.Common.{◌≡◌, ℕ, ◌<◌, ◌≤◌, Bool, true, false, not, ◌&&◌, ◌||◌, ◌⊎◌, eqb, nat_lt, arith, inl, inr}
use Rattle.std.proofs.lemmas.Bool.{cases_lt}
use Rattle.std.proofs.lemmas.Bool.Decides.{nat_tests}
use Rattle.grib_base.specs.declared.limits.TheConstants.{MOST_POINTS}

-- ---- a rule on sections with a list alone

pub listed_test : (size : ℕ) (b : Bool) → (not (eqb size 0) && b) ≡ false → 0 < size → b ≡ false
listed_test size b h some = grind (arith, nat_tests)

pub test_listed : (size : ℕ) (b : Bool) → (0 < size → b ≡ false) → (not (eqb size 0) && b) ≡ false
test_listed size b h = grind (arith, nat_tests)

-- and on those without one
pub plain_test : (size : ℕ) (b : Bool) → (not (not (eqb size 0)) && b) ≡ false → size ≡ 0 → b ≡ false
plain_test size b h none = grind (arith, nat_tests)

pub test_plain : (size : ℕ) (b : Bool) → (size ≡ 0 → b ≡ false) → (not (not (eqb size 0)) && b) ≡ false
test_plain size b h = grind (arith, nat_tests)

-- ---- the tests of each rule, and back

pub points_test : (n : ℕ) → (eqb n 0 || nat_lt MOST_POINTS n) ≡ false → (1 ≤ n) × (n ≤ MOST_POINTS)
points_test n h = (grind (arith, nat_tests), grind (arith, nat_tests))

pub test_points : (n : ℕ) → 1 ≤ n → n ≤ MOST_POINTS → (eqb n 0 || nat_lt MOST_POINTS n) ≡ false
test_points n some few = grind (arith, nat_tests)

pub meaning_test : (size n : ℕ) → (not (eqb size 0) && not (eqb n 1) && not (eqb n 2)) ≡ false → 0 < size → (n ≡ 1) ⊎ (n ≡ 2)
meaning_test size n h some = grind (arith, nat_tests)

test_one : (size n : ℕ) → n ≡ 1 → (not (eqb size 0) && not (eqb n 1) && not (eqb n 2)) ≡ false
test_one size n e = grind (arith, nat_tests)

test_two : (size n : ℕ) → n ≡ 2 → (not (eqb size 0) && not (eqb n 1) && not (eqb n 2)) ≡ false
test_two size n e = grind (arith, nat_tests)

test_no_list : (size n : ℕ) → size ≡ 0 → (not (eqb size 0) && not (eqb n 1) && not (eqb n 2)) ≡ false
test_no_list size n e = grind (arith, nat_tests)

pub test_meaning : (size n : ℕ) → (0 < size → (n ≡ 1) ⊎ (n ≡ 2)) → (not (eqb size 0) && not (eqb n 1) && not (eqb n 2)) ≡ false
test_meaning size n h = elim (cases_lt 0 size) [
  | inl some ↦ elim (h some) [ inl e ↦ test_one size n e | inr e ↦ test_two size n e ]
  | inr none ↦ test_no_list size n (omega arith)
]

pub octets_test : (size : ℕ) (b : Bool) → (nat_lt 4 size || (not (eqb size 0) && not b)) ≡ false → (size ≤ 4) × (0 < size → b ≡ true)
octets_test size b h = (grind (arith, nat_tests), λ some. grind (arith, nat_tests))

pub test_octets : (size : ℕ) (b : Bool) → size ≤ 4 → (0 < size → b ≡ true) → (nat_lt 4 size || (not (eqb size 0) && not b)) ≡ false
test_octets size b word h = grind (arith, nat_tests)

pub count_test : (n : ℕ) → (eqb n 0 || eqb n 4294967295) ≡ false → n < 4294967296 → (1 ≤ n) × (n < 4294967295)
count_test n h fits = (grind (arith, nat_tests), grind (arith, nat_tests))

pub test_count : (n : ℕ) → 1 ≤ n → n < 4294967295 → (eqb n 0 || eqb n 4294967295) ≡ false
test_count n some known = grind (arith, nat_tests)

pub same_test : (a b : ℕ) → not (eqb a b) ≡ false → a ≡ b
same_test a b h = grind (arith, nat_tests)

pub test_same : (a b : ℕ) → a ≡ b → not (eqb a b) ≡ false
test_same a b e = grind (arith, nat_tests)
