-- Which sections may follow one another, in numbers.
use Rattle.std.proofs.Common.{◌≡◌, ◌≢◌, ℕ, zero, suc, ◌+◌, ◌≤◌, true, false, ◌||◌, IsTrue, inl, inr, ◌==◌, refl, sym, arith, eqb-true, ne_eqb}
use Rattle.std.proofs.lemmas.Bool.{or_cases}
use Rattle.grib2_sections.specs.Frame.{may_follow}
use Rattle.grib2_message.specs.Kept.{begun}

-- the next number; Section 3 after Section 1; or another group after Section 7
pub data Follows (last n : ℕ) : Type 0 where
  next : n ≡ last + 1 → last ≤ 6 → Follows last n
  skips : last ≡ 1 → n ≡ 3 → Follows last n
  again : last ≡ 7 → 2 ≤ n → n ≤ 4 → Follows last n

one_of : (a n : ℕ) → ((a == n) || false) ≡ true → a ≡ n
one_of a n e = elim (or_cases (a == n) false e) [ inl h ↦ eqb-true a n h | inr h ↦ cc ]

pub follows_tells : (last n : ℕ) → IsTrue (may_follow last n) → Follows last n
follows_tells zero n e = let one = one_of 1 n e in next (omega arith) (omega arith)
follows_tells (suc zero) n e =
    elim (or_cases (2 == n) ((3 == n) || false) e) [
      | inl h ↦ let two = eqb-true 2 n h in next (omega arith) (omega arith)
      | inr h ↦ let three = one_of 3 n h in skips refl (sym three)
    ]
follows_tells (suc (suc zero)) n e = let one = one_of 3 n e in next (omega arith) (omega arith)
follows_tells (suc (suc (suc zero))) n e = let one = one_of 4 n e in next (omega arith) (omega arith)
follows_tells (suc (suc (suc (suc zero)))) n e = let one = one_of 5 n e in next (omega arith) (omega arith)
follows_tells (suc (suc (suc (suc (suc zero))))) n e = let one = one_of 6 n e in next (omega arith) (omega arith)
follows_tells (suc (suc (suc (suc (suc (suc zero)))))) n e = let one = one_of 7 n e in next (omega arith) (omega arith)
follows_tells (suc (suc (suc (suc (suc (suc (suc zero))))))) n e =
    elim (or_cases (2 == n) ((3 == n) || ((4 == n) || false)) e) [
      | inl h ↦ let two = eqb-true 2 n h in again refl (omega arith) (omega arith)
      | inr h ↦ elim (or_cases (3 == n) ((4 == n) || false) h) [
        | inl g ↦ let three = eqb-true 3 n g in again refl (omega arith) (omega arith)
        | inr g ↦ let four = one_of 4 n g in again refl (omega arith) (omega arith)
      ]
    ]
follows_tells (suc (suc (suc (suc (suc (suc (suc (suc last)))))))) n e = cc

-- so numbers go from 1 to 7
pub in_range : (last n : ℕ) → Follows last n → (1 ≤ n) × (n ≤ 7)
in_range last n (next e low) = (omega arith, omega arith)
in_range last n (skips a b) = (omega arith, omega arith)
in_range last n (again a b c) = (omega arith, omega arith)

-- from Section 5 on the number before is the one below
pub one_below : (last n : ℕ) → Follows last n → 5 ≤ n → n ≡ last + 1
one_below last n (next e low) high = e
one_below last n (skips a b) high = absurd (omega arith)
one_below last n (again a b c) high = absurd (omega arith)

-- a field has begun after Sections 4 to 6
pub begun_none : (n : ℕ) → n ≢ 4 → n ≢ 5 → n ≢ 6 → begun n ≡ 0
begun_none n four five six = rw (ne_eqb n 4 four, ne_eqb n 5 five, ne_eqb n 6 six) refl
