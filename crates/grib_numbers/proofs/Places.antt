-- The first element of a list that passes a test.
use Rattle.std.proofs.Common.{◌≡◌, ℕ, ◌+◌, Bool, true, false, cond, not, ◌||◌, List, [], ◌∷◌, length, refl, arith}
use Rattle.std.specs.List.{list_any, position_or_len}

at_first : (b : Bool) (n len : ℕ) (later : Bool) → cond (not b) (1 + n) 0 ≡ 1 + len → (n ≡ len → later ≡ false) → (b || later) ≡ false
at_first true n len later e next = absurd (omega (arith, e))
at_first false n len later e next = next (omega (arith, e))

-- where it is at the end of the list, there is none
pub no_place : (p : ℕ → Bool) (xs : List ℕ) → position_or_len p xs ≡ length xs → list_any p xs ≡ false
no_place p [] e = refl
no_place p (x ∷ xs) e = at_first (p x) (position_or_len p xs) (length xs) (list_any p xs) (omega (arith, e)) (no_place p xs)
