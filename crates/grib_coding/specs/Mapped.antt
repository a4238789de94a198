-- Mapped differences (CCSDS 121.0-B, the unit-delay predictor and its mapper; WMO-No. 306, Volume I.2, FM 92
-- GRIB edition 2, data template 7.42): numbers from 0 to `most`, where each is told by how far it is from the
-- number before it.
use Rattle.std.specs.Prelude.{◌≡◌, ◌==◌, ℕ, ◌+◌, ◌-◌, ◌*◌, ◌/◌, ◌%◌, ◌≤◌, min, List, [], ◌∷◌, All, cond, nat_le, sum_by}

-- how far the nearer of 0 and `most` is from a number
abbrev pub reach : ℕ → ℕ → ℕ
reach most before = min before (most - before)

-- The code of a number that is this distance above the one before it: even where as far below is a number too.
abbrev pub code_above : ℕ → ℕ → ℕ
code_above reach distance = cond (nat_le distance reach) (2 * distance) (reach + distance)

-- And of one that is this distance below it, which is not 0: odd where as far above is a number too.
abbrev pub code_below : ℕ → ℕ → ℕ
code_below reach distance = cond (nat_le distance reach) (2 * distance - 1) (reach + distance)

-- the code of a number after the number `before`
abbrev pub mapped : ℕ → ℕ → ℕ → ℕ
mapped most before number =
    cond (nat_le before number)
    (code_above (reach most before) (number - before))
    (code_below (reach most before) (before - number))

-- the codes of numbers one after another, the first after the number `before`
abbrev pub codes_after : ℕ → ℕ → List ℕ → List ℕ
codes_after most before [] = []
codes_after most before (number ∷ numbers) = mapped most before number ∷ codes_after most number numbers

-- These are the numbers, from 0 to `most`, that have these codes after the number `before`.
pub record HaveCodes (most before : ℕ) (codes numbers : List ℕ) : Type 0 where
  pub within : All (λ number. number ≤ most) numbers
  pub told : codes_after most before numbers ≡ codes

-- half of a code, rounded up: the distance that it tells where it is told by its parity
abbrev pub half : ℕ → ℕ
half code = (code + 1) / 2

abbrev pub halves : List ℕ → ℕ
halves codes = sum_by half codes

-- The way back: the number that has a code after the number `before`. Its distance is told by the parity of the code as
-- far as the nearer of 0 and `most`; farther out the code is the distance from the nearer one.
abbrev pub unmapped : ℕ → ℕ → ℕ → ℕ
unmapped most before code =
    cond (nat_le (half code) (reach most before))
    (cond (code % 2 == 0) (before + half code) (before - half code))
    (cond (nat_le before (most - before)) code (most - code))
