-- What coded bits tell of each number (CCSDS 121.0-B; WMO-No. 306, Volume I.2, FM 92 GRIB edition 2, data template
-- 7.42).
use Rattle.std.specs.Prelude.{◌≡◌, ℕ, ◌+◌, ◌*◌, ◌%◌, ◌≤◌, Bool, cond, ◌&&◌, ◌==◌, List, [], ◌∷◌, All}
use Rattle.grib_coding.specs.Mapped.{mapped, unmapped}
use Rattle.grib_coding.specs.declared.coding.Coding.{Coding}
use Rattle.grib_coding.specs.Coding.{is_mapped, greatest}

-- a number itself, the reference of its interval, or its code
pub data Told : Type 0 where
  Reference : ℕ → Told
  Code : ℕ → Told

-- whether the number at this place, from 0, is told by a reference
abbrev pub is_reference : Coding → ℕ → Bool
is_reference c place = is_mapped c && (place % (c.block * c.interval) == 0)

-- what tells a number at a place, after the number `last`
abbrev pub told : Coding → ℕ → ℕ → ℕ → Told
told c place last number =
    cond (is_reference c place) (Reference number)
    (Code (cond (is_mapped c) (mapped (greatest c) last number) number))

-- what tells numbers one after another
abbrev pub told_after : Coding → ℕ → ℕ → List ℕ → List Told
told_after c place last [] = []
told_after c place last (number ∷ numbers) = told c place last number ∷ told_after c (place + 1) number numbers

-- These are the numbers of `bits` bits that are told so.
pub record AreTold (c : Coding) (entries : List Told) (numbers : List ℕ) : Type 0 where
  pub within : All (λ number. number ≤ greatest c) numbers
  pub entries_stand : told_after c 0 0 numbers ≡ entries

-- The way back, so that columns compute: the number that an entry tells after the number `last`,
abbrev pub number_told : Coding → ℕ → Told → ℕ
number_told c last (Reference number) = number
number_told c last (Code code) = cond (is_mapped c) (unmapped (greatest c) last code) code

-- and the numbers that entries tell one after another.
abbrev pub numbers_told : Coding → ℕ → List Told → List ℕ
numbers_told c last [] = []
numbers_told c last (entry ∷ entries) = let number = number_told c last entry in number ∷ numbers_told c number entries
