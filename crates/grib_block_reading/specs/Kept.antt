-- Numbers that what is told of values tells, and that were handed on.
use Rattle.std.specs.Prelude.{◌≡◌, ℕ, ◌+◌, ◌<◌, ◌≤◌, false, true, List, [], ◌∷◌, ◌++◌, length, map, All, pos, Option, Some, None}
use Rattle.grib_packing.specs.declared.column.Point.{Point}
use Rattle.grib_packing.specs.declared.column.Point.TheVariants.{Scaled}
use Rattle.grib_coding.specs.declared.coding.Coding.{Coding}
use Rattle.grib_coding.specs.Coding.{greatest}
use Rattle.grib_coding.specs.Numbers.{Told, Reference, is_reference, told_after, AreTold}

-- the point of a number
abbrev pub point_of : ℕ → Point
point_of number = Scaled (pos number)

-- These entries tell numbers, the first at this place after the number `last`, and their points were kept.
pub record IsKept {S : Type 0} (kept : S → List Point → S → Type 0) (c : Coding) (place last : ℕ) (entries : List Told) (before : S) (last_one : ℕ) (after : S) : Type 0 where
  pub numbers : List ℕ
  pub within : All (λ number. number ≤ greatest c) numbers
  pub told : (more : List ℕ) → told_after c place last (numbers ++ more) ≡ entries ++ told_after c (place + length entries) last_one more
  pub last_within : last_one ≤ greatest c
  pub passed : kept before (map point_of numbers) after

-- none of so many numbers from a place on is told by a reference
abbrev pub NoReference : Coding → ℕ → ℕ → Type 0
NoReference c place count = (k : ℕ) → k < count → is_reference c (place + k) ≡ false

-- what a reference tells, if there is one
abbrev pub reference_entries : Option ℕ → List Told
reference_entries None = []
reference_entries (Some number) = Reference number ∷ []

-- A reference stands where it can.
abbrev pub StandsAt : Coding → ℕ → Option ℕ → Type 0
StandsAt c place None = Unit {0}
StandsAt c place (Some number) = (is_reference c place ≡ true) × (number ≤ greatest c)

-- The points of the numbers that these entries tell were kept: of one list of numbers, since no other is told so.
pub record AreKept {S : Type 0} (kept : S → List Point → S → Type 0) (c : Coding) (entries : List Told) (before after : S) : Type 0 where
  pub numbers : List ℕ
  pub told : AreTold c entries numbers
  pub passed : kept before (map point_of numbers) after
