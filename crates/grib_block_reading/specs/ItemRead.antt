-- An item that was read.
use Rattle.std.specs.Prelude.{◌≡◌, ℕ, ◌≤◌, Bool, true, false, List, Option, Some, None, drop}
use Rattle.grib_coding.specs.declared.coding.Coding.{Coding}
use Rattle.grib_coding.specs.Coding.{greatest}
use Rattle.grib_coding.specs.Items.{Item, Run, Second, covered, item_codes, codes_of_pairs}
use Rattle.grib_coding.specs.Reading.{Front, Found, Coded, skipped, is_too_long}
use Rattle.grib_block_reading.specs.declared.item.Head.{Head}
use Rattle.grib_block_reading.specs.declared.item.Kind.{Kind}
use Rattle.grib_block_reading.specs.declared.item.Kind.TheVariants.{Zeros, Codes, Long}

-- A block with these codes, but for the first `skip` ones.
pub record IsBlock (c : Coding) (skip : ℕ) (item : Item) (codes : List ℕ) : Type 0 where
  pub one : (place : ℕ) → covered c place item ≡ 1
  pub short : is_too_long item ≡ false
  pub codes_are : (place : ℕ) → item_codes c place skip item ≡ codes

-- An item is of this kind, and these are its codes if it is a block that has some.
abbrev pub IsOfKind : Coding → ℕ → Kind → Item → List ℕ → Type 0
IsOfKind c skip (Zeros number) item codes = item ≡ Run number
IsOfKind c skip Codes item codes = IsBlock c skip item codes
IsOfKind c skip Long item codes = is_too_long item ≡ true

-- A reference is there or not, and is a number that can be.
abbrev pub HasReference : Coding → Bool → Option ℕ → Type 0
HasReference c false None = Unit {0}
HasReference c false (Some number) = ⊥
HasReference c true None = ⊥
HasReference c true (Some number) = number ≤ greatest c

-- What stands at the front is an item with this head and these codes, and these bits are behind it.
pub record ItemRead (c : Coding) (with_reference : Bool) (front : Front Coded) (head : Head) (codes : List ℕ) (rest : List Bool) : Type 0 where
  pub item : Item
  pub found : front ≡ Found (record { reference = head.reference; item = item }) rest
  pub kind_is : IsOfKind c (skipped with_reference) head.kind item codes
  pub reference_is : HasReference c with_reference head.reference

-- These are the codes of a second extension with these numbers, but for the first `skip` ones, unless a number is over 90.
abbrev pub IsSpread : ℕ → List ℕ → Kind → List ℕ → Type 0
IsSpread skip numbers (Zeros number) codes = ⊥
IsSpread skip numbers Codes codes = (is_too_long (Second numbers) ≡ false) × (codes ≡ drop skip (codes_of_pairs numbers))
IsSpread skip numbers Long codes = is_too_long (Second numbers) ≡ true
