-- The runs of codes from a place on, each kept at the place of its end, counted round 64.
use Rattle.std.specs.Prelude.{◌≡◌, ℕ, ◌+◌, ◌-◌, ◌*◌, ◌^◌, ◌%◌, ◌<◌, ◌≤◌, ◌≢◌, ◌⊎◌, min, max, cond, Bool, true, false, List, length, take, drop, replicate, slice_index}
use Rattle.std.specs.List.{list_any}
use Rattle.std.specs.Int.{bit_at}
use Rattle.grib_base.specs.declared.code.Code.{Code}
use Rattle.grib_packing.specs.Groupings.{digits, width_of, greatest, smallest, present_codes, is_present, is_primary, is_secondary}
use Rattle.grib_split.specs.declared.behind.Behind.{Behind}
use Rattle.grib_split.specs.declared.slots.Slots.{Slots}
use Rattle.grib_split.specs.Least.{IsLeast}

-- the least cost of the codes behind the run that ends at a place
abbrev pub cost_at : Behind → ℕ → ℕ
cost_at after place = after.base + slice_index after.above place

-- the costs are so low above their base that a run before them can be priced in 16 bits
abbrev pub IsLow : Behind → Type 0
IsLow after = (place : ℕ) → place < 64 → slice_index after.above place ≤ 60000

-- what is kept of the numbers and the marks of a run
pub record Tells (low high with_primary with_secondary : ℕ) (run : List Code) : Type 0 where
  pub least : low ≡ cond (list_any is_present run) (smallest (present_codes run)) 4294967295
  pub most : high ≡ greatest (present_codes run)
  pub primary : with_primary ≡ cond (list_any is_primary run) 1 0
  pub secondary : with_secondary ≡ cond (list_any is_secondary run) 1 0

pub record Told (slots : Slots) (place : ℕ) (run : List Code) : Type 0 where
  pub tells : Tells (slice_index slots.least place) (slice_index slots.greatest place) (slice_index slots.primary place) (slice_index slots.secondary place) run

-- The width is that of the run. It stays where numbers are added and all differ by less than the limit; a run
-- of marks keeps its width with none.
pub record Wide (reserved bits limit : ℕ) (run : List Code) : Type 0 where
  pub is : bits ≡ width_of reserved run
  pub few : bits ≤ 32
  pub none : list_any is_present run ≡ false → 0 < length run → limit ≡ 0
  pub stays : (limit ≤ 1) ⊎ (limit + reserved ≤ 2 ^ bits)

-- a run of no codes at a place, before codes of this least cost
pub record Begun (slots : Slots) (place rest : ℕ) : Type 0 where
  pub least : slice_index slots.least place ≡ 4294967295
  pub greatest : slice_index slots.greatest place ≡ 0
  pub primary : slice_index slots.primary place ≡ 0
  pub secondary : slice_index slots.secondary place ≡ 0
  pub width : slice_index slots.width place ≡ 0
  pub limit : slice_index slots.limit place ≡ 1
  pub after : cost_at slots.after place ≡ rest

-- the length of the run from `at` on that ends at a place
abbrev pub length_to : ℕ → ℕ → ℕ
length_to at place = (place + 63 - at % 64) % 64 + 1

-- the width at a place is that of a run
abbrev pub WideAt : ℕ → Slots → ℕ → List Code → Type 0
WideAt reserved slots place run = Wide reserved (slice_index slots.width place) (slice_index slots.limit place) run

-- the widths are right at the places that are not among these
abbrev pub WideBut : ℕ → Slots → ℕ → (ℕ → List Code) → Type 0
WideBut reserved slots places run = (place : ℕ) → place < 64 → bit_at places place ≡ 0 → WideAt reserved slots place (run place)

-- a place holds a run
pub record Run (reserved : ℕ) (slots : Slots) (place : ℕ) (run : List Code) : Type 0 where
  pub told : Told slots place run
  pub wide : WideAt reserved slots place run

-- from `63 - at % 64` on, the lengths of the runs from `at` on by the places of their ends
abbrev pub AreLengths : List ℕ → Type 0
AreLengths lengths = (i : ℕ) → i < 128 → slice_index lengths i ≡ i % 64 + 1

-- what the run from `at` on that ends at a place costs with the codes behind it, without its header and above the base
abbrev pub price_at : Slots → ℕ → ℕ → ℕ
price_at slots at place = length_to at place * slice_index slots.width place + slice_index slots.after.above place

-- the runs from `at` on
abbrev pub Runs : ℕ → List Code → ℕ → Slots → Type 0
Runs reserved codes at slots =
    (l : ℕ) → 1 ≤ l → l ≤ 64 → Run reserved slots ((at + l) % 64) (take l (drop at codes))

-- what comes after each of them: the least cost of the codes there, or more than any where the codes are over
pub record After (header reserved : ℕ) (codes : List Code) (from after : ℕ) : Type 0 where
  pub some : from ≤ length codes → IsLeast header (width_of reserved) (drop from codes) after
  pub none : length codes < from → after ≡ 60000

-- the runs from the place after `at` on, that of no codes too, before the code at `at` is put before each
abbrev pub Waits : ℕ → List Code → ℕ → Slots → Type 0
Waits reserved codes at slots =
    (l : ℕ) → 1 ≤ l → l ≤ 64 → Run reserved slots ((at + l) % 64) (take (l - 1) (drop (at + 1) codes))

-- what comes after the run of each length from `at` on
abbrev pub after_of : Slots → ℕ → ℕ → ℕ
after_of slots at l = cost_at slots.after ((at + l) % 64)

abbrev pub Afters : ℕ → ℕ → List Code → ℕ → Slots → Type 0
Afters header reserved codes at slots =
    (l : ℕ) → 1 ≤ l → l ≤ 64 → After header reserved codes (at + l) (after_of slots at l)

-- what comes after the runs that end at other places stays
abbrev pub OthersStay : Slots → Slots → ℕ → Type 0
OthersStay a b place = (other : ℕ) → other < 64 → other ≢ place → cost_at b.after other ≡ cost_at a.after other

-- a cost is hardly more than those after the runs that end at other places
abbrev pub IsNear : Behind → ℕ → ℕ → Type 0
IsNear after place cost = (other : ℕ) → other < 64 → other ≢ place → cost ≤ cost_at after other + 4096

-- the least cost does not rise from a place where it is `cost` to the next one, and so on over the 64 after it
pub record Falls (slots : Slots) (at cost : ℕ) : Type 0 where
  pub here : after_of slots at 1 ≤ cost
  pub next : (l : ℕ) → 1 ≤ l → l < 64 → after_of slots at (l + 1) ≤ after_of slots at l

-- n is the first of the lengths from `at` on with the least cost after it, which 64 codes have
pub record Soonest (slots : Slots) (at n : ℕ) : Type 0 where
  pub some : 1 ≤ n
  pub most : n ≤ 64
  pub least : after_of slots at n ≡ after_of slots at 64
  pub first : (l : ℕ) → 1 ≤ l → l < n → after_of slots at 64 < after_of slots at l

-- each slot holds runs of one code
pub record Holds (reserved : ℕ) (slots : Slots) (code : Code) : Type 0 where
  pub told : (place n : ℕ) → place < 64 → 1 ≤ n → Told slots place (replicate n code)
  pub wide : (place n : ℕ) → place < 64 → 1 ≤ n → Wide reserved (slice_index slots.width place) (slice_index slots.limit place) (replicate n code)

-- what of the slots stays the same
pub record SameNumbers (a b : Slots) : Type 0 where
  pub least : b.least ≡ a.least
  pub greatest : b.greatest ≡ a.greatest

pub record SameMarks (a b : Slots) : Type 0 where
  pub primary : b.primary ≡ a.primary
  pub secondary : b.secondary ≡ a.secondary

pub record SameWidths (a b : Slots) : Type 0 where
  pub width : b.width ≡ a.width
  pub limit : b.limit ≡ a.limit

-- The runs that begin after `start` hold one another: `start` is the place of the shortest, and of two, the longer one
-- has no greater least number and no lesser greatest one.
pub record Nested (slots : Slots) (start : ℕ) : Type 0 where
  pub least : (i j : ℕ) → i ≤ j → j < 64
      → slice_index slots.least ((start + j) % 64) ≤ slice_index slots.least ((start + i) % 64)
  pub greatest : (i j : ℕ) → i ≤ j → j < 64
      → slice_index slots.greatest ((start + i) % 64) ≤ slice_index slots.greatest ((start + j) % 64)

-- a number is between the least and the greatest one of the run at a place
pub record Covers (slots : Slots) (place number : ℕ) : Type 0 where
  pub least : slice_index slots.least place ≤ number
  pub most : number ≤ slice_index slots.greatest place

-- how far the numbers of the run at a place differ
abbrev pub spread_at : Slots → ℕ → ℕ
spread_at slots place = slice_index slots.greatest place - slice_index slots.least place

-- a number and those of the run at a place take 16 bits at most
abbrev pub IsNarrow : Slots → ℕ → ℕ → Type 0
IsNarrow slots place number = max (slice_index slots.greatest place) number < 65536

-- the numbers at a place now differ by less than the limit, and the width stays
pub record Keeps (a b : Slots) (place : ℕ) : Type 0 where
  pub less : spread_at b place < slice_index a.limit place
  pub width : slice_index b.width place ≡ slice_index a.width place

-- numbers are narrow, and the width at a place is found anew, where no code is reserved
pub record Anew (narrow : Bool) (b : Slots) (place : ℕ) : Type 0 where
  pub is : narrow ≡ true
  pub width : slice_index b.width place ≡ digits (spread_at b place)

abbrev pub Settled : Bool → Slots → Slots → ℕ → Type 0
Settled narrow a b place = Keeps a b place ⊎ Anew narrow b place

-- a number is put before the run at a place, which is among these places unless its width is settled
pub record Numbered (narrow : Bool) (a b : Slots) (number places place : ℕ) : Type 0 where
  pub least : slice_index b.least place ≡ min (slice_index a.least place) number
  pub greatest : slice_index b.greatest place ≡ max (slice_index a.greatest place) number
  pub settled : bit_at places place ≡ 0 → Settled narrow a b place

-- the numbers and the width of the run at a place stay
pub record StayAt (a b : Slots) (place : ℕ) : Type 0 where
  pub least : slice_index b.least place ≡ slice_index a.least place
  pub greatest : slice_index b.greatest place ≡ slice_index a.greatest place
  pub width : slice_index b.width place ≡ slice_index a.width place

-- a number is between those of the run at a place, whose width stays
pub record Covered (a b : Slots) (place number : ℕ) : Type 0 where
  pub covers : Covers a place number
  pub width : slice_index b.width place ≡ slice_index a.width place
