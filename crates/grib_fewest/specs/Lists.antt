-- The lists of items that numbers can be coded by (CCSDS 121.0-B, which leaves the choice among them to the coder; WMO-No.
-- 306, Volume I.2, FM 92 GRIB edition 2, data template 7.42).
use Rattle.std.specs.Prelude.{◌≡◌, ℕ, ◌+◌, ◌*◌, ◌%◌, ◌≤◌, ◌<◌, Bool, false, List, [], ◌∷◌, ◌++◌, length, take}
use Rattle.std.specs.List.{flat_map}
use Rattle.grib_coding.specs.declared.coding.Coding.{Coding}
use Rattle.grib_coding.specs.Coding.{block_count, identifier_width}
use Rattle.grib_coding.specs.Items.{IsItem, covered}
use Rattle.grib_coding.specs.Numbers.{Told, told_after}
use Rattle.grib_coding.specs.Reading.{Coded, entries_of, is_too_long}
use Rattle.grib_coding.specs.Runs.{run_room}
use Rattle.grib_coding.specs.Blocks.{blocks_of}
use Rattle.grib_coding.specs.Written.{coded_bits, items_of, skip_of}

-- the block that follows an item whose first block is this one
abbrev pub block_after : Coding → ℕ → Coded → ℕ
block_after c block coded = block + covered c (block % c.interval) coded.item

-- Items one after another, the first of which begins with this block. Each has as many numbers as its kind has, and the
-- last is the first one that covers the last of so many blocks.
abbrev pub Cover : Coding → ℕ → ℕ → List Coded → Type 0
Cover c blocks block [] = blocks ≤ block
Cover c blocks block (coded ∷ items) =
    (block < blocks) × IsItem c (skip_of coded.reference) coded.item × Cover c blocks (block_after c block coded) items

-- what they tell of each value
abbrev pub told_by : Coding → ℕ → List Coded → List Told
told_by c block [] = []
told_by c block (coded ∷ items) = entries_of c (block % c.interval) coded ++ told_by c (block_after c block coded) items

-- This list of items tells these numbers. Codes of no value are free.
pub record Tells (c : Coding) (numbers : List ℕ) (items : List Coded) : Type 0 where
  pub whole : Cover c (block_count c (length numbers)) 0 items
  pub told : take (length numbers) (told_by c 0 items) ≡ told_after c 0 0 numbers

-- No item, which is to say no run, goes past the segment of 64 blocks, or the interval, that its first block is in.
abbrev pub AreInSegments : Coding → ℕ → List Coded → Type 0
AreInSegments c block [] = Unit {0}
AreInSegments c block (coded ∷ items) =
    (covered c (block % c.interval) coded.item ≤ run_room c (block % c.interval)) × AreInSegments c (block_after c block coded) items

-- What is asked of items that are read, beside what they tell: no run goes past its interval, and no sequence of a second
-- extension is over 90.
abbrev pub AreReadable : Coding → ℕ → List Coded → Type 0
AreReadable c block [] = Unit {0}
AreReadable c block (coded ∷ items) =
    (block % c.interval + covered c (block % c.interval) coded.item ≤ c.interval) × (is_too_long coded.item ≡ false)
    × AreReadable c (block_after c block coded) items

-- the bits of a list of items
abbrev pub list_bits : Coding → List Coded → List Bool
list_bits c items = flat_map (coded_bits c) items

-- Bits begin with those of this list of items, which tells these numbers and is read.
pub record BeginWith (c : Coding) (numbers : List ℕ) (bits : List Bool) (items : List Coded) : Type 0 where
  pub tells : Tells c numbers items
  pub readable : AreReadable c 0 items
  pub rest : List Bool
  pub stand : bits ≡ list_bits c items ++ rest

-- the items that are written of numbers
abbrev pub items_written : Coding → List ℕ → List Coded
items_written c numbers = items_of c 0 0 (blocks_of c numbers)

-- the bits of a block that is told by its codes as they are, its reference among them
abbrev pub plain_bits : Coding → ℕ
plain_bits c = identifier_width c + c.block * c.bits
