-- An item whose numbers were handed on.
use Rattle.std.specs.Prelude.{◌≡◌, ℕ, ◌+◌, ◌-◌, ◌*◌, ◌%◌, ◌≤◌, Bool, ◌&&◌, ◌==◌, List, length, take, None}
use Rattle.grib_packing.specs.declared.column.Point.{Point}
use Rattle.grib_coding.specs.declared.coding.Coding.{Coding}
use Rattle.grib_coding.specs.Coding.{is_mapped}
use Rattle.grib_coding.specs.Items.{covered}
use Rattle.grib_coding.specs.Reading.{Front, Coded, front_item, padded, item_fault, entries_of}
use Rattle.grib_block_reading.specs.Kept.{IsKept}

-- whether the item that begins with a block has a reference
abbrev pub with_reference : Coding → ℕ → Bool
with_reference c block = (block % c.interval == 0) && is_mapped c

-- the item that begins with a block, at the front of bits
abbrev pub front_at : Coding → ℕ → List Bool → Front Coded
front_at c block bits = front_item c (with_reference c block) (padded c (block % c.interval == 0) bits)

-- Nothing is wrong with an item, it covers so many blocks, and the points of the numbers that it tells were kept.
pub record ItemPassed {S : Type 0} (kept : S → List Point → S → Type 0) (c : Coding) (count block : ℕ) (coded : Coded) (last : ℕ) (before : S) (blocks last_one : ℕ) (after : S) : Type 0 where
  pub no_fault : item_fault c count block coded ≡ None
  pub blocks_are : blocks ≡ covered c (block % c.interval) coded.item
  pub inside : block % c.interval + blocks ≤ c.interval
  pub long : length (entries_of c (block % c.interval) coded) ≡ c.block * blocks
  pub kept_are : IsKept kept c (block * c.block) last (take (count - block * c.block) (entries_of c (block % c.interval) coded)) before last_one after
