-- Coded blocks whose octets come in pieces.
use Rattle.std.specs.Prelude.{◌≡◌, ℕ, ◌+◌, ◌-◌, ◌*◌, ◌%◌, ◌<◌, ◌≤◌, Bool, List, ◌∷◌, ◌++◌, length, take, Option, Some, None}
use Rattle.grib_bits.specs.Bits.{bits}
use Rattle.grib_packing.specs.declared.column.Point.{Point}
use Rattle.grib_coding.specs.declared.coding.Coding.{Coding}
use Rattle.grib_coding.specs.Coding.{Fits, block_count}
use Rattle.grib_coding.specs.Numbers.{Told}
use Rattle.grib_coding.specs.Reading.{Front, Coded, Decoded, decoded, items_from, after_item, ended_by, behind}
use Rattle.grib_block_reading.specs.declared.item.Kind.{Kind}
use Rattle.grib_block_reading.specs.Kept.{IsKept, AreKept}
use Rattle.grib_block_reading.specs.Taking.{with_reference, front_at}
use Rattle.grib_block_feeding.specs.declared.half.Half.{Half}
use Rattle.grib_block_feeding.specs.declared.reading.Stage.{Stage}
use Rattle.grib_block_feeding.specs.declared.reading.Stage.TheVariants.{Items, Over}
use Rattle.grib_block_feeding.specs.declared.reading.Reading.{Reading}
use Rattle.grib_block_feeding.specs.declared.feeding.FedBlocks.{FedBlocks}
use Rattle.grib_block_feeding.specs.Half.{front_half, IsFront, IsHalf, WholeItem}

-- what is told of the first values
abbrev pub cut : ℕ → Decoded → Decoded
cut count read = record { entries = take count read.entries; fault = read.fault }

-- what is read where an item is at the front of the bits to come. The first argument but the coding and the values
-- bounds how many items follow it.
abbrev pub left_by : Coding → ℕ → ℕ → (List Bool → Front Coded) → ℕ → List Bool → Decoded
left_by c count block front most bits = after_item c count block (λ block' rest. items_from most c count block' rest) (front bits)

-- what is read of the bits to come at a stage
abbrev pub left_in : Coding → ℕ → ℕ → Half → Stage → ℕ → List Bool → Decoded
left_in c count block half Items most bits = left_by c count block (front_half c half) most bits
left_in c count block half (Over fault) most bits = ended_by fault

abbrev pub left_at : Reading → ℕ → List Bool → Decoded
left_at reading most bits = left_in reading.coding reading.count reading.block reading.half reading.stage most bits

-- An item is being read of the values, if one is.
pub record IsAtItem (c : Coding) (count block : ℕ) (half : Half) : Type 0 where
  pub some : block < block_count c count
  pub half_is : IsHalf c half
  pub referred : half.with_reference ≡ with_reference c block

abbrev pub IsAtStage : Coding → ℕ → ℕ → Half → Stage → Type 0
IsAtStage c count block half Items = IsAtItem c count block half
IsAtStage c count block half (Over fault) = Unit {0}

pub record IsReading (reading : Reading) : Type 0 where
  pub fits : Fits reading.coding
  pub few : reading.count ≤ 33554432
  pub stage_is : IsAtStage reading.coding reading.count reading.block reading.half reading.stage

-- A bit was read, and no item is whole, or one of this kind is.
pub record Stays (before : Reading) (bit : Bool) (after : Reading) : Type 0 where
  pub reading_is : IsReading after
  pub block_is : after.block ≡ before.block
  pub same : (most : ℕ) (rest : List Bool) → left_at before most (bit ∷ rest) ≡ left_at after most rest

pub record Completes (before : Reading) (bit : Bool) (kind : Kind) (after : Reading) : Type 0 where
  pub front : List Bool → Front Coded
  pub some : after.block < block_count after.coding after.count
  pub referred : after.half.with_reference ≡ with_reference after.coding after.block
  pub whole : WholeItem after.coding front kind after.half
  pub block_is : after.block ≡ before.block
  pub same : (most : ℕ) (rest : List Bool) → left_at before most (bit ∷ rest) ≡ left_by after.coding after.count after.block front most rest

abbrev pub IsReadOf : Reading → Bool → Option Kind → Reading → Type 0
IsReadOf before bit None after = Stays before bit after
IsReadOf before bit (Some kind) after = Completes before bit kind after

pub record Read (before : Reading) (bit : Bool) (kind : Option Kind) (after : Reading) : Type 0 where
  pub coding_is : after.coding ≡ before.coding
  pub count_is : after.count ≡ before.count
  pub read_is : IsReadOf before bit kind after

-- These bits came: the points of the numbers that the items before a block tell were kept, and this is read of the
-- bits to come, which begin where so many bits of an octet are left.
pub record Going {S : Type 0} (kept : S → List Point → S → Type 0) (c : Coding) (count block : ℕ) (start : List Bool) (first : S) (after : ℕ) (left : ℕ → List Bool → Decoded) (last : ℕ) (now : S) : Type 0 where
  pub entries : List Told
  pub most : ℕ
  pub enough : block_count c count ≤ block + most + 1
  pub whole : (rest : List Bool) → length rest % 8 ≡ after
      → cut count (items_from (block_count c count) c count 0 (start ++ rest)) ≡ cut count (behind entries (left most rest))
  pub long : length entries ≡ block * c.block
  pub kept_are : IsKept kept c 0 0 (take count entries) first last now

-- An item begins where so many bits of an octet are left, and nothing of it was read.
pub record IsFresh (reading : Reading) (after : ℕ) : Type 0 where
  pub reads : (most : ℕ) (bits : List Bool) → length bits % 8 ≡ after → block_count reading.coding reading.count ≤ reading.block + most
      → cut (reading.count - reading.block * reading.coding.block) (items_from most reading.coding reading.count reading.block bits)
      ≡ cut (reading.count - reading.block * reading.coding.block) (left_at reading (most - 1) bits)

-- The item that begins with a block was whole at the front of bits, and these are behind it.
pub record IsWholeAt (c : Coding) (block : ℕ) (bits rest : List Bool) (kind : Kind) (half : Half) : Type 0 where
  pub referred : half.with_reference ≡ with_reference c block
  pub front_is : IsFront c (front_at c block bits) rest kind half

-- So many bits came of a piece after some octets.
abbrev pub GoingAt : {S : Type 0} → (S → List Point → S → Type 0) → List ℕ → List ℕ → ℕ → S → Reading → ℕ → S → Type 0
GoingAt kept octets piece place first reading last now =
    Going kept reading.coding reading.count reading.block (bits octets ++ take place (bits piece)) first ((8 - place % 8) % 8) (left_at reading) last now

-- what has kept the points so far
abbrev pub keeper_in : {S : Type 0} → FedBlocks S → S
keeper_in fed = fed.kept.keeper

-- These octets came of `count` numbers that are coded so: the points of the numbers that the items tell which are whole
-- in them, up to the first one at fault, were kept, by what was at `keeper` before.
pub record BlocksAgree {S : Type 0} (kept : S → List Point → S → Type 0) (c : Coding) (count : ℕ) (keeper : S) (octets : List ℕ) (fed : FedBlocks S) : Type 0 where
  pub fits : Fits c
  pub few : count ≤ 33554432
  pub coding_is : fed.reading.coding ≡ c
  pub count_is : fed.reading.count ≡ count
  pub reading_is : IsReading fed.reading
  pub going : Going kept fed.reading.coding fed.reading.count fed.reading.block (bits octets) keeper 0 (left_at fed.reading) fed.kept.last fed.kept.keeper
  pub kept_are : AreKept kept c (decoded c count (bits octets)).entries keeper (keeper_in fed)

-- Some octets came of some numbers.
pub record IsFedBlocks {S : Type 0} (kept : S → List Point → S → Type 0) (fed : FedBlocks S) : Type 0 where
  pub coding : Coding
  pub count : ℕ
  pub keeper : S
  pub octets : List ℕ
  pub agrees : BlocksAgree kept coding count keeper octets fed
