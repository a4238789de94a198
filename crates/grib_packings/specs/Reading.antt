-- A Section 7 that comes in pieces, by its packing: what is known of it by the octets that came after its fifth.
use Rattle.std.specs.Prelude.{◌≡◌, ℕ, ◌+◌, ◌*◌, ◌≤◌, Bool, true, None, List, [], length, map, take}
use Rattle.grib_bits.specs.Bits.{bits}
use Rattle.grib_coding.specs.Numbers.{numbers_told}
use Rattle.grib_coding.specs.Reading.{decoded}
use Rattle.grib_block_feeding.specs.declared.feeding.FedBlocks.{FedBlocks}
use Rattle.grib_block_feeding.specs.Feeding as blocks
use Rattle.grib_packing.specs.declared.column.Point.{Point}
use Rattle.grib_packing.specs.declared.keeping.Points.{Points}
use Rattle.grib_packing.specs.Coded.{coding_of, is_coded, point_of}
use Rattle.grib_packing.specs.Entries.{data_fault, entries_of}
use Rattle.grib_packing.specs.Kept.{ArePoints}
use Rattle.grib_packing.specs.Packing.{bit_width, packing_template, value_count}
use Rattle.grib_group_reading.specs.declared.feeding.Fed.{Fed}
use Rattle.grib_group_reading.specs.Feeding.{no_marks, pending_of, plain_groups}
use Rattle.grib_group_reading.specs.Table.{groups_in}
use Rattle.grib_group_reading.specs.Taking.{values_within}
use Rattle.grib_complex_reading.specs.declared.values.PlainValues.{PlainValues}
use Rattle.grib_complex_reading.specs.Feeding as complex
use Rattle.grib_complex_reading.specs.Feeding.{AreOctets, Continues, IsFaultOf, PassingAgrees, PlainAgrees, StateAgrees}
use Rattle.grib_packings.specs.declared.reading.Reading.{Reading}
use Rattle.grib_packings.specs.declared.reading.Reading.TheVariants.{Simple, Complex, Coded}
use Rattle.grib_packings.specs.declared.coded_reading.CodedReading.{CodedReading}
use Rattle.grib_packings.specs.declared.coded_reading.CodedReading.TheVariants.{Blocks, Same}
use Rattle.grib_packings.specs.declared.simple_reading.SimpleReading.{SimpleReading}
use Rattle.grib_packings.specs.declared.simple_reading.SimpleReading.TheVariants.{Reads, Passes, Refused}

-- ---- simple packing

-- the entries of the numbers that end in these octets
abbrev pub simply_so_far : List ℕ → List ℕ → List ℕ → List Point
simply_so_far s5 s7 octets = take (values_within (plain_groups (bit_width s5) (value_count s5)) (8 * length octets)) (entries_of s5 s7)

-- The packed numbers of all values come: the points of those that came are kept, and no further number ends in these
-- octets. No rule fails, whatever comes.
pub record ReadingSimply {K : Type 0} (kept : K → List Point → K → Type 0) (s5 : List ℕ) (keeper : K) (l : ℕ) (octets : List ℕ) (fed : Fed (PlainValues K)) : Type 0 where
  pub simple : packing_template s5 ≡ 0
  pub reads : PlainAgrees kept keeper l octets no_marks (plain_groups (bit_width s5) (value_count s5)) 0 fed
  pub passes : (s7 : List ℕ) → Continues octets l s7 → data_fault s5 s7 ≡ None
  pub table : groups_in fed.table ≡ []
  pub points : (s7 : List ℕ) → Continues octets l s7 → kept keeper (simply_so_far s5 s7 octets) fed.taker.keeper

abbrev pub SimpleAgrees : {K : Type 0} → (K → List Point → K → Type 0) → List ℕ → K → ℕ → ℕ → List ℕ → SimpleReading K → Type 0
SimpleAgrees kept s5 keeper start l octets (Reads fed) = ReadingSimply kept s5 keeper l octets fed
SimpleAgrees kept s5 keeper start l octets (Passes after) = PassingAgrees kept s5 keeper l octets after
SimpleAgrees kept s5 keeper start l octets (Refused fault after) = IsFaultOf s5 start l octets fault × (after ≡ keeper)

-- Some octets were read.
pub record IsFedSimply {K : Type 0} (kept : K → List Point → K → Type 0) (reading : SimpleReading K) : Type 0 where
  pub s5 : List ℕ
  pub keeper : K
  pub start : ℕ
  pub l : ℕ
  pub octets : List ℕ
  pub agrees : SimpleAgrees kept s5 keeper start l octets reading

-- the bits that came and are not decoded
abbrev pub simply_pending : {K : Type 0} → SimpleReading K → List Bool
simply_pending (Reads fed) = pending_of fed
simply_pending reading = []

-- what keeps the points
abbrev pub simply_in : {K : Type 0} → SimpleReading K → K
simply_in (Reads fed) = fed.taker.keeper
simply_in (Passes keeper) = keeper
simply_in (Refused fault keeper) = keeper

-- The points of the numbers that came stand in the column. They are those of each section that continues these octets.
abbrev pub SimpleColumnAgrees : List ℕ → List Bool → ℕ → List ℕ → SimpleReading Points → Type 0
SimpleColumnAgrees s5 mask l octets (Reads fed) = (s7 : List ℕ) → Continues octets l s7 → ArePoints mask (simply_so_far s5 s7 octets) fed.taker.keeper
SimpleColumnAgrees s5 mask l octets reading = ArePoints mask [] (simply_in reading)

-- ---- CCSDS packing

-- the points of the values that the items tell which are whole in these octets
abbrev pub coded_so_far : List ℕ → List ℕ → List Point
coded_so_far s5 octets =
    let c = coding_of s5 in
    map point_of (numbers_told c 0 (decoded c (value_count s5) (bits octets)).entries)

-- The numbers of the values come in coded blocks.
pub record ReadingBlocks {K : Type 0} (kept : K → List Point → K → Type 0) (s5 : List ℕ) (keeper : K) (octets : List ℕ) (fed : FedBlocks K) : Type 0 where
  pub template : packing_template s5 ≡ 42
  pub coded : is_coded s5 ≡ true
  pub agrees : blocks.BlocksAgree kept (coding_of s5) (value_count s5) keeper octets fed

-- Numbers of no bits: the points of all values were kept at once.
pub record KeptAtOnce {K : Type 0} (kept : K → List Point → K → Type 0) (s5 : List ℕ) (keeper after : K) : Type 0 where
  pub passes : (s7 : List ℕ) → data_fault s5 s7 ≡ None
  pub counted : (s7 : List ℕ) → length (entries_of s5 s7) ≡ value_count s5
  pub points : (s7 : List ℕ) → kept keeper (entries_of s5 s7) after

abbrev pub CodedAgrees : {K : Type 0} → (K → List Point → K → Type 0) → List ℕ → K → List ℕ → CodedReading K → Type 0
CodedAgrees kept s5 keeper octets (Blocks fed) = ReadingBlocks kept s5 keeper octets fed
CodedAgrees kept s5 keeper octets (Same after) = KeptAtOnce kept s5 keeper after

-- Some octets were read.
pub record IsFedCoded {K : Type 0} (kept : K → List Point → K → Type 0) (reading : CodedReading K) : Type 0 where
  pub s5 : List ℕ
  pub keeper : K
  pub octets : List ℕ
  pub agrees : CodedAgrees kept s5 keeper octets reading

-- what keeps the points
abbrev pub coded_in : {K : Type 0} → CodedReading K → K
coded_in (Blocks fed) = blocks.keeper_in fed
coded_in (Same keeper) = keeper

-- The points of the items that are whole in these octets stand in the column; those of numbers of no bits all do.
abbrev pub CodedColumnAgrees : List ℕ → List Bool → List ℕ → CodedReading Points → Type 0
CodedColumnAgrees s5 mask octets (Blocks fed) = ArePoints mask (coded_so_far s5 octets) (blocks.keeper_in fed)
CodedColumnAgrees s5 mask octets (Same after) = (s7 : List ℕ) → ArePoints mask (entries_of s5 s7) after

-- ---- each packing

abbrev pub ReadingAgrees : {K : Type 0} → (K → List Point → K → Type 0) → List ℕ → K → ℕ → ℕ → List ℕ → Reading K → Type 0
ReadingAgrees kept s5 keeper start l octets (Simple reading) = SimpleAgrees kept s5 keeper start l octets reading
ReadingAgrees kept s5 keeper start l octets (Complex reading) = StateAgrees kept s5 keeper start l octets reading
ReadingAgrees kept s5 keeper start l octets (Coded reading) = CodedAgrees kept s5 keeper octets reading

-- Some octets were read, this many.
pub record IsFedReading {K : Type 0} (kept : K → List Point → K → Type 0) (start l count : ℕ) (reading : Reading K) : Type 0 where
  pub s5 : List ℕ
  pub keeper : K
  pub octets : List ℕ
  pub known : AreOctets octets
  pub low : 1 ≤ start
  pub high : start ≤ 268435456
  pub long : length octets ≡ count
  pub agrees : ReadingAgrees kept s5 keeper start l octets reading

-- All octets came of a Section 7 of l octets.
pub record IsWholeReading {K : Type 0} (kept : K → List Point → K → Type 0) (start l : ℕ) (reading : Reading K) : Type 0 where
  pub s5 : List ℕ
  pub keeper : K
  pub octets : List ℕ
  pub low : 1 ≤ start
  pub high : start ≤ 268435456
  pub whole : 5 + length octets ≡ l
  pub agrees : ReadingAgrees kept s5 keeper start l octets reading

-- The bits that came and are not decoded. Of coded blocks those of an item that is half read are decoded.
abbrev pub pending_in : {K : Type 0} → Reading K → List Bool
pending_in (Simple reading) = simply_pending reading
pending_in (Complex reading) = complex.pending_in reading
pending_in (Coded reading) = []

-- what keeps the points
abbrev pub keeper_in : {K : Type 0} → Reading K → K
keeper_in (Simple reading) = simply_in reading
keeper_in (Complex reading) = complex.keeper_in reading
keeper_in (Coded reading) = coded_in reading

abbrev pub ColumnAgrees : List ℕ → List Bool → ℕ → List ℕ → Reading Points → Type 0
ColumnAgrees s5 mask l octets (Simple reading) = SimpleColumnAgrees s5 mask l octets reading
ColumnAgrees s5 mask l octets (Complex reading) = complex.ColumnAgrees s5 mask l octets reading
ColumnAgrees s5 mask l octets (Coded reading) = CodedColumnAgrees s5 mask octets reading
