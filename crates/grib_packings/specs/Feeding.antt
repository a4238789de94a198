-- A field whose Section 7 comes in pieces: what is known of it by the octets that came after its fifth.
use Rattle.std.specs.Prelude.{◌≡◌, ℕ, ◌+◌, ◌-◌, ◌≤◌, Bool, Option, None, Some, List, [], length}
use Rattle.grib_bits.specs.Bits.{bits}
use Rattle.grib_bitmap.specs.Mask.{present_count}
use Rattle.grib_packing.specs.declared.column.Point.{Point}
use Rattle.grib_packing.specs.declared.keeping.Points.{Points}
use Rattle.grib_packing.specs.Kept.{ArePoints, PointsKept}
use Rattle.grib_packing.specs.Packing.{value_count}
use Rattle.grib_packing.specs.Representation as simple
use Rattle.grib_group_reading.specs.Taking.{IsEnd}
use Rattle.grib_complex_reading.specs.Feeding.{AreOctets}
use Rattle.grib_packings.specs.declared.feeding.Feeding.{Feeding}
use Rattle.grib_packings.specs.declared.reading.Reading.{Reading}
use Rattle.grib_packings.specs.Reading.{ColumnAgrees, ReadingAgrees, keeper_in, pending_in}

-- Each of the octets was read by the packing.
abbrev pub HasReading : {K : Type 0} → (K → List Point → K → Type 0) → List ℕ → K → ℕ → ℕ → List ℕ → Option (Reading K) → Type 0
HasReading kept s5 keeper start l octets None = ⊥
HasReading kept s5 keeper start l octets (Some reading) = ReadingAgrees kept s5 keeper start l octets reading

-- the bits that came and are not decoded
abbrev pub pending_read : {K : Type 0} → Option (Reading K) → List Bool
pending_read None = []
pending_read (Some reading) = pending_in reading

abbrev pub pending : {K : Type 0} → Feeding K → List Bool
pending feeding = pending_read feeding.reading

-- With this Section 5, and with what keeps the points at first, of a Section 7 of l octets that begins at octet
-- `start` of the message these octets were read after the fifth.
pub record HasRead {K : Type 0} (kept : K → List Point → K → Type 0) (s5 : List ℕ) (keeper : K) (start l : ℕ) (octets : List ℕ) (feeding : Feeding K) : Type 0 where
  pub spelled : simple.Spelled feeding.simple s5
  pub start_is : feeding.start ≡ start
  pub low : 1 ≤ start
  pub high : start ≤ 268435456
  pub length_is : feeding.length ≡ l
  pub pushed : feeding.pushed ≡ length octets
  pub within : 5 + length octets ≤ l
  pub known : AreOctets octets
  pub few : length (pending feeding) ≤ 64
  pub last : IsEnd (pending feeding) (bits octets)
  pub reading : HasReading kept s5 keeper start l octets feeding.reading

-- how many octets are still to come
abbrev pub octets_left : {K : Type 0} → Feeding K → ℕ
octets_left feeding = feeding.length - (5 + feeding.pushed)

-- It has read some octets.
pub record IsFed {K : Type 0} (kept : K → List Point → K → Type 0) (feeding : Feeding K) : Type 0 where
  pub s5 : List ℕ
  pub keeper : K
  pub start : ℕ
  pub l : ℕ
  pub octets : List ℕ
  pub read : HasRead kept s5 keeper start l octets feeding

-- The mask is there in every state.
abbrev pub KeepsMask : List Bool → Option (Reading Points) → Type 0
KeepsMask mask None = ⊥
KeepsMask mask (Some reading) = (keeper_in reading).mask.value ≡ mask

-- The points of the numbers that came stand in the column, as long as none is out of range. They are those of each
-- section that continues these octets.
abbrev pub HasColumn : List ℕ → List Bool → ℕ → List ℕ → Option (Reading Points) → Type 0
HasColumn s5 mask l octets None = ⊥
HasColumn s5 mask l octets (Some reading) = ColumnAgrees s5 mask l octets reading

-- With this Section 5 and this mask, and a Section 7 of l octets that begins at octet `start` of the message,
-- of which these came after the fifth.
pub record Agrees (s5 : List ℕ) (mask : List Bool) (start l : ℕ) (octets : List ℕ) (feeder : Feeding Points) : Type 0 where
  pub first : Points
  pub empty : ArePoints mask [] first
  pub counted : present_count mask ≡ value_count s5
  pub read : HasRead PointsKept s5 first start l octets feeder
  pub mask_stays : KeepsMask mask feeder.reading
  pub column : HasColumn s5 mask l octets feeder.reading
