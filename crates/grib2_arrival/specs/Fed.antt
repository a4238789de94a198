-- A Section 7 of which some octets were read.
use Rattle.std.specs.Prelude.{◌≡◌, ◌≤◌, ◌+◌, ℕ, true, List, length}
use Rattle.grib_packing.specs.declared.column.Point.{Point}
use Rattle.grib_packings.specs.Feeding.{HasRead}
use Rattle.grib_packings.specs.declared.feeding.Feeding.{Feeding}
use Rattle.grib_packing.specs.Entries.{is_opaque_packing}
use Rattle.grib_packing.specs.declared.keeping.Nothing.{Nothing}
use Rattle.grib2_arrival.specs.declared.data.Data.{Data}
use Rattle.grib2_arrival.specs.declared.data.Data.TheVariants.{Reads, Passes}

-- nothing is kept of the points
abbrev pub NoneKept : Nothing → List Point → Nothing → Type 0
NoneKept before points after = Unit {0}

-- With this Section 5, of a Section 7 of l octets that begins at octet `start` of the message these octets were
-- read after the fifth.
pub record ReadAgrees (s5 : List ℕ) (start l : ℕ) (octets : List ℕ) (feeding : Feeding Nothing) : Type 0 where
  pub keeper : Nothing
  pub read : HasRead NoneKept s5 keeper start l octets feeding

-- They were read, or passed by where the packing is opaque, and this many are still to come.
abbrev pub DataAgrees : List ℕ → ℕ → ℕ → List ℕ → Data → Type 0
DataAgrees s5 start l octets (Reads feeding) = ReadAgrees s5 start l octets feeding
DataAgrees s5 start l octets (Passes left) = (is_opaque_packing s5 ≡ true) × (5 + length octets + left ≡ l)

-- this many octets of the section may come
pub record MayBeFed (count : ℕ) (feed : Data) : Type 0 where
  pub s5 : List ℕ
  pub start : ℕ
  pub l : ℕ
  pub octets : List ℕ
  pub agrees : DataAgrees s5 start l octets feed
  pub room : 5 + length octets + count ≤ l

-- all octets of the section came
pub record HasAll (feed : Data) : Type 0 where
  pub s5 : List ℕ
  pub start : ℕ
  pub l : ℕ
  pub octets : List ℕ
  pub agrees : DataAgrees s5 start l octets feed
  pub whole : 5 + length octets ≡ l
