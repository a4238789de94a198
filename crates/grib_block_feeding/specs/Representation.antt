-- The numbers of Section 5 in template 5.42 (WMO-No. 306, Volume I.2, FM 92 GRIB edition 2).
use Rattle.std.specs.Prelude.{◌≡◌, ℕ, List}
use Rattle.grib_packing.specs.Coded.{coding_of}
use Rattle.grib_packing.specs.Representation as simple
use Rattle.grib_block_feeding.specs.declared.representation.Coded.{Coded}

-- the value has the numbers of the section
pub record Spelled (value : Coded) (s : List ℕ) : Type 0 where
  pub simple : simple.Spelled value.simple s
  pub coding : value.coding ≡ coding_of s
