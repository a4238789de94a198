-- The numbers that are coded, for private functions.
use Rattle.std.specs.Prelude.{◌≡◌, ℕ, ◌≤◌, List, []}
use Rattle.grib_packing.specs.declared.column.Point.{Point}
use Rattle.grib_packing.specs.Packed.{simple_numbers}

-- numbers of no bits are not coded; else these are the numbers of the points that are not missing
pub record AreToCode (bits : ℕ) (points : List Point) (numbers : List ℕ) : Type 0 where
  pub none : bits ≡ 0 → numbers ≡ []
  pub all : 1 ≤ bits → numbers ≡ simple_numbers points
