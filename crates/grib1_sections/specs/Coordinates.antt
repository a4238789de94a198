-- The vertical coordinates of Section 2, the grid description section (WMO-No. 306, Volume I.2, FM 92 GRIB
-- edition 1): where a list stands, it begins with NV words of four octets in the IBM single form.
use Rattle.std.specs.Prelude.{ℕ, cond, List}
use Rattle.grib_bits.specs.Listed.{numbers_at}
use Rattle.grib1_sections.specs.Grid.{nv, list_place, has_list}

-- how many there are
abbrev pub coordinate_count : List ℕ → ℕ
coordinate_count s = cond (has_list s) (nv s) 0

-- their words
abbrev pub coordinate_list : List ℕ → List ℕ
coordinate_list s = numbers_at s (list_place s) 4 (coordinate_count s)
