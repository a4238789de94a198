-- What is summed up of the points of a field.
use Rattle.std.specs.Prelude.{◌≡◌, ℕ, List, length, sum}
use Rattle.grib_packing.specs.declared.column.Point.{Point}
use Rattle.grib_packing.specs.Packed.{simple_numbers}
use Rattle.grib_synthetic.specs.declared.summary.Summary.{Summary}

-- the number of the points that are not missing
abbrev pub present_count : List Point → ℕ
present_count points = length (simple_numbers points)

-- the sum of their scaled numbers, none of which is negative
abbrev pub present_sum : List Point → ℕ
present_sum points = sum (simple_numbers points)

-- it sums up these points
pub record SumsUp (summary : Summary) (points : List Point) : Type 0 where
  pub present_stands : summary.present ≡ present_count points
  pub sum_stands : summary.sum ≡ present_sum points
