-- The numbers that the cost of a grouping rests on, and the codes that are split at them.
use Rattle.std.specs.Prelude.{ℕ, ◌+◌, ◌≤◌, List, length, All}
use Rattle.grib_base.specs.declared.code.Code.{Code}
use Rattle.grib_packing.specs.Groupings.{length_bits}
use Rattle.grib_codes.specs.Span.{IsBelow}
use Rattle.grib_split.specs.declared.choosing.Costs.{Costs}

-- the bits that a group takes beside its numbers
abbrev pub header_of : Costs → ℕ
header_of costs = costs.reference_bits + costs.width_bits + length_bits

-- The codes of a field can be split at these costs: there are 1 to 33,554,432, each number has 32 bits beside
-- the codes that are reserved, and the bits of references and widths are those of groups.
pub record CanSplit (costs : Costs) (field : List Code) : Type 0 where
  pub some : 1 ≤ length field
  pub most : length field ≤ 33554432
  pub reserved : costs.reserved ≤ 2
  pub references : costs.reference_bits ≤ 32
  pub widths : costs.width_bits ≤ 6
  pub codes : All (IsBelow costs.reserved) field
