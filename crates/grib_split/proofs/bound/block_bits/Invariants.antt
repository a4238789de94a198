use Rattle.std.proofs.Common.{◌≡◌, ℕ, ◌+◌, ◌-◌, ◌<◌, ◌≤◌, length, take, drop}
use Rattle.std.specs.Prelude.{slice_index}
use Rattle.grib_packing.specs.Groupings.{width_of}
use Rattle.grib_split.specs.Bound.{NoneTakesFewer}
use Rattle.grib_split.specs.Costs.{header_of}
use Rattle.grib_split.proofs.bound.block_bits.Given as goal

abbrev pub invariant-loop-count : goal.invariant-loop-count
invariant-loop-count l = record {
  size : length l.rest ≡ 9;
  few : (place : ℕ) → place < 9 → slice_index l.rest place ≤ 300;
  bits : (n : ℕ) → n < l.count
      → NoneTakesFewer (header_of l.costs) (width_of l.costs.reserved) (take n (drop (l.from + 8 - n) l.codes)) (slice_index l.rest n);
}
