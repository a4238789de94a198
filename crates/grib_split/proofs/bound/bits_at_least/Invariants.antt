use Rattle.std.proofs.Common.{ℕ, ◌+◌, ◌*◌, ◌≤◌, drop}
use Rattle.grib_packing.specs.Groupings.{width_of}
use Rattle.grib_split.specs.Bound.{NoneTakesFewer}
use Rattle.grib_split.specs.Costs.{header_of}
use Rattle.grib_split.proofs.bound.bits_at_least.Given as goal

abbrev pub invariant-loop-block : goal.invariant-loop-block
invariant-loop-block l = record {
  few : l.bits ≤ 300 * l.block;
  bits : (rest : ℕ) → NoneTakesFewer (header_of l.costs) (width_of l.costs.reserved) (drop (l.block * 8) l.codes) rest
      → NoneTakesFewer (header_of l.costs) (width_of l.costs.reserved) l.codes (l.bits + rest);
}
