use Rattle.std.proofs.Common.{◌≡◌, ◌+◌, ◌≤◌, ◌++◌, replicate, vec_len, vec_capacity}
use Rattle.grib_packing.specs.declared.column.Point.TheVariants.{Missing}
use Rattle.grib_packing.proofs.keeping.push_missing.Given as goal

abbrev pub invariant-loop-index : goal.invariant-loop-index
invariant-loop-index l = record {
  points : vec_len l.fn.points + l.count ≤ vec_capacity l.fn.points → l.points.items ≡ l.fn.points.items ++ replicate l._index Missing;
  capacity : vec_capacity l.fn.points ≤ vec_capacity l.points;
}
