use Rattle.std.proofs.Common.{◌≡◌, ◌+◌, ◌-◌, ◌^◌, ◌<◌, drop, min}
use Rattle.grib_group_reading.specs.Table.{groups_in}
use Rattle.grib_complex_reading.specs.Range.{reach}
use Rattle.grib_complex_reading.proofs.range.reach.Given as goal

abbrev pub invariant-loop-index : goal.invariant-loop-index
invariant-loop-index l = record {
  small : l.reach < 2 ^ 64;
  sum : min (l.reach + reach l.minimum (drop l.index (groups_in l.table))) (2 ^ 64 - 1) ≡ min (reach l.minimum (groups_in l.table)) (2 ^ 64 - 1);
}
