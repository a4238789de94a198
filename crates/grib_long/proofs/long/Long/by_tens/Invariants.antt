use Rattle.std.proofs.Common.{◌≡◌, ◌-◌, ◌^◌, ◌≤◌}
use Rattle.grib_long.specs.Digits.{value, size}
use Rattle.grib_long.specs.Floor.{IsFloor}
use Rattle.grib_long.proofs.long.Long.by_tens.Given as goal

abbrev pub invariant-loop-left : goal.invariant-loop-left
invariant-loop-left l = record {
  floor : IsFloor (value l.fn.self) (value l.whole) (10 ^ (l.tens - l.left)) l.more;
  within : l.left ≤ l.tens;
  long : size l.whole ≡ size l.fn.self;
}

abbrev pub decreases-loop-left : goal.decreases-loop-left
decreases-loop-left l = l.left
