use Rattle.std.proofs.Common.{◌≡◌, ◌-◌, ◌^◌, ◌≤◌, pos, ◌*ℤ◌}
use Rattle.grib_same.specs.Wholes.{value}
use Rattle.grib_same.proofs.whole.Whole.times_tens.Given as goal

abbrev pub invariant-loop-left : goal.invariant-loop-left
invariant-loop-left l = record {
  is : value l.product ≡ value l.fn.self *ℤ pos (10 ^ (l.tens - l.left));
  within : l.left ≤ l.tens;
}

abbrev pub decreases-loop-left : goal.decreases-loop-left
decreases-loop-left l = l.left
