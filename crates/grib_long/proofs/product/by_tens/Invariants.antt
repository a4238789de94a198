use Rattle.std.proofs.Common.{◌≡◌, ◌+◌, ◌-◌, ◌*◌, ◌^◌, ◌≤◌, length}
use Rattle.grib_long.specs.Digits.{little}
use Rattle.grib_long.proofs.product.by_tens.Given as goal

abbrev pub invariant-loop-left : goal.invariant-loop-left
invariant-loop-left l = record {
  is : little l.product.items ≡ little l.fn.digits.items * 10 ^ (l.tens - l.left);
  within : l.left ≤ l.tens;
  long : length l.product.items + l.left ≤ length l.fn.digits.items + l.tens;
}

abbrev pub decreases-loop-left : goal.decreases-loop-left
decreases-loop-left l = l.left
