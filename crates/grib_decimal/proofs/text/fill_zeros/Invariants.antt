use Rattle.std.proofs.Common.{◌-◌, ◌≡◌, ◌≤◌, ◌++◌, drop, min, replicate}
use Rattle.grib_decimal.proofs.text.fill_zeros.Given as goal

abbrev pub invariant-loop-from : goal.invariant-loop-from
invariant-loop-from l = record {
  least : min l.start l.to ≤ l.from;
  within : l.from ≤ l.start;
  zeros : drop l.from l.buffer ≡ replicate (l.start - l.from) 48 ++ drop l.start l.initial.buffer;
}

abbrev pub decreases-loop-from : goal.decreases-loop-from
decreases-loop-from l = l.from - l.to
