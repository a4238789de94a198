use Rattle.std.proofs.Common.{◌≡◌, ◌++◌, replicate}
use Rattle.grib_simple_reading.proofs.numbers.push_same.Given as goal

abbrev pub invariant-loop-pushed : goal.invariant-loop-pushed
invariant-loop-pushed g l = l.items.items ≡ l.initial.items.items ++ replicate l._pushed l.item
