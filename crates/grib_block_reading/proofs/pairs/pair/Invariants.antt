use Rattle.std.proofs.Common.{◌≡◌, ◌+◌, ◌*◌, ◌/◌}
use Rattle.grib_block_reading.proofs.pairs.pair.Given as goal

abbrev pub invariant-loop-sum : goal.invariant-loop-sum
invariant-loop-sum l = l.number ≡ l.sum * (l.sum + 1) / 2 + l.second
