use Rattle.std.proofs.Common.{◌≡◌, ℕ, ◌-◌, ◌<◌, ◌≤◌}
use Rattle.grib_block_writing.specs.Splits.{split_bits}
use Rattle.grib_block_writing.proofs.splitting.up_from.Given as goal

abbrev pub decreases-loop-best : goal.decreases-loop-best
decreases-loop-best l = l.most - l.best.k

abbrev pub invariant-loop-best : goal.invariant-loop-best
invariant-loop-best l = record {
  is : l.best.bits ≡ split_bits l.kept l.codes l.best.k;
  within : l.best.k ≤ l.most;
  from : l.fn.start.k ≤ l.best.k;
  below : l.fn.start.k < l.best.k → (j : ℕ) → j < l.best.k → l.best.bits < split_bits l.kept l.codes j;
}
