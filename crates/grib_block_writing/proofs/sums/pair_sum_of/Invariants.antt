use Rattle.std.proofs.Common.{◌≡◌, ◌+◌, ◌*◌, ◌^◌, ◌<◌, ◌≤◌, drop}
use Rattle.grib_coding.specs.Choices.{high_sum, pair_sum}
use Rattle.grib_block_writing.proofs.sums.pair_sum_of.Given as goal

abbrev pub invariant-loop-pair : goal.invariant-loop-pair
invariant-loop-pair l = record {
  is : l.sum + pair_sum (drop (2 * l.pair) l.codes) ≡ pair_sum l.codes;
  few : l.sum ≤ l.pair * 2 ^ 33;
  small : high_sum 0 (drop (2 * l.pair) l.codes) < 2 ^ 16;
}
