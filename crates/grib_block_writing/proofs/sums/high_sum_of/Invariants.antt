use Rattle.std.proofs.Common.{◌≡◌, ◌*◌, ◌^◌, ◌≤◌, take}
use Rattle.grib_coding.specs.Choices.{high_sum}
use Rattle.grib_block_writing.proofs.sums.high_sum_of.Given as goal

abbrev pub invariant-loop-code : goal.invariant-loop-code
invariant-loop-code l = record {
  is : l.sum ≡ high_sum l.k (take l.code-index l.codes);
  few : l.sum ≤ l.code-index * 2 ^ 32;
}
