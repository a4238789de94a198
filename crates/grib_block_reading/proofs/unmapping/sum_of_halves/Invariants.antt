use Rattle.std.proofs.Common.{◌≡◌, ◌*◌, ◌^◌, ◌≤◌, take}
use Rattle.grib_coding.specs.Mapped.{halves}
use Rattle.grib_block_reading.proofs.unmapping.sum_of_halves.Given as goal

abbrev pub invariant-loop-code : goal.invariant-loop-code
invariant-loop-code l = record {
  is : l.sum ≡ halves (take l.code-index l.codes);
  few : l.sum ≤ l.code-index * 2 ^ 31;
}
