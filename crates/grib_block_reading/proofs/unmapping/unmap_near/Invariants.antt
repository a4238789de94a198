use Rattle.std.proofs.Common.{◌≤◌, drop}
use Rattle.grib_coding.specs.Mapped.{halves, reach}
use Rattle.grib_block_reading.proofs.Blocks.{SoFar}
use Rattle.grib_block_reading.proofs.unmapping.unmap_near.Given as goal

abbrev pub invariant-loop-code : goal.invariant-loop-code
invariant-loop-code l = record {
  so_far : SoFar l.most l.fn.before l.initial.codes l.codes l.code-index l.before;
  near : halves (drop l.code-index l.initial.codes) ≤ reach l.most l.before;
}
