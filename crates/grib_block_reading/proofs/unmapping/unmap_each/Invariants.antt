use Rattle.grib_block_reading.proofs.Blocks.{SoFar}
use Rattle.grib_block_reading.proofs.unmapping.unmap_each.Given as goal

abbrev pub invariant-loop-place : goal.invariant-loop-place
invariant-loop-place l = SoFar l.most l.fn.before l.initial.codes l.codes l.place l.before
