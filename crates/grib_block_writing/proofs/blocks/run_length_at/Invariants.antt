use Rattle.grib_block_writing.proofs.Zeros.{Zeros}
use Rattle.grib_block_writing.proofs.blocks.run_length_at.Given as goal

abbrev pub invariant-loop-zeros : goal.invariant-loop-zeros
invariant-loop-zeros l = Zeros l.coding l.numbers l.block l.zeros
