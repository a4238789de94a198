use Rattle.std.proofs.Common.{◌≡◌, ◌≤◌}
use Rattle.grib_coding.specs.Items.{sequence}
use Rattle.grib_block_writing.specs.Steps.{Leaves}
use Rattle.grib_block_writing.proofs.items.write_sequence.Given as goal

abbrev pub invariant-loop-left : goal.invariant-loop-left
invariant-loop-left l = Leaves l.fn.out l.out (sequence l.zeros) (sequence l.left)

abbrev pub decreases-loop-left : goal.decreases-loop-left
decreases-loop-left l = l.left
