use Rattle.std.proofs.Common.{replicate}
use Rattle.grib_packing.specs.Coded.{point_of}
use Rattle.grib_block_feeding.proofs.section.keep_zeros.Given as goal

abbrev pub invariant-loop-value : goal.invariant-loop-value
invariant-loop-value g l = g.K.Keeper.kept l.fn.keeper (replicate l._value (point_of 0)) l.kept
