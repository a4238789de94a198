use Rattle.std.proofs.Common.{◌≡◌, take, replicate}
use Rattle.grib_simple.proofs.common.common_point.Given as goal

abbrev pub invariant-loop-index : goal.invariant-loop-index
invariant-loop-index l = take l.index l.points ≡ replicate l.index l.first
