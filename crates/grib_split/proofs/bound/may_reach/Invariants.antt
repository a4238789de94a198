use Rattle.std.proofs.Common.{◌*◌, ◌≤◌}
use Rattle.grib_split.proofs.bound.may_reach.Given as goal

abbrev pub invariant-loop-look : goal.invariant-loop-look
invariant-loop-look l = l.bits ≤ 300 * l.look
