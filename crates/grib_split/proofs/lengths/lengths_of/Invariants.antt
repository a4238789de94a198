use Rattle.std.proofs.Common.{◌-◌, ◌≤◌, length}
use Rattle.grib_split.proofs.Followed.{FollowsTo}
use Rattle.grib_split.proofs.lengths.lengths_of.Given as goal

abbrev pub invariant-loop-at : goal.invariant-loop-at
invariant-loop-at l = record { within : l.at ≤ length l.choices; follows : FollowsTo l.choices l.lengths.items l.at }

abbrev pub decreases-loop-at : goal.decreases-loop-at
decreases-loop-at l = length l.choices - l.at
