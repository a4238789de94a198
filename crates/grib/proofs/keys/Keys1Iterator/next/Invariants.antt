use Rattle.std.proofs.Common.{◌≡◌, length}
use Rattle.grib.specs.Keys.{keys1_left}
use Rattle.grib.proofs.keys.Keys1Iterator.next.Given as goal

-- the keys with numbers that are left are those that were left
abbrev pub invariant-loop-key : goal.invariant-loop-key
invariant-loop-key l = keys1_left l.self ≡ keys1_left l.fn.self

abbrev pub decreases-loop-key : goal.decreases-loop-key
decreases-loop-key l = length l.self.left.now
