use Rattle.std.proofs.Common.{◌≡◌, length}
use Rattle.grib.specs.Keys.{keys_left}
use Rattle.grib.proofs.keys.KeysIterator.next.Given as goal

-- the keys with values that are left are those that were left
abbrev pub invariant-loop-key : goal.invariant-loop-key
invariant-loop-key l = keys_left l.self ≡ keys_left l.fn.self

abbrev pub decreases-loop-key : goal.decreases-loop-key
decreases-loop-key l = length l.self.left.now
