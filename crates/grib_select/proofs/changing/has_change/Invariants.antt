use Rattle.std.proofs.Common.{◌≡◌, drop}
use Rattle.grib_select.specs.Changed.{has_change_in}
use Rattle.grib_select.proofs.changing.has_change.Given as goal

-- the answer is that of the changes that are left
abbrev pub invariant-loop-change : goal.invariant-loop-change
invariant-loop-change l = has_change_in l.changes l.number ≡ has_change_in (drop l.change-index l.changes) l.number
