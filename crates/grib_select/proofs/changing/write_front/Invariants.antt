use Rattle.std.proofs.Common.{◌-◌}
use Rattle.grib_select.proofs.Front.{Written}
use Rattle.grib_select.proofs.changing.write_front.Given as goal

-- what was written, what was left out since, and the sections that are left make the whole
abbrev pub invariant-loop-section : goal.invariant-loop-section
invariant-loop-section l = Written l.octets l.changes l.frame l.front.items

abbrev pub decreases-loop-section : goal.decreases-loop-section
decreases-loop-section l = l.frame.total - l.frame.place
