use Rattle.std.proofs.Common.{◌≡◌, drop}
use Rattle.grib_select.specs.Changed.{set_fault}
use Rattle.grib_select.proofs.changing.check_changes.Given as goal

-- the fault is that of the changes that are left
abbrev pub invariant-loop-change : goal.invariant-loop-change
invariant-loop-change l = set_fault l.message l.changes ≡ set_fault l.message (drop l.change-index l.changes)
