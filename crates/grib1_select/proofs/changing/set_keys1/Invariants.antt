use Rattle.std.proofs.Common.{◌≡◌, drop}
use Rattle.grib1_select.specs.Changed.{set_fault1}
use Rattle.grib1_select.proofs.changing.set_keys1.Given as goal

-- the fault is that of the changes that are left
abbrev pub invariant-loop-change : goal.invariant-loop-change
invariant-loop-change l = set_fault1 l.changes ≡ set_fault1 (drop l.change-index l.changes)
