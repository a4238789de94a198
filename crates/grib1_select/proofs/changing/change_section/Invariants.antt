use Rattle.std.proofs.Common.{◌≡◌, drop}
use Rattle.grib1_select.specs.Changed.{with_changes1}
use Rattle.grib1_select.proofs.changing.change_section.Given as goal

-- the changes that are left make of the section what all make of the first
abbrev pub invariant-loop-change : goal.invariant-loop-change
invariant-loop-change l = with_changes1 (drop l.change-index l.changes) l.section ≡ with_changes1 l.changes l.fn.section
