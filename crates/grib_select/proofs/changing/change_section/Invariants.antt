use Rattle.std.proofs.Common.{◌≡◌, drop}
use Rattle.grib_select.specs.Values.{HasKeys}
use Rattle.grib_select.specs.Changed.{with_changes}
use Rattle.grib_select.proofs.changing.change_section.Given as goal

-- the changes that are left make of the section what all make of the first
abbrev pub invariant-loop-change : goal.invariant-loop-change
invariant-loop-change l = record {
  left : with_changes (drop l.change-index l.changes) l.number l.section ≡ with_changes l.changes l.number l.fn.section;
  keys : HasKeys l.number l.section;
}
