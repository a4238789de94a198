use Rattle.std.proofs.Common.{◌≡◌, ℕ, ◌≤◌, true}
use Rattle.grib_edit.proofs.choosing.chosen_front.Given as goal

-- the fields so far are chosen
abbrev pub invariant-loop-index : goal.invariant-loop-index
invariant-loop-index g l = (field : ℕ) → 1 ≤ field → field ≤ l.index → g.C.Chooser.chosen l.chooser l.message field ≡ true
