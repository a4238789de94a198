use Rattle.std.proofs.Common.{◌≡◌, drop}
use Rattle.grib1_select.specs.Values.{fulfils_all1}
use Rattle.grib1_select.proofs.matching.matches1.Given as goal

-- the answer is that of the conditions that are left
abbrev pub invariant-loop-condition : goal.invariant-loop-condition
invariant-loop-condition l = fulfils_all1 l.message l.conditions ≡ fulfils_all1 l.message (drop l.condition-index l.conditions)
