use Rattle.std.proofs.Common.{◌≡◌, drop}
use Rattle.grib_select.specs.Values.{fulfils_all}
use Rattle.grib_select.proofs.matching.matches.Given as goal

-- the answer is that of the conditions that are left
abbrev pub invariant-loop-condition : goal.invariant-loop-condition
invariant-loop-condition l = fulfils_all l.message l.field l.conditions ≡ fulfils_all l.message l.field (drop l.condition-index l.conditions)
