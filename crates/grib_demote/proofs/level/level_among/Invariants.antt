use Rattle.std.proofs.Common.{◌≡◌, drop}
use Rattle.grib_demote.specs.Levels as levels
use Rattle.grib_demote.proofs.level.level_among.Given as goal

abbrev pub invariant-loop-level_type : goal.invariant-loop-level_type
invariant-loop-level_type l =
    levels.level_among l.first l.second (drop l.level_type-index l.types) ≡ levels.level_among l.first l.second l.types
