use Rattle.std.proofs.Common.{◌≡◌, ◌+◌, map, drop}
use Rattle.grib_same.specs.declared.scale.ValueScale.{ValueScale}
use Rattle.grib_same.specs.Levels.{Decides}
use Rattle.grib_same.specs.Sameness.{difference_from, first_difference}
use Rattle.grib_same.specs.Scales.{meant_by}
use Rattle.grib_same.proofs.quick.Quick.first_difference.Given as goal

abbrev pub invariant-loop-i : goal.invariant-loop-i
invariant-loop-i l = (f g : ValueScale) → Decides l.self f g
    → first_difference (map (meant_by f) l.left) (map (meant_by g) l.right) ≡ difference_from (l.i + 1) (map (meant_by f) (drop l.i l.left)) (map (meant_by g) (drop l.i l.right))
