use Rattle.std.proofs.Common.{◌≡◌, ◌+◌, map, drop}
use Rattle.grib_same.specs.Sameness.{difference_from, first_difference}
use Rattle.grib_same.specs.Scales.{meant_by}
use Rattle.grib_same.proofs.slow.first_difference.Given as goal

abbrev pub invariant-loop-i : goal.invariant-loop-i
invariant-loop-i l =
    first_difference (map (meant_by l.left) l.left_points) (map (meant_by l.right) l.right_points)
    ≡ difference_from (l.i + 1) (map (meant_by l.left) (drop l.i l.left_points)) (map (meant_by l.right) (drop l.i l.right_points))
