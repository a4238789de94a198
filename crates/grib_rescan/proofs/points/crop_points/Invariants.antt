use Rattle.std.proofs.Common.{◌≡◌, ◌-◌}
use Rattle.std.specs.List.{range_with_len, flat_map}
use Rattle.grib_rescan.specs.Points.{box_row_of, width}
use Rattle.grib_rescan.proofs.points.crop_points.Given as goal

abbrev pub invariant-loop-row : goal.invariant-loop-row
invariant-loop-row g l = l.cropped.items ≡ flat_map (box_row_of l.ni l.nj (g.P.GridPoints.points l.points) l.area.i0 (width l.area)) (range_with_len l.area.j0 (l.row - l.area.j0))
