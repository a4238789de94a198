use Rattle.std.proofs.Common.{◌≡◌, ◌*◌, ◌++◌, cond, drop, reverse}
use Rattle.std.specs.List.{range_with_len, flat_map}
use Rattle.grib_rescan.specs.Points.{row_of}
use Rattle.grib_rescan.proofs.points.turn_rows.Given as goal

abbrev pub invariant-loop-row : goal.invariant-loop-row
invariant-loop-row l =
    l.points
    ≡ flat_map (row_of l.scanning l.columns l.rows (cond l.scanning.northward (reverse l.initial.points) l.initial.points) 0 l.columns) (range_with_len 0 l.row)
    ++ drop (l.row * l.columns) l.initial.points
