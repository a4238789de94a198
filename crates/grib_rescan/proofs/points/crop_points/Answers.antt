use Rattle.std.proofs.Common.{◌+◌, ◌-◌, ◌*◌, ◌++◌, ◌∙◌, ap, min, take, drop, arith, append_assoc}
use Rattle.grib_rescan.specs.Points.{box_row_of, width}
use Rattle.grib_rescan.proofs.Rows.{rows_more}
use Rattle.grib_rescan.proofs.Runs.{box_row}
use Rattle.grib_rescan.proofs.points.crop_points.Goals as goal

pub loop-row-preserved : goal.loop-row-preserved
loop-row-preserved g c =
    let area = c.args.area.now in
    let ni = c.args.ni in
    let row = c.loop-row.row in
    let points = g.P.GridPoints.points c.args.points.now in
    let f = box_row_of ni c.args.nj points area.i0 (width area) in
    let first = c.min-to_last.result in
    let others = area.i1 - area.i0 + 1 - first in
    rows_more f area.j0 (row - area.j0) (row + 1 - area.j0) (omega arith) _ _ (f row) c.loop-row.invariant (ap f (omega arith))
    (c.in_ok-add_to-2.ensures
    ∙ ap (λ xs. xs ++ take others (drop (row * ni) points)) c.in_ok-add_to.ensures
    ∙ append_assoc _ (take first (drop (row * ni + area.i0) points)) (take others (drop (row * ni) points))
    ∙ ap (λ run. c.loop-row.cropped.items ++ run)
    (box_row ni c.args.nj points area.i0 (width area) row c.requires.length (omega arith) (omega arith) (omega arith) first others
    (c.min-to_last.ensures ∙ ap (λ w. min w (ni - area.i0)) (omega arith)) (omega arith)))
