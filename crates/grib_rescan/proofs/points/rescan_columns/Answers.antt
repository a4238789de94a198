use Rattle.std.proofs.Common.{length, ap, ◌∙◌, arith}
use Rattle.std.proofs.lemmas.List.{take_at}
use Rattle.grib_rescan.specs.Scanning.{scanning_of}
use Rattle.grib_rescan.specs.Points.{rescanned_points}
use Rattle.grib_rescan.proofs.Rows.{rescanned_length}
use Rattle.grib_rescan.proofs.Columns.{by_rows, rows_of_columns}
use Rattle.grib_rescan.proofs.points.rescan_columns.Goals as goal

pub order_rows-requires-clause-length : goal.order_rows-requires-clause-length
order_rows-requires-clause-length g c =
    let points = g.P.GridPoints.points c.args.points.now in
    ap length (c.deref_mut.ensures.value ∙ c.in_ok-points.ensures) ∙ rescanned_length (scanning_of 0x20) c.args.ni c.args.nj points

pub returns : goal.returns
returns g c =
    let s = c.args.scanning in
    let ni = c.args.ni in
    let nj = c.args.nj in
    let points = g.P.GridPoints.points c.args.points.now in
    take_at c.order_rows.new.points _ c.in_ok-points.points.len (omega (arith, c.order_rows.auto.points, c.deref_mut.ensures.len))
    ∙ c.order_rows.ensures
    ∙ ap (rescanned_points (by_rows s) ni nj) (c.deref_mut.ensures.value ∙ c.in_ok-points.ensures)
    ∙ rows_of_columns s ni nj points c.requires.by_columns c.requires.one_way
