use Rattle.std.proofs.Common.{◌≡◌, List, IfOk, ap, ap₂, ◌∙◌, subst, arith}
use Rattle.std.proofs.lemmas.List.{take_at}
use Rattle.grib_packing.specs.declared.column.Point.{Point}
use Rattle.grib_rescan.specs.declared.scanning.Scanning.{Scanning}
use Rattle.grib_rescan.specs.Scanning.{scanning_of}
use Rattle.grib_rescan.specs.Points.{rescanned_points}
use Rattle.grib_rescan.proofs.Columns.{exchanged_rows}
use Rattle.grib_rescan.proofs.points.rescan_points.Goals as goal

pub returns-then-scanning : goal.returns-then-scanning
returns-then-scanning c =
    let s = c.args.scanning in
    let ni = c.args.ni in
    let nj = c.args.nj in
    let is = c.deref.ensures.value
    ∙ take_at c.order_rows.new.points _ c.args.points.len (omega (arith, c.order_rows.auto.points, c.deref_mut.ensures.len))
    ∙ c.order_rows.ensures
    ∙ ap₂ (λ (order : Scanning) (xs : List Point). rescanned_points order nj ni xs) c.exchanged.ensures c.deref_mut.ensures.value in
    subst (λ (xs : List Point). IfOk c.transpose.result (λ transposed. transposed.items ≡ xs))
    (ap (rescanned_points (scanning_of 0x20) ni nj) is ∙ exchanged_rows s ni nj c.args.points.items c.if-scanning.true) c.transpose.ensures
