use Rattle.std.proofs.Common.{◌≡◌, ◌+◌, ◌*◌, ◌<◌, ◌∙◌, inl, inr, length, refl, sym, arith, slice_set}
use Rattle.std.proofs.lemmas.Bool.{cases_lt}
use Rattle.std.proofs.lemmas.List.{length-set}
use Rattle.grib_rescan.specs.Scanning.{scanning_of}
use Rattle.grib_rescan.specs.Points.{point, rescanned_points}
use Rattle.grib_rescan.proofs.Rows.{rescanned_at}
use Rattle.grib_rescan.proofs.Placed.{place_in, put_here, put_keeps}
use Rattle.grib_rescan.proofs.points.put_part.Goals as goal

pub loop-column-preserved : goal.loop-column-preserved
loop-column-preserved g c =
    let columns = c.args.columns in
    let rows = c.args.rows in
    let row = c.args.row in
    let column = c.loop-column.column in
    let points = g.P.GridPoints.points c.args.points.now in
    let wanted = rescanned_points (scanning_of 0x20) columns rows points in
    let old = c.loop-column.out in
    let at = row * columns + column in
    let new = slice_set old at c.point.result in
    let small : column < columns = omega (arith, c.loop-column-test.true, c.requires.within) in
    let within : at < length old = omega (arith, place_in columns rows row column c.requires.row small, c.loop-column.invariant.size) in
    let right : c.point.result ≡ point wanted at = c.point.ensures ∙ sym (rescanned_at (scanning_of 0x20) columns rows points column row small c.requires.row) in
    let stays = put_keeps wanted old new at c.point.result refl within right in
    record {
      size = length-set old at c.point.result ∙ c.loop-column.invariant.size;
      keeps = λ k was. stays k (c.loop-column.invariant.keeps k was);
      made = λ i low high. elim (cases_lt i column) [
        | inl before ↦ stays (row * columns + i) (c.loop-column.invariant.made i low before)
        | inr here ↦ put_here wanted old new at c.point.result refl within right (row * columns + i) (omega (arith, here, high))
      ];
    }
