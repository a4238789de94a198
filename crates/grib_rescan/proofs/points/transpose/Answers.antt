use Rattle.std.proofs.Common.{arith}
use Rattle.std.proofs.lemmas.Grind.{div_ceil_times}
use Rattle.grib_rescan.specs.Scanning.{scanning_of}
use Rattle.grib_rescan.specs.Points.{rescanned_points}
use Rattle.grib_rescan.proofs.Rows.{rescanned_length}
use Rattle.grib_rescan.proofs.Placed.{all_put}
use Rattle.grib_rescan.proofs.points.transpose.Goals as goal

pub returns : goal.returns
returns g c =
    let points = g.P.GridPoints.points c.args.points.now in
    let wanted = rescanned_points (scanning_of 0x20) c.args.columns c.args.rows points in
    let bound = (div_ceil_times c.args.columns 32 (omega arith)).0 in
    all_put c.args.columns c.args.rows wanted c.loop-number.transposed.items (rescanned_length (scanning_of 0x20) c.args.columns c.args.rows points) c.loop-number.invariant.size
    (λ i j small few. c.loop-number.invariant.made i j (omega (arith, small, bound, c.div_ceil-number-end.ensures, c.loop-number-test.false)) few)
