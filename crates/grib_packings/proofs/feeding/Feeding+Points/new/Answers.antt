use Rattle.std.proofs.Common.{[]}
use Rattle.grib_packings.proofs.Read.{column_agrees}
use Rattle.grib_packings.proofs.feeding.Feeding+Points.new.Goals as goal

pub returns-clause-agrees : goal.returns-clause-agrees
returns-clause-agrees c =
    let s5 = c.args.section5.now.octets.now in
    column_agrees s5 c.args.mask c.args.start c.args.length [] c.in_ok-points.points c.in_ok-points.ensures c.requires.values c.in_ok-feeder.feeder (c.in_ok-feeder.ensures.read s5 c.accepted-representation.ensures)
