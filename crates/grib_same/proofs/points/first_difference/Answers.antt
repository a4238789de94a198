use Rattle.grib_same.proofs.points.first_difference.Goals as goal

pub returns-in-Some : goal.returns-in-Some
returns-in-Some c = c.first_difference.ensures c.args.left.now c.args.right.now c.in-Some.ensures
