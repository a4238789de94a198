use Rattle.std.proofs.Common.{arith}
use Rattle.grib1_sections.proofs.Joined.{points_within}
use Rattle.grib1_sections.proofs.message.Message1.points.Goals as goal

pub returns-clause-some : goal.returns-clause-some
returns-clause-some c = omega (arith, c.self.invariant.points_are, (points_within c.self.inside.octets.now c.self.invariant.accepted).0)

pub returns-clause-few : goal.returns-clause-few
returns-clause-few c = omega (arith, c.self.invariant.points_are, (points_within c.self.inside.octets.now c.self.invariant.accepted).1)
