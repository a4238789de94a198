use Rattle.grib_synthetic.proofs.OneByOne.{point-next}
use Rattle.std.proofs.Common.{◌∙◌}
use Rattle.grib_synthetic.proofs.points.Maker.next.Goals as goal

pub returns-then-self-clause-point : goal.returns-then-self-clause-point
returns-then-self-clause-point c = λ seed n made. c.point_with-point.ensures ∙ point-next c.args.self.now seed n c.next_random-self.result made c.next_random-self.ensures.next

pub returns-else-self-clause-point : goal.returns-else-self-clause-point
returns-else-self-clause-point c = λ seed n made. c.point_with-point.ensures ∙ point-next c.args.self.now seed n c.next_random-self.result made c.next_random-self.ensures.next
