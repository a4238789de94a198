use Rattle.std.proofs.Common.{map, ap, ◌∙◌}
use Rattle.std.proofs.lemmas.List.{take_all}
use Rattle.grib.specs.Exact.{nearest_number}
use Rattle.grib.specs.Points.{value_at}
use Rattle.grib.proofs.Mapped.{mapped_twice}
use Rattle.grib.proofs.points.Points.numbers_of.Goals as goal

pub returns : goal.returns
returns c =
    let value = value_at c.args.self.now.reference c.args.self.now.column in
    let points = c.args.points.now in
    c.loop-point.invariant
    ∙ (ap (map (λ point. nearest_number (value point))) (take_all c.loop-point.point-index points c.loop-point-test.false)
    ∙ mapped_twice nearest_number value points)
