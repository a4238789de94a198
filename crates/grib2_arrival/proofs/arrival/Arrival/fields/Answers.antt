use Rattle.std.proofs.Common.{ap, ◌∙◌, length, arith}
use Rattle.grib2_arrival.proofs.Verdicts.{ended_of, ended_fields, ended_few}
use Rattle.grib2_arrival.proofs.arrival.Arrival.fields.Goals as goal

pub unreachable-requires : goal.unreachable-requires
unreachable-requires c = rw c.in-None.is at c.requires.whole.2

pub overflow_cast-result : goal.overflow_cast-result
overflow_cast-result c =
    let r = c.requires.whole in
    let heard = rw c.in-Some.is at r.2 in
    let w = ended_of c.requires.whole.0 c.in-Some.state r.1 heard r.3 in
    let long = ap length (c.summaries.ensures w.kept w.is) in
    let few = ended_few c.requires.whole.0 w.kept r.1 w.heard in
    omega (arith, long, few)

pub returns : goal.returns
returns c = λ profile u h e.
    let heard = rw c.in-Some.is at h in
    let w = ended_of profile c.in-Some.state u heard e in
    ap length (c.summaries.ensures w.kept w.is) ∙ ended_fields profile w.kept u w.heard
