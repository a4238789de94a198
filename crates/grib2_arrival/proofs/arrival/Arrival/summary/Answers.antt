use Rattle.std.proofs.Common.{ap, length, arith}
use Rattle.grib2_arrival.proofs.Verdicts.{ended_of, ended_fields, ended_summary}
use Rattle.grib2_arrival.proofs.arrival.Arrival.summary.Goals as goal

pub unreachable-requires : goal.unreachable-requires
unreachable-requires c = rw c.in-None.is at c.requires.whole.2

pub bounds-summaries-field : goal.bounds-summaries-field
bounds-summaries-field c =
    let r = c.requires.whole in
    let heard = rw c.in-Some.is at r.2 in
    let w = ended_of c.requires.whole.0 c.in-Some.state r.1 heard r.3 in
    let long = ap length (c.summaries.ensures w.kept w.is) in
    let count = ended_fields c.requires.whole.0 w.kept r.1 w.heard in
    omega (arith, long, count, r.4, c.requires.first)

pub returns : goal.returns
returns c = λ profile u h e within.
    let heard = rw c.in-Some.is at h in
    let w = ended_of profile c.in-Some.state u heard e in
    let is = c.summaries.ensures w.kept w.is in
    let count = ended_fields profile w.kept u w.heard in
    rw is (ended_summary profile w.kept u w.heard c.args.field c.requires.first (omega (arith, count, within)) _)
