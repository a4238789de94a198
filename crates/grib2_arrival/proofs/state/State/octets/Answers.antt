use Rattle.std.proofs.Common.{drop, arith, []}
use Rattle.grib2_message.specs.View.{octets_in_force}
use Rattle.grib2_arrival.specs.Heard.{pending}
use Rattle.grib2_arrival.proofs.States.{values_came}
use Rattle.grib2_arrival.proofs.state.State.octets.Goals as goal

pub overflow_sub-result-in-Feeds-2 : goal.overflow_sub-result-in-Feeds-2
overflow_sub-result-in-Feeds-2 c =
    let u = c.requires.heard.1 in
    let h = rw c.in-Feeds.is at c.requires.heard.2 in
    let kept = c.in-Feeds.kept in
    let left = c.left.ensures (octets_in_force 5 h.0.before) kept.frame.place c.in-Feeds.length (drop 5 (pending u kept)) h.0.agrees in
    omega (arith, left)

pub returns-in-Feeds-clause-count : goal.returns-in-Feeds-clause-count
returns-in-Feeds-clause-count c = λ profile u heard.
    let h = rw c.in-Feeds.is at heard in
    let kept = c.in-Feeds.kept in
    let left = c.left.ensures (octets_in_force 5 h.0.before) kept.frame.place c.in-Feeds.length (drop 5 (pending u kept)) h.0.agrees in
    let came = values_came profile u [] kept c.in-Feeds.length h.0.before h.0.stands h.0.values in
    omega (arith, left, came, h.0.stands.walked.low)
