use Rattle.std.proofs.Common.{◌≡◌, ◌+◌, ◌≤◌, arith}
use Rattle.grib_split.specs.Costs.{header_of}
use Rattle.grib_split.specs.Runs.{after_of}
use Rattle.grib_split.proofs.Steadily.{near_falls, falls_to, falls_next, falls_here, soonest_on, cost_on}
use Rattle.grib_split.proofs.choosing.best_of_one.Goals as goal
use Rattle.grib_split.proofs.choosing.best_of_one.Goals.{After-soonest-least}

pub returns-then-next-lt64-clause-soonest : goal.returns-then-next-lt64-clause-soonest
returns-then-next-lt64-clause-soonest c =
    let q = c.requires in
    let p = c.put_after.ensures in
    soonest_on (header_of c.args.costs.now) c.args.at c.args.next.cost c.args.next.length c.args.slots.now c.put_after.new.self p.after p.here q.falls q.cost (omega arith) q.soonest c.if-next-lt64.true

pub returns-then-next-lt64-clause-falls : goal.returns-then-next-lt64-clause-falls
returns-then-next-lt64-clause-falls c =
    let q = c.requires in
    let p = c.put_after.ensures in
    let now = cost_on (header_of c.args.costs.now) c.args.at c.args.next.cost c.args.next.length c.args.slots.now c.put_after.new.self p.after p.here q.falls q.cost q.soonest c.if-next-lt64.true in
    falls_here (header_of c.args.costs.now) c.args.at c.args.next.cost c.args.next.cost c.args.slots.now c.put_after.new.self p.after p.here q.falls q.cost now

pub returns-then-next-lt64-clause-cost : goal.returns-then-next-lt64-clause-cost
returns-then-next-lt64-clause-cost c =
    let q = c.requires in
    let p = c.put_after.ensures in
    cost_on (header_of c.args.costs.now) c.args.at c.args.next.cost c.args.next.length c.args.slots.now c.put_after.new.self p.after p.here q.falls q.cost q.soonest c.if-next-lt64.true

pub put_after-requires-clause-near : goal.put_after-requires-clause-near
put_after-requires-clause-near c = near_falls (header_of c.args.costs.now) c.args.at c.args.next.cost c.args.slots.now c.requires.falls c.requires.cost c.requires.header

pub soonest-least-requires-clause-falls : goal.soonest-least-requires-clause-falls
soonest-least-requires-clause-falls c =
    falls_next c.args.at c.args.next.cost c.args.slots.now c.put_after.new.self c.put_after.ensures.after c.put_after.ensures.here c.requires.falls

-- the cost after 64 codes is at least a header below the one at the next place
least_cost : (c : After-soonest-least) → c.soonest-least.result.cost ≤ 1476395040
least_cost c =
    let next = falls_next c.args.at c.args.next.cost c.args.slots.now c.put_after.new.self c.put_after.ensures.after c.put_after.ensures.here c.requires.falls in
    omega (arith, c.soonest-least.ensures.cost, c.put_after.ensures.here, c.requires.small, falls_to (after_of c.put_after.new.self c.args.at) next 1 64 (omega arith) (omega arith) (omega arith))

pub overflow_add-result-2 : goal.overflow_add-result-2
overflow_add-result-2 c = record { fits = omega (arith, least_cost (goal.at.overflow_add-result-2 c).After-soonest-least, c.header.ensures, c.requires.header) }

pub returns-clause-falls : goal.returns-clause-falls
returns-clause-falls c =
    let cost = c.soonest-least.result.cost + c.header.result in
    let is : cost ≡ header_of c.args.costs.now + after_of c.put_after.new.self c.args.at 64 = omega (arith, c.soonest-least.ensures.cost, c.header.ensures) in
    falls_here (header_of c.args.costs.now) c.args.at c.args.next.cost cost c.args.slots.now c.put_after.new.self c.put_after.ensures.after c.put_after.ensures.here
    c.requires.falls c.requires.cost is
