use Rattle.std.proofs.Common.{◌%◌, ◌+◌, drop, length-drop, ap, sym, subst, arith}
use Rattle.grib_packing.specs.Groupings.{width_of}
use Rattle.grib_split.specs.declared.behind.Behind.{Behind}
use Rattle.grib_split.specs.Costs.{header_of}
use Rattle.grib_split.specs.Runs.{Afters, IsLow}
use Rattle.grib_split.proofs.Bounds.{cost_bound}
use Rattle.grib_split.proofs.Begin.{same_but, waits_begun, afters_begun}
use Rattle.grib_split.proofs.Going.{afters_same, best_same, near_runs}
use Rattle.grib_split.proofs.choosing.best_of_all.Goals as goal
use Rattle.grib_split.proofs.choosing.best_of_all.Goals.{After-begin}

pub begin-requires-clause-most : goal.begin-requires-clause-most
begin-requires-clause-most c =
    let q = c.requires in
    omega (
      arith,
      cost_bound c.args.costs.now (drop (c.args.at + 1) c.args.codes.now) c.args.cost q.split.references q.split.widths
          (omega (arith, q.split.most, length-drop (c.args.at + 1) c.args.codes.now)) q.cost,
    )

pub begin-requires-clause-near : goal.begin-requires-clause-near
begin-requires-clause-near c =
    let q = c.requires in
    near_runs c.args.costs.now c.args.codes.now c.args.at c.args.cost c.args.slots.now q.split q.place q.runs q.after q.cost

pub best_at-requires-clause-runs : goal.best_at-requires-clause-runs
best_at-requires-clause-runs c =
    let q = c.requires in
    let costs = c.args.costs.now in
    let codes = c.args.codes.now in
    let at = c.args.at in
    let b = c.begin.ensures in
    let old = c.args.slots.now in
    let new = c.begin.new.self in
    let same = same_but old new ((at + 1) % 64) _ _ _ _ _ _ b.least b.greatest b.primary b.secondary b.width b.limit in
    waits_begun costs.reserved codes at c.args.cost old new b.here same q.runs

-- what comes after the runs that wait for the code
afters_here : (c : After-begin) → Afters (header_of c.args.costs.now) c.args.costs.now.reserved c.args.codes.now c.args.at c.begin.new.self
afters_here c =
    let q = c.requires in
    let header = header_of c.args.costs.now in
    let k = c.args.costs.now.reserved in
    let codes = c.args.codes.now in
    let at = c.args.at in
    let b = c.begin.ensures in
    let old = c.args.slots.now in
    let new = c.begin.new.self in
    afters_begun header k codes at c.args.cost old new q.place b.here b.after q.cost q.after

pub best_at-requires-clause-after : goal.best_at-requires-clause-after
best_at-requires-clause-after c = afters_here (goal.at.best_at-requires-clause-after c).After-begin

pub returns-clause-after : goal.returns-clause-after
returns-clause-after c =
    afters_same (header_of c.args.costs.now) c.args.costs.now.reserved c.args.codes.now c.args.at c.begin.new.self c.best_at.new.slots c.best_at.ensures.after
    (afters_here (goal.at.returns-clause-after c).After-begin)

pub returns-clause-best : goal.returns-clause-best
returns-clause-best c =
    let best = c.best_at.ensures in
    best_same (header_of c.args.costs.now) (width_of c.args.costs.now.reserved) (drop c.args.at c.args.codes.now) c.args.at c.best_at.result.length c.best_at.new.slots c.begin.new.self
    (sym best.after) best.best

pub returns-clause-base : goal.returns-clause-base
returns-clause-base c =
    let b = c.best_at.ensures in
    omega (arith, b.cost, ap (λ (x : Behind). x.base) b.after)

pub returns-clause-low : goal.returns-clause-low
returns-clause-low c =
    let P : Behind → Type 0 = IsLow in
    subst P (sym c.best_at.ensures.after) c.begin.ensures.low
