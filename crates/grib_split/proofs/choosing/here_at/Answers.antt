use Rattle.std.proofs.Common.{◌≡◌, ℕ, true, false, Bool, List, nat_eq, rules, ◌+◌, drop, length-drop, arith, refl, sym, subst}
use Rattle.grib_base.specs.declared.code.Code.{Code}
use Rattle.grib_split.specs.declared.choosing.Here.{Here}
use Rattle.grib_split.specs.declared.slots.Slots.{Slots}
use Rattle.grib_split.specs.Alike.{Alike, Steady, Known}
use Rattle.grib_split.specs.Costs.{header_of}
use Rattle.grib_split.specs.Runs.{Runs}
use Rattle.grib_split.proofs.Alike.{holds_of_runs, runs_of_holds}
use Rattle.grib_split.proofs.Bounds.{cost_bound}
use Rattle.grib_split.proofs.Choices.{cost_of_best}
use Rattle.grib_split.proofs.Steadily.{cost_steady, soonest_best}
use Rattle.grib_split.proofs.choosing.here_at.Goals as goal
use Rattle.grib_split.proofs.choosing.here_at.Goals.{After-best_of_all-best}

-- the runs from a place on
runs_known : (header k : ℕ) (codes : List Code) (at : ℕ) (slots : Slots) (here : Here) (steady : Bool) → steady ≡ here.steady → Known header k codes at slots here
    → Runs k codes at slots
runs_known header k codes at slots here true is known =
    let steady = known.steady (sym is) in
    let P : ℕ → Type 0 = λ n. Alike codes at n in
    runs_of_holds k codes at slots (subst P steady.all known.alike) steady.holds
runs_known header k codes at slots here false is known = known.runs (sym is)

pub best_of_all-best-requires-clause-runs : goal.best_of_all-best-requires-clause-runs
best_of_all-best-requires-clause-runs c =
    runs_known (header_of c.args.costs.now) c.args.costs.now.reserved c.args.codes.now (c.args.at + 1) c.args.slots.now c.args.next c.args.next.steady refl c.requires.known

-- what is known beside the flag
known_after : (c : After-best_of_all-best) (steady : Bool)
    → (steady ≡ true → Steady (header_of c.args.costs.now) c.args.costs.now.reserved c.args.codes.now c.args.at c.best_of_all-best.new.slots
    (record { best = c.best_of_all-best.result; alike = c.alike_from-alike.result; steady = steady }))
    → Known (header_of c.args.costs.now) c.args.costs.now.reserved c.args.codes.now c.args.at c.best_of_all-best.new.slots
    (record { best = c.best_of_all-best.result; alike = c.alike_from-alike.result; steady = steady })
known_after c steady how =
    let b = c.best_of_all-best.ensures in
    record {
      alike = c.alike_from-alike.ensures;
      after = b.after;
      low = b.low;
      base = b.base;
      cost = cost_of_best c.args.costs.now c.args.codes.now c.args.at c.best_of_all-best.result.length c.best_of_all-best.result.cost c.best_of_all-best.new.slots c.requires.place b.after b.best b.cost;
      some = b.best.some;
      most = b.best.most;
      runs = λ e. b.runs;
      steady = how;
    }

pub falls-steady-requires-clause-base : goal.falls-steady-requires-clause-base
falls-steady-requires-clause-base c =
    let q = c.requires in
    let b = c.best_of_all-best.ensures in
    let known = known_after (goal.at.falls-steady-requires-clause-base c).After-best_of_all-best false (λ is. absurd (search rules)) in
    omega (
      arith,
      b.base,
      cost_bound c.args.costs.now (drop c.args.at c.args.codes.now) c.best_of_all-best.result.cost q.split.references q.split.widths
          (omega (arith, q.split.most, length-drop c.args.at c.args.codes.now)) known.cost,
    )

pub returns-then-alike-eq64-clause-known : goal.returns-then-alike-eq64-clause-known
returns-then-alike-eq64-clause-known c =
    let b = c.best_of_all-best.ensures in
    let k = c.args.costs.now.reserved in
    let codes = c.args.codes.now in
    let at = c.args.at in
    let slots = c.best_of_all-best.new.slots in
    let P : ℕ → Type 0 = λ n. Alike codes at n in
    let alike : Alike codes at 64 = subst P c.if-alike-eq64.true c.alike_from-alike.ensures in
    known_after (goal.at.returns-then-alike-eq64-clause-known c).After-best_of_all-best c.falls-steady.result
    (λ is. record {
      all = c.if-alike-eq64.true;
      holds = holds_of_runs k codes at slots alike b.runs;
      falls = c.falls-steady.ensures is;
      cost = cost_steady (header_of c.args.costs.now) k codes at c.best_of_all-best.result.length c.best_of_all-best.result.cost c.best_of_all-best.result.cost slots alike
          (c.falls-steady.ensures is) b.best b.cost;
      soonest = soonest_best (header_of c.args.costs.now) k codes at c.best_of_all-best.result.length c.best_of_all-best.result.cost slots alike (c.falls-steady.ensures is) b.best;
    })

pub returns-else-alike-eq64-clause-known : goal.returns-else-alike-eq64-clause-known
returns-else-alike-eq64-clause-known c =
    known_after (goal.at.returns-else-alike-eq64-clause-known c).After-best_of_all-best (nat_eq c.alike_from-alike.result 64) (λ is. absurd (search rules))
