use Rattle.std.proofs.Common.{◌≡◌, ℕ, true, ◌+◌, ◌-◌, ◌<◌, length, length-set, length-drop, drop, refl, ap, ◌∙◌, subst, arith}
use Rattle.grib_base.specs.declared.code.Code.{Code}
use Rattle.grib_base.specs.declared.code.Code.TheVariants.{Present}
use Rattle.grib_split.specs.Alike.{HeadsFrom, Known, code_at}
use Rattle.grib_split.specs.Costs.{header_of}
use Rattle.grib_split.specs.Runs.{Holds}
use Rattle.grib_split.proofs.Alike.{alike_more, code_same, holds_same}
use Rattle.grib_split.proofs.Begin.{afters_put}
use Rattle.grib_split.proofs.Bounds.{cost_bound}
use Rattle.grib_split.proofs.Choices.{cost_of_best, head_of_best, heads_more}
use Rattle.grib_split.proofs.Steadily.{best_alike, cost_alike}
use Rattle.grib_split.proofs.choosing.go_on.Goals as goal

pub best_of_one-best-requires-clause-small : goal.best_of_one-best-requires-clause-small
best_of_one-best-requires-clause-small c =
    let q = c.requires in
    omega (
      arith,
      cost_bound c.args.costs.now (drop c.loop-at.at c.args.codes.now) c.loop-at.best.cost q.split.references q.split.widths
          (omega (arith, q.split.most, length-drop c.loop-at.at c.args.codes.now)) c.loop-at.invariant.known.cost,
    )

pub loop-at-preserved : goal.loop-at-preserved
loop-at-preserved c =
    let i = c.loop-at.invariant in
    let costs = c.args.costs.now in
    let codes = c.args.codes.now in
    let header = header_of costs in
    let k = costs.reserved in
    let at = c.loop-at.at - 1 in
    let next : c.loop-at.at ≡ at + 1 = omega (arith, c.loop-at-test.true) in
    let old = c.loop-at.slots in
    let new = c.best_of_one-best.new.slots in
    let b = c.best_of_one-best.ensures in
    let n = c.best_of_one-best.result.length in
    let cost = c.best_of_one-best.result.cost in
    let K : ℕ → Type 0 = λ m. Known header k codes m old (record { best = c.loop-at.best; alike = 64; steady = true }) in
    let H : ℕ → Type 0 = λ m. HeadsFrom costs codes m c.loop-at.choices in
    let known = subst K next i.known in
    let heads = subst H next i.heads in
    let steady = known.steady refl in
    let within : at < length codes = omega (arith, i.place) in
    let alike = alike_more codes at (c.are_same.ensures.same (Present 0) c.if-are_same.true ∙ ap (code_at codes) next) known.alike in
    let afters = afters_put header k codes at c.loop-at.best.cost old new within b.here
    b.after known.cost known.after in
    let best = best_alike header k codes at n new alike b.falls.next b.soonest.some b.soonest.most b.soonest.least b.soonest.first in
    let C : Code → Type 0 = λ code. Holds k new code in
    record {
      size = length-set c.loop-at.choices at n ∙ i.size;
      place = within;
      less = omega (arith, i.less);
      known = record {
        alike = alike;
        after = afters;
        low = b.low;
        base = b.base;
        cost = cost_of_best costs codes at n cost new within afters best (cost_alike header k codes at n cost new alike b.soonest.some b.soonest.most b.soonest.least b.cost);
        some = b.soonest.some;
        most = b.soonest.most;
        runs = λ e. cc;
        steady = λ e. record {
          all = refl;
          holds = subst C (code_same codes at alike) (holds_same k old new (code_at codes (at + 1)) b.numbers b.marks b.widths steady.holds);
          falls = b.falls;
          cost = b.cost;
          soonest = b.soonest;
        };
      };
      heads = heads_more costs codes at n c.loop-at.choices (omega (arith, within, i.size)) (head_of_best costs codes at n new c.loop-at.choices within afters best heads) heads;
    }
