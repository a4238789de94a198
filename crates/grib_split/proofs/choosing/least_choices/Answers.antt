use Rattle.std.proofs.Common.{◌≡◌, ℕ, ◌+◌, ◌-◌, ◌<◌, length, length-set, length-drop, drop, subst, ◌∙◌, arith}
use Rattle.std.specs.Prelude.{slice_set}
use Rattle.grib_split.specs.Alike.{HeadsFrom}
use Rattle.grib_split.specs.Costs.{header_of}
use Rattle.grib_split.proofs.Begin.{Blank, least_none, low_none, runs_none, afters_none}
use Rattle.grib_split.proofs.Choices.{head_of_best, heads_more}
use Rattle.grib_split.proofs.choosing.least_choices.Goals as goal
use Rattle.grib_split.proofs.choosing.least_choices.Goals.{After-here_at-here}

pub loop-at-init : goal.loop-at-init
loop-at-init c =
    let n = c.len-at.result in
    let all = c.len-at.ensures in
    let s = c.none-slots.ensures in
    let header = header_of c.args.costs.now in
    let k = c.args.costs.now.reserved in
    let codes = c.args.codes.now in
    let blank : Blank c.none-slots.result = record {
      least = s.least;
      greatest = s.greatest;
      limit = s.limit;
      width = s.width;
      base = s.base;
      after = s.after;
      primary = s.primary;
      secondary = s.secondary;
    } in
    record {
      size = c.requires.same;
      place = omega (arith, all);
      known = record {
        alike = record { most = omega arith; fits = omega (arith, all); same = λ i within. absurd (omega (arith, within)) };
        after = afters_none header k codes n c.none-slots.result (omega (arith, all)) blank;
        low = low_none c.none-slots.result blank;
        base = omega (arith, s.base);
        cost = least_none header k (drop n codes) (omega (arith, all, length-drop n codes));
        some = omega arith;
        most = omega arith;
        runs = λ e. runs_none k codes n c.none-slots.result (omega (arith, all)) blank;
        steady = λ e. cc;
      };
      heads = λ i from within. absurd (omega (arith, all, from, within));
    }

-- the choices with the one at this place
heads_here : (c : After-here_at-here) → HeadsFrom c.args.costs.now c.args.codes.now (c.loop-at.at - 1) (slice_set c.loop-at.choices (c.loop-at.at - 1) c.here_at-here.result.best.length)
heads_here c =
    let i = c.loop-at.invariant in
    let costs = c.args.costs.now in
    let codes = c.args.codes.now in
    let at = c.loop-at.at - 1 in
    let next : c.loop-at.at ≡ at + 1 = omega (arith, c.loop-at-test.true) in
    let within : at < length codes = omega (arith, i.place, c.loop-at-test.true) in
    let n = c.here_at-here.result.best.length in
    let H : ℕ → Type 0 = λ m. HeadsFrom costs codes m c.loop-at.choices in
    let heads = subst H next i.heads in
    heads_more costs codes at n c.loop-at.choices (omega (arith, within, i.size))
    (head_of_best costs codes at n c.here_at-here.new.slots c.loop-at.choices within c.here_at-here.ensures.known.after c.here_at-here.ensures.best heads) heads

pub go_on-gone-requires-clause-heads : goal.go_on-gone-requires-clause-heads
go_on-gone-requires-clause-heads c = heads_here (goal.at.go_on-gone-requires-clause-heads c).After-here_at-here

pub loop-at-preserved : goal.loop-at-preserved
loop-at-preserved c =
    let i = c.loop-at.invariant in
    record {
      size = length-set c.loop-at.choices (c.loop-at.at - 1) c.here_at-here.result.best.length ∙ i.size;
      place = omega (arith, i.place);
      known = c.here_at-here.ensures.known;
      heads = heads_here (goal.at.loop-at-preserved c).After-here_at-here;
    }
