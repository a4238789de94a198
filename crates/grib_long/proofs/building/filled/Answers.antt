use Rattle.std.proofs.Common.{◌+◌, ap, ◌∙◌, arith, rules}
use Rattle.grib_long.specs.Digits.{big}
use Rattle.grib_long.proofs.Digits.{big_push, times_more}
use Rattle.grib_long.proofs.building.filled.Goals as goal

pub loop-preserved : goal.loop-preserved
loop-preserved c =
    let pushed = ap big c.in_ok-push.ensures.items ∙ big_push c.loop.number.digits.items c.args.fill in
    record {
      zeros = λ e. omega (arith, pushed, c.loop.invariant.zeros e, times_more c.args.top c.loop.counter, e);
      last = λ e. omega (arith, pushed, c.loop.invariant.last e, times_more (c.args.top + 1) c.loop.counter, e);
      long = search rules;
    }
