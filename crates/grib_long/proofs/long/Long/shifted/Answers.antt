use Rattle.std.proofs.Common.{ap, ◌∙◌, arith, rules}
use Rattle.grib_long.specs.Digits.{big, value}
use Rattle.grib_long.proofs.Digits.{big_push, times_more}
use Rattle.grib_long.proofs.long.Long.shifted.Goals as goal

pub loop-preserved : goal.loop-preserved
loop-preserved c =
    let pushed = ap big c.in_ok-push.ensures.items ∙ big_push c.loop.digits.items 0 in
    record {
      is = omega (arith, pushed, c.loop.invariant.is, times_more (value c.args.self) c.loop.counter);
      long = search rules;
    }
