use Rattle.std.proofs.Common.{sym, subst, arith}
use Rattle.grib_long.specs.Begun.{IsBegun}
use Rattle.grib_long.proofs.Digits.{big_more}
use Rattle.grib_long.proofs.long.Long.leading.Goals as goal

pub loop-digit-preserved : goal.loop-digit-preserved
loop-digit-preserved c = record {
  begun = subst (λ n. IsBegun n c.with-leading.result) (sym (big_more c.as_slice-digit-items.result.now c.loop-digit.digit-index _ c.loop-digit-test.true))
      (c.with-leading.ensures.begun _ c.loop-digit.invariant.begun);
  exponent = omega (arith, c.with-leading.ensures.exponent, c.loop-digit.invariant.exponent);
}
