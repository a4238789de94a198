use Rattle.std.proofs.Common.{inl, inr, arith}
use Rattle.std.proofs.lemmas.Bool.Decides.{nat_tests}
use Rattle.grib_long.proofs.Floors.{begun_more}
use Rattle.grib_long.proofs.leading.Leading.with.Goals as goal
use Rattle.grib_long.proofs.leading.Leading.with.Goals.{then-self, else-self}

pub returns-clause-begun : goal.returns-clause-begun
returns-clause-begun c number is =
    begun_more number c.args.digit c.args.self c.if-self.result c.ranges.digit.fits c.if-self-lt-ENOUGH.false
    (λ e. elim c.if-self.branch [
      | then-self w ↦ absurd (let r = w.result-is in grind (arith, nat_tests))
      | else-self w ↦ (w.if-self.false, let r = w.result-is in grind (arith, nat_tests))
    ])
    (λ e. elim c.if-self.branch [
      | then-self w ↦ inl w.if-self.true
      | else-self w ↦ inr (let r = w.result-is in grind (arith, nat_tests))
    ])
    is
