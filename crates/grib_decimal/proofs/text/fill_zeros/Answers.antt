use Rattle.std.proofs.Common.{◌≡◌, ◌-◌, ◌++◌, drop, replicate, ap, ◌∙◌, sym, arith}
use Rattle.grib_decimal.proofs.Digits.{one_zero}
use Rattle.grib_decimal.proofs.text.fill_zeros.Goals as goal

pub loop-from-init : goal.loop-from-init
loop-from-init c =
    let none : c.args.start - c.args.start ≡ 0 = omega arith in
    record {
      least = omega arith;
      within = omega arith;
      zeros = ap (λ k. replicate k 48 ++ drop c.args.start c.args.buffer.now) (sym none);
    }

pub loop-from-preserved : goal.loop-from-preserved
loop-from-preserved c =
    let l = c.loop-from in
    record {
      least = omega arith;
      within = omega arith;
      zeros = one_zero l.buffer (drop c.args.start c.args.buffer.now) l.from c.args.start (omega arith) (omega arith) (omega arith) l.invariant.zeros;
    }

pub returns-clause-zeros : goal.returns-clause-zeros
returns-clause-zeros c =
    let count : c.args.start - c.loop-from.from ≡ c.args.start - c.args.to = omega arith in
    c.loop-from.invariant.zeros ∙ ap (λ k. replicate k 48 ++ drop c.args.start c.args.buffer.now) count
