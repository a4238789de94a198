use Rattle.std.proofs.Common.{sym, ap, ◌∙◌, arith}
use Rattle.grib_block_writing.specs.Splits.{split_bits}
use Rattle.grib_block_writing.proofs.Walk.{above, below}
use Rattle.grib_block_writing.proofs.splitting.up_from.Goals as goal

pub returns-then-next-best-clause-above : goal.returns-then-next-best-clause-above
returns-then-next-best-clause-above c j from to =
    above c.args.kept c.args.codes.now c.loop-best.best.k c.loop-best.best.bits c.loop-best.invariant.is (omega arith) j from

pub loop-best-preserved : goal.loop-best-preserved
loop-best-preserved c =
    let next = c.split_of-next.ensures in
    record {
      is = next.bits ∙ ap (split_bits c.args.kept c.args.codes.now) (sym next.k);
      within = omega arith;
      from = omega arith;
      below = λ moved j less. below c.args.kept c.args.codes.now c.loop-best.best.k c.split_of-next.result.bits next.bits
          (omega arith) j (omega arith);
    }
