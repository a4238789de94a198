use Rattle.std.proofs.Common.{sym, arith}
use Rattle.grib_edit.proofs.Filtered.{front_one_more}
use Rattle.grib_edit.proofs.choosing.chosen_front.Goals as goal

pub loop-index-init : goal.loop-index-init
loop-index-init g c = λ field low high. absurd (omega arith)

pub returns-then-not-chooses : goal.returns-then-not-chooses
returns-then-not-chooses g c = record {
  within = omega arith;
  fulfil = c.loop-index.invariant;
  next = λ _. sym c.if-not-chooses.ensures;
}

pub loop-index-preserved : goal.loop-index-preserved
loop-index-preserved g c =
    front_one_more (g.C.Chooser.chosen c.args.chooser.now c.args.message.now) c.args.message.now c.loop-index.index _ (omega arith) c.loop-index.invariant (sym c.if-not-chooses.ensures)

pub returns : goal.returns
returns g c = record {
  within = omega arith;
  fulfil = λ field low high. c.loop-index.invariant field low (omega arith);
  next = λ less. absurd (omega arith);
}
