use Rattle.std.proofs.Common.{◌∙◌, arith, rules}
use Rattle.grib_edit.specs.Choosing.{single_chosen}
use Rattle.grib_edit.proofs.Filtered.{text_written, text_refused, text_counted, texts_whole}
use Rattle.grib_edit.proofs.choosing.write_each_chosen.Goals as goal

pub returns-in_err-written-clause-writes : goal.returns-in_err-written-clause-writes
returns-in_err-written-clause-writes g c = record {
  octets = record {
    whole = search rules;
    front = text_refused _ _ _ (single_chosen (g.C.Chooser.chosen c.args.chooser.now c.args.message.now) c.args.message.now) c.loop-index.index _ _ (omega arith) (omega arith)
        c.loop-index.invariant.appended c.write_if_chosen.ensures.writes.octets.front;
  };
  counted = search rules;
  unfinished = search rules;
}

pub loop-index-preserved : goal.loop-index-preserved
loop-index-preserved g c =
    let text = single_chosen (g.C.Chooser.chosen c.args.chooser.now c.args.message.now) c.args.message.now in
    record {
      appended = text_written _ _ _ text c.loop-index.index _ (omega arith) c.loop-index.invariant.appended c.in_ok-written.ensures.writes.octets.whole;
      faults_stay = c.in_ok-written.ensures.writes.counted ∙ c.loop-index.invariant.faults_stay;
      unfinished = λ all. c.loop-index.invariant.unfinished (c.in_ok-written.ensures.writes.unfinished all);
      count = text_counted text c.loop-index.index _ c.loop-index.written _ (omega arith) c.loop-index.invariant.count c.in_ok-written.ensures.count;
      few = omega (arith, c.loop-index.invariant.few, c.in_ok-written.ensures.few);
    }

pub returns-clause-writes : goal.returns-clause-writes
returns-clause-writes g c = record {
  octets =
      texts_whole _ _ (single_chosen (g.C.Chooser.chosen c.args.chooser.now c.args.message.now) c.args.message.now) c.loop-index.index _ c.loop-index.written (omega arith) c.loop-index.invariant.appended;
  counted = search rules;
  unfinished = search rules;
}
