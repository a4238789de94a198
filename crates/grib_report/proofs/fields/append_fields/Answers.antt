use Rattle.std.proofs.Common.{◌∙◌, arith, rules}
use Rattle.grib_report.proofs.Pending.{field_written, field_refused}
use Rattle.grib_report.proofs.fields.append_fields.Goals as goal

pub returns-in_err-append : goal.returns-in_err-append
returns-in_err-append g c = record {
  octets = record {
    whole = search rules;
    front = field_refused _ _ _ c.args.lines.now.items c.loop-index.lines.items (g.F.FieldTexts.text c.args.texts.now) c.loop-index.index _ _ (omega arith) (omega arith)
        c.loop-index.invariant.appended c.append.ensures.octets.front;
  };
  counted = search rules;
  unfinished = search rules;
}

pub loop-index-preserved : goal.loop-index-preserved
loop-index-preserved g c = record {
  appended = field_written _ _ _ c.args.lines.now.items c.loop-index.lines.items _ (g.F.FieldTexts.text c.args.texts.now) c.loop-index.index _ (omega arith)
      c.loop-index.invariant.appended c.in_ok-append.ensures.octets.whole;
  faults_stay = c.in_ok-append.ensures.counted ∙ c.loop-index.invariant.faults_stay;
  unfinished = λ all. c.loop-index.invariant.unfinished (c.in_ok-append.ensures.unfinished all);
}
