use Rattle.std.proofs.Common.{◌∙◌, arith, rules}
use Rattle.std.proofs.lemmas.List.{take_more}
use Rattle.grib_text.specs.Lines.{point_line}
use Rattle.grib_report.proofs.Pending.{line_written, line_refused}
use Rattle.grib_report.proofs.points.append_points.Goals as goal

pub returns-in_err-append_point : goal.returns-in_err-append_point
returns-in_err-append_point g c = record {
  octets = record {
    whole = search rules;
    front = line_refused point_line _ _ _ c.args.lines.now.items c.loop-index.lines.items c.args.points.now c.loop-index.index _
        (take_more c.args.points.now c.loop-index.index _ c.loop-index-test.true) (omega (arith, c.loop-index-test.true)) c.loop-index.invariant.appended
        c.append_point.ensures.octets.front;
  };
  counted = search rules;
  unfinished = search rules;
}

pub loop-index-preserved : goal.loop-index-preserved
loop-index-preserved g c = record {
  appended = line_written point_line _ _ _ c.args.lines.now.items c.loop-index.lines.items _ c.args.points.now c.loop-index.index _
      (take_more c.args.points.now c.loop-index.index _ c.loop-index-test.true) (omega (arith, c.loop-index-test.true)) c.loop-index.invariant.appended
      c.in_ok-append_point.ensures.octets.whole;
  faults_stay = c.in_ok-append_point.ensures.counted ∙ c.loop-index.invariant.faults_stay;
  unfinished = λ all. c.loop-index.invariant.unfinished (c.in_ok-append_point.ensures.unfinished all);
}
