use Rattle.std.proofs.Common.{◌++◌, ◌∙◌, subst, arith}
use Rattle.std.proofs.lemmas.List.{take_all, take_more}
use Rattle.grib_io.specs.Outside.{CountsStop}
use Rattle.grib_text.specs.Lines.{lines_by}
use Rattle.grib_command.specs.Pending.{AppendsAllBut}
use Rattle.grib_command.proofs.Passing.{on_refused, counts_passed}
use Rattle.grib_report.proofs.Pending.{line_written, line_refused}
use Rattle.grib_placed.specs.Lines.{placed_line}
use Rattle.grib_placed.specs.Texts.{text_in}
use Rattle.grib_placed.proofs.Placed.{has_text_at}
use Rattle.grib_placed.proofs.lines.append_placed.Goals as goal

pub returns-in_err-append_placed_point : goal.returns-in_err-append_placed_point
returns-in_err-append_placed_point g c =
    λ s are.
    let done = c.in_err-append_placed_point.ensures s are in
    record {
      octets = record {
        whole = on_refused c.from_residual.result _ c.from_residual.ensures.0;
        front = line_refused (placed_line s (text_in c.args.form.now)) _ _ _ c.args.lines.now.items c.loop-index.lines.items c.args.points.now c.loop-index.index _
            (take_more c.args.points.now c.loop-index.index _ c.loop-index-test.true) (omega (arith, c.loop-index-test.true)) (c.loop-index.invariant.appended s are) done.octets.front;
      };
      counted = counts_passed c.from_residual.result c.in_err-append_placed_point.field-0.0 (g.T.Sink.faults c.args.output.now) (g.T.Sink.faults c.append_placed_point.new.output) c.from_residual.ensures.1
          (subst (λ n. CountsStop c.in_err-append_placed_point.field-0.0 n (g.T.Sink.faults c.append_placed_point.new.output)) (c.loop-index.invariant.faults_stay s are) done.counted);
      unfinished = λ all. c.loop-index.invariant.unfinished s are (done.unfinished all);
    }

pub loop-index-preserved : goal.loop-index-preserved
loop-index-preserved g c = record {
  appended = λ s are.
      line_written (placed_line s (text_in c.args.form.now)) _ _ _ c.args.lines.now.items c.loop-index.lines.items _ c.args.points.now c.loop-index.index _
      (take_more c.args.points.now c.loop-index.index _ c.loop-index-test.true) (omega (arith, c.loop-index-test.true)) (c.loop-index.invariant.appended s are)
      (c.in_ok-append_placed_point.ensures s are).octets.whole;
  faults_stay = λ s are. (c.in_ok-append_placed_point.ensures s are).counted ∙ c.loop-index.invariant.faults_stay s are;
  unfinished = λ s are all. c.loop-index.invariant.unfinished s are ((c.in_ok-append_placed_point.ensures s are).unfinished all);
}

pub append_placed_point-requires-clause-text : goal.append_placed_point-requires-clause-text
append_placed_point-requires-clause-text g c = has_text_at c.args.form.now c.args.points.now c.loop-index.index _ c.loop-index-test.true c.requires.texts

pub returns : goal.returns
returns g c =
    λ s are.
    let appended = subst (λ points. AppendsAllBut (g.T.Sink.contents c.args.output.now) (g.T.Sink.contents c.loop-index.output) (c.args.lines.now.items ++ lines_by (placed_line s (text_in c.args.form.now)) 1 points) c.loop-index.lines.items)
    (take_all c.loop-index.index c.args.points.now c.loop-index-test.false) (c.loop-index.invariant.appended s are) in
    record {
      octets = record { whole = appended; front = (appended.0, c.loop-index.lines.items, appended.1, appended.2) };
      counted = c.loop-index.invariant.faults_stay s are;
      unfinished = c.loop-index.invariant.unfinished s are;
    }
