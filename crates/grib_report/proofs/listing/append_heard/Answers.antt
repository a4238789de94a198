use Rattle.std.proofs.Common.{◌≡◌, ◌≤◌, ◌+◌, ◌∙◌, ◌++◌, ap, subst, sym, [], refl, arith, append-nil}
use Rattle.std.proofs.KnownBytes.{Appends-nil}
use Rattle.grib_io.specs.Outside.{CountsStop}
use Rattle.grib_text.specs.Lines.{list_line}
use Rattle.grib2_message.specs.Fields.{field_count}
use Rattle.grib_command.specs.Command.{texts_from}
use Rattle.grib_command.specs.Pending.{AppendsAllBut}
use Rattle.grib_report.proofs.Pending.{field_written, field_refused}
use Rattle.grib_command.proofs.Passing.{on_refused, counts_passed}
use Rattle.grib_report.proofs.listing.append_heard.Goals as goal

pub loop-index-init : goal.loop-index-init
loop-index-init g c = record {
  appended = λ profile octets heard whole. ([], append-nil c.args.lines.now.items, Appends-nil (g.T.Sink.contents c.args.output.now));
  faults_stay = refl;
  unfinished = λ all. all;
}

pub returns-in_err-append_field : goal.returns-in_err-append_field
returns-in_err-append_field g c =
    λ profile octets heard whole.
    let few : c.loop-index.index + 1 ≤ field_count octets = omega (arith, c.loop-index-test.true, c.fields-count.ensures profile octets heard whole) in
    let done = c.in_err-append_field.ensures profile octets heard whole few in
    record {
      octets = record {
        whole = on_refused c.from_residual.result _ c.from_residual.ensures.0;
        front = field_refused _ _ _ c.args.lines.now.items c.loop-index.lines.items (list_line octets c.args.number) c.loop-index.index (c.loop-index.index + 1) (field_count octets) (omega arith) (omega (arith, few))
            (c.loop-index.invariant.appended profile octets heard whole) done.octets.front;
      };
      counted = counts_passed c.from_residual.result c.in_err-append_field.field-0.0 (g.T.Sink.faults c.args.output.now) (g.T.Sink.faults c.append_field.new.output) c.from_residual.ensures.1
          (subst (λ n. CountsStop c.in_err-append_field.field-0.0 n (g.T.Sink.faults c.append_field.new.output)) c.loop-index.invariant.faults_stay done.counted);
      unfinished = λ all. c.loop-index.invariant.unfinished (done.unfinished all);
    }

pub loop-index-preserved : goal.loop-index-preserved
loop-index-preserved g c =
    let first = c.requires.whole.1 in
    let few_first : c.loop-index.index + 1 ≤ field_count first = omega (arith, c.loop-index-test.true, c.fields-count.ensures c.requires.whole.0 first c.requires.whole.2 c.requires.whole.3) in
    record {
      appended = λ profile octets heard whole.
          let few : c.loop-index.index + 1 ≤ field_count octets = omega (arith, c.loop-index-test.true, c.fields-count.ensures profile octets heard whole) in
          field_written _ _ _ c.args.lines.now.items c.loop-index.lines.items _ (list_line octets c.args.number) c.loop-index.index (c.loop-index.index + 1) (omega arith)
          (c.loop-index.invariant.appended profile octets heard whole) (c.in_ok-append_field.ensures profile octets heard whole few).octets.whole;
      faults_stay = (c.in_ok-append_field.ensures c.requires.whole.0 first c.requires.whole.2 c.requires.whole.3 few_first).counted ∙ c.loop-index.invariant.faults_stay;
      unfinished = λ all. c.loop-index.invariant.unfinished ((c.in_ok-append_field.ensures c.requires.whole.0 first c.requires.whole.2 c.requires.whole.3 few_first).unfinished all);
    }

pub returns : goal.returns
returns g c =
    λ profile octets heard whole.
    let all : c.loop-index.index ≡ field_count octets = omega (arith, c.loop-index-test.false, c.loop-index.auto.index-end, c.fields-count.ensures profile octets heard whole) in
    let appended = subst (λ n. AppendsAllBut (g.T.Sink.contents c.args.output.now) (g.T.Sink.contents c.loop-index.output) (c.args.lines.now.items ++ texts_from (list_line octets c.args.number) n 1) c.loop-index.lines.items) all (c.loop-index.invariant.appended profile octets heard whole) in
    record {
      octets = record { whole = appended; front = (appended.0, c.loop-index.lines.items, appended.1, appended.2) };
      counted = c.loop-index.invariant.faults_stay;
      unfinished = c.loop-index.invariant.unfinished;
    }
