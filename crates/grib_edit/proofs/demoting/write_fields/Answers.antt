use Rattle.std.proofs.Common.{◌≡◌, ◌∙◌, ◌+◌, length, ap, refl, subst, arith}
use Rattle.std.specs.Io.KnownBytes.{Appends}
use Rattle.std.proofs.KnownBytes.{Appends-nil}
use Rattle.grib_io.specs.Outside.{AppendsFront, CountsStop}
use Rattle.grib_command.proofs.Passing.{on_refused, counts_passed}
use Rattle.grib2_message.specs.Fields.{field_count}
use Rattle.grib_demote.specs.Demoted.{demoted}
use Rattle.grib_command.specs.Command.{texts_from}
use Rattle.grib_edit.proofs.Filtered.{text_written, text_refused, text_counted, texts_whole}
use Rattle.grib_edit.proofs.demoting.write_fields.Goals as goal

pub returns-in_err-written-clause-writes : goal.returns-in_err-written-clause-writes
returns-in_err-written-clause-writes g c =
    let text = demoted c.args.demoting.now.table.now c.args.demoting.now.matching c.args.demoting.now.keep_local c.args.message.now in
    let same = c.loop-index.invariant.faults_stay in
    record {
      octets = record {
        whole = on_refused _ _ c.from_residual.ensures.0;
        front = text_refused _ _ _ text c.loop-index.index _ _ (omega arith) (omega (arith, c.fields-count.ensures.count, c.loop-index-test.true)) c.loop-index.invariant.appended
            c.write_field.ensures.writes.octets.front;
      };
      counted =
          counts_passed c.from_residual.result c.in_err-written.field-0.0 (g.T.Sink.faults c.args.output.now) (g.T.Sink.faults c.write_field.new.output) c.from_residual.ensures.1
          (subst (λ n. CountsStop c.in_err-written.field-0.0 n (g.T.Sink.faults c.write_field.new.output)) same c.in_err-written.ensures.writes.counted);
      unfinished = λ all. c.loop-index.invariant.unfinished (c.write_field.ensures.writes.unfinished all);
    }

pub loop-index-init : goal.loop-index-init
loop-index-init g c =
    record {
      appended = Appends-nil (g.T.Sink.contents c.args.output.now);
      faults_stay = refl;
      unfinished = λ all. all;
      count = refl;
      few = omega arith;
    }

pub loop-index-preserved : goal.loop-index-preserved
loop-index-preserved g c =
    let text = demoted c.args.demoting.now.table.now c.args.demoting.now.matching c.args.demoting.now.keep_local c.args.message.now in
    record {
      appended = text_written _ _ _ text c.loop-index.index _ (omega arith) c.loop-index.invariant.appended c.in_ok-written.ensures.writes.octets.whole;
      faults_stay = c.in_ok-written.ensures.writes.counted ∙ c.loop-index.invariant.faults_stay;
      unfinished = λ all. c.loop-index.invariant.unfinished (c.in_ok-written.ensures.writes.unfinished all);
      count = text_counted text c.loop-index.index _ c.loop-index.written _ (omega arith) c.loop-index.invariant.count c.in_ok-written.ensures.count;
      few = omega (arith, c.loop-index.invariant.few, c.in_ok-written.ensures.few);
    }

pub returns-in_err-write_counted-clause-writes : goal.returns-in_err-write_counted-clause-writes
returns-in_err-write_counted-clause-writes g c =
    let text = demoted c.args.demoting.now.table.now c.args.demoting.now.matching c.args.demoting.now.keep_local c.args.message.now in
    let same = c.loop-index.invariant.faults_stay in
    let index : c.loop-index.index + 1 ≡ c.fields-count.result = omega (arith, c.fields-count.ensures.some, c.loop-index-test.false) in
    let last : c.args.last.now ≡ text (field_count c.args.message.now) = c.requires in
    record {
      octets = record {
        whole = on_refused _ _ c.from_residual-in_err-write_counted.ensures.0;
        front = text_refused _ _ _ text c.loop-index.index (field_count c.args.message.now) _ (omega (arith, index, c.fields-count.ensures.count)) (omega (arith, index, c.fields-count.ensures.count))
            c.loop-index.invariant.appended
            (subst (AppendsFront (g.T.Sink.contents c.loop-index.output) (g.T.Sink.contents c.write_counted.new.sink)) last c.write_counted.ensures.writes.octets.front);
      };
      counted =
          counts_passed c.from_residual-in_err-write_counted.result c.in_err-write_counted.field-0.0 (g.T.Sink.faults c.args.output.now) (g.T.Sink.faults c.write_counted.new.sink)
          c.from_residual-in_err-write_counted.ensures.1
          (subst (λ n. CountsStop c.in_err-write_counted.field-0.0 n (g.T.Sink.faults c.write_counted.new.sink)) same c.in_err-write_counted.ensures.writes.counted);
      unfinished = λ all. c.loop-index.invariant.unfinished (c.write_counted.ensures.writes.unfinished all);
    }

pub returns-clause-writes : goal.returns-clause-writes
returns-clause-writes g c =
    let text = demoted c.args.demoting.now.table.now c.args.demoting.now.matching c.args.demoting.now.keep_local c.args.message.now in
    let index : c.loop-index.index + 1 ≡ c.fields-count.result = omega (arith, c.fields-count.ensures.some, c.loop-index-test.false) in
    let last : c.args.last.now ≡ text (field_count c.args.message.now) = c.requires in
    record {
      octets =
          texts_whole _ _ text (c.loop-index.index + 1) _ (c.loop-index.written + c.in_ok-write_counted.field-0) (omega (arith, index, c.fields-count.ensures.count))
          (text_written _ _ _ text c.loop-index.index (field_count c.args.message.now) (omega (arith, index, c.fields-count.ensures.count)) c.loop-index.invariant.appended
          (subst (Appends (g.T.Sink.contents c.loop-index.output) (g.T.Sink.contents c.write_counted.new.sink)) last c.in_ok-write_counted.ensures.writes.octets.whole));
      counted = c.in_ok-write_counted.ensures.writes.counted ∙ c.loop-index.invariant.faults_stay;
      unfinished = λ all. c.loop-index.invariant.unfinished (c.in_ok-write_counted.ensures.writes.unfinished all);
    }

pub returns-clause-count : goal.returns-clause-count
returns-clause-count g c =
    let text = demoted c.args.demoting.now.table.now c.args.demoting.now.matching c.args.demoting.now.keep_local c.args.message.now in
    let index : c.loop-index.index + 1 ≡ c.fields-count.result = omega (arith, c.fields-count.ensures.some, c.loop-index-test.false) in
    let same : c.in_ok-write_counted.field-0 ≡ length (text (field_count c.args.message.now)) = c.in_ok-write_counted.ensures.count ∙ ap length c.requires in
    let counted = text_counted text c.loop-index.index (field_count c.args.message.now) c.loop-index.written _ (omega (arith, index, c.fields-count.ensures.count)) c.loop-index.invariant.count same in
    let all : c.loop-index.index + 1 ≡ field_count c.args.message.now = omega (arith, index, c.fields-count.ensures.count) in
    counted ∙ ap (λ n. length (texts_from text n 1)) all
