use Rattle.std.proofs.Common.{◌≡◌, ℕ, ◌++◌, ◌∙◌, ap, subst, arith, rules}
use Rattle.grib_io.specs.Outside.{CountsStop}
use Rattle.grib_nearest.specs.declared.format.Format.TheVariants.{Binary64}
use Rattle.grib_arrays.specs.Values.{word_octets}
use Rattle.grib_io.specs.Outside.{AppendsFront}
use Rattle.grib_command.specs.Pending.{AppendsAllBut}
use Rattle.grib_command.proofs.Passing.{on_refused, counts_passed}
use Rattle.grib_values.specs.Coordinates.{coordinate_octets, coordinates_from}
use Rattle.grib_values.proofs.Ranges.{number_written, number_refused}
use Rattle.grib_values.proofs.coordinates.append_words.Goals as goal

pub returns-in_err-append_word : goal.returns-in_err-append_word
returns-in_err-append_word g c =
    λ coordinate s are.
    let done = c.in_err-append_word.ensures in
    let word = ap (λ (w : ℕ). c.loop-point.octets.items ++ word_octets Binary64 w) (c.word.ensures coordinate s are) in
    record {
      octets = record {
        whole = on_refused c.from_residual.result _ c.from_residual.ensures.0;
        front = number_refused (coordinate_octets coordinate s) _ _ _ c.args.octets.now.items c.loop-point.octets.items c.loop-point.point c.args.points
            c.loop-point-test.true (c.loop-point.invariant.appended coordinate s are)
            (subst (AppendsFront (g.T.Sink.contents c.loop-point.output) (g.T.Sink.contents c.append_word.new.output)) word done.octets.front);
      };
      counted = counts_passed c.from_residual.result c.in_err-append_word.field-0.0 (g.T.Sink.faults c.args.output.now) (g.T.Sink.faults c.append_word.new.output) c.from_residual.ensures.1
          (subst (λ n. CountsStop c.in_err-append_word.field-0.0 n (g.T.Sink.faults c.append_word.new.output)) c.loop-point.invariant.faults_stay done.counted);
      unfinished = λ all. c.loop-point.invariant.unfinished (done.unfinished all);
    }

pub loop-point-preserved : goal.loop-point-preserved
loop-point-preserved g c = record {
  appended = λ coordinate s are.
      let word = ap (λ (w : ℕ). c.loop-point.octets.items ++ word_octets Binary64 w) (c.word.ensures coordinate s are) in
      number_written (coordinate_octets coordinate s) _ _ _ c.args.octets.now.items c.loop-point.octets.items c.append_word.new.octets.items c.loop-point.point
      (c.loop-point.invariant.appended coordinate s are)
      (subst (λ octets. AppendsAllBut (g.T.Sink.contents c.loop-point.output) (g.T.Sink.contents c.append_word.new.output) octets c.append_word.new.octets.items) word
      c.in_ok-append_word.ensures.octets.whole);
  faults_stay = c.in_ok-append_word.ensures.counted ∙ c.loop-point.invariant.faults_stay;
  unfinished = λ all. c.loop-point.invariant.unfinished (c.in_ok-append_word.ensures.unfinished all);
}

pub returns : goal.returns
returns g c =
    λ coordinate s are.
    let last : c.loop-point.point ≡ c.args.points = omega arith in
    let appended = subst (λ (n : ℕ). AppendsAllBut (g.T.Sink.contents c.args.output.now) (g.T.Sink.contents c.loop-point.output) (c.args.octets.now.items ++ coordinates_from coordinate s n) c.loop-point.octets.items)
    last (c.loop-point.invariant.appended coordinate s are) in
    record {
      octets = record { whole = appended; front = (appended.0, c.loop-point.octets.items, appended.1, appended.2) };
      counted = c.loop-point.invariant.faults_stay;
      unfinished = c.loop-point.invariant.unfinished;
    }
