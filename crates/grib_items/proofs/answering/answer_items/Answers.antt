use Rattle.std.proofs.Common.{◌≡◌, ◌≢◌, [], false, inl, ap, ◌∙◌, subst, Err, IfErr}
use Rattle.std.proofs.KnownBytes.{Appends-nil}
use Rattle.grib_io.specs.Outside.{Counted}
use Rattle.grib_stream.specs.declared.outcome.Outcome.TheVariants.{ShelfFault}
use Rattle.grib_stream.specs.Acts.{world}
use Rattle.grib_stream.specs.Faults.{faults}
use Rattle.grib_stream.specs.Soon.{RefusesSoon}
use Rattle.grib_stream.proofs.ByKind.{cut_broken}
use Rattle.grib_stream.specs.Outcomes.{is_whole}
use Rattle.grib_items.specs.Deeds.{deeds, outside}
use Rattle.grib_items.specs.Laws.{outcome_of}
use Rattle.grib_items.specs.Run.{Runs, CountsOne}
use Rattle.grib_items.specs.Steps.{plan_of}
use Rattle.grib_items.proofs.Effects.{done_still, front_still, octets_none, passed_whole, passed_front}
use Rattle.grib_items.proofs.Finishing.{over_done, over_undone, of_output, output_cut}
use Rattle.grib_items.proofs.Promptly.{soon_broken}
use Rattle.grib_items.proofs.Residuals.{passed_on}
use Rattle.grib_items.proofs.answering.answer_items.Goals as goal

pub returns-clause-runs : goal.returns-clause-runs
returns-clause-runs g c =
    let names = g.H.Shelf.contents c.answer_all.new.shelf in
    let notes = g.N.Sink.contents c.answer_all.new.notes in
    let ending = deeds ((g.K.Performer.task c.args.performer.now).ending c.in_ok-totals.totals.counted).acts [] in
    over_done _ c.in_ok-totals.ensures.reaches
    (done_still (outside (world (g.T.Sink.contents c.answer_all.new.output) names) notes) (outside (world (g.T.Sink.contents c.finish.new.output) names) notes) (outside (world (g.T.Sink.contents c.pass_on.new.sink) names) notes) ending
    record { did = c.in_ok-finish.ensures.done names; noted = Appends-nil _ } (passed_whole _ _ names notes c.in_ok-pass_on.ensures.writes.whole))

pub returns-in_err-finish-clause-runs : goal.returns-in_err-finish-clause-runs
returns-in_err-finish-clause-runs g c =
    let outcome = c.in_err-finish.field-0.0 in
    passed_on
    (λ result. Runs (plan_of (g.K.Performer.task c.args.performer.now) (g.K.Performer.texts c.args.performer.now) c.args.policy) c.args.limit result
    (g.S.Source.left c.args.input.now) (g.S.Source.left c.answer_all.new.input)
    (outside (world (g.T.Sink.contents c.args.output.now) (g.H.Shelf.contents c.args.shelf.now)) (g.N.Sink.contents c.args.notes.now))
    (outside (world (g.T.Sink.contents c.finish.new.output) (g.H.Shelf.contents c.answer_all.new.shelf)) (g.N.Sink.contents c.answer_all.new.notes)))
    c.from_residual-in_err-finish.result outcome c.from_residual-in_err-finish.ensures.1
    (over_undone _ outcome c.in_err-finish.ensures.cut c.in_ok-totals.ensures.reaches
    record { did = c.in_err-finish.ensures.front (g.H.Shelf.contents c.answer_all.new.shelf); noted = octets_none _ _ })

pub returns-in_err-finish-clause-soon : goal.returns-in_err-finish-clause-soon
returns-in_err-finish-clause-soon g c =
    let outcome = c.in_err-finish.field-0.0 in
    λ none.
    passed_on
    (λ result. RefusesSoon (g.K.Performer.hears c.args.performer.now) (g.K.Performer.task c.args.performer.now) (outcome_of result) (g.S.Source.left c.args.input.now) (g.S.Source.left c.answer_all.new.input))
    c.from_residual-in_err-finish.result outcome c.from_residual-in_err-finish.ensures.1
    (soon_broken (g.K.Performer.task c.args.performer.now) (g.K.Performer.hears c.args.performer.now) _ _ outcome (cut_broken outcome c.in_err-finish.ensures.cut))

pub returns-in_err-pass_on-clause-runs : goal.returns-in_err-pass_on-clause-runs
returns-in_err-pass_on-clause-runs g c =
    let outcome = c.in_err-pass_on.field-0.0 in
    let names = g.H.Shelf.contents c.answer_all.new.shelf in
    let notes = g.N.Sink.contents c.answer_all.new.notes in
    let ending = deeds ((g.K.Performer.task c.args.performer.now).ending c.in_ok-totals.totals.counted).acts [] in
    let done = outside (world (g.T.Sink.contents c.answer_all.new.output) names) notes in
    let finished = outside (world (g.T.Sink.contents c.finish.new.output) names) notes in
    let last = outside (world (g.T.Sink.contents c.pass_on.new.sink) names) notes in
    passed_on
    (λ result. Runs (plan_of (g.K.Performer.task c.args.performer.now) (g.K.Performer.texts c.args.performer.now) c.args.policy) c.args.limit result
    (g.S.Source.left c.args.input.now) (g.S.Source.left c.answer_all.new.input)
    (outside (world (g.T.Sink.contents c.args.output.now) (g.H.Shelf.contents c.args.shelf.now)) (g.N.Sink.contents c.args.notes.now)) last)
    c.from_residual-in_err-pass_on.result outcome c.from_residual-in_err-pass_on.ensures.1
    (over_undone last outcome (output_cut outcome c.in_err-pass_on.ensures.writes.one_of) c.in_ok-totals.ensures.reaches
    (front_still done finished last ending record { did = c.in_ok-finish.ensures.done names; noted = Appends-nil _ } (passed_front _ _ names notes c.in_err-pass_on.ensures.writes.front)))

pub returns-in_err-pass_on-clause-soon : goal.returns-in_err-pass_on-clause-soon
returns-in_err-pass_on-clause-soon g c =
    let outcome = c.in_err-pass_on.field-0.0 in
    let of = of_output outcome c.in_err-pass_on.ensures.writes.one_of in
    λ none.
    passed_on
    (λ result. RefusesSoon (g.K.Performer.hears c.args.performer.now) (g.K.Performer.task c.args.performer.now) (outcome_of result) (g.S.Source.left c.args.input.now) (g.S.Source.left c.answer_all.new.input))
    c.from_residual-in_err-pass_on.result outcome c.from_residual-in_err-pass_on.ensures.1
    (soon_broken (g.K.Performer.task c.args.performer.now) (g.K.Performer.hears c.args.performer.now) _ _ outcome of.broken)

pub returns-in_err-pass_on-clause-before_end : goal.returns-in_err-pass_on-clause-before_end
returns-in_err-pass_on-clause-before_end g c =
    let outcome = c.in_err-pass_on.field-0.0 in
    let of = of_output outcome c.in_err-pass_on.ensures.writes.one_of in
    passed_on (λ result. IfErr result (λ o. is_whole o ≡ false)) c.from_residual-in_err-pass_on.result outcome c.from_residual-in_err-pass_on.ensures.1 of.before_end

pub returns-in_err-pass_on-clause-unshelved : goal.returns-in_err-pass_on-clause-unshelved
returns-in_err-pass_on-clause-unshelved g c =
    let outcome = c.in_err-pass_on.field-0.0 in
    let of = of_output outcome c.in_err-pass_on.ensures.writes.one_of in
    λ unused. passed_on (λ result. outcome_of result ≢ ShelfFault) c.from_residual-in_err-pass_on.result outcome c.from_residual-in_err-pass_on.ensures.1 of.not_shelf

pub returns-in_err-pass_on-clause-counts : goal.returns-in_err-pass_on-clause-counts
returns-in_err-pass_on-clause-counts g c =
    let outcome = c.in_err-pass_on.field-0.0 in
    let of = of_output outcome c.in_err-pass_on.ensures.writes.one_of in
    let writes = c.in_err-pass_on.ensures.writes in
    let before = c.in_ok-totals.ensures.counts in
    let unwritten = c.in_ok-finish.ensures.calm ∙ before.output_calm (λ e. cc) in
    passed_on
    (λ result. CountsOne (outcome_of result) (faults (g.S.Source.faults c.args.input.now) (g.T.Sink.faults c.args.output.now) (g.N.Sink.faults c.args.notes.now) (g.H.Shelf.faults c.args.shelf.now))
    (faults (g.S.Source.faults c.answer_all.new.input) (g.T.Sink.faults c.pass_on.new.sink) (g.N.Sink.faults c.answer_all.new.notes) (g.H.Shelf.faults c.answer_all.new.shelf)))
    c.from_residual-in_err-pass_on.result outcome c.from_residual-in_err-pass_on.ensures.1
    record {
      read = λ e. absurd (of.not_read e);
      read_calm = λ other. before.read_calm (λ e. cc);
      write = λ e. inl (subst (λ n. Counted n (g.T.Sink.faults c.pass_on.new.sink)) unwritten (writes.counted (ap Err e)), before.notes_calm (λ e. cc));
      output_calm = λ other. writes.calm (λ e. other cc) ∙ unwritten;
      notes_calm = λ other. before.notes_calm (λ e. cc);
      shelf = λ e. absurd (of.not_shelf e);
      shelf_calm = λ other. before.shelf_calm (λ e. cc);
    }
