use Rattle.std.proofs.Common.{◌≡◌, ◌∙◌, sym, ap, subst, refl, arith, [], ◌∷◌, take, length}
use Rattle.std.specs.Io.KnownBytes.{Appends}
use Rattle.grib_io.specs.Outside.{AppendsFront}
use Rattle.grib_stream.specs.declared.outcome.Outcome.TheVariants as outcomes
use Rattle.grib_stream.specs.Acts.{world, writes}
use Rattle.grib_stream.specs.Task as tasks
use Rattle.grib_stream.specs.Task.{next_of}
use Rattle.grib_items.specs.Deeds.{deeds, outside}
use Rattle.grib_items.specs.Answer.{instead_of, one_kept, counts_of, totals_by, place_by}
use Rattle.grib_items.specs.Steps.{plan_of, Goes}
use Rattle.grib_items.specs.Turning.{Turns}
use Rattle.grib_items.proofs.Decided.{step_keeps, nothing_broke, line_broke, copy_broke, done_copy, small_gone}
use Rattle.grib_items.proofs.Residuals.{passed_on}
use Rattle.grib_items.proofs.deciding.keep.Goals as goal

pub returns-in-Err-clause-turns : goal.returns-in-Err-clause-turns
returns-in-Err-clause-turns g c = λ names. (c.requires.begun, nothing_broke _ _ outcomes.Memory refl)

pub returns-in_err-note_kept-clause-turns : goal.returns-in_err-note_kept-clause-turns
returns-in_err-note_kept-clause-turns g c =
    let task = g.K.Performer.task c.args.performer.now in
    let texts = g.K.Performer.texts c.args.performer.now in
    let plan = plan_of task texts c.args.policy in
    let place = place_by (counts_of c.args.totals.now) c.args.here.now.before in
    let is : next_of task place c.args.octets.now ≡ tasks.Stops (outcomes.Kept c.args.past.kept) = subst (λ p. next_of task p c.args.octets.now ≡ tasks.Stops (outcomes.Kept c.args.past.kept)) c.requires.here c.requires.kept in
    let s = step_keeps plan c.args.more c.args.totals.now c.args.here.now.before c.args.octets.now c.args.past.kept c.args.past.instead c.in-Ok.message.octets c.in-Ok.message.fields is c.requires.instead c.in-Ok.ensures.octets c.in-Ok.ensures.fields in
    let outcome = c.in_err-note_kept.field-0.0 in
    let front = subst (λ p. AppendsFront (g.N.Sink.contents c.args.notes.now) (g.N.Sink.contents c.note_kept.new.notes) (texts.kept p c.args.past.kept)) c.requires.here c.in_err-note_kept.ensures.writes.front in
    λ names.
    let seen = world (g.T.Sink.contents c.args.output.now) names in
    passed_on
    (λ result. Turns plan c.args.more c.args.totals.now c.args.here.now.before c.args.octets.now result (outside seen (g.N.Sink.contents c.args.notes.now)) (outside seen (g.N.Sink.contents c.note_kept.new.notes)))
    c.from_residual.result outcome c.from_residual.ensures.1
    (c.requires.begun, line_broke seen (g.N.Sink.contents c.args.notes.now) (g.N.Sink.contents c.note_kept.new.notes) _ _ _ (texts.kept place c.args.past.kept) _ outcome s front c.in_err-note_kept.ensures.writes.one_of)

pub returns-in_err-written-clause-turns : goal.returns-in_err-written-clause-turns
returns-in_err-written-clause-turns g c =
    let task = g.K.Performer.task c.args.performer.now in
    let texts = g.K.Performer.texts c.args.performer.now in
    let plan = plan_of task texts c.args.policy in
    let place = place_by (counts_of c.args.totals.now) c.args.here.now.before in
    let is : next_of task place c.args.octets.now ≡ tasks.Stops (outcomes.Kept c.args.past.kept) = subst (λ p. next_of task p c.args.octets.now ≡ tasks.Stops (outcomes.Kept c.args.past.kept)) c.requires.here c.requires.kept in
    let s = step_keeps plan c.args.more c.args.totals.now c.args.here.now.before c.args.octets.now c.args.past.kept c.args.past.instead c.in-Ok.message.octets c.in-Ok.message.fields is c.requires.instead c.in-Ok.ensures.octets c.in-Ok.ensures.fields in
    let outcome = c.in_err-written.field-0.0 in
    let noted = subst (λ p. Appends (g.N.Sink.contents c.args.notes.now) (g.N.Sink.contents c.note_kept.new.notes) (texts.kept p c.args.past.kept)) c.requires.here c.in_ok-note_kept.ensures.writes.whole in
    λ names.
    passed_on
    (λ result. Turns plan c.args.more c.args.totals.now c.args.here.now.before c.args.octets.now result
    (outside (world (g.T.Sink.contents c.args.output.now) names) (g.N.Sink.contents c.args.notes.now)) (outside (world (g.T.Sink.contents c.write_where.new.output) names) (g.N.Sink.contents c.note_kept.new.notes)))
    c.from_residual-in_err-written.result outcome c.from_residual-in_err-written.ensures.1 (
      c.requires.begun,
      copy_broke (g.T.Sink.contents c.args.output.now) (g.T.Sink.contents c.write_where.new.output) names (g.N.Sink.contents c.args.notes.now) (g.N.Sink.contents c.note_kept.new.notes)
          _ _ (instead_of c.args.past.instead (take c.in-Ok.message.octets c.args.octets.now)) (texts.kept place c.args.past.kept) _ outcome s noted
          (subst (AppendsFront (g.T.Sink.contents c.args.output.now) (g.T.Sink.contents c.write_where.new.output)) (c.copies-copied.ensures (take c.in-Ok.message.octets c.args.octets.now)) c.in_err-written.ensures.writes.front) c.in_err-written.ensures.writes.one_of,
    )

pub one_kept-requires-clause-fields : goal.one_kept-requires-clause-fields
one_kept-requires-clause-fields g c =
    let task = g.K.Performer.task c.args.performer.now in
    let plan = plan_of task (g.K.Performer.texts c.args.performer.now) c.args.policy in
    let place = place_by (counts_of c.args.totals.now) c.args.here.now.before in
    let is : next_of task place c.args.octets.now ≡ tasks.Stops (outcomes.Kept c.args.past.kept) = subst (λ p. next_of task p c.args.octets.now ≡ tasks.Stops (outcomes.Kept c.args.past.kept)) c.requires.here c.requires.kept in
    let s = step_keeps plan c.args.more c.args.totals.now c.args.here.now.before c.args.octets.now c.args.past.kept c.args.past.instead c.in-Ok.message.octets c.in-Ok.message.fields is c.requires.instead c.in-Ok.ensures.octets c.in-Ok.ensures.fields in
    omega (arith, (small_gone plan (g.met.K.Performer.lawful c.args.performer.now) c.args.more c.args.totals.now c.args.here.now.before c.args.octets.now _ _ _ c.requires.begun c.requires.fits c.requires.within s).fields)

pub one_kept-requires-clause-written : goal.one_kept-requires-clause-written
one_kept-requires-clause-written g c =
    let task = g.K.Performer.task c.args.performer.now in
    let plan = plan_of task (g.K.Performer.texts c.args.performer.now) c.args.policy in
    let place = place_by (counts_of c.args.totals.now) c.args.here.now.before in
    let is : next_of task place c.args.octets.now ≡ tasks.Stops (outcomes.Kept c.args.past.kept) = subst (λ p. next_of task p c.args.octets.now ≡ tasks.Stops (outcomes.Kept c.args.past.kept)) c.requires.here c.requires.kept in
    let s = step_keeps plan c.args.more c.args.totals.now c.args.here.now.before c.args.octets.now c.args.past.kept c.args.past.instead c.in-Ok.message.octets c.in-Ok.message.fields is c.requires.instead c.in-Ok.ensures.octets c.in-Ok.ensures.fields in
    let size = ap length (c.copies-copied.ensures (take c.in-Ok.message.octets c.args.octets.now)) in
    omega (arith, size, c.in_ok-written.ensures.count, (small_gone plan (g.met.K.Performer.lawful c.args.performer.now) c.args.more c.args.totals.now c.args.here.now.before c.args.octets.now _ _ _ c.requires.begun c.requires.fits c.requires.within s).written)

pub returns-clause-turns : goal.returns-clause-turns
returns-clause-turns g c =
    let task = g.K.Performer.task c.args.performer.now in
    let texts = g.K.Performer.texts c.args.performer.now in
    let plan = plan_of task texts c.args.policy in
    let counts = counts_of c.args.totals.now in
    let place = place_by counts c.args.here.now.before in
    let instead = instead_of c.args.past.instead (take c.in-Ok.message.octets c.args.octets.now) in
    let is : next_of task place c.args.octets.now ≡ tasks.Stops (outcomes.Kept c.args.past.kept) = subst (λ p. next_of task p c.args.octets.now ≡ tasks.Stops (outcomes.Kept c.args.past.kept)) c.requires.here c.requires.kept in
    let s = step_keeps plan c.args.more c.args.totals.now c.args.here.now.before c.args.octets.now c.args.past.kept c.args.past.instead c.in-Ok.message.octets c.in-Ok.message.fields is c.requires.instead c.in-Ok.ensures.octets c.in-Ok.ensures.fields in
    let noted = subst (λ p. Appends (g.N.Sink.contents c.args.notes.now) (g.N.Sink.contents c.note_kept.new.notes) (texts.kept p c.args.past.kept)) c.requires.here c.in_ok-note_kept.ensures.writes.whole in
    λ names. (
      c.requires.begun,
      (
        deeds (writes instead) (texts.kept place c.args.past.kept ∷ []),
        s
            ∙ (ap (λ n. Goes c.in-Ok.message.octets (deeds (writes instead) (texts.kept place c.args.past.kept ∷ [])) (totals_by (one_kept counts c.in-Ok.message.fields n) c.args.totals.now.counted.skipped)) (ap length (sym (c.copies-copied.ensures (take c.in-Ok.message.octets c.args.octets.now))) ∙ sym c.in_ok-written.ensures.count)
            ∙ ap (Goes c.in-Ok.message.octets (deeds (writes instead) (texts.kept place c.args.past.kept ∷ []))) (sym c.one_kept.ensures)),
        done_copy (g.T.Sink.contents c.args.output.now) (g.T.Sink.contents c.write_where.new.output) names (g.N.Sink.contents c.args.notes.now) (g.N.Sink.contents c.note_kept.new.notes) instead (texts.kept place c.args.past.kept) noted
            (subst (Appends (g.T.Sink.contents c.args.output.now) (g.T.Sink.contents c.write_where.new.output)) (c.copies-copied.ensures (take c.in-Ok.message.octets c.args.octets.now)) c.in_ok-written.ensures.writes.whole),
      ),
    )
