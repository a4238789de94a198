use Rattle.std.proofs.Common.{length-take-le, ◌≡◌, ◌+◌, ◌∙◌, ◌&&◌, sym, ap, subst, arith, true, false, cond, take, [], ◌∷◌}
use Rattle.std.specs.Io.KnownBytes.{Appends}
use Rattle.grib_io.specs.Outside.{AppendsFront}
use Rattle.grib_stream.specs.declared.outcome.Outcome.TheVariants.{Refused}
use Rattle.grib_stream.specs.Acts.{world, writes}
use Rattle.grib_stream.specs.Outcomes.{is_truncated}
use Rattle.grib_items.specs.Deeds.{deeds, outside}
use Rattle.grib_items.specs.Answer.{counts_of, totals_by, one_refused, place_by}
use Rattle.grib_items.specs.Steps.{plan_of, Goes}
use Rattle.grib_items.specs.Turning.{Turns}
use Rattle.grib_items.proofs.Heads.{and_off, passed_size}
use Rattle.grib_items.proofs.Effects.{done_none}
use Rattle.grib_items.proofs.Decided.{step_passes, refusal_ends, awaits_cut, awaits_end, line_broke, copy_broke, done_copy, small_gone}
use Rattle.grib_items.proofs.Residuals.{passed_on}
use Rattle.grib_items.proofs.deciding.refuse.Goals as goal
use Rattle.grib_items.proofs.deciding.refuse.Goals.{else-more-via-then-more+else-is_truncated, else-more-via-else-more}

pub returns-then-is_truncated-clause-turns : goal.returns-then-is_truncated-clause-turns
returns-then-is_truncated-clause-turns g c =
    let plan = plan_of (g.K.Performer.task c.args.performer.now) (g.K.Performer.texts c.args.performer.now) c.args.policy in
    let cut : (c.args.more && is_truncated c.args.fault.reason) ≡ true = ap (λ m. m && is_truncated c.args.fault.reason) c.if-more.true ∙ (sym c.is_truncated.ensures ∙ c.if-is_truncated.true) in
    λ names. (
      awaits_cut plan (g.met.K.Performer.lawful c.args.performer.now) (g.met.K.Performer.states c.args.performer.now) c.args.more c.args.totals.now c.args.here.now.before c.args.octets.now c.args.fault c.wait_for.result.wanted c.requires.begun
          c.requires.refused cut c.wait_for.ensures.more c.wait_for.ensures.stated,
      done_none _,
    )

pub returns-in_default-clause-turns : goal.returns-in_default-clause-turns
returns-in_default-clause-turns g c =
    let plan = plan_of (g.K.Performer.task c.args.performer.now) (g.K.Performer.texts c.args.performer.now) c.args.policy in
    let closed : (c.args.more && is_truncated c.args.fault.reason) ≡ false = elim c.else-more.branch [ else-more-via-then-more+else-is_truncated w ↦ and_off c.args.more _ (sym w.is_truncated.ensures ∙ w.if-is_truncated.false) | else-more-via-else-more w ↦ ap (λ m. m && is_truncated c.args.fault.reason) w.if-more.false ] in
    λ names. (
      c.requires.begun,
      refusal_ends plan c.args.more c.args.totals.now c.args.here.now.before c.args.octets.now c.args.fault _ _ _ c.requires.refused closed c.in_default.is
          (ap (λ p. Refused (record { message = p.message; fault = c.args.fault })) c.requires.here) (done_none _),
    )

pub returns-in_default-octets_passed-clause-turns : goal.returns-in_default-octets_passed-clause-turns
returns-in_default-octets_passed-clause-turns g c =
    let plan = plan_of (g.K.Performer.task c.args.performer.now) (g.K.Performer.texts c.args.performer.now) c.args.policy in
    let closed : (c.args.more && is_truncated c.args.fault.reason) ≡ false = elim c.else-more.branch [ else-more-via-then-more+else-is_truncated w ↦ and_off c.args.more _ (sym w.is_truncated.ensures ∙ w.if-is_truncated.false) | else-more-via-else-more w ↦ ap (λ m. m && is_truncated c.args.fault.reason) w.if-more.false ] in
    λ names. (
      awaits_end plan (g.met.K.Performer.lawful c.args.performer.now) (g.met.K.Performer.states c.args.performer.now) c.args.more c.args.totals.now c.args.here.now.before c.args.octets.now c.args.fault c.in-Some.instead c.wait_for-in_default-octets_passed.result.wanted c.requires.begun
          c.requires.refused closed c.in-Some.is (sym c.octets_passed.ensures ∙ c.in_default-octets_passed.is) c.wait_for-in_default-octets_passed.ensures.more c.wait_for-in_default-octets_passed.ensures.stated,
      done_none _,
    )

pub returns-in_err-note_refused-clause-turns : goal.returns-in_err-note_refused-clause-turns
returns-in_err-note_refused-clause-turns g c =
    let texts = g.K.Performer.texts c.args.performer.now in
    let plan = plan_of (g.K.Performer.task c.args.performer.now) texts c.args.policy in
    let place = place_by (counts_of c.args.totals.now) c.args.here.now.before in
    let closed : (c.args.more && is_truncated c.args.fault.reason) ≡ false = elim c.else-more.branch [ else-more-via-then-more+else-is_truncated w ↦ and_off c.args.more _ (sym w.is_truncated.ensures ∙ w.if-is_truncated.false) | else-more-via-else-more w ↦ ap (λ m. m && is_truncated c.args.fault.reason) w.if-more.false ] in
    let copied = c.is_copied-copied.result in
    let s = step_passes plan c.args.more c.args.totals.now c.args.here.now.before c.args.octets.now c.args.fault c.in-Some.instead c.in-Some-octets_passed.passed copied c.requires.refused closed c.in-Some.is (sym c.octets_passed.ensures ∙ c.in-Some-octets_passed.is) c.is_copied-copied.ensures in
    let outcome = c.in_err-note_refused.field-0.0 in
    let front = subst (λ p. AppendsFront (g.N.Sink.contents c.args.notes.now) (g.N.Sink.contents c.note_refused.new.notes) (texts.refused copied p c.args.fault)) c.requires.here c.in_err-note_refused.ensures.writes.front in
    λ names.
    let seen = world (g.T.Sink.contents c.args.output.now) names in
    passed_on
    (λ result. Turns plan c.args.more c.args.totals.now c.args.here.now.before c.args.octets.now result (outside seen (g.N.Sink.contents c.args.notes.now)) (outside seen (g.N.Sink.contents c.note_refused.new.notes)))
    c.from_residual.result outcome c.from_residual.ensures.1
    (c.requires.begun, line_broke seen (g.N.Sink.contents c.args.notes.now) (g.N.Sink.contents c.note_refused.new.notes) _ _ _ (texts.refused copied place c.args.fault) _ outcome s front c.in_err-note_refused.ensures.writes.one_of)

pub returns-in_err-written-clause-turns : goal.returns-in_err-written-clause-turns
returns-in_err-written-clause-turns g c =
    let texts = g.K.Performer.texts c.args.performer.now in
    let plan = plan_of (g.K.Performer.task c.args.performer.now) texts c.args.policy in
    let place = place_by (counts_of c.args.totals.now) c.args.here.now.before in
    let closed : (c.args.more && is_truncated c.args.fault.reason) ≡ false = elim c.else-more.branch [ else-more-via-then-more+else-is_truncated w ↦ and_off c.args.more _ (sym w.is_truncated.ensures ∙ w.if-is_truncated.false) | else-more-via-else-more w ↦ ap (λ m. m && is_truncated c.args.fault.reason) w.if-more.false ] in
    let copied = c.is_copied-copied.result in
    let s = step_passes plan c.args.more c.args.totals.now c.args.here.now.before c.args.octets.now c.args.fault c.in-Some.instead c.in-Some-octets_passed.passed copied c.requires.refused closed c.in-Some.is (sym c.octets_passed.ensures ∙ c.in-Some-octets_passed.is) c.is_copied-copied.ensures in
    let outcome = c.in_err-written.field-0.0 in
    let noted = subst (λ p. Appends (g.N.Sink.contents c.args.notes.now) (g.N.Sink.contents c.note_refused.new.notes) (texts.refused copied p c.args.fault)) c.requires.here c.in_ok-note_refused.ensures.writes.whole in
    λ names.
    passed_on
    (λ result. Turns plan c.args.more c.args.totals.now c.args.here.now.before c.args.octets.now result
    (outside (world (g.T.Sink.contents c.args.output.now) names) (g.N.Sink.contents c.args.notes.now)) (outside (world (g.T.Sink.contents c.write_where.new.output) names) (g.N.Sink.contents c.note_refused.new.notes)))
    c.from_residual-in_err-written.result outcome c.from_residual-in_err-written.ensures.1 (
      c.requires.begun,
      copy_broke (g.T.Sink.contents c.args.output.now) (g.T.Sink.contents c.write_where.new.output) names (g.N.Sink.contents c.args.notes.now) (g.N.Sink.contents c.note_refused.new.notes)
          _ _ (cond copied (take c.in-Some-octets_passed.passed c.args.octets.now) []) (texts.refused copied place c.args.fault) _ outcome s noted c.in_err-written.ensures.writes.front c.in_err-written.ensures.writes.one_of,
    )

pub slice_bounds-is_copied-end : goal.slice_bounds-is_copied-end
slice_bounds-is_copied-end g c =
    let size = passed_size c.args.more c.in-Some-octets_passed.passed c.args.octets.now c.requires.begun (sym c.octets_passed.ensures ∙ c.in-Some-octets_passed.is) in
    sym (length-take-le c.in-Some-octets_passed.passed c.args.octets.now size.1)

pub slice_bounds-write_where-end : goal.slice_bounds-write_where-end
slice_bounds-write_where-end g c =
    let size = passed_size c.args.more c.in-Some-octets_passed.passed c.args.octets.now c.requires.begun (sym c.octets_passed.ensures ∙ c.in-Some-octets_passed.is) in
    sym (length-take-le c.in-Some-octets_passed.passed c.args.octets.now size.1)

pub one_refused-requires-clause-skipped : goal.one_refused-requires-clause-skipped
one_refused-requires-clause-skipped g c =
    let plan = plan_of (g.K.Performer.task c.args.performer.now) (g.K.Performer.texts c.args.performer.now) c.args.policy in
    let closed : (c.args.more && is_truncated c.args.fault.reason) ≡ false = elim c.else-more.branch [ else-more-via-then-more+else-is_truncated w ↦ and_off c.args.more _ (sym w.is_truncated.ensures ∙ w.if-is_truncated.false) | else-more-via-else-more w ↦ ap (λ m. m && is_truncated c.args.fault.reason) w.if-more.false ] in
    let s = step_passes plan c.args.more c.args.totals.now c.args.here.now.before c.args.octets.now c.args.fault c.in-Some.instead c.in-Some-octets_passed.passed c.is_copied-copied.result c.requires.refused closed c.in-Some.is (sym c.octets_passed.ensures ∙ c.in-Some-octets_passed.is) c.is_copied-copied.ensures in
    omega (arith, (small_gone plan (g.met.K.Performer.lawful c.args.performer.now) c.args.more c.args.totals.now c.args.here.now.before c.args.octets.now _ _ _ c.requires.begun c.requires.fits c.requires.within s).skipped)

pub one_refused-requires-clause-written : goal.one_refused-requires-clause-written
one_refused-requires-clause-written g c =
    let plan = plan_of (g.K.Performer.task c.args.performer.now) (g.K.Performer.texts c.args.performer.now) c.args.policy in
    let closed : (c.args.more && is_truncated c.args.fault.reason) ≡ false = elim c.else-more.branch [ else-more-via-then-more+else-is_truncated w ↦ and_off c.args.more _ (sym w.is_truncated.ensures ∙ w.if-is_truncated.false) | else-more-via-else-more w ↦ ap (λ m. m && is_truncated c.args.fault.reason) w.if-more.false ] in
    let s = step_passes plan c.args.more c.args.totals.now c.args.here.now.before c.args.octets.now c.args.fault c.in-Some.instead c.in-Some-octets_passed.passed c.is_copied-copied.result c.requires.refused closed c.in-Some.is (sym c.octets_passed.ensures ∙ c.in-Some-octets_passed.is) c.is_copied-copied.ensures in
    omega (arith, c.in_ok-written.ensures.count, (small_gone plan (g.met.K.Performer.lawful c.args.performer.now) c.args.more c.args.totals.now c.args.here.now.before c.args.octets.now _ _ _ c.requires.begun c.requires.fits c.requires.within s).written)

pub returns-clause-turns : goal.returns-clause-turns
returns-clause-turns g c =
    let texts = g.K.Performer.texts c.args.performer.now in
    let plan = plan_of (g.K.Performer.task c.args.performer.now) texts c.args.policy in
    let counts = counts_of c.args.totals.now in
    let place = place_by counts c.args.here.now.before in
    let closed : (c.args.more && is_truncated c.args.fault.reason) ≡ false = elim c.else-more.branch [ else-more-via-then-more+else-is_truncated w ↦ and_off c.args.more _ (sym w.is_truncated.ensures ∙ w.if-is_truncated.false) | else-more-via-else-more w ↦ ap (λ m. m && is_truncated c.args.fault.reason) w.if-more.false ] in
    let copied = c.is_copied-copied.result in
    let size = c.in-Some-octets_passed.passed in
    let written = cond copied (take size c.args.octets.now) [] in
    let s = step_passes plan c.args.more c.args.totals.now c.args.here.now.before c.args.octets.now c.args.fault c.in-Some.instead size copied c.requires.refused closed c.in-Some.is (sym c.octets_passed.ensures ∙ c.in-Some-octets_passed.is) c.is_copied-copied.ensures in
    let noted = subst (λ p. Appends (g.N.Sink.contents c.args.notes.now) (g.N.Sink.contents c.note_refused.new.notes) (texts.refused copied p c.args.fault)) c.requires.here c.in_ok-note_refused.ensures.writes.whole in
    λ names. (
      c.requires.begun,
      (
        deeds (writes written) (texts.refused copied place c.args.fault ∷ []),
        s
            ∙ (ap (λ n. Goes size (deeds (writes written) (texts.refused copied place c.args.fault ∷ [])) (totals_by (one_refused counts n) (c.args.totals.now.counted.skipped + size))) (sym c.in_ok-written.ensures.count)
            ∙ ap (Goes size (deeds (writes written) (texts.refused copied place c.args.fault ∷ []))) (sym c.one_refused.ensures)),
        done_copy (g.T.Sink.contents c.args.output.now) (g.T.Sink.contents c.write_where.new.output) names (g.N.Sink.contents c.args.notes.now) (g.N.Sink.contents c.note_refused.new.notes) written (texts.refused copied place c.args.fault) noted
            c.in_ok-written.ensures.writes.whole,
      ),
    )

pub wait_for-requires-clause-refused : goal.wait_for-requires-clause-refused
wait_for-requires-clause-refused g c = (c.args.fault, c.requires.refused)

pub wait_for-requires-in_default-octets_passed-clause-refused : goal.wait_for-requires-in_default-octets_passed-clause-refused
wait_for-requires-in_default-octets_passed-clause-refused g c = (c.args.fault, c.requires.refused)
