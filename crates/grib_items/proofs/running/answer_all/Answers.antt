use Rattle.std.proofs.Common.{rules, ◌≡◌, ◌≢◌, ◌≤◌, true, false, inl, ◌+◌, ◌-◌, length, take, drop, sym, ◌∙◌, ap, subst, arith, refl, Err, IfErr, length-drop}
use Rattle.grib_io.specs.Outside.{Counted}
use Rattle.grib_stream.specs.declared.outcome.Outcome.TheVariants.{Done, ShelfFault}
use Rattle.grib_stream.specs.Stream.{begins}
use Rattle.grib_stream.specs.Acts.{world}
use Rattle.grib_stream.specs.Faults.{faults, OneCounted}
use Rattle.grib_stream.specs.Soon.{RefusesSoon}
use Rattle.grib_stream.specs.Outcomes.{is_whole}
use Rattle.grib_items.specs.Answer.{totals_by, counts_of}
use Rattle.grib_items.specs.Deeds.{no_deeds, outside}
use Rattle.grib_items.specs.Laws.{nothing, outcome_of}
use Rattle.grib_items.specs.Reading.{goes_on}
use Rattle.grib_items.specs.Run.{Reaches, CountsOne, IsOver}
use Rattle.grib_items.specs.Steps.{plan_of}
use Rattle.grib_items.specs.Turning.{Awaits, WaitsFor, WaitsSoon}
use Rattle.grib_items.proofs.Effects.{done_then, passed_whole, passed_front}
use Rattle.grib_items.proofs.Steps.{skipping}
use Rattle.grib_items.proofs.SoFar.{step_counted}
use Rattle.grib_items.proofs.Messages.{gone_message}
use Rattle.grib_items.proofs.Decided.{turns_gone, turns_wait}
use Rattle.grib_items.proofs.Exits.{Going, going_start, going_shown, going_flag, going_gone, going_still, turn_ends}
use Rattle.grib_items.proofs.Finishing.{advance_on, advance_ends, advance_of, concludes, of_output, passing_ends}
use Rattle.grib_items.proofs.Promptly.{short_start, short_shown, short_message, short_heard, short_read, read_behind, turn_soon, soon_otherwise, soon_broken}
use Rattle.grib_items.proofs.Heard.{awaits_begun, heard_ends, heard_going, heard_less, heard_left, stands_heard}
use Rattle.grib_items.proofs.Residuals.{passed_on}
use Rattle.grib_items.proofs.running.answer_all.Goals as goal

pub items-init : goal.items-init
items-init g c =
    record {
      going = going_start (plan_of (g.K.Performer.task c.args.performer.now) (g.K.Performer.texts c.args.performer.now) c.args.policy) c.args.limit _ _ c.none_counted-totals.result _ c.new-window.ensures.octets c.none_counted-totals.ensures;
      short = λ _. short_start (g.K.Performer.hears c.args.performer.now) _ _ c.new-window.ensures.octets;
      stands = search rules;
      read_calm = refl;
      output_calm = refl;
      notes_calm = refl;
      unfinished = λ e. e;
      notes_unfinished = λ e. e;
      shelf_calm = refl;
      shelf = λ _. refl;
    }

pub returns-in_err-turn-clause-reaches : goal.returns-in_err-turn-clause-reaches
returns-in_err-turn-clause-reaches g c =
    let plan = plan_of (g.K.Performer.task c.args.performer.now) (g.K.Performer.texts c.args.performer.now) c.args.policy in
    let lawful = g.met.K.Performer.lawful c.args.performer.now in
    let shown = going_shown c.octets_before_mark-passed.result c.as_slice.result.now c.pass.new.self.octets c.as_slice-octets.result.now c.items.invariant.going c.as_slice.ensures c.octets_before_mark-passed.ensures.unmarked c.pass.ensures.octets c.as_slice-octets.ensures in
    let going = going_flag c.may_go_on-more.result shown c.may_go_on-more.ensures in
    let outcome = c.in_err-turn.field-0.0 in
    let turn = c.in_err-turn.ensures.turns in
    passed_on
    (λ result. Reaches plan c.args.limit result (g.S.Source.left c.args.input.now) (g.S.Source.left c.items.input)
    (outside (world (g.T.Sink.contents c.args.output.now) (g.H.Shelf.contents c.args.shelf.now)) (g.N.Sink.contents c.args.notes.now))
    (outside (world (g.T.Sink.contents c.decide.new.output) (g.H.Shelf.contents c.decide.new.shelf)) (g.N.Sink.contents c.decide.new.notes)))
    c.from_residual.result outcome c.from_residual.ensures.1 (turn_ends lawful _ outcome going turn.0 turn.1).0

pub returns-in_err-turn-clause-before_end : goal.returns-in_err-turn-clause-before_end
returns-in_err-turn-clause-before_end g c =
    let lawful = g.met.K.Performer.lawful c.args.performer.now in
    let shown = going_shown c.octets_before_mark-passed.result c.as_slice.result.now c.pass.new.self.octets c.as_slice-octets.result.now c.items.invariant.going c.as_slice.ensures c.octets_before_mark-passed.ensures.unmarked c.pass.ensures.octets c.as_slice-octets.ensures in
    let going = going_flag c.may_go_on-more.result shown c.may_go_on-more.ensures in
    let outcome = c.in_err-turn.field-0.0 in
    let turn = c.in_err-turn.ensures.turns in
    passed_on (λ result. IfErr result (λ o. is_whole o ≡ false)) c.from_residual.result outcome c.from_residual.ensures.1 (turn_ends lawful _ outcome going turn.0 turn.1).1.1

pub returns-in_err-turn-clause-soon : goal.returns-in_err-turn-clause-soon
returns-in_err-turn-clause-soon g c =
    let shown = going_shown c.octets_before_mark-passed.result c.as_slice.result.now c.pass.new.self.octets c.as_slice-octets.result.now c.items.invariant.going c.as_slice.ensures c.octets_before_mark-passed.ensures.unmarked c.pass.ensures.octets c.as_slice-octets.ensures in
    let going = going_flag c.may_go_on-more.result shown c.may_go_on-more.ensures in
    let short = λ (none : c.args.policy ≡ nothing). short_shown c.octets_before_mark-passed.result (c.items.invariant.short none) c.as_slice.ensures c.octets_before_mark-passed.ensures.unmarked c.pass.ensures.octets c.as_slice-octets.ensures in
    let outcome = c.in_err-turn.field-0.0 in
    let turn = c.in_err-turn.ensures.turns in
    λ none.
    passed_on
    (λ result. RefusesSoon (g.K.Performer.hears c.args.performer.now) (g.K.Performer.task c.args.performer.now) (outcome_of result) (g.S.Source.left c.args.input.now) (g.S.Source.left c.items.input))
    c.from_residual.result outcome c.from_residual.ensures.1 (turn_soon (g.K.Performer.hears c.args.performer.now) _ outcome none going turn.0 (short none) turn.1)

pub returns-in_err-turn-clause-counts : goal.returns-in_err-turn-clause-counts
returns-in_err-turn-clause-counts g c =
    let lawful = g.met.K.Performer.lawful c.args.performer.now in
    let shown = going_shown c.octets_before_mark-passed.result c.as_slice.result.now c.pass.new.self.octets c.as_slice-octets.result.now c.items.invariant.going c.as_slice.ensures c.octets_before_mark-passed.ensures.unmarked c.pass.ensures.octets c.as_slice-octets.ensures in
    let going = going_flag c.may_go_on-more.result shown c.may_go_on-more.ensures in
    let outcome = c.in_err-turn.field-0.0 in
    let ensures = c.in_err-turn.ensures in
    let not_read = (turn_ends lawful _ outcome going ensures.turns.0 ensures.turns.1).1.0 in
    passed_on
    (λ result. CountsOne (outcome_of result) (faults (g.S.Source.faults c.args.input.now) (g.T.Sink.faults c.args.output.now) (g.N.Sink.faults c.args.notes.now) (g.H.Shelf.faults c.args.shelf.now))
    (faults (g.S.Source.faults c.items.input) (g.T.Sink.faults c.decide.new.output) (g.N.Sink.faults c.decide.new.notes) (g.H.Shelf.faults c.decide.new.shelf)))
    c.from_residual.result outcome c.from_residual.ensures.1
    record {
      read = λ e. absurd (not_read e);
      read_calm = λ other. c.items.invariant.read_calm;
      write = λ e.
          subst (λ n. OneCounted n (g.T.Sink.faults c.decide.new.output) (g.N.Sink.faults c.args.notes.now) (g.N.Sink.faults c.decide.new.notes)) c.items.invariant.output_calm
          (subst (λ n. OneCounted (g.T.Sink.faults c.items.output) (g.T.Sink.faults c.decide.new.output) n (g.N.Sink.faults c.decide.new.notes)) c.items.invariant.notes_calm (ensures.write_fault (ap Err e)));
      output_calm = λ other. ensures.output_calm (λ e. other cc) ∙ c.items.invariant.output_calm;
      notes_calm = λ other. ensures.notes_calm (λ e. other cc) ∙ c.items.invariant.notes_calm;
      shelf = λ e. subst (λ n. Counted n (g.H.Shelf.faults c.decide.new.shelf)) c.items.invariant.shelf_calm (ensures.shelf_fault (ap Err e));
      shelf_calm = λ other. ensures.shelf_calm (λ e. other cc) ∙ c.items.invariant.shelf_calm;
    }

pub pass-requires-in-Goes : goal.pass-requires-in-Goes
pass-requires-in-Goes g c =
    let plan = plan_of (g.K.Performer.task c.args.performer.now) (g.K.Performer.texts c.args.performer.now) c.args.policy in
    let lawful = g.met.K.Performer.lawful c.args.performer.now in
    let gone = turns_gone plan c.may_go_on-more.result (skipping c.items.totals c.octets_before_mark-passed.result) (c.items.place + c.octets_before_mark-passed.result) c.as_slice-octets.result.now c.in_ok-turn.turn c.in-Goes.gone (outside (world (g.T.Sink.contents c.items.output) (g.H.Shelf.contents c.items.shelf)) (g.N.Sink.contents c.items.notes)) (outside (world (g.T.Sink.contents c.decide.new.output) (g.H.Shelf.contents c.decide.new.shelf)) (g.N.Sink.contents c.decide.new.notes)) c.in-Goes.is c.in_ok-turn.ensures.turns in
    let counted = step_counted plan lawful c.may_go_on-more.result (skipping c.items.totals c.octets_before_mark-passed.result) (c.items.place + c.octets_before_mark-passed.result) c.as_slice-octets.result.now c.in-Goes.gone.octets gone.done c.in-Goes.gone.totals gone.begun gone.is in
    omega (arith, counted.within, ap length c.as_slice-octets.ensures)

pub overflow_add-place-in-Goes : goal.overflow_add-place-in-Goes
overflow_add-place-in-Goes g c =
    let plan = plan_of (g.K.Performer.task c.args.performer.now) (g.K.Performer.texts c.args.performer.now) c.args.policy in
    let lawful = g.met.K.Performer.lawful c.args.performer.now in
    let shown = going_shown c.octets_before_mark-passed.result c.as_slice.result.now c.pass.new.self.octets c.as_slice-octets.result.now c.items.invariant.going c.as_slice.ensures c.octets_before_mark-passed.ensures.unmarked c.pass.ensures.octets c.as_slice-octets.ensures in
    let gone = turns_gone plan c.may_go_on-more.result (skipping c.items.totals c.octets_before_mark-passed.result) (c.items.place + c.octets_before_mark-passed.result) c.as_slice-octets.result.now c.in_ok-turn.turn c.in-Goes.gone (outside (world (g.T.Sink.contents c.items.output) (g.H.Shelf.contents c.items.shelf)) (g.N.Sink.contents c.items.notes)) (outside (world (g.T.Sink.contents c.decide.new.output) (g.H.Shelf.contents c.decide.new.shelf)) (g.N.Sink.contents c.decide.new.notes)) c.in-Goes.is c.in_ok-turn.ensures.turns in
    let counted = step_counted plan lawful c.may_go_on-more.result (skipping c.items.totals c.octets_before_mark-passed.result) (c.items.place + c.octets_before_mark-passed.result) c.as_slice-octets.result.now c.in-Goes.gone.octets gone.done c.in-Goes.gone.totals gone.begun gone.is in
    omega (arith, counted.within, shown.so.size, shown.counted, c.requires.limit)

pub items-smaller-in-Goes : goal.items-smaller-in-Goes
items-smaller-in-Goes g c =
    let plan = plan_of (g.K.Performer.task c.args.performer.now) (g.K.Performer.texts c.args.performer.now) c.args.policy in
    let lawful = g.met.K.Performer.lawful c.args.performer.now in
    let gone = turns_gone plan c.may_go_on-more.result (skipping c.items.totals c.octets_before_mark-passed.result) (c.items.place + c.octets_before_mark-passed.result) c.as_slice-octets.result.now c.in_ok-turn.turn c.in-Goes.gone (outside (world (g.T.Sink.contents c.items.output) (g.H.Shelf.contents c.items.shelf)) (g.N.Sink.contents c.items.notes)) (outside (world (g.T.Sink.contents c.decide.new.output) (g.H.Shelf.contents c.decide.new.shelf)) (g.N.Sink.contents c.decide.new.notes)) c.in-Goes.is c.in_ok-turn.ensures.turns in
    let counted = step_counted plan lawful c.may_go_on-more.result (skipping c.items.totals c.octets_before_mark-passed.result) (c.items.place + c.octets_before_mark-passed.result) c.as_slice-octets.result.now c.in-Goes.gone.octets gone.done c.in-Goes.gone.totals gone.begun gone.is in
    let gone_past : length c.pass.new.self.octets ≡ length c.items.window.octets - c.octets_before_mark-passed.result = ap length c.pass.ensures.octets ∙ length-drop _ c.items.window.octets in
    let left : length c.pass-in-Goes.new.self.octets ≡ length c.pass.new.self.octets - c.in-Goes.gone.octets = ap length c.pass-in-Goes.ensures.octets ∙ length-drop _ c.pass.new.self.octets in
    let shown_size : length c.as_slice-octets.result.now ≡ length c.pass.new.self.octets = ap length c.as_slice-octets.ensures in
    omega (arith, gone_past, left, shown_size, counted.least, counted.within)

pub items-preserved-in-Goes : goal.items-preserved-in-Goes
items-preserved-in-Goes g c =
    let plan = plan_of (g.K.Performer.task c.args.performer.now) (g.K.Performer.texts c.args.performer.now) c.args.policy in
    let lawful = g.met.K.Performer.lawful c.args.performer.now in
    let shown = going_shown c.octets_before_mark-passed.result c.as_slice.result.now c.pass.new.self.octets c.as_slice-octets.result.now c.items.invariant.going c.as_slice.ensures c.octets_before_mark-passed.ensures.unmarked c.pass.ensures.octets c.as_slice-octets.ensures in
    let going = going_flag c.may_go_on-more.result shown c.may_go_on-more.ensures in
    let short = λ (none : c.args.policy ≡ nothing). short_shown c.octets_before_mark-passed.result (c.items.invariant.short none) c.as_slice.ensures c.octets_before_mark-passed.ensures.unmarked c.pass.ensures.octets c.as_slice-octets.ensures in
    let gone = turns_gone plan c.may_go_on-more.result (skipping c.items.totals c.octets_before_mark-passed.result) (c.items.place + c.octets_before_mark-passed.result) c.as_slice-octets.result.now c.in_ok-turn.turn c.in-Goes.gone (outside (world (g.T.Sink.contents c.items.output) (g.H.Shelf.contents c.items.shelf)) (g.N.Sink.contents c.items.notes)) (outside (world (g.T.Sink.contents c.decide.new.output) (g.H.Shelf.contents c.decide.new.shelf)) (g.N.Sink.contents c.decide.new.notes)) c.in-Goes.is c.in_ok-turn.ensures.turns in
    let ensures = c.in_ok-turn.ensures in
    let behind = c.pass-in-Goes.ensures.octets ∙ ap (drop _) (sym c.as_slice-octets.ensures) in
    record {
      going = going_flag _ (going_gone lawful _ _ _ _ _ going gone.begun gone.is gone.did behind) (sym c.may_go_on-more.ensures);
      short = λ none.
          inl (short_message c.in-Goes.gone.octets c.pass-in-Goes.new.self.octets (short none)
          (gone_message plan c.may_go_on-more.result (skipping c.items.totals c.octets_before_mark-passed.result) (c.items.place + c.octets_before_mark-passed.result) c.as_slice-octets.result.now c.in-Goes.gone.octets gone.done c.in-Goes.gone.totals none gone.is).accepted behind);
      stands = c.items.invariant.stands;
      read_calm = c.items.invariant.read_calm;
      output_calm = ensures.output_calm (λ e. cc) ∙ c.items.invariant.output_calm;
      notes_calm = ensures.notes_calm (λ e. cc) ∙ c.items.invariant.notes_calm;
      unfinished = λ e. c.items.invariant.unfinished (ensures.unfinished e);
      notes_unfinished = λ e. c.items.invariant.notes_unfinished (ensures.notes_unfinished e);
      shelf_calm = ensures.shelf_calm (λ e. cc) ∙ c.items.invariant.shelf_calm;
      shelf = λ e. ensures.shelf e ∙ c.items.invariant.shelf e;
    }

pub returns-then-not-more-clause-reaches : goal.returns-then-not-more-clause-reaches
returns-then-not-more-clause-reaches g c =
    let plan = plan_of (g.K.Performer.task c.args.performer.now) (g.K.Performer.texts c.args.performer.now) c.args.policy in
    let shown = going_shown c.octets_before_mark-passed.result c.as_slice.result.now c.pass.new.self.octets c.as_slice-octets.result.now c.items.invariant.going c.as_slice.ensures c.octets_before_mark-passed.ensures.unmarked c.pass.ensures.octets c.as_slice-octets.ensures in
    let ended = going_flag _ shown (sym c.if-not-more.true ∙ c.may_go_on-more.ensures) in
    let totals = (skipping c.items.totals c.octets_before_mark-passed.result) in
    let (awaits, still) = turns_wait plan c.may_go_on-more.result (skipping c.items.totals c.octets_before_mark-passed.result) (c.items.place + c.octets_before_mark-passed.result) c.as_slice-octets.result.now c.in_ok-turn.turn c.in-Waits.wait (outside (world (g.T.Sink.contents c.items.output) (g.H.Shelf.contents c.items.shelf)) (g.N.Sink.contents c.items.notes)) (outside (world (g.T.Sink.contents c.decide.new.output) (g.H.Shelf.contents c.decide.new.shelf)) (g.N.Sink.contents c.decide.new.notes)) c.in-Waits.is c.in_ok-turn.ensures.turns in
    let last = subst (λ m. Awaits plan m totals (c.items.place + c.octets_before_mark-passed.result) c.as_slice-octets.result.now c.in-Waits.wait.wanted) c.if-not-more.true awaits in
    let size : c.len.result ≡ length c.as_slice-octets.result.now = c.len.ensures ∙ ap length (sym c.as_slice-octets.ensures) in
    subst (λ n. IsOver plan c.args.limit (totals_by (counts_of totals) (totals.counted.skipped + n)) (g.S.Source.left c.args.input.now) (g.S.Source.left c.items.input)
    (outside (world (g.T.Sink.contents c.args.output.now) (g.H.Shelf.contents c.args.shelf.now)) (g.N.Sink.contents c.args.notes.now))
    (outside (world (g.T.Sink.contents c.decide.new.output) (g.H.Shelf.contents c.decide.new.shelf)) (g.N.Sink.contents c.decide.new.notes))) (sym size)
    (concludes _ c.in-Waits.wait.wanted ended last still)

pub returns-then-not-more-clause-soon : goal.returns-then-not-more-clause-soon
returns-then-not-more-clause-soon g c =
    λ none. soon_otherwise (g.K.Performer.task c.args.performer.now) (g.K.Performer.hears c.args.performer.now) Done _ _ (λ refusal e. cc)

pub returns-in_err-pass_on-clause-reaches : goal.returns-in_err-pass_on-clause-reaches
returns-in_err-pass_on-clause-reaches g c =
    let plan = plan_of (g.K.Performer.task c.args.performer.now) (g.K.Performer.texts c.args.performer.now) c.args.policy in
    let shown = going_shown c.octets_before_mark-passed.result c.as_slice.result.now c.pass.new.self.octets c.as_slice-octets.result.now c.items.invariant.going c.as_slice.ensures c.octets_before_mark-passed.ensures.unmarked c.pass.ensures.octets c.as_slice-octets.ensures in
    let goes : goes_on c.items.rest ≡ true = sym c.may_go_on-more.ensures ∙ c.if-not-more.false in
    let on = going_flag true shown (sym goes) in
    let (awaits, still) = turns_wait plan c.may_go_on-more.result (skipping c.items.totals c.octets_before_mark-passed.result) (c.items.place + c.octets_before_mark-passed.result) c.as_slice-octets.result.now c.in_ok-turn.turn c.in-Waits.wait (outside (world (g.T.Sink.contents c.items.output) (g.H.Shelf.contents c.items.shelf)) (g.N.Sink.contents c.items.notes)) (outside (world (g.T.Sink.contents c.decide.new.output) (g.H.Shelf.contents c.decide.new.shelf)) (g.N.Sink.contents c.decide.new.notes)) c.in-Waits.is c.in_ok-turn.ensures.turns in
    let outcome = c.in_err-pass_on.field-0.0 in
    let of = of_output outcome c.in_err-pass_on.ensures.writes.one_of in
    let front = passed_front (g.T.Sink.contents c.decide.new.output) (g.T.Sink.contents c.pass_on.new.sink) (g.H.Shelf.contents c.decide.new.shelf) (g.N.Sink.contents c.decide.new.notes) c.in_err-pass_on.ensures.writes.front in
    passed_on
    (λ result. Reaches plan c.args.limit result (g.S.Source.left c.args.input.now) (g.S.Source.left c.items.input)
    (outside (world (g.T.Sink.contents c.args.output.now) (g.H.Shelf.contents c.args.shelf.now)) (g.N.Sink.contents c.args.notes.now))
    (outside (world (g.T.Sink.contents c.pass_on.new.sink) (g.H.Shelf.contents c.decide.new.shelf)) (g.N.Sink.contents c.decide.new.notes)))
    c.from_residual-in_err-pass_on.result outcome c.from_residual-in_err-pass_on.ensures.1
    (passing_ends (outside (world (g.T.Sink.contents c.pass_on.new.sink) (g.H.Shelf.contents c.decide.new.shelf)) (g.N.Sink.contents c.decide.new.notes)) outcome (going_still (outside (world (g.T.Sink.contents c.decide.new.output) (g.H.Shelf.contents c.decide.new.shelf)) (g.N.Sink.contents c.decide.new.notes)) c.pass.new.self.octets on c.as_slice-octets.ensures still) front of)

pub returns-in_err-pass_on-clause-before_end : goal.returns-in_err-pass_on-clause-before_end
returns-in_err-pass_on-clause-before_end g c =
    let outcome = c.in_err-pass_on.field-0.0 in
    let of = of_output outcome c.in_err-pass_on.ensures.writes.one_of in
    passed_on (λ result. IfErr result (λ o. is_whole o ≡ false)) c.from_residual-in_err-pass_on.result outcome c.from_residual-in_err-pass_on.ensures.1 of.before_end

pub returns-in_err-pass_on-clause-soon : goal.returns-in_err-pass_on-clause-soon
returns-in_err-pass_on-clause-soon g c =
    let outcome = c.in_err-pass_on.field-0.0 in
    let of = of_output outcome c.in_err-pass_on.ensures.writes.one_of in
    λ none.
    passed_on
    (λ result. RefusesSoon (g.K.Performer.hears c.args.performer.now) (g.K.Performer.task c.args.performer.now) (outcome_of result) (g.S.Source.left c.args.input.now) (g.S.Source.left c.items.input))
    c.from_residual-in_err-pass_on.result outcome c.from_residual-in_err-pass_on.ensures.1 (soon_broken (g.K.Performer.task c.args.performer.now) (g.K.Performer.hears c.args.performer.now) _ _ outcome of.broken)

pub returns-in_err-pass_on-clause-unshelved : goal.returns-in_err-pass_on-clause-unshelved
returns-in_err-pass_on-clause-unshelved g c =
    let outcome = c.in_err-pass_on.field-0.0 in
    let of = of_output outcome c.in_err-pass_on.ensures.writes.one_of in
    λ unused. passed_on (λ result. outcome_of result ≢ ShelfFault) c.from_residual-in_err-pass_on.result outcome c.from_residual-in_err-pass_on.ensures.1 of.not_shelf

pub returns-in_err-pass_on-clause-counts : goal.returns-in_err-pass_on-clause-counts
returns-in_err-pass_on-clause-counts g c =
    let outcome = c.in_err-pass_on.field-0.0 in
    let of = of_output outcome c.in_err-pass_on.ensures.writes.one_of in
    let ensures = c.in_ok-turn.ensures in
    let writes = c.in_err-pass_on.ensures.writes in
    let unwritten = ensures.output_calm (λ e. cc) ∙ c.items.invariant.output_calm in
    let unnoted = ensures.notes_calm (λ e. cc) ∙ c.items.invariant.notes_calm in
    passed_on
    (λ result. CountsOne (outcome_of result) (faults (g.S.Source.faults c.args.input.now) (g.T.Sink.faults c.args.output.now) (g.N.Sink.faults c.args.notes.now) (g.H.Shelf.faults c.args.shelf.now))
    (faults (g.S.Source.faults c.items.input) (g.T.Sink.faults c.pass_on.new.sink) (g.N.Sink.faults c.decide.new.notes) (g.H.Shelf.faults c.decide.new.shelf)))
    c.from_residual-in_err-pass_on.result outcome c.from_residual-in_err-pass_on.ensures.1
    record {
      read = λ e. absurd (of.not_read e);
      read_calm = λ other. c.items.invariant.read_calm;
      write = λ e. inl (subst (λ n. Counted n (g.T.Sink.faults c.pass_on.new.sink)) unwritten (writes.counted (ap Err e)), unnoted);
      output_calm = λ other. writes.calm (λ e. other cc) ∙ unwritten;
      notes_calm = λ other. unnoted;
      shelf = λ e. absurd (of.not_shelf e);
      shelf_calm = λ other. ensures.shelf_calm (λ e. cc) ∙ c.items.invariant.shelf_calm;
    }

pub hear_item-requires-clause-long : goal.hear_item-requires-clause-long
hear_item-requires-clause-long g c =
    let waits : WaitsFor (g.K.Performer.hears c.args.performer.now) (g.K.Performer.task c.args.performer.now).judge c.args.policy c.as_slice-octets.result.now c.in-Waits.wait = subst (WaitsSoon (g.K.Performer.hears c.args.performer.now) (g.K.Performer.task c.args.performer.now).judge c.args.policy c.as_slice-octets.result.now) c.in-Waits.is c.in_ok-turn.ensures.waits in
    let none = waits.alone c.if-wait.true in
    let holds = (waits.soon none).heard c.if-wait.true in
    subst (λ xs. 8 ≤ length xs) c.as_slice-octets.ensures holds.0

pub hear_item-requires-clause-heard : goal.hear_item-requires-clause-heard
hear_item-requires-clause-heard g c =
    let waits : WaitsFor (g.K.Performer.hears c.args.performer.now) (g.K.Performer.task c.args.performer.now).judge c.args.policy c.as_slice-octets.result.now c.in-Waits.wait = subst (WaitsSoon (g.K.Performer.hears c.args.performer.now) (g.K.Performer.task c.args.performer.now).judge c.args.policy c.as_slice-octets.result.now) c.in-Waits.is c.in_ok-turn.ensures.waits in
    let none = waits.alone c.if-wait.true in
    let holds = (waits.soon none).heard c.if-wait.true in
    subst (λ xs. (g.K.Performer.hears c.args.performer.now) (take 8 xs) ≡ true) c.as_slice-octets.ensures holds.1

pub hear_item-requires-clause-short : goal.hear_item-requires-clause-short
hear_item-requires-clause-short g c =
    let short = λ (none : c.args.policy ≡ nothing). short_shown c.octets_before_mark-passed.result (c.items.invariant.short none) c.as_slice.ensures c.octets_before_mark-passed.ensures.unmarked c.pass.ensures.octets c.as_slice-octets.ensures in
    let waits : WaitsFor (g.K.Performer.hears c.args.performer.now) (g.K.Performer.task c.args.performer.now).judge c.args.policy c.as_slice-octets.result.now c.in-Waits.wait = subst (WaitsSoon (g.K.Performer.hears c.args.performer.now) (g.K.Performer.task c.args.performer.now).judge c.args.policy c.as_slice-octets.result.now) c.in-Waits.is c.in_ok-turn.ensures.waits in
    let none = waits.alone c.if-wait.true in
    let holds = (waits.soon none).heard c.if-wait.true in
    subst (λ xs. length xs ≤ 65536) c.as_slice-octets.ensures (short_heard (short none) holds.1)

pub hear_item-requires-clause-begun : goal.hear_item-requires-clause-begun
hear_item-requires-clause-begun g c =
    let plan = plan_of (g.K.Performer.task c.args.performer.now) (g.K.Performer.texts c.args.performer.now) c.args.policy in
    let (awaits, still) = turns_wait plan c.may_go_on-more.result (skipping c.items.totals c.octets_before_mark-passed.result) (c.items.place + c.octets_before_mark-passed.result) c.as_slice-octets.result.now c.in_ok-turn.turn c.in-Waits.wait (outside (world (g.T.Sink.contents c.items.output) (g.H.Shelf.contents c.items.shelf)) (g.N.Sink.contents c.items.notes)) (outside (world (g.T.Sink.contents c.decide.new.output) (g.H.Shelf.contents c.decide.new.shelf)) (g.N.Sink.contents c.decide.new.notes)) c.in-Waits.is c.in_ok-turn.ensures.turns in
    let awaits_on : Awaits plan true (skipping c.items.totals c.octets_before_mark-passed.result) (c.items.place + c.octets_before_mark-passed.result) c.as_slice-octets.result.now c.in-Waits.wait.wanted = subst (λ m. Awaits plan m (skipping c.items.totals c.octets_before_mark-passed.result) (c.items.place + c.octets_before_mark-passed.result) c.as_slice-octets.result.now c.in-Waits.wait.wanted) c.if-not-more.false awaits in
    let waits : WaitsFor (g.K.Performer.hears c.args.performer.now) (g.K.Performer.task c.args.performer.now).judge c.args.policy c.as_slice-octets.result.now c.in-Waits.wait = subst (WaitsSoon (g.K.Performer.hears c.args.performer.now) (g.K.Performer.task c.args.performer.now).judge c.args.policy c.as_slice-octets.result.now) c.in-Waits.is c.in_ok-turn.ensures.waits in
    let none = waits.alone c.if-wait.true in
    let holds = (waits.soon none).heard c.if-wait.true in
    let begun : begins c.pass.new.self.octets ≡ true = subst (λ xs. begins xs ≡ true) c.as_slice-octets.ensures (awaits_begun plan true (skipping c.items.totals c.octets_before_mark-passed.result) (c.items.place + c.octets_before_mark-passed.result) c.as_slice-octets.result.now c.in-Waits.wait.wanted awaits_on holds.0) in
    begun

pub hear_item-requires-clause-fits : goal.hear_item-requires-clause-fits
hear_item-requires-clause-fits g c =
    let shown = going_shown c.octets_before_mark-passed.result c.as_slice.result.now c.pass.new.self.octets c.as_slice-octets.result.now c.items.invariant.going c.as_slice.ensures c.octets_before_mark-passed.ensures.unmarked c.pass.ensures.octets c.as_slice-octets.ensures in
    shown.so.fits

pub hear_item-requires-clause-within : goal.hear_item-requires-clause-within
hear_item-requires-clause-within g c =
    let shown = going_shown c.octets_before_mark-passed.result c.as_slice.result.now c.pass.new.self.octets c.as_slice-octets.result.now c.items.invariant.going c.as_slice.ensures c.octets_before_mark-passed.ensures.unmarked c.pass.ensures.octets c.as_slice-octets.ensures in
    let shown_size : length c.as_slice-octets.result.now ≡ length c.pass.new.self.octets = ap length c.as_slice-octets.ensures in
    omega (arith, shown.so.size, shown.counted, shown_size, c.requires.limit)

pub returns-in_err-gone-clause-reaches : goal.returns-in_err-gone-clause-reaches
returns-in_err-gone-clause-reaches g c =
    let plan = plan_of (g.K.Performer.task c.args.performer.now) (g.K.Performer.texts c.args.performer.now) c.args.policy in
    let lawful = g.met.K.Performer.lawful c.args.performer.now in
    let shown = going_shown c.octets_before_mark-passed.result c.as_slice.result.now c.pass.new.self.octets c.as_slice-octets.result.now c.items.invariant.going c.as_slice.ensures c.octets_before_mark-passed.ensures.unmarked c.pass.ensures.octets c.as_slice-octets.ensures in
    let goes : goes_on c.items.rest ≡ true = sym c.may_go_on-more.ensures ∙ c.if-not-more.false in
    let on = going_flag true shown (sym goes) in
    let (awaits, still) = turns_wait plan c.may_go_on-more.result (skipping c.items.totals c.octets_before_mark-passed.result) (c.items.place + c.octets_before_mark-passed.result) c.as_slice-octets.result.now c.in_ok-turn.turn c.in-Waits.wait (outside (world (g.T.Sink.contents c.items.output) (g.H.Shelf.contents c.items.shelf)) (g.N.Sink.contents c.items.notes)) (outside (world (g.T.Sink.contents c.decide.new.output) (g.H.Shelf.contents c.decide.new.shelf)) (g.N.Sink.contents c.decide.new.notes)) c.in-Waits.is c.in_ok-turn.ensures.turns in
    let awaits_on : Awaits plan true (skipping c.items.totals c.octets_before_mark-passed.result) (c.items.place + c.octets_before_mark-passed.result) c.as_slice-octets.result.now c.in-Waits.wait.wanted = subst (λ m. Awaits plan m (skipping c.items.totals c.octets_before_mark-passed.result) (c.items.place + c.octets_before_mark-passed.result) c.as_slice-octets.result.now c.in-Waits.wait.wanted) c.if-not-more.false awaits in
    let waits : WaitsFor (g.K.Performer.hears c.args.performer.now) (g.K.Performer.task c.args.performer.now).judge c.args.policy c.as_slice-octets.result.now c.in-Waits.wait = subst (WaitsSoon (g.K.Performer.hears c.args.performer.now) (g.K.Performer.task c.args.performer.now).judge c.args.policy c.as_slice-octets.result.now) c.in-Waits.is c.in_ok-turn.ensures.waits in
    let none = waits.alone c.if-wait.true in
    let holds = (waits.soon none).heard c.if-wait.true in
    let begun : begins c.pass.new.self.octets ≡ true = subst (λ xs. begins xs ≡ true) c.as_slice-octets.ensures (awaits_begun plan true (skipping c.items.totals c.octets_before_mark-passed.result) (c.items.place + c.octets_before_mark-passed.result) c.as_slice-octets.result.now c.in-Waits.wait.wanted awaits_on holds.0) in
    let passed = passed_whole (g.T.Sink.contents c.decide.new.output) (g.T.Sink.contents c.pass_on.new.sink) (g.H.Shelf.contents c.decide.new.shelf) (g.N.Sink.contents c.decide.new.notes) c.in_ok-pass_on.ensures.writes.whole in
    let still_now = done_then (outside (world (g.T.Sink.contents c.items.output) (g.H.Shelf.contents c.items.shelf)) (g.N.Sink.contents c.items.notes)) (outside (world (g.T.Sink.contents c.decide.new.output) (g.H.Shelf.contents c.decide.new.shelf)) (g.N.Sink.contents c.decide.new.notes)) (outside (world (g.T.Sink.contents c.pass_on.new.sink) (g.H.Shelf.contents c.decide.new.shelf)) (g.N.Sink.contents c.decide.new.notes)) no_deeds no_deeds still passed in
    let here = going_still (outside (world (g.T.Sink.contents c.pass_on.new.sink) (g.H.Shelf.contents c.decide.new.shelf)) (g.N.Sink.contents c.decide.new.notes)) c.pass.new.self.octets on c.as_slice-octets.ensures still_now in
    let outcome = c.in_err-gone.field-0.0 in
    let ensures = c.in_err-gone.ensures in
    let run = heard_ends lawful none (g.K.Performer.hears c.args.performer.now) (world (g.T.Sink.contents c.hear_item.new.output) (g.H.Shelf.contents c.decide.new.shelf)) c.hear_item.new.window.octets outcome here begun (ensures.hears (g.H.Shelf.contents c.decide.new.shelf)) in
    passed_on
    (λ result. Reaches plan c.args.limit result (g.S.Source.left c.args.input.now) (g.S.Source.left c.hear_item.new.input)
    (outside (world (g.T.Sink.contents c.args.output.now) (g.H.Shelf.contents c.args.shelf.now)) (g.N.Sink.contents c.args.notes.now))
    (outside (world (g.T.Sink.contents c.hear_item.new.output) (g.H.Shelf.contents c.decide.new.shelf)) (g.N.Sink.contents c.decide.new.notes)))
    c.from_residual-in_err-gone.result outcome c.from_residual-in_err-gone.ensures.1 run.runs

pub returns-in_err-gone-clause-before_end : goal.returns-in_err-gone-clause-before_end
returns-in_err-gone-clause-before_end g c =
    let plan = plan_of (g.K.Performer.task c.args.performer.now) (g.K.Performer.texts c.args.performer.now) c.args.policy in
    let lawful = g.met.K.Performer.lawful c.args.performer.now in
    let shown = going_shown c.octets_before_mark-passed.result c.as_slice.result.now c.pass.new.self.octets c.as_slice-octets.result.now c.items.invariant.going c.as_slice.ensures c.octets_before_mark-passed.ensures.unmarked c.pass.ensures.octets c.as_slice-octets.ensures in
    let goes : goes_on c.items.rest ≡ true = sym c.may_go_on-more.ensures ∙ c.if-not-more.false in
    let on = going_flag true shown (sym goes) in
    let (awaits, still) = turns_wait plan c.may_go_on-more.result (skipping c.items.totals c.octets_before_mark-passed.result) (c.items.place + c.octets_before_mark-passed.result) c.as_slice-octets.result.now c.in_ok-turn.turn c.in-Waits.wait (outside (world (g.T.Sink.contents c.items.output) (g.H.Shelf.contents c.items.shelf)) (g.N.Sink.contents c.items.notes)) (outside (world (g.T.Sink.contents c.decide.new.output) (g.H.Shelf.contents c.decide.new.shelf)) (g.N.Sink.contents c.decide.new.notes)) c.in-Waits.is c.in_ok-turn.ensures.turns in
    let awaits_on : Awaits plan true (skipping c.items.totals c.octets_before_mark-passed.result) (c.items.place + c.octets_before_mark-passed.result) c.as_slice-octets.result.now c.in-Waits.wait.wanted = subst (λ m. Awaits plan m (skipping c.items.totals c.octets_before_mark-passed.result) (c.items.place + c.octets_before_mark-passed.result) c.as_slice-octets.result.now c.in-Waits.wait.wanted) c.if-not-more.false awaits in
    let waits : WaitsFor (g.K.Performer.hears c.args.performer.now) (g.K.Performer.task c.args.performer.now).judge c.args.policy c.as_slice-octets.result.now c.in-Waits.wait = subst (WaitsSoon (g.K.Performer.hears c.args.performer.now) (g.K.Performer.task c.args.performer.now).judge c.args.policy c.as_slice-octets.result.now) c.in-Waits.is c.in_ok-turn.ensures.waits in
    let none = waits.alone c.if-wait.true in
    let holds = (waits.soon none).heard c.if-wait.true in
    let begun : begins c.pass.new.self.octets ≡ true = subst (λ xs. begins xs ≡ true) c.as_slice-octets.ensures (awaits_begun plan true (skipping c.items.totals c.octets_before_mark-passed.result) (c.items.place + c.octets_before_mark-passed.result) c.as_slice-octets.result.now c.in-Waits.wait.wanted awaits_on holds.0) in
    let passed = passed_whole (g.T.Sink.contents c.decide.new.output) (g.T.Sink.contents c.pass_on.new.sink) (g.H.Shelf.contents c.decide.new.shelf) (g.N.Sink.contents c.decide.new.notes) c.in_ok-pass_on.ensures.writes.whole in
    let still_now = done_then (outside (world (g.T.Sink.contents c.items.output) (g.H.Shelf.contents c.items.shelf)) (g.N.Sink.contents c.items.notes)) (outside (world (g.T.Sink.contents c.decide.new.output) (g.H.Shelf.contents c.decide.new.shelf)) (g.N.Sink.contents c.decide.new.notes)) (outside (world (g.T.Sink.contents c.pass_on.new.sink) (g.H.Shelf.contents c.decide.new.shelf)) (g.N.Sink.contents c.decide.new.notes)) no_deeds no_deeds still passed in
    let here = going_still (outside (world (g.T.Sink.contents c.pass_on.new.sink) (g.H.Shelf.contents c.decide.new.shelf)) (g.N.Sink.contents c.decide.new.notes)) c.pass.new.self.octets on c.as_slice-octets.ensures still_now in
    let outcome = c.in_err-gone.field-0.0 in
    let ensures = c.in_err-gone.ensures in
    let run = heard_ends lawful none (g.K.Performer.hears c.args.performer.now) (world (g.T.Sink.contents c.hear_item.new.output) (g.H.Shelf.contents c.decide.new.shelf)) c.hear_item.new.window.octets outcome here begun (ensures.hears (g.H.Shelf.contents c.decide.new.shelf)) in
    passed_on (λ result. IfErr result (λ o. is_whole o ≡ false)) c.from_residual-in_err-gone.result outcome c.from_residual-in_err-gone.ensures.1 run.before_end

pub returns-in_err-gone-clause-soon : goal.returns-in_err-gone-clause-soon
returns-in_err-gone-clause-soon g c =
    let plan = plan_of (g.K.Performer.task c.args.performer.now) (g.K.Performer.texts c.args.performer.now) c.args.policy in
    let lawful = g.met.K.Performer.lawful c.args.performer.now in
    let shown = going_shown c.octets_before_mark-passed.result c.as_slice.result.now c.pass.new.self.octets c.as_slice-octets.result.now c.items.invariant.going c.as_slice.ensures c.octets_before_mark-passed.ensures.unmarked c.pass.ensures.octets c.as_slice-octets.ensures in
    let goes : goes_on c.items.rest ≡ true = sym c.may_go_on-more.ensures ∙ c.if-not-more.false in
    let on = going_flag true shown (sym goes) in
    let (awaits, still) = turns_wait plan c.may_go_on-more.result (skipping c.items.totals c.octets_before_mark-passed.result) (c.items.place + c.octets_before_mark-passed.result) c.as_slice-octets.result.now c.in_ok-turn.turn c.in-Waits.wait (outside (world (g.T.Sink.contents c.items.output) (g.H.Shelf.contents c.items.shelf)) (g.N.Sink.contents c.items.notes)) (outside (world (g.T.Sink.contents c.decide.new.output) (g.H.Shelf.contents c.decide.new.shelf)) (g.N.Sink.contents c.decide.new.notes)) c.in-Waits.is c.in_ok-turn.ensures.turns in
    let awaits_on : Awaits plan true (skipping c.items.totals c.octets_before_mark-passed.result) (c.items.place + c.octets_before_mark-passed.result) c.as_slice-octets.result.now c.in-Waits.wait.wanted = subst (λ m. Awaits plan m (skipping c.items.totals c.octets_before_mark-passed.result) (c.items.place + c.octets_before_mark-passed.result) c.as_slice-octets.result.now c.in-Waits.wait.wanted) c.if-not-more.false awaits in
    let waits : WaitsFor (g.K.Performer.hears c.args.performer.now) (g.K.Performer.task c.args.performer.now).judge c.args.policy c.as_slice-octets.result.now c.in-Waits.wait = subst (WaitsSoon (g.K.Performer.hears c.args.performer.now) (g.K.Performer.task c.args.performer.now).judge c.args.policy c.as_slice-octets.result.now) c.in-Waits.is c.in_ok-turn.ensures.waits in
    let none = waits.alone c.if-wait.true in
    let holds = (waits.soon none).heard c.if-wait.true in
    let begun : begins c.pass.new.self.octets ≡ true = subst (λ xs. begins xs ≡ true) c.as_slice-octets.ensures (awaits_begun plan true (skipping c.items.totals c.octets_before_mark-passed.result) (c.items.place + c.octets_before_mark-passed.result) c.as_slice-octets.result.now c.in-Waits.wait.wanted awaits_on holds.0) in
    let passed = passed_whole (g.T.Sink.contents c.decide.new.output) (g.T.Sink.contents c.pass_on.new.sink) (g.H.Shelf.contents c.decide.new.shelf) (g.N.Sink.contents c.decide.new.notes) c.in_ok-pass_on.ensures.writes.whole in
    let still_now = done_then (outside (world (g.T.Sink.contents c.items.output) (g.H.Shelf.contents c.items.shelf)) (g.N.Sink.contents c.items.notes)) (outside (world (g.T.Sink.contents c.decide.new.output) (g.H.Shelf.contents c.decide.new.shelf)) (g.N.Sink.contents c.decide.new.notes)) (outside (world (g.T.Sink.contents c.pass_on.new.sink) (g.H.Shelf.contents c.decide.new.shelf)) (g.N.Sink.contents c.decide.new.notes)) no_deeds no_deeds still passed in
    let here = going_still (outside (world (g.T.Sink.contents c.pass_on.new.sink) (g.H.Shelf.contents c.decide.new.shelf)) (g.N.Sink.contents c.decide.new.notes)) c.pass.new.self.octets on c.as_slice-octets.ensures still_now in
    let outcome = c.in_err-gone.field-0.0 in
    let ensures = c.in_err-gone.ensures in
    let run = heard_ends lawful none (g.K.Performer.hears c.args.performer.now) (world (g.T.Sink.contents c.hear_item.new.output) (g.H.Shelf.contents c.decide.new.shelf)) c.hear_item.new.window.octets outcome here begun (ensures.hears (g.H.Shelf.contents c.decide.new.shelf)) in
    λ _.
    passed_on
    (λ result. RefusesSoon (g.K.Performer.hears c.args.performer.now) (g.K.Performer.task c.args.performer.now) (outcome_of result) (g.S.Source.left c.args.input.now) (g.S.Source.left c.hear_item.new.input))
    c.from_residual-in_err-gone.result outcome c.from_residual-in_err-gone.ensures.1 run.soon

pub returns-in_err-gone-clause-unshelved : goal.returns-in_err-gone-clause-unshelved
returns-in_err-gone-clause-unshelved g c =
    let outcome = c.in_err-gone.field-0.0 in
    let ensures = c.in_err-gone.ensures in
    λ unused. passed_on (λ result. outcome_of result ≢ ShelfFault) c.from_residual-in_err-gone.result outcome c.from_residual-in_err-gone.ensures.1 (λ e. ensures.not_shelf (ap Err e))

pub returns-in_err-gone-clause-counts : goal.returns-in_err-gone-clause-counts
returns-in_err-gone-clause-counts g c =
    let outcome = c.in_err-gone.field-0.0 in
    let ensures = c.in_err-gone.ensures in
    let turn = c.in_ok-turn.ensures in
    let unwritten = c.in_ok-pass_on.ensures.writes.calm (λ e. cc) ∙ (turn.output_calm (λ e. cc) ∙ c.items.invariant.output_calm) in
    let unnoted = turn.notes_calm (λ e. cc) ∙ c.items.invariant.notes_calm in
    passed_on
    (λ result. CountsOne (outcome_of result) (faults (g.S.Source.faults c.args.input.now) (g.T.Sink.faults c.args.output.now) (g.N.Sink.faults c.args.notes.now) (g.H.Shelf.faults c.args.shelf.now))
    (faults (g.S.Source.faults c.hear_item.new.input) (g.T.Sink.faults c.hear_item.new.output) (g.N.Sink.faults c.decide.new.notes) (g.H.Shelf.faults c.decide.new.shelf)))
    c.from_residual-in_err-gone.result outcome c.from_residual-in_err-gone.ensures.1
    record {
      read = λ e. subst (λ n. Counted n (g.S.Source.faults c.hear_item.new.input)) c.items.invariant.read_calm (ensures.read_fault (ap Err e));
      read_calm = λ other. ensures.read_calm (λ e. other cc) ∙ c.items.invariant.read_calm;
      write = λ e. inl (subst (λ n. Counted n (g.T.Sink.faults c.hear_item.new.output)) unwritten (ensures.write_fault (ap Err e)), unnoted);
      output_calm = λ other. ensures.write_calm (λ e. other cc) ∙ unwritten;
      notes_calm = λ other. unnoted;
      shelf = λ e. absurd (ensures.not_shelf (ap Err e));
      shelf_calm = λ other. turn.shelf_calm (λ e. cc) ∙ c.items.invariant.shelf_calm;
    }

pub overflow_add-place-then-wait : goal.overflow_add-place-then-wait
overflow_add-place-then-wait g c =
    let plan = plan_of (g.K.Performer.task c.args.performer.now) (g.K.Performer.texts c.args.performer.now) c.args.policy in
    let lawful = g.met.K.Performer.lawful c.args.performer.now in
    let shown = going_shown c.octets_before_mark-passed.result c.as_slice.result.now c.pass.new.self.octets c.as_slice-octets.result.now c.items.invariant.going c.as_slice.ensures c.octets_before_mark-passed.ensures.unmarked c.pass.ensures.octets c.as_slice-octets.ensures in
    let goes : goes_on c.items.rest ≡ true = sym c.may_go_on-more.ensures ∙ c.if-not-more.false in
    let on = going_flag true shown (sym goes) in
    let (awaits, still) = turns_wait plan c.may_go_on-more.result (skipping c.items.totals c.octets_before_mark-passed.result) (c.items.place + c.octets_before_mark-passed.result) c.as_slice-octets.result.now c.in_ok-turn.turn c.in-Waits.wait (outside (world (g.T.Sink.contents c.items.output) (g.H.Shelf.contents c.items.shelf)) (g.N.Sink.contents c.items.notes)) (outside (world (g.T.Sink.contents c.decide.new.output) (g.H.Shelf.contents c.decide.new.shelf)) (g.N.Sink.contents c.decide.new.notes)) c.in-Waits.is c.in_ok-turn.ensures.turns in
    let awaits_on : Awaits plan true (skipping c.items.totals c.octets_before_mark-passed.result) (c.items.place + c.octets_before_mark-passed.result) c.as_slice-octets.result.now c.in-Waits.wait.wanted = subst (λ m. Awaits plan m (skipping c.items.totals c.octets_before_mark-passed.result) (c.items.place + c.octets_before_mark-passed.result) c.as_slice-octets.result.now c.in-Waits.wait.wanted) c.if-not-more.false awaits in
    let waits : WaitsFor (g.K.Performer.hears c.args.performer.now) (g.K.Performer.task c.args.performer.now).judge c.args.policy c.as_slice-octets.result.now c.in-Waits.wait = subst (WaitsSoon (g.K.Performer.hears c.args.performer.now) (g.K.Performer.task c.args.performer.now).judge c.args.policy c.as_slice-octets.result.now) c.in-Waits.is c.in_ok-turn.ensures.waits in
    let none = waits.alone c.if-wait.true in
    let holds = (waits.soon none).heard c.if-wait.true in
    let begun : begins c.pass.new.self.octets ≡ true = subst (λ xs. begins xs ≡ true) c.as_slice-octets.ensures (awaits_begun plan true (skipping c.items.totals c.octets_before_mark-passed.result) (c.items.place + c.octets_before_mark-passed.result) c.as_slice-octets.result.now c.in-Waits.wait.wanted awaits_on holds.0) in
    let passed = passed_whole (g.T.Sink.contents c.decide.new.output) (g.T.Sink.contents c.pass_on.new.sink) (g.H.Shelf.contents c.decide.new.shelf) (g.N.Sink.contents c.decide.new.notes) c.in_ok-pass_on.ensures.writes.whole in
    let still_now = done_then (outside (world (g.T.Sink.contents c.items.output) (g.H.Shelf.contents c.items.shelf)) (g.N.Sink.contents c.items.notes)) (outside (world (g.T.Sink.contents c.decide.new.output) (g.H.Shelf.contents c.decide.new.shelf)) (g.N.Sink.contents c.decide.new.notes)) (outside (world (g.T.Sink.contents c.pass_on.new.sink) (g.H.Shelf.contents c.decide.new.shelf)) (g.N.Sink.contents c.decide.new.notes)) no_deeds no_deeds still passed in
    let here = going_still (outside (world (g.T.Sink.contents c.pass_on.new.sink) (g.H.Shelf.contents c.decide.new.shelf)) (g.N.Sink.contents c.decide.new.notes)) c.pass.new.self.octets on c.as_slice-octets.ensures still_now in
    let (message, octets, counts, heard) = c.in_ok-gone.ensures.hears (g.H.Shelf.contents c.decide.new.shelf) in
    let behind = heard_going lawful (world (g.T.Sink.contents c.hear_item.new.output) (g.H.Shelf.contents c.decide.new.shelf)) message here begun heard in
    omega (arith, octets, behind.so.size, behind.counted, c.requires.limit)

pub items-smaller-then-wait : goal.items-smaller-then-wait
items-smaller-then-wait g c =
    let lawful = g.met.K.Performer.lawful c.args.performer.now in
    let gone_past : length c.pass.new.self.octets ≡ length c.items.window.octets - c.octets_before_mark-passed.result = ap length c.pass.ensures.octets ∙ length-drop _ c.items.window.octets in
    let (message, octets, counts, heard) = c.in_ok-gone.ensures.hears (g.H.Shelf.contents c.decide.new.shelf) in
    let less = heard_less (g.K.Performer.task c.args.performer.now) _ message lawful heard in
    omega (arith, less, gone_past)

pub items-preserved-then-wait : goal.items-preserved-then-wait
items-preserved-then-wait g c =
    let plan = plan_of (g.K.Performer.task c.args.performer.now) (g.K.Performer.texts c.args.performer.now) c.args.policy in
    let lawful = g.met.K.Performer.lawful c.args.performer.now in
    let shown = going_shown c.octets_before_mark-passed.result c.as_slice.result.now c.pass.new.self.octets c.as_slice-octets.result.now c.items.invariant.going c.as_slice.ensures c.octets_before_mark-passed.ensures.unmarked c.pass.ensures.octets c.as_slice-octets.ensures in
    let goes : goes_on c.items.rest ≡ true = sym c.may_go_on-more.ensures ∙ c.if-not-more.false in
    let on = going_flag true shown (sym goes) in
    let (awaits, still) = turns_wait plan c.may_go_on-more.result (skipping c.items.totals c.octets_before_mark-passed.result) (c.items.place + c.octets_before_mark-passed.result) c.as_slice-octets.result.now c.in_ok-turn.turn c.in-Waits.wait (outside (world (g.T.Sink.contents c.items.output) (g.H.Shelf.contents c.items.shelf)) (g.N.Sink.contents c.items.notes)) (outside (world (g.T.Sink.contents c.decide.new.output) (g.H.Shelf.contents c.decide.new.shelf)) (g.N.Sink.contents c.decide.new.notes)) c.in-Waits.is c.in_ok-turn.ensures.turns in
    let awaits_on : Awaits plan true (skipping c.items.totals c.octets_before_mark-passed.result) (c.items.place + c.octets_before_mark-passed.result) c.as_slice-octets.result.now c.in-Waits.wait.wanted = subst (λ m. Awaits plan m (skipping c.items.totals c.octets_before_mark-passed.result) (c.items.place + c.octets_before_mark-passed.result) c.as_slice-octets.result.now c.in-Waits.wait.wanted) c.if-not-more.false awaits in
    let waits : WaitsFor (g.K.Performer.hears c.args.performer.now) (g.K.Performer.task c.args.performer.now).judge c.args.policy c.as_slice-octets.result.now c.in-Waits.wait = subst (WaitsSoon (g.K.Performer.hears c.args.performer.now) (g.K.Performer.task c.args.performer.now).judge c.args.policy c.as_slice-octets.result.now) c.in-Waits.is c.in_ok-turn.ensures.waits in
    let none = waits.alone c.if-wait.true in
    let holds = (waits.soon none).heard c.if-wait.true in
    let begun : begins c.pass.new.self.octets ≡ true = subst (λ xs. begins xs ≡ true) c.as_slice-octets.ensures (awaits_begun plan true (skipping c.items.totals c.octets_before_mark-passed.result) (c.items.place + c.octets_before_mark-passed.result) c.as_slice-octets.result.now c.in-Waits.wait.wanted awaits_on holds.0) in
    let passed = passed_whole (g.T.Sink.contents c.decide.new.output) (g.T.Sink.contents c.pass_on.new.sink) (g.H.Shelf.contents c.decide.new.shelf) (g.N.Sink.contents c.decide.new.notes) c.in_ok-pass_on.ensures.writes.whole in
    let still_now = done_then (outside (world (g.T.Sink.contents c.items.output) (g.H.Shelf.contents c.items.shelf)) (g.N.Sink.contents c.items.notes)) (outside (world (g.T.Sink.contents c.decide.new.output) (g.H.Shelf.contents c.decide.new.shelf)) (g.N.Sink.contents c.decide.new.notes)) (outside (world (g.T.Sink.contents c.pass_on.new.sink) (g.H.Shelf.contents c.decide.new.shelf)) (g.N.Sink.contents c.decide.new.notes)) no_deeds no_deeds still passed in
    let here = going_still (outside (world (g.T.Sink.contents c.pass_on.new.sink) (g.H.Shelf.contents c.decide.new.shelf)) (g.N.Sink.contents c.decide.new.notes)) c.pass.new.self.octets on c.as_slice-octets.ensures still_now in
    let (message, octets, counts, heard) = c.in_ok-gone.ensures.hears (g.H.Shelf.contents c.decide.new.shelf) in
    let behind = heard_going lawful (world (g.T.Sink.contents c.hear_item.new.output) (g.H.Shelf.contents c.decide.new.shelf)) message here begun heard in
    let turn = c.in_ok-turn.ensures in
    let ensures = c.in_ok-gone.ensures in
    record {
      going = going_flag (goes_on c.items.rest)
          (subst (λ n. Going plan c.args.limit c.hear_item.new.left true (g.S.Source.left c.args.input.now) (g.S.Source.left c.hear_item.new.input) (outside (world (g.T.Sink.contents c.args.output.now) (g.H.Shelf.contents c.args.shelf.now)) (g.N.Sink.contents c.args.notes.now)) (outside (world (g.T.Sink.contents c.hear_item.new.output) (g.H.Shelf.contents c.decide.new.shelf)) (g.N.Sink.contents c.decide.new.notes)) c.in_ok-gone.gone.totals ((c.items.place + c.octets_before_mark-passed.result) + n) c.hear_item.new.window.octets) (sym octets)
          (subst (λ t. Going plan c.args.limit c.hear_item.new.left true (g.S.Source.left c.args.input.now) (g.S.Source.left c.hear_item.new.input) (outside (world (g.T.Sink.contents c.args.output.now) (g.H.Shelf.contents c.args.shelf.now)) (g.N.Sink.contents c.args.notes.now)) (outside (world (g.T.Sink.contents c.hear_item.new.output) (g.H.Shelf.contents c.decide.new.shelf)) (g.N.Sink.contents c.decide.new.notes)) t ((c.items.place + c.octets_before_mark-passed.result) + message.octets) c.hear_item.new.window.octets) (sym counts) behind)) goes;
      short = λ _. inl ensures.short;
      stands = stands_heard c.items.rest _ _ _ _ goes c.items.invariant.stands (heard_left (g.K.Performer.task c.args.performer.now) _ message heard);
      read_calm = ensures.read_calm (λ e. cc) ∙ c.items.invariant.read_calm;
      output_calm = ensures.write_calm (λ e. cc) ∙ (c.in_ok-pass_on.ensures.writes.calm (λ e. cc) ∙ (turn.output_calm (λ e. cc) ∙ c.items.invariant.output_calm));
      notes_calm = turn.notes_calm (λ e. cc) ∙ c.items.invariant.notes_calm;
      unfinished = λ e. c.items.invariant.unfinished (turn.unfinished (c.in_ok-pass_on.ensures.unfinished (ensures.unfinished e)));
      notes_unfinished = λ e. c.items.invariant.notes_unfinished (turn.notes_unfinished e);
      shelf_calm = turn.shelf_calm (λ e. cc) ∙ c.items.invariant.shelf_calm;
      shelf = λ e. turn.shelf e ∙ c.items.invariant.shelf e;
    }

pub returns-in_err-rest-clause-reaches : goal.returns-in_err-rest-clause-reaches
returns-in_err-rest-clause-reaches g c =
    let plan = plan_of (g.K.Performer.task c.args.performer.now) (g.K.Performer.texts c.args.performer.now) c.args.policy in
    let lawful = g.met.K.Performer.lawful c.args.performer.now in
    let shown = going_shown c.octets_before_mark-passed.result c.as_slice.result.now c.pass.new.self.octets c.as_slice-octets.result.now c.items.invariant.going c.as_slice.ensures c.octets_before_mark-passed.ensures.unmarked c.pass.ensures.octets c.as_slice-octets.ensures in
    let goes : goes_on c.items.rest ≡ true = sym c.may_go_on-more.ensures ∙ c.if-not-more.false in
    let (awaits, still) = turns_wait plan c.may_go_on-more.result (skipping c.items.totals c.octets_before_mark-passed.result) (c.items.place + c.octets_before_mark-passed.result) c.as_slice-octets.result.now c.in_ok-turn.turn c.in-Waits.wait (outside (world (g.T.Sink.contents c.items.output) (g.H.Shelf.contents c.items.shelf)) (g.N.Sink.contents c.items.notes)) (outside (world (g.T.Sink.contents c.decide.new.output) (g.H.Shelf.contents c.decide.new.shelf)) (g.N.Sink.contents c.decide.new.notes)) c.in-Waits.is c.in_ok-turn.ensures.turns in
    let passed = passed_whole (g.T.Sink.contents c.decide.new.output) (g.T.Sink.contents c.pass_on.new.sink) (g.H.Shelf.contents c.decide.new.shelf) (g.N.Sink.contents c.decide.new.notes) c.in_ok-pass_on.ensures.writes.whole in
    let still_now = done_then (outside (world (g.T.Sink.contents c.items.output) (g.H.Shelf.contents c.items.shelf)) (g.N.Sink.contents c.items.notes)) (outside (world (g.T.Sink.contents c.decide.new.output) (g.H.Shelf.contents c.decide.new.shelf)) (g.N.Sink.contents c.decide.new.notes)) (outside (world (g.T.Sink.contents c.pass_on.new.sink) (g.H.Shelf.contents c.decide.new.shelf)) (g.N.Sink.contents c.decide.new.notes)) no_deeds no_deeds still passed in
    let here_waits = subst (λ m. Awaits plan m (skipping c.items.totals c.octets_before_mark-passed.result) (c.items.place + c.octets_before_mark-passed.result) c.as_slice-octets.result.now c.in-Waits.wait.wanted) c.may_go_on-more.ensures awaits in
    let outcome = c.in_err-rest.field-0.0 in
    passed_on
    (λ result. Reaches plan c.args.limit result (g.S.Source.left c.args.input.now) (g.S.Source.left c.advance.new.input)
    (outside (world (g.T.Sink.contents c.args.output.now) (g.H.Shelf.contents c.args.shelf.now)) (g.N.Sink.contents c.args.notes.now))
    (outside (world (g.T.Sink.contents c.pass_on.new.sink) (g.H.Shelf.contents c.decide.new.shelf)) (g.N.Sink.contents c.decide.new.notes)))
    c.from_residual-in_err-rest.result outcome c.from_residual-in_err-rest.ensures.1
    (advance_ends lawful c.advance.new.left c.advance.new.window.octets (outside (world (g.T.Sink.contents c.pass_on.new.sink) (g.H.Shelf.contents c.decide.new.shelf)) (g.N.Sink.contents c.decide.new.notes)) c.items.rest c.advance.result outcome c.in-Waits.wait.wanted _ _ shown goes c.items.invariant.stands c.as_slice-octets.ensures here_waits still_now
    c.advance.ensures.advances c.in_err-rest.was)

pub returns-in_err-rest-clause-before_end : goal.returns-in_err-rest-clause-before_end
returns-in_err-rest-clause-before_end g c =
    let outcome = c.in_err-rest.field-0.0 in
    let of = advance_of c.items.rest c.advance.result outcome _ _ _ _ _ _ _ _ _ c.advance.ensures.advances c.in_err-rest.was in
    passed_on (λ result. IfErr result (λ o. is_whole o ≡ false)) c.from_residual-in_err-rest.result outcome c.from_residual-in_err-rest.ensures.1 of.before_end

pub returns-in_err-rest-clause-soon : goal.returns-in_err-rest-clause-soon
returns-in_err-rest-clause-soon g c =
    let outcome = c.in_err-rest.field-0.0 in
    let of = advance_of c.items.rest c.advance.result outcome _ _ _ _ _ _ _ _ _ c.advance.ensures.advances c.in_err-rest.was in
    λ none.
    passed_on
    (λ result. RefusesSoon (g.K.Performer.hears c.args.performer.now) (g.K.Performer.task c.args.performer.now) (outcome_of result) (g.S.Source.left c.args.input.now) (g.S.Source.left c.advance.new.input))
    c.from_residual-in_err-rest.result outcome c.from_residual-in_err-rest.ensures.1 (soon_otherwise (g.K.Performer.task c.args.performer.now) (g.K.Performer.hears c.args.performer.now) outcome _ _ of.not_refused)

pub returns-in_err-rest-clause-unshelved : goal.returns-in_err-rest-clause-unshelved
returns-in_err-rest-clause-unshelved g c =
    let outcome = c.in_err-rest.field-0.0 in
    let of = advance_of c.items.rest c.advance.result outcome _ _ _ _ _ _ _ _ _ c.advance.ensures.advances c.in_err-rest.was in
    λ unused. passed_on (λ result. outcome_of result ≢ ShelfFault) c.from_residual-in_err-rest.result outcome c.from_residual-in_err-rest.ensures.1 of.not_shelf

pub returns-in_err-rest-clause-counts : goal.returns-in_err-rest-clause-counts
returns-in_err-rest-clause-counts g c =
    let outcome = c.in_err-rest.field-0.0 in
    let of = advance_of c.items.rest c.advance.result outcome _ _ _ _ _ _ _ _ _ c.advance.ensures.advances c.in_err-rest.was in
    let turn = c.in_ok-turn.ensures in
    let unwritten = c.in_ok-pass_on.ensures.writes.calm (λ e. cc) ∙ (turn.output_calm (λ e. cc) ∙ c.items.invariant.output_calm) in
    passed_on
    (λ result. CountsOne (outcome_of result) (faults (g.S.Source.faults c.args.input.now) (g.T.Sink.faults c.args.output.now) (g.N.Sink.faults c.args.notes.now) (g.H.Shelf.faults c.args.shelf.now))
    (faults (g.S.Source.faults c.advance.new.input) (g.T.Sink.faults c.pass_on.new.sink) (g.N.Sink.faults c.decide.new.notes) (g.H.Shelf.faults c.decide.new.shelf)))
    c.from_residual-in_err-rest.result outcome c.from_residual-in_err-rest.ensures.1
    record {
      read = λ e. subst (λ n. Counted n (g.S.Source.faults c.advance.new.input)) c.items.invariant.read_calm (of.counted e);
      read_calm = λ other. of.calm other ∙ c.items.invariant.read_calm;
      write = λ e. absurd (of.not_write e);
      output_calm = λ other. unwritten;
      notes_calm = λ other. turn.notes_calm (λ e. cc) ∙ c.items.invariant.notes_calm;
      shelf = λ e. absurd (of.not_shelf e);
      shelf_calm = λ other. turn.shelf_calm (λ e. cc) ∙ c.items.invariant.shelf_calm;
    }

pub items-smaller : goal.items-smaller
items-smaller g c =
    let plan = plan_of (g.K.Performer.task c.args.performer.now) (g.K.Performer.texts c.args.performer.now) c.args.policy in
    let shown = going_shown c.octets_before_mark-passed.result c.as_slice.result.now c.pass.new.self.octets c.as_slice-octets.result.now c.items.invariant.going c.as_slice.ensures c.octets_before_mark-passed.ensures.unmarked c.pass.ensures.octets c.as_slice-octets.ensures in
    let goes : goes_on c.items.rest ≡ true = sym c.may_go_on-more.ensures ∙ c.if-not-more.false in
    let (awaits, still) = turns_wait plan c.may_go_on-more.result (skipping c.items.totals c.octets_before_mark-passed.result) (c.items.place + c.octets_before_mark-passed.result) c.as_slice-octets.result.now c.in_ok-turn.turn c.in-Waits.wait (outside (world (g.T.Sink.contents c.items.output) (g.H.Shelf.contents c.items.shelf)) (g.N.Sink.contents c.items.notes)) (outside (world (g.T.Sink.contents c.decide.new.output) (g.H.Shelf.contents c.decide.new.shelf)) (g.N.Sink.contents c.decide.new.notes)) c.in-Waits.is c.in_ok-turn.ensures.turns in
    let passed = passed_whole (g.T.Sink.contents c.decide.new.output) (g.T.Sink.contents c.pass_on.new.sink) (g.H.Shelf.contents c.decide.new.shelf) (g.N.Sink.contents c.decide.new.notes) c.in_ok-pass_on.ensures.writes.whole in
    let still_now = done_then (outside (world (g.T.Sink.contents c.items.output) (g.H.Shelf.contents c.items.shelf)) (g.N.Sink.contents c.items.notes)) (outside (world (g.T.Sink.contents c.decide.new.output) (g.H.Shelf.contents c.decide.new.shelf)) (g.N.Sink.contents c.decide.new.notes)) (outside (world (g.T.Sink.contents c.pass_on.new.sink) (g.H.Shelf.contents c.decide.new.shelf)) (g.N.Sink.contents c.decide.new.notes)) no_deeds no_deeds still passed in
    let shown_size : length c.as_slice-octets.result.now ≡ length c.pass.new.self.octets = ap length c.as_slice-octets.ensures in
    let gone_past : length c.pass.new.self.octets ≡ length c.items.window.octets - c.octets_before_mark-passed.result = ap length c.pass.ensures.octets ∙ length-drop _ c.items.window.octets in
    let next = advance_on (outside (world (g.T.Sink.contents c.pass_on.new.sink) (g.H.Shelf.contents c.decide.new.shelf)) (g.N.Sink.contents c.decide.new.notes)) c.items.rest c.in_ok-rest.rest c.advance.result c.in-Waits.wait.wanted (g.S.Source.faults c.items.input) (g.S.Source.faults c.advance.new.input) shown goes c.as_slice-octets.ensures (omega (arith, shown_size, awaits.fewer)) still_now c.advance.ensures.advances
    c.in_ok-rest.was in
    omega (arith, next.less, gone_past)

pub items-preserved : goal.items-preserved
items-preserved g c =
    let plan = plan_of (g.K.Performer.task c.args.performer.now) (g.K.Performer.texts c.args.performer.now) c.args.policy in
    let lawful = g.met.K.Performer.lawful c.args.performer.now in
    let shown = going_shown c.octets_before_mark-passed.result c.as_slice.result.now c.pass.new.self.octets c.as_slice-octets.result.now c.items.invariant.going c.as_slice.ensures c.octets_before_mark-passed.ensures.unmarked c.pass.ensures.octets c.as_slice-octets.ensures in
    let goes : goes_on c.items.rest ≡ true = sym c.may_go_on-more.ensures ∙ c.if-not-more.false in
    let (awaits, still) = turns_wait plan c.may_go_on-more.result (skipping c.items.totals c.octets_before_mark-passed.result) (c.items.place + c.octets_before_mark-passed.result) c.as_slice-octets.result.now c.in_ok-turn.turn c.in-Waits.wait (outside (world (g.T.Sink.contents c.items.output) (g.H.Shelf.contents c.items.shelf)) (g.N.Sink.contents c.items.notes)) (outside (world (g.T.Sink.contents c.decide.new.output) (g.H.Shelf.contents c.decide.new.shelf)) (g.N.Sink.contents c.decide.new.notes)) c.in-Waits.is c.in_ok-turn.ensures.turns in
    let awaits_on : Awaits plan true (skipping c.items.totals c.octets_before_mark-passed.result) (c.items.place + c.octets_before_mark-passed.result) c.as_slice-octets.result.now c.in-Waits.wait.wanted = subst (λ m. Awaits plan m (skipping c.items.totals c.octets_before_mark-passed.result) (c.items.place + c.octets_before_mark-passed.result) c.as_slice-octets.result.now c.in-Waits.wait.wanted) c.if-not-more.false awaits in
    let waits : WaitsFor (g.K.Performer.hears c.args.performer.now) (g.K.Performer.task c.args.performer.now).judge c.args.policy c.as_slice-octets.result.now c.in-Waits.wait = subst (WaitsSoon (g.K.Performer.hears c.args.performer.now) (g.K.Performer.task c.args.performer.now).judge c.args.policy c.as_slice-octets.result.now) c.in-Waits.is c.in_ok-turn.ensures.waits in
    let passed = passed_whole (g.T.Sink.contents c.decide.new.output) (g.T.Sink.contents c.pass_on.new.sink) (g.H.Shelf.contents c.decide.new.shelf) (g.N.Sink.contents c.decide.new.notes) c.in_ok-pass_on.ensures.writes.whole in
    let still_now = done_then (outside (world (g.T.Sink.contents c.items.output) (g.H.Shelf.contents c.items.shelf)) (g.N.Sink.contents c.items.notes)) (outside (world (g.T.Sink.contents c.decide.new.output) (g.H.Shelf.contents c.decide.new.shelf)) (g.N.Sink.contents c.decide.new.notes)) (outside (world (g.T.Sink.contents c.pass_on.new.sink) (g.H.Shelf.contents c.decide.new.shelf)) (g.N.Sink.contents c.decide.new.notes)) no_deeds no_deeds still passed in
    let shown_size : length c.as_slice-octets.result.now ≡ length c.pass.new.self.octets = ap length c.as_slice-octets.ensures in
    let next = advance_on (outside (world (g.T.Sink.contents c.pass_on.new.sink) (g.H.Shelf.contents c.decide.new.shelf)) (g.N.Sink.contents c.decide.new.notes)) c.items.rest c.in_ok-rest.rest c.advance.result c.in-Waits.wait.wanted (g.S.Source.faults c.items.input) (g.S.Source.faults c.advance.new.input) shown goes c.as_slice-octets.ensures (omega (arith, shown_size, awaits.fewer)) still_now c.advance.ensures.advances
    c.in_ok-rest.was in
    let turn = c.in_ok-turn.ensures in
    record {
      going = next.going;
      short = λ none.
          short_read lawful (g.K.Performer.hears c.args.performer.now) (skipping c.items.totals c.octets_before_mark-passed.result) (c.items.place + c.octets_before_mark-passed.result) c.as_slice-octets.result.now c.in-Waits.wait none awaits_on waits c.if-wait.false c.as_slice-octets.ensures
          (read_behind c.items.rest c.advance.result _ _ _ _ _ _ _ _ _ c.advance.ensures.advances) c.advance.ensures.short;
      stands = next.stands;
      read_calm = next.calm ∙ c.items.invariant.read_calm;
      output_calm = c.in_ok-pass_on.ensures.writes.calm (λ e. cc) ∙ (turn.output_calm (λ e. cc) ∙ c.items.invariant.output_calm);
      notes_calm = turn.notes_calm (λ e. cc) ∙ c.items.invariant.notes_calm;
      unfinished = λ e. c.items.invariant.unfinished (turn.unfinished (c.in_ok-pass_on.ensures.unfinished e));
      notes_unfinished = λ e. c.items.invariant.notes_unfinished (turn.notes_unfinished e);
      shelf_calm = turn.shelf_calm (λ e. cc) ∙ c.items.invariant.shelf_calm;
      shelf = λ e. turn.shelf e ∙ c.items.invariant.shelf e;
    }
