use Rattle.std.proofs.Common.{◌∙◌, sym, ap, refl, arith, []}
use Rattle.std.proofs.KnownBytes.{Appends-nil}
use Rattle.grib_stream.specs.Acts.{world}
use Rattle.grib_stream.specs.Outcomes.{is_cut_within}
use Rattle.grib_items.specs.Deeds.{deeds, outside}
use Rattle.grib_items.specs.Steps.{plan_of, Goes}
use Rattle.grib_items.proofs.Decided.{step_whole, turns_after, ends_step}
use Rattle.grib_items.proofs.deciding.decide.Goals as goal

pub returns-in-Whole-clause-turns : goal.returns-in-Whole-clause-turns
returns-in-Whole-clause-turns g c =
    let plan = plan_of (g.K.Performer.task c.args.performer.now) (g.K.Performer.texts c.args.performer.now) c.args.policy in
    let (acts, is, did) = c.in-Whole.ensures.performs in (
      c.requires.begun (omega arith),
      (
        deeds acts [],
        step_whole plan c.args.more c.args.totals.now c.args.place c.args.octets.now _ _ _ acts is ∙ ap (Goes c.in-Whole.message.octets (deeds acts [])) (sym c.one_answered.ensures),
        record { did = did; noted = Appends-nil _ },
      ),
    )

pub returns-in-Refused-clause-turns : goal.returns-in-Refused-clause-turns
returns-in-Refused-clause-turns g c =
    let plan = plan_of (g.K.Performer.task c.args.performer.now) (g.K.Performer.texts c.args.performer.now) c.args.policy in
    let names = g.H.Shelf.contents c.perform.new.shelf in
    turns_after plan c.args.more c.args.totals.now c.args.place c.args.octets.now c.refuse.result
    (outside (world (g.T.Sink.contents c.args.output.now) (g.H.Shelf.contents c.args.shelf.now)) (g.N.Sink.contents c.args.notes.now))
    (outside (world (g.T.Sink.contents c.perform.new.output) names) (g.N.Sink.contents c.args.notes.now)) (outside (world (g.T.Sink.contents c.refuse.new.output) names) (g.N.Sink.contents c.refuse.new.notes))
    record { did = c.in-Refused.ensures.performs.1; noted = Appends-nil _ } (c.refuse.ensures.turns names)

pub returns-in-Some-clause-turns : goal.returns-in-Some-clause-turns
returns-in-Some-clause-turns g c =
    let plan = plan_of (g.K.Performer.task c.args.performer.now) (g.K.Performer.texts c.args.performer.now) c.args.policy in
    let names = g.H.Shelf.contents c.perform.new.shelf in
    let whole = ap is_cut_within c.in-Some.ensures.some.1 in
    turns_after plan c.args.more c.args.totals.now c.args.place c.args.octets.now c.keep.result
    (outside (world (g.T.Sink.contents c.args.output.now) (g.H.Shelf.contents c.args.shelf.now)) (g.N.Sink.contents c.args.notes.now))
    (outside (world (g.T.Sink.contents c.perform.new.output) names) (g.N.Sink.contents c.args.notes.now)) (outside (world (g.T.Sink.contents c.keep.new.output) names) (g.N.Sink.contents c.keep.new.notes))
    record { did = (c.in-Ends.ensures.performs.stopped whole).1; noted = Appends-nil _ } (c.keep.ensures.turns names)

pub returns-in-None-clause-turns : goal.returns-in-None-clause-turns
returns-in-None-clause-turns g c =
    let plan = plan_of (g.K.Performer.task c.args.performer.now) (g.K.Performer.texts c.args.performer.now) c.args.policy in (
      c.requires.begun (omega arith),
      ends_step plan c.args.more c.args.totals.now c.args.place c.args.octets.now c.in-Ends.outcome _ _ (g.N.Sink.contents c.args.notes.now) c.in-Ends.ensures.performs (c.in-None.ensures.none refl),
    )
