use Rattle.std.proofs.Common.{arith, None}
use Rattle.grib_items.specs.Laws.{nothing}
use Rattle.grib_items.specs.Steps.{plan_of}
use Rattle.grib_items.proofs.Heard.{heard_small}
use Rattle.grib_items.proofs.hearing.hear_item.Goals as goal

pub one_answered-requires-clause-fields : goal.one_answered-requires-clause-fields
one_answered-requires-clause-fields g c =
    let plan = plan_of (g.K.Performer.task c.args.performer.now) (g.K.Performer.texts c.args.performer.now) nothing in
    omega (arith, (heard_small plan (g.met.K.Performer.lawful c.args.performer.now) c.args.totals.now c.args.place c.in_ok-message.message c.requires.fits c.requires.begun c.requires.within (c.in_ok-message.ensures.answers None)).fields)

pub one_answered-requires-clause-written : goal.one_answered-requires-clause-written
one_answered-requires-clause-written g c =
    let plan = plan_of (g.K.Performer.task c.args.performer.now) (g.K.Performer.texts c.args.performer.now) nothing in
    omega (arith, (heard_small plan (g.met.K.Performer.lawful c.args.performer.now) c.args.totals.now c.args.place c.in_ok-message.message c.requires.fits c.requires.begun c.requires.within (c.in_ok-message.ensures.answers None)).written)
