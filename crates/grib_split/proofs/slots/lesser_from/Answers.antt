use Rattle.grib_split.proofs.Lanes.{lesser_here, lesser_others}
use Rattle.grib_split.proofs.slots.lesser_from.Goals as goal

pub returns-clause-here : goal.returns-clause-here
returns-clause-here c place from to = lesser_here c.args.numbers.now c.args.number c.args.from place c.requires from to

pub returns-clause-others : goal.returns-clause-others
returns-clause-others c place out = lesser_others c.args.numbers.now c.args.number c.args.from place c.requires out
