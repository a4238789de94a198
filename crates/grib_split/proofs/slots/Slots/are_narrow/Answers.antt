use Rattle.std.proofs.Common.{arith}
use Rattle.std.proofs.lemmas.Bool.{ltb-true}
use Rattle.grib_split.proofs.Parts.{narrow_all}
use Rattle.grib_split.proofs.slots.Slots.are_narrow.Goals as goal

pub returns-then-reserved-eq0-clause-narrow : goal.returns-then-reserved-eq0-clause-narrow
returns-then-reserved-eq0-clause-narrow c narrow place within =
    narrow_all c.args.self.now c.args.number c.args.start c.requires.start c.requires.nested
    (omega (arith, ltb-true c.max-greatest.result 65536 narrow, c.max-greatest.ensures)) place within
