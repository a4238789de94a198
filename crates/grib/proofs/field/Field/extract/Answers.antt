use Rattle.std.proofs.Common.{sym, ◌∙◌}
use Rattle.grib.proofs.Held.{second_last}
use Rattle.grib.proofs.field.Field.extract.Goals as goal

pub single-requires-clause-last : goal.single-requires-clause-last
single-requires-clause-last c = second_last _ _ _ (sym c.held.ensures.held ∙ c.in-Two.is) c.args.self.now.last
