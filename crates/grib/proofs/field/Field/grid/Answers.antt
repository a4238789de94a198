use Rattle.std.proofs.Common.{sym, ◌∙◌}
use Rattle.grib.proofs.Held.{second_last}
use Rattle.grib.proofs.field.Field.grid.Goals as goal

pub grid-requires-clause-last : goal.grid-requires-clause-last
grid-requires-clause-last c = second_last _ _ _ (sym c.held.ensures.held ∙ c.in-Two.is) c.args.self.now.last
