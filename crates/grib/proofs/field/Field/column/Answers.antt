use Rattle.std.proofs.Common.{sym, ◌∙◌}
use Rattle.grib.proofs.Held.{second_last, second_accepted}
use Rattle.grib.proofs.field.Field.column.Goals as goal

pub second_column-requires-clause-accepted : goal.second_column-requires-clause-accepted
second_column-requires-clause-accepted c = second_accepted _ _ (sym c.held.ensures.held ∙ c.in-Two.is) c.held.ensures.accepted

pub second_column-requires-clause-last : goal.second_column-requires-clause-last
second_column-requires-clause-last c = second_last _ _ _ (sym c.held.ensures.held ∙ c.in-Two.is) c.args.self.now.last
