use Rattle.std.proofs.Common.{sym, ◌∙◌}
use Rattle.grib.proofs.Held.{second_last}
use Rattle.grib.proofs.field.Field.get.Goals as goal

pub key_value-requires-clause-last : goal.key_value-requires-clause-last
key_value-requires-clause-last c = second_last _ _ _ (sym c.held.ensures.held ∙ c.in-Two.is) c.args.self.now.last
