use Rattle.std.proofs.Common.{sym, ◌∙◌}
use Rattle.grib.proofs.Held.{second_last}
use Rattle.grib.proofs.field.Field.product.Goals as goal

pub product-requires-clause-last : goal.product-requires-clause-last
product-requires-clause-last c = second_last _ _ _ (sym c.held.ensures.held ∙ c.in-Two.is) c.args.self.now.last
