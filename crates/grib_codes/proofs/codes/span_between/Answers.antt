use Rattle.std.proofs.Common.{[], ◌∷◌}
use Rattle.grib_base.specs.declared.code.Code.TheVariants.{Present}
use Rattle.grib_codes.proofs.codes.span_between.Goals as goal

pub returns-clause-span : goal.returns-clause-span
returns-clause-span c = c.with-2.ensures.span (Present c.args.least ∷ []) (c.with.ensures.span [] c.none.ensures)
