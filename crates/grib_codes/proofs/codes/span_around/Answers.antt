use Rattle.std.proofs.Common.{[], ◌∷◌}
use Rattle.grib_base.specs.declared.code.Code.TheVariants.{Present, Primary}
use Rattle.grib_codes.proofs.codes.span_around.Goals as goal

pub returns-clause-span : goal.returns-clause-span
returns-clause-span c =
    c.with-3.ensures.span (Present c.args.least ∷ Primary ∷ []) (c.with-2.ensures.span (Primary ∷ []) (c.with.ensures.span [] c.none.ensures))
