use Rattle.std.proofs.Common.{◌∷◌, [], subst}
use Rattle.grib_packing.specs.declared.column.Point.{Point}
use Rattle.grib_block_reading.proofs.Keeping.{kept_reference}
use Rattle.grib_block_reading.proofs.numbers.keep_reference.Goals as goal

pub returns-clause-kept : goal.returns-clause-kept
returns-clause-kept g c place stands =
    kept_reference g.K.Keeper.kept c.args.coding place _ _ _ _ _ c.in-Some.is stands
    (subst (λ (p : Point). g.K.Keeper.kept c.args.kept.keeper (p ∷ []) c.keep.result) c.point.ensures c.keep.ensures)
