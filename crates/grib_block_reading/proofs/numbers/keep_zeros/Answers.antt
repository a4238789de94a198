use Rattle.grib_packing.specs.declared.column.Point.{Point}
use Rattle.std.proofs.Common.{ℕ, ◌∷◌, [], ◌≡◌, refl, replicate, subst, arith}
use Rattle.grib_coding.specs.Numbers.{Code}
use Rattle.grib_block_reading.specs.Kept.{IsKept}
use Rattle.grib_block_reading.proofs.Keeping.{kept_none, zeros_next}
use Rattle.grib_block_reading.proofs.numbers.keep_zeros.Goals as goal

pub loop-index-init : goal.loop-index-init
loop-index-init g c = record {
  same = c.number_of_zero-number.ensures.differences;
  kept = λ place none. kept_none g.K.Keeper.kept g.met.K.Keeper.none c.args.coding place c.args.kept.last c.args.kept.keeper c.requires;
}

pub loop-index-preserved : goal.loop-index-preserved
loop-index-preserved g c = record {
  same = λ mapped. refl;
  kept = λ place none. zeros_next g.K.Keeper.kept g.met.K.Keeper.more c.args.coding place c.args.kept.last c.loop-index.last c.number_of_zero-number.result c.loop-index._index
      c.args.kept.keeper c.loop-index.keeper c.keep-keeper.result (c.loop-index.invariant.kept place none) (none c.loop-index._index c.loop-index-test.true)
      c.loop-index.invariant.same c.number_of_zero-number.ensures.numbers
      (subst (λ (p : Point). g.K.Keeper.kept c.loop-index.keeper (p ∷ []) c.keep-keeper.result) c.point.ensures c.keep-keeper.ensures);
}

pub returns : goal.returns
returns g c place none =
    let all : c.loop-index._index ≡ c.args.count = omega arith in
    subst (λ (n : ℕ). IsKept g.K.Keeper.kept c.args.coding place c.args.kept.last (replicate n (Code 0)) c.args.kept.keeper c.loop-index.last c.loop-index.keeper)
    all (c.loop-index.invariant.kept place none)
