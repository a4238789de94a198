use Rattle.grib_packing.specs.declared.column.Point.{Point}
use Rattle.std.proofs.Common.{ℕ, ◌∷◌, [], ◌≡◌, Bool, List, map, get_or, cond, subst, arith}
use Rattle.std.proofs.lemmas.List.{take_all}
use Rattle.grib_coding.specs.Mapped.{mapped}
use Rattle.grib_coding.specs.Coding.{greatest}
use Rattle.grib_coding.specs.Numbers.{Code}
use Rattle.grib_block_reading.specs.Kept.{IsKept}
use Rattle.grib_block_reading.proofs.Keeping.{kept_none, codes_next}
use Rattle.grib_block_reading.proofs.numbers.keep_codes.Goals as goal

pub loop-code-init : goal.loop-code-init
loop-code-init g c = record {
  last = c.requires.last;
  kept = λ place none. kept_none g.K.Keeper.kept g.met.K.Keeper.none c.args.coding place c.args.kept.last c.args.kept.keeper c.requires.last;
}

pub loop-code-preserved : goal.loop-code-preserved
loop-code-preserved g c = let number = c.number_of-last.result in record {
  last = omega (arith, c.number_of-last.ensures.within, c.greatest-most.ensures);
  kept = λ place none. codes_next g.K.Keeper.kept g.met.K.Keeper.more c.args.coding place c.args.kept.last c.loop-code.last c.number_of-last.result c.loop-code.code-index c.args.codes.now
      c.args.kept.keeper c.loop-code.keeper c.keep-keeper.result (c.loop-code.invariant.kept place none) c.loop-code-test.true (none c.loop-code.code-index c.loop-code-test.true)
      (subst (λ (b : Bool). cond b (mapped (greatest c.args.coding) c.loop-code.last number) number ≡ get_or c.args.codes.now c.loop-code.code-index 0) c.is_mapped-is_mapped.ensures
      (subst (λ (most : ℕ). cond c.is_mapped-is_mapped.result (mapped most c.loop-code.last number) number ≡ get_or c.args.codes.now c.loop-code.code-index 0) c.greatest-most.ensures
      c.number_of-last.ensures.is))
      (omega (arith, c.number_of-last.ensures.within, c.greatest-most.ensures))
      (subst (λ (p : Point). g.K.Keeper.kept c.loop-code.keeper (p ∷ []) c.keep-keeper.result) c.point.ensures c.keep-keeper.ensures);
}

pub returns : goal.returns
returns g c place none =
    subst (λ (codes : List ℕ). IsKept g.K.Keeper.kept c.args.coding place c.args.kept.last (map Code codes) c.args.kept.keeper c.loop-code.last c.loop-code.keeper)
    (take_all c.loop-code.code-index c.args.codes.now c.loop-code-test.false) (c.loop-code.invariant.kept place none)
