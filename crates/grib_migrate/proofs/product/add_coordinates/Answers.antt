use Rattle.std.proofs.Common.{◌∙◌, sym, refl, arith}
use Rattle.grib_migrate.proofs.Products.{place_next}
use Rattle.grib_migrate.proofs.product.add_coordinates.Goals as goal

pub loop-word-preserved : goal.loop-word-preserved
loop-word-preserved c = (
  omega arith,
  place_next c.args.coordinates.now c.loop-word.word-index _ c.in-Some.new c.args.out.now.items _ _ c.loop-word.invariant.1 (omega arith) refl
      (sym c.binary32_of.ensures ∙ c.in-Some.is)
      c.in_ok-add_numbers.ensures,
)
