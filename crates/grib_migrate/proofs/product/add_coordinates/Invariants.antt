use Rattle.std.proofs.Common.{◌≡◌}
use Rattle.grib_migrate.proofs.Products.{IsAtPlace}
use Rattle.grib_migrate.proofs.product.add_coordinates.Given as goal

abbrev pub invariant-loop-word : goal.invariant-loop-word
invariant-loop-word l = (l.place ≡ l.word-index) × IsAtPlace l.coordinates l.word-index l.initial.out.items l.out.items
