-- A word has 32 bits.
use Rattle.std.proofs.Common.{arith}
use Rattle.grib2_products.proofs.writing.write_coordinates.Goals as goal

pub write_list-requires-clause-fit : goal.write_list-requires-clause-fit
write_list-requires-clause-fit c = λ k below. let word = c.type_inv.words k in omega (arith, word.fits)

pub returns-clause-fit : goal.returns-clause-fit
returns-clause-fit c = λ k below. let word = c.type_inv.words k in omega (arith, word.fits)
