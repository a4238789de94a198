use Rattle.std.proofs.Common.{arith}
use Rattle.grib_block_writing.proofs.Lengths.{length-reference}
use Rattle.grib_block_writing.proofs.sizes.head_size.Goals as goal

pub returns-in-Some-clause-is : goal.returns-in-Some-clause-is
returns-in-Some-clause-is c =
    omega (arith, length-reference c.args.coding.now c.args.reference _ c.in-Some.is, c.from.ensures, c.from-width.ensures, c.identifier_width.ensures.is)
