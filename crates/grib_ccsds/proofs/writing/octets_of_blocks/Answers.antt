use Rattle.std.proofs.Common.{arith}
use Rattle.grib_ccsds.proofs.Bounded.{written_few}
use Rattle.grib_ccsds.proofs.writing.octets_of_blocks.Goals as goal

pub overflow_cast-result : goal.overflow_cast-result
overflow_cast-result c =
    let few = written_few c.args.coding.now c.args.numbers.now (c.requires.fits (omega (arith, c.if-coding-eq0.false))) c.requires.few in
    record { fits = omega (arith, few, c.bits_of_blocks.ensures, c.div_ceil.ensures) }

pub overflow_add-result : goal.overflow_add-result
overflow_add-result c =
    let few = written_few c.args.coding.now c.args.numbers.now (c.requires.fits (omega (arith, c.if-coding-eq0.false))) c.requires.few in
    record { fits = omega (arith, few, c.bits_of_blocks.ensures, c.div_ceil.ensures) }
