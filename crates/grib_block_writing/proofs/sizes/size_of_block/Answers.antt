use Rattle.std.proofs.Common.{sym, ◌∙◌, ap₂, ◌+◌, arith}
use Rattle.grib_block_writing.specs.Steps.{block_at}
use Rattle.grib_block_writing.proofs.Zeros.{fits_block}
use Rattle.grib_block_writing.proofs.Read.{length-block}
use Rattle.grib_block_writing.proofs.Options.{skip_is}
use Rattle.grib_block_writing.proofs.Lengths.{length-chosen, chosen_few, skip_few}
use Rattle.grib_block_writing.proofs.sizes.size_of_block.Goals as goal

pub fewest_bits-requires-clause-skip : goal.fewest_bits-requires-clause-skip
fewest_bits-requires-clause-skip c =
    omega (arith, skip_is c.args.reference _ _ c.from-skip.ensures c.is_some.ensures, skip_few c.args.reference)

pub overflow_add-result : goal.overflow_add-result
overflow_add-result c =
    let few = chosen_few c.args.coding.now c.from-skip.result c.fill_codes.new.codes ((fits_block _ c.requires.fits).1) c.requires.fits.most_bits in
    record { fits = omega (arith, few, c.fewest_bits.ensures, c.head_size.ensures.small) }

pub returns-clause-is : goal.returns-clause-is
returns-clause-is c =
    let B = fits_block _ c.requires.fits in
    ap₂ ◌+◌ c.head_size.ensures.is c.fewest_bits.ensures
    ∙ sym (length-chosen c.args.coding.now (block_at c.args.coding.now c.args.numbers.now c.args.block)
    (length-block c.args.coding.now c.args.numbers.now c.args.block B.0 c.requires.within) B.0 B.2 c.args.reference _ _ c.requires.reference
    (skip_is c.args.reference _ _ c.from-skip.ensures c.is_some.ensures) c.fill_codes.ensures.is)

pub returns-clause-small : goal.returns-clause-small
returns-clause-small c =
    let few = chosen_few c.args.coding.now c.from-skip.result c.fill_codes.new.codes ((fits_block _ c.requires.fits).1) c.requires.fits.most_bits in
    omega (arith, few, c.fewest_bits.ensures, c.head_size.ensures.small)
