use Rattle.std.proofs.Common.{ℕ, ◌*◌, true, false, Some, get_or, sym, ap, ◌∙◌}
use Rattle.grib_block_writing.proofs.Zeros.{fits_block}
use Rattle.grib_block_writing.proofs.Shapes.{reference_as}
use Rattle.grib_block_writing.proofs.blocks.reference_in.Goals as goal

pub returns-then-begins_interval-clause-is : goal.returns-then-begins_interval-clause-is
returns-then-begins_interval-clause-is c =
    ap (λ (n : ℕ). Some (get_or c.args.numbers.now (c.args.block * n) 0)) c.from.ensures
    ∙ reference_as c.args.coding.now c.args.numbers.now c.args.block true (fits_block _ c.requires.fits).0 c.requires.fits.some_blocks c.requires.within
    (sym c.if-begins_interval.true ∙ c.begins_interval.ensures)

pub returns-else-begins_interval-clause-is : goal.returns-else-begins_interval-clause-is
returns-else-begins_interval-clause-is c =
    reference_as c.args.coding.now c.args.numbers.now c.args.block false (fits_block _ c.requires.fits).0 c.requires.fits.some_blocks c.requires.within
    (sym c.if-begins_interval.false ∙ c.begins_interval.ensures)
