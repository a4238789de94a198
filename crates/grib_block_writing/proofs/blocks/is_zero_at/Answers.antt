use Rattle.std.proofs.Common.{ℕ, List, ◌==◌, ap₂, sym, ◌∙◌}
use Rattle.std.specs.List.{list_all}
use Rattle.grib_block_writing.proofs.Zeros.{fits_block, zero_block}
use Rattle.grib_block_writing.proofs.blocks.is_zero_at.Goals as goal

pub returns : goal.returns
returns c =
    c.are_all.ensures
    ∙ (ap₂ (λ (b : ℕ) (xs : List ℕ). list_all (λ n. n == b) xs) c.base_in.ensures c.numbers_in.ensures
    ∙ sym (zero_block c.args.coding.now c.args.numbers.now c.args.block (fits_block _ c.requires.fits).0 c.requires.fits.some_blocks c.requires.within c.requires.numbers))
