use Rattle.std.proofs.Common.{ℕ, ◌≤◌, ◌∙◌, subst}
use Rattle.std.specs.List.{All}
use Rattle.grib_block_writing.proofs.Zeros.{fits_block, filled, filled-within, these-within, mapped_front, plain_front}
use Rattle.grib_block_writing.proofs.blocks.fill_codes.Goals as goal

pub returns-then-is_mapped-clause-is : goal.returns-then-is_mapped-clause-is
returns-then-is_mapped-clause-is c =
    filled c.args.coding.now c.args.numbers.now c.args.block _ _ _ (fits_block _ c.requires.fits).0 c.requires.fits.some_blocks c.requires.within
    c.numbers_in-these.ensures c.requires.zeros
    (mapped_front c.args.coding.now c.args.numbers.now c.args.block _ _ _ _ _ c.is_mapped.ensures c.if-is_mapped.true c.greatest.ensures
    c.base_in.ensures c.numbers_in-these.ensures c.map_block.ensures.codes)

pub returns-then-is_mapped-clause-within : goal.returns-then-is_mapped-clause-within
returns-then-is_mapped-clause-within c =
    let P : ℕ → Type 0 = λ (m : ℕ). All (λ n. n ≤ m) c.map_block.new.codes in
    filled-within c.args.coding.now _ c.numbers_in-these.result.now _ c.requires.zeros (subst P c.greatest.ensures c.map_block.ensures.within)

pub returns-else-is_mapped-clause-is : goal.returns-else-is_mapped-clause-is
returns-else-is_mapped-clause-is c =
    filled c.args.coding.now c.args.numbers.now c.args.block _ _ _ (fits_block _ c.requires.fits).0 c.requires.fits.some_blocks c.requires.within
    c.numbers_in-these.ensures c.requires.zeros
    (plain_front c.args.coding.now c.args.numbers.now c.args.block _ _ _ c.is_mapped.ensures c.if-is_mapped.false
    c.numbers_in-these.ensures c.copy_from_slice.ensures.after)

pub returns-else-is_mapped-clause-within : goal.returns-else-is_mapped-clause-within
returns-else-is_mapped-clause-within c =
    filled-within c.args.coding.now _ c.numbers_in-these.result.now _ c.requires.zeros
    (these-within c.args.coding.now c.args.numbers.now _ c.args.block (c.copy_from_slice.ensures.after ∙ c.numbers_in-these.ensures) c.requires.numbers)
