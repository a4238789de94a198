use Rattle.std.proofs.Common.{◌+◌, length, refl}
use Rattle.grib_block_reading.specs.Kept.{reference_entries}
use Rattle.grib_block_reading.proofs.Keeping.{kept_more}
use Rattle.grib_block_reading.proofs.numbers.keep_zero_blocks.Goals as goal

pub returns : goal.returns
returns g c place stands none =
    kept_more g.K.Keeper.kept g.met.K.Keeper.more c.args.coding place _ _ _ (place + length (reference_entries c.args.reference)) _ _ _ _ _ (c.keep_reference-kept.ensures.kept place stands) refl
    (c.keep_zeros.ensures (place + length (reference_entries c.args.reference)) none)
