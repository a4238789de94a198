use Rattle.grib_block_writing.proofs.Least.{least_block}
use Rattle.grib_block_writing.proofs.Zeros.{fits_block}
use Rattle.grib_block_writing.proofs.laws.no_item_has_fewer_bits.Goals as goal

pub returns : goal.returns
returns c coding reference codes choice fits long first option =
    least_block coding reference codes choice long ((fits_block coding fits).2) ((fits_block coding fits).0) first option
