use Rattle.std.proofs.Common.{false, true, Some, None, []}
use Rattle.grib_bits.specs.Bits.{bits_of}
use Rattle.grib_coding.proofs.Fronts.{item_back, no_reference, some_reference}
use Rattle.grib_coding.proofs.worked.items_are_read_back.Goals as goal

pub returns-clause-without_reference : goal.returns-clause-without_reference
returns-clause-without_reference c coding item rest is = item_back coding false [] None item rest (no_reference coding) is

pub returns-clause-with_reference : goal.returns-clause-with_reference
returns-clause-with_reference c coding number item rest fits is =
    item_back coding true (bits_of coding.bits number) (Some number) item rest (some_reference coding number fits) is
