use Rattle.std.proofs.Common.{drop}
use Rattle.grib_bits.specs.Bits.{bits_of}
use Rattle.grib_coding.specs.Items.{all_bits}
use Rattle.grib_coding.specs.Written.{lows}
use Rattle.grib_block_writing.specs.Steps.{Leaves}
use Rattle.grib_block_writing.proofs.items.write_low.Given as goal

abbrev pub invariant-loop-code : goal.invariant-loop-code
invariant-loop-code l =
    Leaves l.fn.out l.out (all_bits (bits_of l.k) (lows l.k l.codes)) (all_bits (bits_of l.k) (lows l.k (drop l.code-index l.codes)))
