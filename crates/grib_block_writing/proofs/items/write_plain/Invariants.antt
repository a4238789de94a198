use Rattle.std.proofs.Common.{drop}
use Rattle.grib_bits.specs.Bits.{bits_of}
use Rattle.grib_coding.specs.Items.{all_bits}
use Rattle.grib_block_writing.specs.Steps.{Leaves}
use Rattle.grib_block_writing.proofs.items.write_plain.Given as goal

abbrev pub invariant-loop-code : goal.invariant-loop-code
invariant-loop-code l = Leaves l.fn.out l.out (all_bits (bits_of l.width) l.codes) (all_bits (bits_of l.width) (drop l.code-index l.codes))
