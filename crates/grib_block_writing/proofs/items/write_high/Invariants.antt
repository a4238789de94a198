use Rattle.std.proofs.Common.{drop}
use Rattle.grib_coding.specs.Items.{sequence, all_bits}
use Rattle.grib_coding.specs.Written.{highs}
use Rattle.grib_block_writing.specs.Steps.{Leaves}
use Rattle.grib_block_writing.proofs.items.write_high.Given as goal

abbrev pub invariant-loop-code : goal.invariant-loop-code
invariant-loop-code l =
    Leaves l.fn.out l.out (all_bits sequence (highs l.k l.codes)) (all_bits sequence (highs l.k (drop l.code-index l.codes)))
