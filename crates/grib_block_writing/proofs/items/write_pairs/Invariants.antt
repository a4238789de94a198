use Rattle.std.proofs.Common.{◌*◌, drop}
use Rattle.grib_coding.specs.Items.{sequence, all_bits}
use Rattle.grib_coding.specs.Written.{pair_numbers}
use Rattle.grib_block_writing.specs.Steps.{Leaves}
use Rattle.grib_block_writing.proofs.items.write_pairs.Given as goal

abbrev pub invariant-loop-pair : goal.invariant-loop-pair
invariant-loop-pair l =
    Leaves l.fn.out l.out (all_bits sequence (pair_numbers l.codes)) (all_bits sequence (pair_numbers (drop (2 * l.pair) l.codes)))
