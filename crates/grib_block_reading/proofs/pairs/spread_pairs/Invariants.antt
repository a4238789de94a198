use Rattle.std.proofs.Common.{◌≡◌, ◌*◌, take}
use Rattle.grib_coding.specs.Items.{codes_of_pairs}
use Rattle.grib_block_reading.proofs.pairs.spread_pairs.Given as goal

abbrev pub invariant-loop-place : goal.invariant-loop-place
invariant-loop-place l = take (2 * l.place) l.codes ≡ codes_of_pairs (take l.place l.numbers)
