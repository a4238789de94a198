use Rattle.std.proofs.Common.{◌≡◌, ◌+◌, length, sum_by}
use Rattle.std.specs.List.{range_with_len}
use Rattle.grib_repack.specs.Lengths.{own_length}
use Rattle.grib_repack.proofs.lengths.kept_length.Given as goal

abbrev pub invariant-loop-before : goal.invariant-loop-before
invariant-loop-before l = l.total + sum_by (own_length l.message) (range_with_len 1 l.before) ≡ length l.message
