use Rattle.std.proofs.Common.{◌≡◌, ◌+◌, ◌-◌, ◌%◌, ◌∷◌, replicate}
use Rattle.grib_split.proofs.fewest.fewest_lengths.Given as goal

abbrev pub invariant-loop-group : goal.invariant-loop-group
invariant-loop-group l = l.lengths.items ≡ ((l.fn.count - 1) % 64 + 1) ∷ replicate l._group 64
