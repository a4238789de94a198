use Rattle.std.proofs.Common.{◌≡◌, map}
use Rattle.std.specs.List.{range_with_len}
use Rattle.grib_packing.specs.Differences.{code_at}
use Rattle.grib_spatial.proofs.differencing.codes_above.Given as goal

abbrev pub invariant-loop-place : goal.invariant-loop-place
invariant-loop-place l = l.codes.items ≡ map (code_at l.order l.values) (range_with_len 0 l.place)
