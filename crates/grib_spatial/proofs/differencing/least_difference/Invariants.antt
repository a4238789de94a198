use Rattle.std.proofs.Common.{◌≡◌, ◌-◌, ◌^◌, ◌≤◌, map, nat_abs}
use Rattle.std.specs.List.{range_with_len}
use Rattle.grib_packing.specs.Differences.{difference_at, least}
use Rattle.grib_spatial.proofs.differencing.least_difference.Given as goal

abbrev pub invariant-loop-place : goal.invariant-loop-place
invariant-loop-place l = record {
  is : l.minimum ≡ least (map (difference_at l.order l.values) (range_with_len l.order (l.place - l.order)));
  small : nat_abs l.minimum ≤ 2 ^ 62;
}
