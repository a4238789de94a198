use Rattle.std.proofs.Common.{◌≡◌, ◌+◌, ◌*◌, ◌^◌}
use Rattle.grib_long.specs.Digits.{value, size}
use Rattle.grib_long.proofs.building.filled.Given as goal

abbrev pub invariant-loop : goal.invariant-loop
invariant-loop l = record {
  zeros : l.fill ≡ 0 → value l.number ≡ l.top * 2 ^ (32 * l.counter);
  last : l.fill + 1 ≡ 2 ^ 32 → value l.number + 1 ≡ (l.top + 1) * 2 ^ (32 * l.counter);
  long : size l.number ≡ l.counter + 4;
}
