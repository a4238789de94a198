use Rattle.std.proofs.Common.{◌≡◌, ◌+◌, ◌*◌, ◌^◌, length}
use Rattle.grib_long.specs.Digits.{big, value, size}
use Rattle.grib_long.proofs.long.Long.shifted.Given as goal

abbrev pub invariant-loop : goal.invariant-loop
invariant-loop l = record {
  is : big l.digits.items ≡ value l.fn.self * 2 ^ (32 * l.counter);
  long : length l.digits.items ≡ size l.fn.self + l.counter;
}
