use Rattle.std.proofs.Common.{◌≡◌, ◌+◌, ◌*◌, ◌^◌, ◌<◌, length, take}
use Rattle.grib_long.specs.Digits.{little}
use Rattle.grib_long.proofs.product.multiplied.Given as goal

abbrev pub invariant-loop-digit : goal.invariant-loop-digit
invariant-loop-digit l = record {
  is : little (take l.digit-index l.digits) * l.factor ≡ little l.product.items + l.carry * 2 ^ (32 * l.digit-index);
  carry : l.carry < 2 ^ 32;
  long : length l.product.items ≡ l.digit-index;
}
