use Rattle.std.proofs.Common.{◌≡◌, ◌+◌, ◌*◌, ◌<◌, length, take}
use Rattle.grib_long.specs.Digits.{big}
use Rattle.grib_long.proofs.quotient.divided.Given as goal

abbrev pub invariant-loop-digit : goal.invariant-loop-digit
invariant-loop-digit l = record {
  is : big (take l.digit-index l.digits) ≡ big l.quotient.items * l.divisor + l.rest;
  below : l.rest < l.divisor;
  long : length l.quotient.items ≡ l.digit-index;
}
