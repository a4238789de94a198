use Rattle.std.proofs.Common.{◌*◌, ◌≤◌, take}
use Rattle.grib_long.specs.Digits.{big}
use Rattle.grib_long.specs.Begun.{IsBegun}
use Rattle.grib_long.proofs.long.Long.leading.Given as goal

abbrev pub invariant-loop-digit : goal.invariant-loop-digit
invariant-loop-digit l = record {
  begun : IsBegun (big (take l.digit-index l.digit-items)) l.leading;
  exponent : l.leading.exponent ≤ 32 * l.digit-index;
}
