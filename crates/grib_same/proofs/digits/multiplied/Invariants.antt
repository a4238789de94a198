use Rattle.std.proofs.Common.{◌≡◌, drop, pos, ◌+ℤ◌, ◌*ℤ◌}
use Rattle.grib_same.specs.Wholes.{number_of}
use Rattle.grib_same.proofs.digits.multiplied.Given as goal

abbrev pub invariant-loop-digit : goal.invariant-loop-digit
invariant-loop-digit l =
    number_of l.product.items ((number_of (drop l.digit-index l.digits) l.top *ℤ pos l.factor) +ℤ l.carry) ≡ (number_of l.digits l.top *ℤ pos l.factor) +ℤ l.number
