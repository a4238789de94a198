use Rattle.std.proofs.Common.{◌≡◌, ◌↔◌, drop}
use Rattle.grib_same.specs.Wholes.{number_of}
use Rattle.grib_same.proofs.part.is_number.Given as goal

abbrev pub invariant-loop-digit : goal.invariant-loop-digit
invariant-loop-digit l = (number_of l.digits l.top ≡ l.number) ↔ (number_of (drop l.digit-index l.digits) l.top ≡ l.left)
