use Rattle.std.proofs.Common.{◌≡◌, ◌*◌, ◌^◌, ℤ, pos, ◌*ℤ◌}
use Rattle.grib_same.specs.Wholes.{number_of}
use Rattle.grib_same.proofs.digits.zero_digits.Given as goal

abbrev pub invariant-loop : goal.invariant-loop
invariant-loop l = (top : ℤ) → number_of l.digits.items top ≡ top *ℤ pos (2 ^ (32 * l.counter))
