use Rattle.std.proofs.Common.{◌≡◌, ◌++◌, replicate}
use Rattle.grib_arrays.proofs.header.append_blanks.Given as goal

abbrev pub invariant-loop : goal.invariant-loop
invariant-loop l = l.octets.items ≡ l.fn.octets.items ++ replicate l.counter 32
