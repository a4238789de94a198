use Rattle.std.proofs.Common.{◌≡◌, ◌++◌, take}
use Rattle.grib_bits.specs.Listed.{numbers_octets}
use Rattle.grib_demote.proofs.demoting.add_rows.Given as goal

abbrev pub invariant-loop-row : goal.invariant-loop-row
invariant-loop-row l = l.out.items ≡ l.initial.out.items ++ numbers_octets 2 (take l.row-index l.rows)
