use Rattle.std.proofs.Common.{◌≡◌, ◌*◌, ◌≤◌, sum}
use Rattle.grib_bits.specs.Listed.{numbers_at}
use Rattle.grib2_grids.proofs.rules.total.Given as goal

abbrev pub invariant-loop-row : goal.invariant-loop-row
invariant-loop-row l = record {
  sums : l.total ≡ sum (numbers_at l.octets l.first l.size l.row);
  small : l.total ≤ 4294967295 * l.row;
}
