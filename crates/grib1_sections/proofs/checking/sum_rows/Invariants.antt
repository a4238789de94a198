use Rattle.std.proofs.Common.{◌≡◌, ◌*◌, ◌≤◌, sum}
use Rattle.grib_bits.specs.Listed.{numbers_at}
use Rattle.grib1_sections.proofs.checking.sum_rows.Given as goal

abbrev pub invariant-loop-row : goal.invariant-loop-row
invariant-loop-row l = record {
  so_far : l.points ≡ sum (numbers_at l.octets l.first 2 l.row);
  few : l.points ≤ 65535 * l.row;
}
