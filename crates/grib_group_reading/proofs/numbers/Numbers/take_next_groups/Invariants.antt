use Rattle.std.proofs.Common.{◌≡◌, ◌+◌, ◌-◌, ◌*◌, ◌<◌, ◌≤◌, [], length, drop, vec_len}
use Rattle.grib_bits.specs.Bits.{bits}
use Rattle.grib_group_reading.specs.Taking.{values}
use Rattle.grib_group_reading.specs.Table.{groups_in}
use Rattle.grib_group_reading.specs.Going.{left_of, IsReadable, Went}
use Rattle.grib_group_reading.proofs.numbers.Numbers.take_next_groups.Given as goal

abbrev pub invariant-loop-self : goal.invariant-loop-self
invariant-loop-self g l = record {
  went : Went g.T.Taker.took l.layout (left_of l.fn.self (groups_in l.table)) (drop l.fn.at (bits l.piece)) l.fn.taker (left_of l.self (groups_in l.table)) (drop l.at (bits l.piece)) l.taker;
  readable : IsReadable g.T.Taker.limit l.self.current;
  width : vec_len l.table.lengths ≡ 0 → l.self.current.width ≡ l.fn.self.current.width;
  pending : l.self.pending ≡ [];
  within : l.at ≤ 8 * length l.piece;
  room : g.T.Taker.room l.taker (values (left_of l.self (groups_in l.table)));
  no_more : 0 < l.self.current.count → 8 * length l.piece < l.at + l.self.current.width;
}

abbrev pub decreases-loop-self : goal.decreases-loop-self
decreases-loop-self g l = vec_len l.table.lengths - l.self.next
