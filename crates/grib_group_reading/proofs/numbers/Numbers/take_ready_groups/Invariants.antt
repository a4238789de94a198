use Rattle.std.proofs.Common.{◌≡◌, ◌-◌, ◌*◌, ◌≤◌, length, drop, vec_len}
use Rattle.grib_bits.specs.Bits.{bits}
use Rattle.grib_group_reading.specs.Taking.{values}
use Rattle.grib_group_reading.specs.Table.{groups_in}
use Rattle.grib_group_reading.specs.Going.{left_of, Went}
use Rattle.grib_group_reading.proofs.numbers.Numbers.take_ready_groups.Given as goal

abbrev pub invariant-loop-self : goal.invariant-loop-self
invariant-loop-self g l = record {
  went : Went g.T.Taker.took l.layout (left_of l.fn.self (groups_in l.table)) (drop l.fn.at (bits l.piece)) l.fn.taker (left_of l.self (groups_in l.table)) (drop l.at (bits l.piece)) l.taker;
  current : l.self.current ≡ l.fn.self.current;
  next : l.fn.self.next ≤ l.self.next;
  pending : l.self.pending ≡ l.fn.self.pending;
  room : g.T.Taker.room l.taker (values (left_of l.self (groups_in l.table)));
  within : l.at ≤ 8 * length l.piece;
}

abbrev pub decreases-loop-self : goal.decreases-loop-self
decreases-loop-self g l = vec_len l.table.lengths - l.self.next
