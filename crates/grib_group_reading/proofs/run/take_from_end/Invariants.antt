use Rattle.std.proofs.Common.{◌≡◌, ◌+◌, ◌-◌, ◌*◌, drop, map}
use Rattle.grib_bits.specs.Bits.{bits}
use Rattle.grib_bits.specs.Plain.{plain}
use Rattle.grib_group_reading.specs.Taking.{code_by}
use Rattle.grib_group_reading.proofs.run.take_from_end.Given as goal

abbrev pub invariant-loop-index : goal.invariant-loop-index
invariant-loop-index g l = record {
  took : g.T.Taker.took l.fn.taker (map (code_by l.coding) (plain (drop l.at (bits l.octets)) l.width l._index)) l.taker;
  room : g.T.Taker.room l.taker (l.count - l._index);
  place : l.place ≡ l.at + l._index * l.width;
}
