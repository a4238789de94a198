use Rattle.std.proofs.Common.{◌∷◌, drop, length, ap, arith}
use Rattle.std.proofs.lemmas.List.{length-drop}
use Rattle.grib_bits.specs.Bits.{bits}
use Rattle.grib_bits.proofs.OctetBits.{length-bits}
use Rattle.grib_group_reading.specs.Table.{groups_in}
use Rattle.grib_group_reading.specs.Going.{IsShort}
use Rattle.grib_group_reading.specs.Taking.{values}
use Rattle.grib_group_reading.proofs.Taken.{values-cons}
use Rattle.grib_group_reading.proofs.Moves.{room_left, went_then}
use Rattle.grib_group_reading.proofs.numbers.Numbers.take_fitting.Goals as goal
use Rattle.grib_group_reading.proofs.numbers.Numbers.take_fitting.Goals.{After-keep_rest}

-- what is left is shorter than the next number
is_short : (g : _) (c : After-keep_rest g) → IsShort (record c.take_some-taker.new.self { pending = c.keep_rest.new.pending })
is_short g c = record {
  some = omega arith;
  short = omega (arith, ap length c.keep_rest.ensures, length-drop c.take_some-taker.new.at (bits c.args.piece.now), length-bits c.args.piece.now, c.take_some-taker.ensures.to.no_more);
}

pub returns-then-self-gt0-clause-ready : goal.returns-then-self-gt0-clause-ready
returns-then-self-gt0-clause-ready g c = record { readable = c.take_some-taker.ensures.to.readable; pending = λ _. is_short g c }

pub returns-then-self-gt0-clause-waits : goal.returns-then-self-gt0-clause-waits
returns-then-self-gt0-clause-waits g c = λ _. is_short g c

pub returns-clause-goes : goal.returns-clause-goes
returns-clause-goes g c =
    went_then g.T.Taker.took g.met.T.Taker.none g.met.T.Taker.more c.args.layout.now (c.take_some-taker.ensures.goes (groups_in c.args.table.now)) c.take_next_groups.ensures.goes

pub take_some-taker-requires-clause-room : goal.take_some-taker-requires-clause-room
take_some-taker-requires-clause-room g c =
    let current = c.args.self.now.current in
    let rest = drop c.args.self.now.next (groups_in c.args.table.now) in
    g.met.T.Taker.fewer c.args.taker current.count (values (current ∷ rest)) (omega (arith, values-cons current rest)) c.requires.room

pub take_next_groups-requires-clause-room : goal.take_next_groups-requires-clause-room
take_next_groups-requires-clause-room g c =
    room_left g.T.Taker.took g.T.Taker.room g.met.T.Taker.room_after (c.take_some-taker.ensures.goes (groups_in c.args.table.now)) c.requires.room
