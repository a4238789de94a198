use Rattle.std.proofs.Common.{ℕ, ◌++◌, ◌∷◌, [], List, Bool, drop, length, sym, ap, arith, subst}
use Rattle.std.proofs.lemmas.List.{length-append}
use Rattle.grib_bits.specs.Bits.{bits}
use Rattle.grib_bits.proofs.OctetBits.{length-bits}
use Rattle.grib_group_reading.specs.Taking.{Taken, values}
use Rattle.grib_group_reading.specs.Table.{groups_in}
use Rattle.grib_group_reading.specs.Going.{left_of, IsShort, Went}
use Rattle.grib_group_reading.proofs.Taken.{taken_none, values-cons}
use Rattle.grib_group_reading.proofs.Moves.{room_left, went_same, went_then}
use Rattle.grib_group_reading.proofs.numbers.Numbers.push.Goals as goal

-- what was kept is shorter than the next number
is_short : (g : _) (c : goal.After-keep g) → IsShort (record c.args.self.now { pending = c.keep.new.pending })
is_short g c =
    let pending = c.args.self.now.pending in
    let more = bits c.args.piece.now in
    let before = c.requires.ready.pending (omega arith) in
    record {
      some = before.some;
      short = omega (arith, ap length c.keep.ensures, length-append pending more, length-bits c.args.piece.now, before.short);
    }

pub returns-then-piece-from-clause-goes : goal.returns-then-piece-from-clause-goes
returns-then-piece-from-clause-goes g c =
    let layout = c.args.layout.now in
    let left = left_of c.args.self.now (groups_in c.args.table.now) in
    let here = c.args.self.now.pending ++ bits c.args.piece.now in
    went_same g.T.Taker.took g.met.T.Taker.none g.met.T.Taker.more layout left left here c.keep.new.pending c.args.taker
    (subst (λ (bs : List Bool). Taken layout left here [] left bs) (sym c.keep.ensures) (taken_none layout left here))

pub returns-then-piece-from-clause-ready : goal.returns-then-piece-from-clause-ready
returns-then-piece-from-clause-ready g c = record { readable = c.requires.ready.readable; pending = λ _. is_short g c }

pub returns-then-piece-from-clause-waits : goal.returns-then-piece-from-clause-waits
returns-then-piece-from-clause-waits g c = λ _. is_short g c

pub returns-clause-goes : goal.returns-clause-goes
returns-clause-goes g c =
    let took = g.T.Taker.took in
    let layout = c.args.layout.now in
    let groups = groups_in c.args.table.now in
    let after = c.take_fitting-2.new.self in
    let second = subst (λ (n : ℕ). Went took layout (left_of c.take_across-taker.new.self groups) (drop n (bits c.args.piece.now)) c.take_across-taker.result (left_of after groups) after.pending c.take_fitting-2.result)
    c.from-3.ensures c.take_fitting-2.ensures.goes in
    went_then took g.met.T.Taker.none g.met.T.Taker.more layout (c.take_across-taker.ensures.goes groups) second

pub take_across-taker-requires-clause-room : goal.take_across-taker-requires-clause-room
take_across-taker-requires-clause-room g c =
    let current = c.args.self.now.current in
    let rest = drop c.args.self.now.next (groups_in c.args.table.now) in
    let some = (c.requires.ready.pending (omega arith)).some in
    g.met.T.Taker.fewer c.args.taker 1 (values (current ∷ rest)) (omega (arith, some, values-cons current rest)) c.requires.room

pub take_fitting-requires-2-clause-room : goal.take_fitting-requires-2-clause-room
take_fitting-requires-2-clause-room g c =
    room_left g.T.Taker.took g.T.Taker.room g.met.T.Taker.room_after (c.take_across-taker.ensures.goes (groups_in c.args.table.now)) c.requires.room
