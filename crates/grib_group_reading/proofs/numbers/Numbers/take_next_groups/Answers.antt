use Rattle.std.proofs.Common.{◌≡◌, ◌+◌, [], List, Bool, drop, length, refl, sym, ap, ◌∙◌, arith, subst}
use Rattle.std.proofs.lemmas.List.{length-drop}
use Rattle.grib_bits.specs.Bits.{bits}
use Rattle.grib_bits.proofs.OctetBits.{length-bits}
use Rattle.grib_packing.specs.declared.group.Group.{Group}
use Rattle.grib_group_reading.specs.Taking.{Taken, values}
use Rattle.grib_group_reading.specs.Table.{groups_in}
use Rattle.grib_group_reading.specs.Going.{left_of, IsReadable, IsShort}
use Rattle.grib_group_reading.proofs.Taken.{taken_all, taken_none, values-cons}
use Rattle.grib_group_reading.proofs.Listed.{no_groups}
use Rattle.grib_group_reading.proofs.Moves.{room_left, went_same, went_then}
use Rattle.grib_group_reading.proofs.numbers.Numbers.take_next_groups.Goals as goal
use Rattle.grib_group_reading.proofs.numbers.Numbers.take_next_groups.Goals.{then-loop-self-test+else-self-len, else-loop-self-test}

pub take_next_group-taker-requires-clause-readable : goal.take_next_group-taker-requires-clause-readable
take_next_group-taker-requires-clause-readable g c = subst (IsReadable g.T.Taker.limit) (sym c.take_ready_groups-taker.ensures.current) c.loop-self.invariant.readable

pub loop-self-preserved : goal.loop-self-preserved
loop-self-preserved g c =
    let took = g.T.Taker.took in
    let none = g.met.T.Taker.none in
    let more = g.met.T.Taker.more in
    let layout = c.args.layout.now in
    record {
      went = went_then took none more layout c.loop-self.invariant.went
          (went_then took none more layout c.take_ready_groups-taker.ensures.goes c.take_next_group-taker.ensures.goes);
      room = room_left took g.T.Taker.room g.met.T.Taker.room_after c.take_next_group-taker.ensures.goes
          (room_left took g.T.Taker.room g.met.T.Taker.room_after c.take_ready_groups-taker.ensures.goes c.loop-self.invariant.room);
      readable = c.take_next_group-taker.ensures.to.readable;
      width = λ none. absurd (omega (arith, none));
      pending = c.take_next_group-taker.ensures.to.pending ∙ c.take_ready_groups-taker.ensures.pending ∙ c.loop-self.invariant.pending;
      within = c.take_next_group-taker.ensures.to.within;
      no_more = c.take_next_group-taker.ensures.to.no_more;
    }

-- where the loop ended at a group with no values left, it was the last
no_values : (g : _) (c : goal.Then-self-eq0 g) → values (left_of c.loop-self.self (groups_in c.args.table.now)) ≡ 0
no_values g c =
    let table = c.args.table.now in
    let next = c.loop-self.self.next in
    elim c.loop-self-test.branch [
      | then-loop-self-test+else-self-len w ↦
          let past = no_groups table c.requires.read.whole next (omega (arith, w.if-self-len.false, w.len.ensures)) in
          values-cons c.loop-self.self.current (drop next (groups_in table))
          ∙ ap (λ (gs : List Group). c.loop-self.self.current.count + values gs) past
          ∙ omega (arith, c.if-self-eq0.true)
      | else-loop-self-test w ↦ absurd (w.loop-self-test.false c.if-self-eq0.true)
    ]

pub returns-then-self-eq0-clause-goes : goal.returns-then-self-eq0-clause-goes
returns-then-self-eq0-clause-goes g c =
    let took = g.T.Taker.took in
    let none = g.met.T.Taker.none in
    let more = g.met.T.Taker.more in
    let layout = c.args.layout.now in
    let groups = groups_in c.args.table.now in
    let left = left_of c.loop-self.self groups in
    let here = drop c.loop-self.at (bits c.args.piece.now) in
    let taken = subst (λ (bs : List Bool). Taken layout left here [] left bs) (sym c.loop-self.invariant.pending) (taken_all layout left here (no_values g c)) in
    went_then took none more layout c.loop-self.invariant.went (went_same took none more layout left left here c.loop-self.self.pending c.loop-self.taker taken)

pub returns-then-self-eq0-clause-waits : goal.returns-then-self-eq0-clause-waits
returns-then-self-eq0-clause-waits g c = λ some. absurd (omega (arith, no_values g c))

-- what is left is shorter than the next number
is_short : (g : _) (c : goal.After-keep_rest g) → IsShort (record c.loop-self.self { pending = c.keep_rest.new.pending })
is_short g c = record {
  some = omega arith;
  short = omega (arith, ap length c.keep_rest.ensures, length-drop c.loop-self.at (bits c.args.piece.now), length-bits c.args.piece.now, c.loop-self.invariant.no_more);
}

pub returns-clause-ready : goal.returns-clause-ready
returns-clause-ready g c = record { readable = c.loop-self.invariant.readable; pending = λ _. is_short g c }

pub returns-clause-waits : goal.returns-clause-waits
returns-clause-waits g c = λ _. is_short g c

pub take_next_group-taker-requires-clause-room : goal.take_next_group-taker-requires-clause-room
take_next_group-taker-requires-clause-room g c =
    room_left g.T.Taker.took g.T.Taker.room g.met.T.Taker.room_after c.take_ready_groups-taker.ensures.goes c.loop-self.invariant.room

pub loop-self-init : goal.loop-self-init
loop-self-init g c =
    let left = left_of c.args.self.now (groups_in c.args.table.now) in
    let rest = drop c.args.at (bits c.args.piece.now) in
    record {
      went = went_same g.T.Taker.took g.met.T.Taker.none g.met.T.Taker.more c.args.layout.now left left rest rest c.args.taker (taken_none c.args.layout.now left rest);
      readable = c.requires.readable;
      width = λ none. refl;
      pending = c.requires.pending;
      within = c.requires.read.within;
      room = c.requires.room;
      no_more = λ some. absurd (omega (arith, some, c.requires.none));
    }
