use Rattle.std.proofs.Common.{◌≡◌, ℕ, ◌+◌, ◌*◌, ◌^◌, ◌≤◌, ◌∷◌, [], List, drop, slice_index, refl, sym, subst, ap, ap₂, ◌∙◌, arith, pow_mono}
use Rattle.grib_bits.specs.Bits.{bits}
use Rattle.grib_bits.proofs.OctetBits.{length-bits}
use Rattle.grib_packing.specs.declared.group.Group.{Group}
use Rattle.grib_group_reading.specs.Taking.{Taken, values}
use Rattle.grib_group_reading.specs.Table.{groups_in}
use Rattle.grib_group_reading.specs.Going.{left_of, Went}
use Rattle.grib_group_reading.proofs.Taken.{taken_before, taken_next, taken_none, values-cons}
use Rattle.grib_group_reading.proofs.Listed.{groups_from_index, narrow_at}
use Rattle.grib_group_reading.proofs.Moves.{room_left, went_run, went_same, went_then}
use Rattle.grib_group_reading.proofs.numbers.Numbers.take_ready_groups.Goals as goal

pub is_ready-requires : goal.is_ready-requires
is_ready-requires g c =
    let next = c.loop-self.self.next in
    let group = c.group-group.result in
    let width : group.width ≡ slice_index c.args.table.now.widths.items next = ap (λ (gr : Group). gr.width) c.group-group.ensures.group in
    let narrow : group.width ≤ 32 = omega (arith, width, narrow_at c.args.table.now c.requires.read.whole next c.requires.read.narrow (omega arith)) in
    let power : 2 ^ group.width ≤ 2 ^ 32 = pow_mono narrow in
    omega (arith, power, c.limit_of.ensures, c.group-group.ensures.reference, c.requires.read.limit (omega arith))

pub take_at_once-taker-requires-clause-limit : goal.take_at_once-taker-requires-clause-limit
take_at_once-taker-requires-clause-limit g c =
    let next = c.loop-self.self.next in
    let group = c.group-group.result in
    let width : group.width ≡ slice_index c.args.table.now.widths.items next = ap (λ (gr : Group). gr.width) c.group-group.ensures.group in
    let narrow : group.width ≤ 32 = omega (arith, width, narrow_at c.args.table.now c.requires.read.whole next c.requires.read.narrow (omega arith)) in
    let power : 2 ^ group.width ≤ 2 ^ 32 = pow_mono narrow in
    omega (arith, power, c.group-group.ensures.reference, c.requires.read.limit (omega arith))

pub loop-self-preserved : goal.loop-self-preserved
loop-self-preserved g c =
    let took = g.T.Taker.took in
    let none = g.met.T.Taker.none in
    let more = g.met.T.Taker.more in
    let layout = c.args.layout.now in
    let table = c.args.table.now in
    let groups = groups_in table in
    let current = c.loop-self.self.current in
    let group = c.group-group.result in
    let next = c.loop-self.self.next in
    let rest = drop (next + 1) groups in
    let all = bits c.args.piece.now in
    let at = c.loop-self.at in
    let end = at + c.from.result * c.from-in-loop-self.result in
    let taker = c.loop-self.taker in
    let after = c.take_at_once-taker.result in
    let empty : current.count ≡ 0 = ap (λ (gr : Group). gr.count) c.loop-self.invariant.current ∙ c.requires.none in
    let size : c.from.result * c.from-in-loop-self.result ≡ group.count * group.width = ap₂ (λ (m n : ℕ). m * n) c.from.ensures c.from-in-loop-self.ensures in
    let following : drop next groups ≡ group ∷ rest =
    groups_from_index table c.requires.read.whole next (omega arith) ∙ ap (λ (gr : Group). gr ∷ rest) (sym c.group-group.ensures.group) in
    let here = drop at all in
    let there = drop end all in
    let left : Group = record group { count = 0 } in
    let advanced = subst (λ (gs : List Group). Taken layout (current ∷ drop next groups) here [] gs here) following (taken_next layout current (drop next groups) here empty) in
    let over : Went took layout (group ∷ rest) here taker (left ∷ rest) there after =
    went_run took layout group rest all at group.count 0 end taker after (omega arith) (omega (arith, size, length-bits c.args.piece.now)) (omega (arith, size)) c.take_at_once-taker.ensures in
    let past = went_same took none more layout (left ∷ rest) rest there there after (taken_next layout left rest there refl) in
    let before = went_same took none more layout rest (current ∷ rest) there there after (taken_before layout current rest there empty) in
    let turn =
    went_then took none more layout (went_same took none more layout _ _ here here taker advanced)
    (went_then took none more layout over (went_then took none more layout past before)) in
    record {
      went = went_then took none more layout c.loop-self.invariant.went turn;
      room = room_left took g.T.Taker.room g.met.T.Taker.room_after turn c.loop-self.invariant.room;
      current = c.loop-self.invariant.current;
      next = omega (arith, c.loop-self.invariant.next);
      pending = c.loop-self.invariant.pending;
      within = omega (arith, size);
    }

pub take_at_once-taker-requires-clause-room : goal.take_at_once-taker-requires-clause-room
take_at_once-taker-requires-clause-room g c =
    let groups = groups_in c.args.table.now in
    let current = c.loop-self.self.current in
    let next = c.loop-self.self.next in
    let group = c.group-group.result in
    let following : drop next groups ≡ group ∷ drop (next + 1) groups =
    groups_from_index c.args.table.now c.requires.read.whole next (omega arith) ∙ ap (λ (gr : Group). gr ∷ drop (next + 1) groups) (sym c.group-group.ensures.group) in
    let few : group.count ≤ values (current ∷ drop next groups) =
    omega (arith, values-cons current (drop next groups), ap values following, values-cons group (drop (next + 1) groups)) in
    g.met.T.Taker.fewer c.loop-self.taker group.count (values (current ∷ drop next groups)) few c.loop-self.invariant.room

pub loop-self-init : goal.loop-self-init
loop-self-init g c =
    let left = left_of c.args.self.now (groups_in c.args.table.now) in
    let rest = drop c.args.at.now (bits c.args.piece.now) in
    record {
      went = went_same g.T.Taker.took g.met.T.Taker.none g.met.T.Taker.more c.args.layout.now left left rest rest c.args.taker (taken_none c.args.layout.now left rest);
      current = refl;
      next = omega arith;
      pending = refl;
      room = c.requires.room;
      within = c.requires.read.within;
    }
