use Rattle.std.proofs.Common.{◌≡◌, ◌+◌, ◌^◌, ◌≤◌, ◌∷◌, [], List, drop, slice_index, sym, ap, ◌∙◌, arith, subst, pow_mono}
use Rattle.grib_bits.specs.Bits.{bits}
use Rattle.grib_packing.specs.declared.group.Group.{Group}
use Rattle.grib_group_reading.specs.Taking.{Taken, values}
use Rattle.grib_group_reading.specs.Table.{groups_in}
use Rattle.grib_group_reading.proofs.Taken.{taken_next, values-cons}
use Rattle.grib_group_reading.proofs.Listed.{groups_from_index, narrow_at}
use Rattle.grib_group_reading.proofs.Moves.{went_same, went_then}
use Rattle.grib_group_reading.proofs.numbers.Numbers.take_next_group.Goals as goal

pub take_some-requires-clause-readable : goal.take_some-requires-clause-readable
take_some-requires-clause-readable g c =
    let next = c.args.self.now.next in
    let group = c.group-self.result in
    let width : group.width ≡ slice_index c.args.table.now.widths.items next = ap (λ (gr : Group). gr.width) c.group-self.ensures.group in
    let narrow : group.width ≤ 32 = omega (arith, width, narrow_at c.args.table.now c.requires.read.whole next c.requires.read.narrow (omega arith)) in
    let power : 2 ^ group.width ≤ 2 ^ 32 = pow_mono narrow in
    record {
      width = omega arith;
      below = omega (arith, power, c.group-self.ensures.reference, c.requires.read.limit (omega arith));
    }

pub returns-clause-goes : goal.returns-clause-goes
returns-clause-goes g c =
    let took = g.T.Taker.took in
    let none = g.met.T.Taker.none in
    let more = g.met.T.Taker.more in
    let layout = c.args.layout.now in
    let table = c.args.table.now in
    let groups = groups_in table in
    let current = c.args.self.now.current in
    let next = c.args.self.now.next in
    let here = drop c.args.at.now (bits c.args.piece.now) in
    let following : drop next groups ≡ c.group-self.result ∷ drop (next + 1) groups =
    groups_from_index table c.requires.read.whole next (omega arith) ∙ ap (λ (group : Group). group ∷ drop (next + 1) groups) (sym c.group-self.ensures.group) in
    let advanced = subst (λ (gs : List Group). Taken layout (current ∷ drop next groups) here [] gs here) following (taken_next layout current (drop next groups) here c.requires.none) in
    went_then took none more layout (went_same took none more layout _ _ here here c.args.taker advanced) (c.take_some.ensures.goes groups)

pub take_some-requires-clause-room : goal.take_some-requires-clause-room
take_some-requires-clause-room g c =
    let groups = groups_in c.args.table.now in
    let current = c.args.self.now.current in
    let next = c.args.self.now.next in
    let group = c.group-self.result in
    let following : drop next groups ≡ group ∷ drop (next + 1) groups =
    groups_from_index c.args.table.now c.requires.read.whole next (omega arith) ∙ ap (λ (gr : Group). gr ∷ drop (next + 1) groups) (sym c.group-self.ensures.group) in
    let few : group.count ≤ values (current ∷ drop next groups) =
    omega (arith, values-cons current (drop next groups), ap values following, values-cons group (drop (next + 1) groups)) in
    g.met.T.Taker.fewer c.args.taker group.count (values (current ∷ drop next groups)) few c.requires.room
