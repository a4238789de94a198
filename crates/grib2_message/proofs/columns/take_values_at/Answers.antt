use Rattle.std.proofs.Common.{◌≡◌, ℕ, List, None, length, ap, ◌∙◌, arith, subst}
use Rattle.grib_base.specs.Rules.{located}
use Rattle.grib_packing.specs.Entries.{data_fault, entries_of}
use Rattle.grib_packing.specs.Packing.{value_count}
use Rattle.grib2_message.specs.View.{octets_in_force}
use Rattle.grib2_message.proofs.Checked.{stands_below}
use Rattle.grib2_message.proofs.columns.take_values_at.Goals as goal

pub representation_at-representation-requires : goal.representation_at-representation-requires
representation_at-representation-requires g c = (c.args.octets.now, c.requires.0, c.requires.1, c.requires.2)

pub section-requires-clause-stands : goal.section-requires-clause-stands
section-requires-clause-stands g c =
    stands_below c.args.octets.now c.requires.0 c.args.places.now 7 c.requires.1.stand (omega arith) (omega arith) (omega (arith, c.requires.1.ends))

pub take_values-requires : goal.take_values-requires
take_values-requires g c =
    let before = c.requires.0 in
    let h = c.requires.1 in
    (octets_in_force 5 before, c.representation_at-representation.ensures _ before h)

pub returns-in-Ok : goal.returns-in-Ok
returns-in-Ok g c = λ before h.
    let s5 = octets_in_force 5 before in
    let read = c.representation_at-representation.ensures _ before h in
    let seven = c.section.ensures.octets before h.stand in
    let taken = c.in-Ok.ensures s5 read in
    subst (λ (s7 : List ℕ). g.K.Keeper.kept c.args.keeper (entries_of s5 s7) c.in-Ok.after × (length (entries_of s5 s7) ≡ value_count s5)) seven (taken.1, taken.2)

pub unreachable-requires : goal.unreachable-requires
unreachable-requires g c =
    let before = c.requires.0 in
    let h = c.requires.1 in
    let read = c.representation_at-representation.ensures _ before h in
    let refused = rw c.in-Err-Refused.field-0-is at (c.in-Err-Refused.ensures (octets_in_force 5 before) read) in
    let none : data_fault (octets_in_force 5 before) c.section.result.octets.now ≡ None =
    ap (data_fault (octets_in_force 5 before)) (c.section.ensures.octets before h.stand) ∙ h.stand.force.sound.values (omega (arith, h.ends)) in
    let located_none = ap (located c.section.result.start) none in
    absurd (cc)
