use Rattle.std.proofs.Common.{◌≡◌, length, None, ap, ◌∙◌, arith}
use Rattle.grib_base.specs.Rules.{located}
use Rattle.grib_packing.specs.Entries.{data_fault, column_from}
use Rattle.grib2_message.specs.View.{octets_in_force}
use Rattle.grib2_message.proofs.Checked.{stands_below}
use Rattle.grib2_message.proofs.Masks.{points_bounds, points_of_mask}
use Rattle.grib2_message.proofs.columns.column_at.Goals as goal

pub representation_at-representation-requires : goal.representation_at-representation-requires
representation_at-representation-requires c = (c.args.octets.now, c.requires.0, c.requires.1, c.requires.2)

pub section-requires-clause-stands : goal.section-requires-clause-stands
section-requires-clause-stands c =
    stands_below c.args.octets.now c.requires.0 c.args.places.now 7 c.requires.1.stand (omega arith) (omega arith) (omega (arith, c.requires.1.ends))

pub unpack-requires : goal.unpack-requires
unpack-requires c =
    let before = c.requires.0 in
    let h = c.requires.1 in
    let told = c.in_ok-mask.ensures before h in
    (octets_in_force 5 before, c.representation_at-representation.ensures _ before h, told.2)

pub returns-in-Ok-clause-column : goal.returns-in-Ok-clause-column
returns-in-Ok-clause-column c = λ before h.
    let told = c.in_ok-mask.ensures before h in
    let read = c.representation_at-representation.ensures _ before h in
    let seven = c.section.ensures.octets before h.stand in
    (c.in-Ok.ensures (octets_in_force 5 before) read).1 ∙ (λ i. column_from (octets_in_force 5 before) (told.0 i) (seven i))

pub unreachable-requires : goal.unreachable-requires
unreachable-requires c =
    let before = c.requires.0 in
    let h = c.requires.1 in
    let read = c.representation_at-representation.ensures _ before h in
    let refused = rw c.in-Err-Refused.field-0-is at (c.in-Err-Refused.ensures (octets_in_force 5 before) read) in
    let none : data_fault (octets_in_force 5 before) c.section.result.octets.now ≡ None =
    ap (data_fault (octets_in_force 5 before)) (c.section.ensures.octets before h.stand) ∙ h.stand.force.sound.values (omega (arith, h.ends)) in
    let located_none = ap (located c.section.result.start) none in
    absurd (cc)

pub returns-in-Ok-clause-few : goal.returns-in-Ok-clause-few
returns-in-Ok-clause-few c = λ before h.
    let told = c.in_ok-mask.ensures before h in
    let read = c.representation_at-representation.ensures _ before h in
    let bounds = points_bounds c.args.places.now.force.profile (octets_in_force 3 before) (h.stand.force.sound.grid (omega (arith, h.ends))) in
    let size : length c.in-Ok.column.points ≡ length c.in_ok-mask.mask =
    ap (λ column. length column.points) (c.in-Ok.ensures (octets_in_force 5 before) read).1 ∙ points_of_mask c.in_ok-mask.mask _ in
    omega (arith, size, told.1, bounds.1)

pub returns-in-Ok-clause-some : goal.returns-in-Ok-clause-some
returns-in-Ok-clause-some c = λ before h.
    let told = c.in_ok-mask.ensures before h in
    let read = c.representation_at-representation.ensures _ before h in
    let bounds = points_bounds c.args.places.now.force.profile (octets_in_force 3 before) (h.stand.force.sound.grid (omega (arith, h.ends))) in
    let size : length c.in-Ok.column.points ≡ length c.in_ok-mask.mask =
    ap (λ column. length column.points) (c.in-Ok.ensures (octets_in_force 5 before) read).1 ∙ points_of_mask c.in_ok-mask.mask _ in
    omega (arith, size, told.1, bounds.0)

pub returns-in-Ok-clause-long : goal.returns-in-Ok-clause-long
returns-in-Ok-clause-long c = λ before h.
    let told = c.in_ok-mask.ensures before h in
    let read = c.representation_at-representation.ensures _ before h in
    ap (λ column. length column.points) (c.in-Ok.ensures (octets_in_force 5 before) read).1 ∙ points_of_mask c.in_ok-mask.mask _ ∙ told.1
