use Rattle.std.proofs.Common.{◌≡◌, ℕ, Bool, List, length, map, sym, ap, ◌∙◌, refl, Ok, arith, subst}
use Rattle.grib_base.specs.declared.profile.Profile.TheVariants.{Open}
use Rattle.grib2_grids.specs.Grid.{grid_points}
use Rattle.grib_packing.specs.Column.{points_with_mask}
use Rattle.grib_packing.specs.Misfits.{ToSimple}
use Rattle.grib_packing.specs.Packing.{packing_template}
use Rattle.grib_packing.specs.Representation.{Spelled}
use Rattle.grib_packing.specs.Written.{IsPacked}
use Rattle.grib_packing.proofs.Packings.{entries_of-simple, packing_passes}
use Rattle.grib_simple_reading.proofs.Plain.{plain_point}
use Rattle.grib2_message.specs.Fields.{part_octets, field_mask, column_of}
use Rattle.grib2_message.proofs.Masks.{points_bounds}
use Rattle.grib_repack.specs.Repacked.{kind_of}
use Rattle.grib_repack.proofs.Packing.{out_of_memory}
use Rattle.grib_repack.proofs.Simply.{narrow_bits, numbers_in, numbers_read, room_read}
use Rattle.grib_repack.proofs.plain.pack_simply.Goals as goal

pub numbers_of-simple-requires : goal.numbers_of-simple-requires
numbers_of-simple-requires c =
    let m = c.args.message.now in
    let i = c.args.field in
    let packing = packing_passes (part_octets m i 5) (grid_points (part_octets m i 3)) c.part.ensures.passes.packing in
    omega (arith, ap length c.in-Some-Some.ensures.part.1, packing.long)

pub pack_numbers-requires-clause-bits : goal.pack_numbers-requires-clause-bits
pack_numbers-requires-clause-bits c =
    let m = c.args.message.now in
    let i = c.args.field in
    let packing = packing_passes (part_octets m i 5) (grid_points (part_octets m i 3)) c.part.ensures.passes.packing in
    let spelled = subst (Spelled c.numbers_of-simple.result) c.in-Some-Some.ensures.part.1 c.numbers_of-simple.ensures in
    omega (arith, spelled.bits, narrow_bits (part_octets m i 5) (sym spelled.template ∙ c.if-simple-ne0.false) packing.narrow)

pub pack_numbers-requires-clause-within : goal.pack_numbers-requires-clause-within
pack_numbers-requires-clause-within c =
    let spelled = subst (Spelled c.numbers_of-simple.result) c.in-Some-Some.ensures.part.1 c.numbers_of-simple.ensures in
    room_read c.args.message.now c.args.field c.numbers_of-simple.result c.in-Some-Some.section7.octets.now c.numbers_of-simple.result.bits spelled c.in-Some-Some.ensures'.part.1 refl
    (sym spelled.template ∙ c.if-simple-ne0.false) c.part.ensures.passes.values

pub pack_numbers-requires-clause-few : goal.pack_numbers-requires-clause-few
pack_numbers-requires-clause-few c =
    let bounds = points_bounds Open (part_octets c.args.message.now c.args.field 3) c.part.ensures.passes.grid in
    omega (arith, c.in_ok-mask.ensures.long, bounds.1)

pub pack_numbers-requires-clause-present : goal.pack_numbers-requires-clause-present
pack_numbers-requires-clause-present c =
    let spelled = subst (Spelled c.numbers_of-simple.result) c.in-Some-Some.ensures.part.1 c.numbers_of-simple.ensures in
    c.in_ok-mask.ensures.values ∙ sym spelled.values

pub pack_values-requires-clause-spelled : goal.pack_values-requires-clause-spelled
pack_values-requires-clause-spelled c = subst (Spelled c.numbers_of-simple.result) c.in-Some-Some.ensures.part.1 c.numbers_of-simple.ensures

pub returns-in_err-mask : goal.returns-in_err-mask
returns-in_err-mask c = out_of_memory ToSimple (column_of c.args.message.now c.args.field) (kind_of c.args.message.now c.args.field) c.from_residual.result c.from_residual.ensures.1

pub returns-in_err-packed : goal.returns-in_err-packed
returns-in_err-packed c = out_of_memory ToSimple (column_of c.args.message.now c.args.field) (kind_of c.args.message.now c.args.field) c.from_residual-in_err-packed.result c.from_residual-in_err-packed.ensures.1

pub returns : goal.returns
returns c =
    let m = c.args.message.now in
    let i = c.args.field in
    let simple = c.numbers_of-simple.result in
    let spelled = subst (Spelled simple) c.in-Some-Some.ensures.part.1 c.numbers_of-simple.ensures in
    let template : packing_template (part_octets m i 5) ≡ 0 = sym spelled.template ∙ c.if-simple-ne0.false in
    let read = numbers_read m i simple c.in-Some-Some.section7.octets.now simple.bits spelled c.in-Some-Some.ensures'.part.1 refl in
    let points = ap (points_with_mask (field_mask m i)) (entries_of-simple (part_octets m i 5) (part_octets m i 7) template)
    ∙ ap (λ (mask : List Bool). points_with_mask mask (map plain_point (numbers_in m i))) (sym c.in_ok-mask.ensures.mask)
    ∙ ap (λ (ns : List ℕ). points_with_mask c.in_ok-mask.mask (map plain_point ns)) (sym read) in
    subst (λ (kind : ℕ). IsPacked ToSimple (column_of m i) kind (Ok c.in_ok-packed.packed)) spelled.kind
    (c.in_ok-packed.ensures (column_of m i) (sym spelled.reference) (sym spelled.e) (sym spelled.d) points)
