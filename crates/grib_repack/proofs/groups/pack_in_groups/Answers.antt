use Rattle.std.proofs.Common.{ℕ, Ok, length, ap, sym, ◌∙◌, arith, subst}
use Rattle.grib2_grids.specs.Grid.{grid_points}
use Rattle.grib_packing.specs.Misfits.{ToComplex}
use Rattle.grib_packing.specs.Representation.{Spelled}
use Rattle.grib_packing.specs.declared.column.Column.{Column}
use Rattle.grib_packing.proofs.Packings.{packing_passes}
use Rattle.grib_packing.specs.Below.{IsPackedBelow}
use Rattle.grib2_message.specs.Fields.{part_octets, column_of}
use Rattle.grib_repack.specs.Repacked.{kind_of}
use Rattle.grib_repack.proofs.Packing.{none_below}
use Rattle.grib_repack.proofs.groups.pack_in_groups.Goals as goal

pub numbers_of-simple-requires : goal.numbers_of-simple-requires
numbers_of-simple-requires c =
    let m = c.args.message.now in
    let i = c.args.field in
    let packing = packing_passes (part_octets m i 5) (grid_points (part_octets m i 3)) c.in-Some.ensures.passes.packing in
    omega (arith, packing.long, ap length c.in-Some.ensures.part.1)

pub point_words-requires-clause-spelled : goal.point_words-requires-clause-spelled
point_words-requires-clause-spelled c = subst (Spelled c.numbers_of-simple.result) c.in-Some.ensures.part.1 c.numbers_of-simple.ensures

pub told-requires-clause-words : goal.told-requires-clause-words
told-requires-clause-words c = ((column_of c.args.message.now c.args.field).points, c.in_ok-kept.ensures.words)

pub pack_codes-requires-clause-some : goal.pack_codes-requires-clause-some
pack_codes-requires-clause-some c = omega (arith, c.in-Some-told.ensures.long, c.in_ok-kept.ensures.some)

pub pack_codes-requires-clause-most : goal.pack_codes-requires-clause-most
pack_codes-requires-clause-most c = omega (arith, c.in-Some-told.ensures.long, c.in_ok-kept.ensures.few)

pub pack_codes-requires-clause-points : goal.pack_codes-requires-clause-points
pack_codes-requires-clause-points c =
    let points = (column_of c.args.message.now c.args.field).points in
    (points, c.in-Some-told.ensures.points points c.in_ok-kept.ensures.words)

pub returns-in_err-packed : goal.returns-in_err-packed
returns-in_err-packed c = none_below ToComplex (column_of c.args.message.now c.args.field) (kind_of c.args.message.now c.args.field) c.args.below c.from_residual-in_err-packed.result c.from_residual-in_err-packed.ensures.1

pub returns : goal.returns
returns c =
    let column = column_of c.args.message.now c.args.field in
    let spelled = subst (Spelled c.numbers_of-simple.result) c.in-Some.ensures.part.1 c.numbers_of-simple.ensures in
    let same = sym c.column-no_points.ensures in
    subst (λ (kind : ℕ). IsPackedBelow ToComplex column kind c.args.below (Ok c.in_ok-packed.packed)) spelled.kind
    (c.in_ok-packed.ensures column (sym spelled.reference ∙ ap (λ (x : Column). x.reference) same) (sym spelled.e ∙ ap (λ (x : Column). x.e) same) (sym spelled.d ∙ ap (λ (x : Column). x.d) same)
    (c.in-Some-told.ensures.points column.points c.in_ok-kept.ensures.words))
