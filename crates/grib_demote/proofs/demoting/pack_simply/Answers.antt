use Rattle.std.proofs.Common.{length, refl, sym, ap, ◌∙◌, subst, arith}
use Rattle.grib2_grids.specs.Grid.{grid_points}
use Rattle.grib_packing.specs.Misfits.{ToSimple, first_misfit}
use Rattle.grib_packing.specs.Written.{IsPackFault}
use Rattle.grib2_message.specs.Fields.{part_octets, column_of}
use Rattle.grib_repack.specs.Repacked.{kind_of}
use Rattle.grib_packing.proofs.Packings.{packing_passes}
use Rattle.grib_demote.specs.Losses.{loses_reference}
use Rattle.grib_demote.proofs.Packing.{packed_found, not_by_differences}
use Rattle.grib_demote.proofs.demoting.pack_simply.Goals as goal

pub loses_reference-requires : goal.loses_reference-requires
loses_reference-requires c =
    let m = c.args.message.now in
    let i = c.args.field in
    let packing = packing_passes (part_octets m i 5) (grid_points (part_octets m i 3)) c.there.ensures.passes.packing in
    omega (arith, packing.long, ap length c.there.ensures.octets)

pub returns-in-Ok : goal.returns-in-Ok
returns-in-Ok c =
    let m = c.args.message.now in
    let i = c.args.field in
    let part = c.there.ensures.octets in
    let reference = c.loses_reference.ensures ∙ ap loses_reference part in
    packed_found m i (column_of m i) refl c.one_packing_is_written.ensures (kind_of m i) c.in-Ok.packed refl
    (sym reference ∙ c.if-loses_reference.false) c.in-Ok.ensures

pub unreachable-requires : goal.unreachable-requires
unreachable-requires c =
    let points = (column_of c.args.message.now c.args.field).points in
    let fault = c.in-Err-DifferenceRange in
    not_by_differences points (subst (IsPackFault (first_misfit ToSimple points)) fault.field-0-is fault.ensures)
