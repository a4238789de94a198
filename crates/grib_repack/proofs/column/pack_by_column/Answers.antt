use Rattle.std.proofs.Common.{length, ap, arith}
use Rattle.grib2_grids.specs.Grid.{grid_points}
use Rattle.grib_packing.proofs.Packings.{packing_passes}
use Rattle.grib2_message.specs.Fields.{part_octets}
use Rattle.grib_repack.proofs.Columns.{packable}
use Rattle.grib_repack.proofs.column.pack_by_column.Goals as goal

pub u8_at-kind-requires-clause-within : goal.u8_at-kind-requires-clause-within
u8_at-kind-requires-clause-within c =
    let m = c.args.message.now in
    let i = c.args.field in
    let packing = packing_passes (part_octets m i 5) (grid_points (part_octets m i 3)) c.in-Some.ensures.passes.packing in
    omega (arith, packing.long, ap length c.in-Some.ensures.part.1)

pub pack_column-requires-in-None-clause-column : goal.pack_column-requires-in-None-clause-column
pack_column-requires-in-None-clause-column c =
    let e = c.in_ok-column-in-None.ensures in
    packable c.args.message.now c.args.field c.in_ok-column-in-None.column e.column e.passes e.some e.few
