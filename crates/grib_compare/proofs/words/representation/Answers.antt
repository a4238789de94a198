use Rattle.std.proofs.Common.{length, ap, arith}
use Rattle.grib2_grids.specs.Grid.{grid_points}
use Rattle.grib_packing.proofs.Packings.{packing_passes}
use Rattle.grib2_message.specs.Fields.{part_octets}
use Rattle.grib_compare.proofs.words.representation.Goals as goal

pub numbers_of-requires : goal.numbers_of-requires
numbers_of-requires c =
    let m = c.args.message.now in
    let i = c.args.field in
    let packing = packing_passes (part_octets m i 5) (grid_points (part_octets m i 3)) c.in-Some.ensures.passes.packing in
    omega (arith, packing.long, ap length c.in-Some.ensures.part.1)
