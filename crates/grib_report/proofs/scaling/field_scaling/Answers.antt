use Rattle.std.proofs.Common.{length, ap, arith}
use Rattle.grib_base.proofs.Places.{any_of_none}
use Rattle.grib2_grids.specs.Grid.{grid_points}
use Rattle.grib_packing.specs.Column.{points_with_mask}
use Rattle.grib_packing.specs.Entries.{entries_of, is_out_of_range}
use Rattle.grib2_message.specs.Fields.{part_octets, field_mask}
use Rattle.grib_packing.proofs.Packings.{packing_passes}
use Rattle.grib_repack.proofs.Ranges.{entries_within, none_with_mask}
use Rattle.grib_report.proofs.scaling.field_scaling.Goals as goal

pub numbers_of-numbers-requires : goal.numbers_of-numbers-requires
numbers_of-numbers-requires c =
    let m = c.args.message.now in
    let i = c.args.field in
    let packing = packing_passes (part_octets m i 5) (grid_points (part_octets m i 3)) c.part.ensures.passes.packing in
    omega (arith, ap length c.in-Some.ensures.part.1, packing.long)

pub returns-clause-small : goal.returns-clause-small
returns-clause-small c =
    let m = c.args.message.now in
    let i = c.args.field in
    let s5 = part_octets m i 5 in
    let s7 = part_octets m i 7 in
    let passes = c.part.ensures.passes in
    any_of_none is_out_of_range (points_with_mask (field_mask m i) (entries_of s5 s7))
    (none_with_mask (field_mask m i) (entries_of s5 s7) (entries_within s5 s7 _ passes.packing passes.values))
