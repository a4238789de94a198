use Rattle.std.proofs.Common.{[]}
use Rattle.grib_packing.specs.Complex.{layout_of, descriptor_octets}
use Rattle.grib_packing.specs.Misfits.{ToSpatial, scaled_numbers}
use Rattle.grib_packing.specs.Packed.{target_codes}
use Rattle.grib_complex.proofs.ByDifferences.{laid_out, parts_stand, room, unpacks}
use Rattle.grib_complex.proofs.laws.what_is_packed_by_differences_reads_back.Goals as goal

pub returns : goal.returns
returns c order kind column s5 s6 s7 known may none packed =
    unpacks order column kind s5 s6 s7 known may none packed
    (c.what_is_written_reads_back.ensures (layout_of s5) (target_codes (ToSpatial order) column.points) packed.lengths s7 (descriptor_octets s5) []
    (laid_out order column kind s5 s6 s7 known may none packed) (room order column kind s5 s6 s7 known may none packed) (parts_stand order column kind s5 s6 s7 known may none packed))
    (c.differences_tell_their_numbers.ensures order (scaled_numbers column.points) known)
