use Rattle.std.proofs.Common.{[]}
use Rattle.grib_packing.specs.Complex.{layout_of, descriptor_octets}
use Rattle.grib_packing.specs.Misfits.{ToComplex}
use Rattle.grib_packing.specs.Packed.{target_codes}
use Rattle.grib_complex.proofs.Back.{laid_out, parts_stand, room, unpacks}
use Rattle.grib_complex.proofs.laws.what_is_packed_in_groups_reads_back.Goals as goal

pub returns : goal.returns
returns c column kind s5 s6 s7 may none packed =
    unpacks column kind s5 s6 s7 may none packed
    (c.what_is_written_reads_back.ensures (layout_of s5) (target_codes ToComplex column.points) packed.lengths s7 (descriptor_octets s5) []
    (laid_out column kind s5 s6 s7 may none packed) (room column kind s5 s6 s7 may none packed) (parts_stand column kind s5 s6 s7 may none packed))
