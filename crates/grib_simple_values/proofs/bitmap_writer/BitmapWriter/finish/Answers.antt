use Rattle.std.proofs.Common.{◌+◌, ◌/◌, not, ◌++◌, length, ◌∙◌, arith}
use Rattle.std.proofs.lemmas.List.{length-map}
use Rattle.grib_bits.specs.Bits.{bits, bits_of}
use Rattle.grib_bits.proofs.OctetBits.{length-bits}
use Rattle.grib_bitmap.proofs.Writing.{written_aligned}
use Rattle.grib_packing.specs.declared.column.Point.{Point}
use Rattle.grib_packing.specs.Misfits.{is_missing}
use Rattle.grib_packing.specs.Packed.{present_bits}
use Rattle.grib_packing.proofs.Fields.{length-padded8}
use Rattle.grib_packing.proofs.Sections.{head_of, has_contents}
use Rattle.grib_simple_values.proofs.bitmap_writer.BitmapWriter.finish.Goals as goal

pub returns : goal.returns
returns c = λ points few has.
    let contents = bits_of 8 0 ++ present_bits points in
    let n = 6 + (length points + 7) / 8 in
    let head = head_of n 6 in
    has_contents c.octets_written.result 6 n contents c.octets_written.ensures.octets (omega arith) (omega (arith, few))
    (omega (arith, length-padded8 contents, length-map points (λ (point : Point). not (is_missing point))))
    (c.octets_written.ensures.bits ∙ written_aligned (bits head) contents c.args.self.out.bits c.align.new.self.bits (omega (arith, length-bits head)) has.written c.align.ensures.bits)
