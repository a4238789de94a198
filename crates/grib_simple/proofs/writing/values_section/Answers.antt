use Rattle.std.proofs.Common.{◌++◌, ap, ◌∙◌, arith}
use Rattle.grib_bits.specs.Bits.{bits}
use Rattle.grib_bits.proofs.OctetBits.{length-bits}
use Rattle.grib_packing.specs.Packed.{fields, simple_numbers}
use Rattle.grib_packing.proofs.Fields.{length-fields, length-padded8}
use Rattle.grib_packing.proofs.Sections.{head_of, has_contents}
use Rattle.grib_simple.proofs.PointByPoint.{contents_padded}
use Rattle.grib_simple.proofs.writing.values_section.Goals as goal

pub put_numbers-requires-clause-room : goal.put_numbers-requires-clause-room
put_numbers-requires-clause-room c =
    omega (arith, length-fields c.args.bits (simple_numbers c.args.points.now), c.requires.octets, c.requires.room, c.write_head.ensures.spare)

pub returns : goal.returns
returns c =
    let numbers = simple_numbers c.args.points.now in
    let contents = fields c.args.bits numbers in
    let head = head_of c.args.octets 7 in
    let begun = c.write_head.ensures.bits ∙ ap (λ xs. xs ++ bits head) c.requires.none in
    let now = c.put_numbers.ensures.bits ∙ ap (λ xs. xs ++ contents) begun in
    has_contents c.octets_written.result 7 c.args.octets contents c.octets_written.ensures.octets (omega arith) (c.ranges.octets).fits
    (omega (arith, c.requires.octets, length-padded8 contents, length-fields c.args.bits numbers))
    (c.octets_written.ensures.bits ∙ contents_padded (bits head) contents c.put_numbers.new.out.bits c.align.new.self.bits (omega (arith, length-bits head)) now c.align.ensures.bits)
