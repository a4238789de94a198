use Rattle.std.proofs.Common.{◌+◌, ◌≡◌, ◌++◌, Bool, List, length, not, ap, ◌∙◌, arith, append_assoc}
use Rattle.std.proofs.lemmas.List.{length-map}
use Rattle.grib_bits.specs.Bits.{bits, bits_of}
use Rattle.grib_bits.proofs.OctetBits.{length-bits}
use Rattle.grib_packing.specs.Misfits.{is_missing}
use Rattle.grib_packing.specs.Packed.{present_bits}
use Rattle.grib_packing.proofs.Fields.{length-padded8}
use Rattle.grib_packing.proofs.Sections.{head_of, has_contents}
use Rattle.grib_simple.proofs.PointByPoint.{contents_padded}
use Rattle.grib_simple.proofs.writing.own_bitmap.Goals as goal

pub returns : goal.returns
returns c =
    let points = c.args.points.now in
    let n = 6 + c.div_ceil.result in
    let head = head_of n 6 in
    let contents : List Bool = bits_of 8 0 ++ present_bits points in
    let begun = c.write_head.ensures.bits ∙ ap (λ xs. xs ++ bits head) c.requires.none in
    let marked = c.write_u8.ensures.octets.bits ∙ ap (λ xs. xs ++ bits_of 8 0) begun in
    let now = c.put_bitmap.ensures.bits ∙ ap (λ xs. xs ++ present_bits points) marked ∙ append_assoc (bits head) (bits_of 8 0) (present_bits points) in
    let long : length (present_bits points) ≡ length points = length-map points (λ point. not (is_missing point)) in
    has_contents c.octets_written.result 6 n contents c.octets_written.ensures.octets (omega arith) (omega (arith, c.requires.few, c.div_ceil.ensures))
    (omega (arith, length-padded8 contents, long, c.div_ceil.ensures))
    (c.octets_written.ensures.bits ∙ contents_padded (bits head) contents c.put_bitmap.new.out.bits c.align.new.self.bits (omega (arith, length-bits head)) now c.align.ensures.bits)
