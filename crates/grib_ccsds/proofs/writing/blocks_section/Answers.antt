use Rattle.std.proofs.Common.{[], ◌++◌, length, refl, ap, ◌∙◌, append-nil, arith}
use Rattle.grib_bits.specs.Bits.{bits}
use Rattle.grib_bits.proofs.OctetBits.{length-bits}
use Rattle.grib_packing.specs.Packed.{blocks_written, padded}
use Rattle.grib_packing.proofs.Fields.{length-padded8}
use Rattle.grib_packing.proofs.Left.{left_padded}
use Rattle.grib_packing.proofs.Sections.{head_of, has_contents}
use Rattle.grib_ccsds.proofs.writing.blocks_section.Goals as goal

pub returns : goal.returns
returns c =
    let contents = blocks_written c.args.coding.now c.args.numbers.now in
    let head = head_of c.args.octets 7 in
    let begun = c.write_head.ensures.bits ∙ ap (λ xs. xs ++ bits head) c.requires.none in
    let ended = left_padded c.write_head.new.out c.put_blocks.new.out c.align.new.self contents [] refl
    (record { bits = append-nil c.put_blocks.new.out.bits ∙ c.put_blocks.ensures.bits; spare = omega (arith, c.put_blocks.ensures.spare) })
    (omega (arith, ap length begun, length-bits head)) c.align.ensures.bits c.align.ensures.spare in
    has_contents c.octets_written.result 7 c.args.octets contents c.octets_written.ensures.octets (omega arith) (c.ranges.octets).fits
    (omega (arith, c.requires.octets, length-padded8 contents))
    (c.octets_written.ensures.bits ∙ ended.bits ∙ ap (λ xs. xs ++ padded contents) begun)
