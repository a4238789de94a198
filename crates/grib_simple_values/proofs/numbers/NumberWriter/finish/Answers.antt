use Rattle.std.proofs.Common.{◌+◌, ◌*◌, ◌/◌, ◌≤◌, length, ◌∙◌, arith}
use Rattle.std.proofs.lemmas.Nat.{mul-le}
use Rattle.grib_bits.specs.Bits.{bits}
use Rattle.grib_bits.proofs.OctetBits.{length-bits}
use Rattle.grib_bitmap.proofs.Writing.{written_aligned}
use Rattle.grib_packing.specs.Groupings.{digits, greatest}
use Rattle.grib_packing.specs.Packed.{fields}
use Rattle.grib_packing.proofs.Digits.{digits-most_64}
use Rattle.grib_packing.proofs.Fields.{length-fields, length-padded8}
use Rattle.grib_packing.proofs.Sections.{head_of, has_contents}
use Rattle.grib_simple_values.proofs.numbers.NumberWriter.finish.Goals as goal

pub returns : goal.returns
returns c = λ numbers few small has.
    let most = greatest numbers in
    let w = digits most in
    let contents = fields w numbers in
    let n = 5 + (length numbers * w + 7) / 8 in
    let head = head_of n 7 in
    let narrow : w ≤ 48 = digits-most_64 most 48 (omega (arith, small)) small in
    let product = mul-le (length numbers) w 33554432 48 few narrow in
    has_contents c.octets_written.result 7 n contents c.octets_written.ensures.octets (omega arith) (omega (arith, product))
    (omega (arith, length-padded8 contents, length-fields w numbers))
    (c.octets_written.ensures.bits ∙ written_aligned (bits head) contents c.args.self.out.bits c.align.new.self.bits (omega (arith, length-bits head)) has.written c.align.ensures.bits)
