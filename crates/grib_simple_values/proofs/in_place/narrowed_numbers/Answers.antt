use Rattle.std.proofs.Common.{◌≡◌, ℕ, ◌+◌, ◌*◌, ◌++◌, Bool, List, length, ap, ap₂, ◌∙◌, arith}
use Rattle.std.proofs.lemmas.Nat.{mul-le}
use Rattle.grib_bits.specs.Bits.{bits}
use Rattle.grib_bits.specs.Plain.{plain}
use Rattle.grib_bits.proofs.OctetBits.{length-bits}
use Rattle.grib_packing.specs.Packed.{fields}
use Rattle.grib_packing.proofs.Fields.{length-fields, length-padded8, length-plain}
use Rattle.grib_packing.proofs.Sections.{head_of, has_contents}
use Rattle.grib_bitmap.proofs.Writing.{written_aligned}
use Rattle.grib_simple_values.proofs.in_place.narrowed_numbers.Goals as goal

pub returns : goal.returns
returns c =
    let numbers = plain (bits c.args.octets.now) c.args.bits c.args.count in
    let contents = fields c.args.width numbers in
    let n = 5 + c.div_ceil.result in
    let head = head_of n 7 in
    let begun = c.write_head.ensures.bits ∙ ap (λ (xs : List Bool). xs ++ bits head) c.in_ok-room.ensures.0 in
    let now = c.put_numbers.ensures.bits ∙ ap (λ (xs : List Bool). xs ++ contents) begun in
    let few = mul-le c.args.count c.args.width 33554432 48 c.requires.count c.requires.width in
    let written : c.from.result * c.from-2.result ≡ c.args.count * c.args.width = ap₂ (λ (a b : ℕ). a * b) c.from.ensures c.from-2.ensures in
    let product : length numbers * c.args.width ≡ c.args.count * c.args.width =
    ap (λ (k : ℕ). k * c.args.width) (length-plain (bits c.args.octets.now) c.args.bits c.args.count) in
    has_contents c.octets_written.result 7 n contents c.octets_written.ensures.octets (omega arith) (omega (arith, c.div_ceil.ensures, written, few))
    (omega (arith, c.div_ceil.ensures, length-padded8 contents, length-fields c.args.width numbers, product, written))
    (c.octets_written.ensures.bits ∙ written_aligned (bits head) contents c.put_numbers.new.out.bits c.align.new.self.bits (omega (arith, length-bits head)) now c.align.ensures.bits)
