use Rattle.std.proofs.Common.{◌≡◌, ℕ, ◌+◌, Bool, false, List, ◌++◌, length, replicate, refl, sym, ap, ◌∙◌, arith, append_assoc}
use Rattle.std.proofs.lemmas.List.{length-append, length-replicate}
use Rattle.grib_bits.specs.Bits.{bits, bits_of}
use Rattle.grib_bits.specs.Written.{padding}
use Rattle.grib_bits.proofs.OctetBits.{length-bits}
use Rattle.grib_packing.proofs.Fields.{length-padded8}
use Rattle.grib_packing.proofs.Left.{padding-behind}
use Rattle.grib_packing.proofs.Sections.{head_of, has_contents}
use Rattle.grib_simple_values.proofs.bitmap.own_mask.Goals as goal

-- what stands before the mask
begun : (c : goal.After-room-4-1) → c.write_u8.new.out.bits ≡ bits (head_of (6 + c.div_ceil-octets.result) 6) ++ bits_of 8 0
begun c =
    let head = bits (head_of (6 + c.div_ceil-octets.result) 6) in
    c.write_u8.ensures.octets.bits
    ∙ ap (λ (xs : List Bool). xs ++ bits_of 8 0) (c.write_head.ensures.bits ∙ ap (λ (xs : List Bool). xs ++ head) c.in_ok-room.ensures.0)

front_long : (c : goal.After-room-4-1) → length c.write_u8.new.out.bits ≡ 48
front_long c =
    let head = head_of (6 + c.div_ceil-octets.result) 6 in
    omega (arith, ap length (begun c), length-append (bits head) (bits_of 8 0), length-bits head)

pub write_mask-requires-clause-whole : goal.write_mask-requires-clause-whole
write_mask-requires-clause-whole c = omega (arith, front_long c)

pub write_mask-requires-clause-room : goal.write_mask-requires-clause-room
write_mask-requires-clause-room c =
    omega (arith, c.in_ok-room.ensures.1, c.write_head.ensures.spare, c.write_u8.ensures.octets.spare, c.div_ceil-octets.ensures, c.len.ensures)

pub octets_written-requires : goal.octets_written-requires
octets_written-requires c =
    let mask = c.args.mask.now in
    let rest = replicate (padding mask) false in
    omega (arith, ap length c.write_mask.ensures.bits, length-append c.write_u8.new.out.bits (mask ++ rest), length-append mask rest, length-replicate (padding mask) false, front_long c.before)

pub returns : goal.returns
returns c =
    let mask = c.args.mask.now in
    let rest = replicate (padding mask) false in
    let n = 6 + c.div_ceil-octets.result in
    let head = bits (head_of n 6) in
    let contents : List Bool = bits_of 8 0 ++ mask in
    let whole =
    c.write_mask.ensures.bits ∙ ap (λ (xs : List Bool). xs ++ (mask ++ rest)) (begun c.before.before)
    ∙ append_assoc head (bits_of 8 0) (mask ++ rest)
    ∙ ap (λ (ys : List Bool). head ++ ys)
    (sym (append_assoc (bits_of 8 0) mask rest) ∙ ap (λ (k : ℕ). contents ++ replicate k false) (sym (padding-behind (bits_of 8 0) mask refl))) in
    has_contents c.octets_written.result 6 n contents c.octets_written.ensures.octets (omega arith) (omega (arith, c.requires, c.div_ceil-octets.ensures, c.len.ensures))
    (omega (arith, length-padded8 contents, c.div_ceil-octets.ensures, c.len.ensures))
    (c.octets_written.ensures.bits ∙ whole)
