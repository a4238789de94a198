use Rattle.std.proofs.Common.{◌≡◌, ℕ, ◌+◌, ◌/◌, List, Bool, ◌++◌, ap, ◌∙◌, arith}
use Rattle.grib_bits.specs.Bits.{bits, bits_of}
use Rattle.grib_packing.proofs.Sections.{head_of}
use Rattle.grib_simple_values.proofs.bitmap_writer.BitmapWriter.start.Goals as goal

pub returns : goal.returns
returns c =
    let head = bits (head_of (6 + c.div_ceil-length.result) 6) in
    let long : 6 + c.div_ceil-length.result ≡ 6 + (c.args.count + 7) / 8 = omega (arith, c.div_ceil-length.ensures) in
    record {
      left_are = omega arith;
      written =
          c.write_u8.ensures.octets.bits
          ∙ ap (λ (xs : List Bool). xs ++ bits_of 8 0)
          (c.write_head.ensures.bits ∙ ap (λ (xs : List Bool). xs ++ head) c.in_ok-out.ensures.0 ∙ ap (λ (n : ℕ). bits (head_of n 6)) long);
    }
