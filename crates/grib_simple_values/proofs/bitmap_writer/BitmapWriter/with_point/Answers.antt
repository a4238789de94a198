use Rattle.std.proofs.Common.{◌≡◌, Bool, true, false, not, List, [], ◌∷◌, ◌++◌, refl, sym, ap, ap₂, ◌∙◌, arith, append_assoc}
use Rattle.std.proofs.lemmas.List.{length_push, map-append}
use Rattle.grib_bits.specs.Bits.{bits, bits_of, digit}
use Rattle.grib_packing.specs.declared.column.Point.{Point}
use Rattle.grib_packing.specs.Misfits.{is_missing}
use Rattle.grib_packing.specs.Packed.{present_bits}
use Rattle.grib_simple_values.specs.Marked.{bitmap_head}
use Rattle.grib_simple_values.proofs.bitmap_writer.BitmapWriter.with_point.Goals as goal

one_bit : (b : Bool) → bits_of 1 (digit b) ≡ b ∷ []
one_bit true = refl
one_bit false = refl

pub returns : goal.returns
returns c = record {
  keeps = λ count points room has.
      let own = not (is_missing c.args.point) in
      let front = bits (bitmap_head count) in
      let bit : bits_of 1 c.present_bit.result ≡ own ∷ [] = ap (bits_of 1) c.present_bit.ensures.bit ∙ one_bit own in
      record {
        left_are = omega (arith, has.left_are, length_push points c.args.point, room);
        written =
            c.put.ensures.bits
            ∙ ap₂ (λ (xs ys : List Bool). xs ++ ys) has.written bit
            ∙ append_assoc front (bits_of 8 0 ++ present_bits points) (own ∷ [])
            ∙ ap (λ (ys : List Bool). front ++ (bits_of 8 0 ++ ys)) (sym (map-append (λ (point : Point). not (is_missing point)) points (c.args.point ∷ [])));
      };
}
