use Rattle.std.proofs.Common.{◌≡◌, ℕ, nat_abs, List, Bool, ◌++◌, sym, ap, ap₂, ◌∙◌, arith, append_assoc, to_z-of_z}
use Rattle.std.proofs.lemmas.List.{length_push}
use Rattle.grib_bits.specs.Bits.{bits, bits_of}
use Rattle.grib_packing.specs.Groupings.{digits}
use Rattle.grib_packing.specs.Packed.{fields}
use Rattle.grib_simple_values.proofs.InPlace.{fields_more}
use Rattle.grib_simple_values.specs.Written.{values_head}
use Rattle.grib_simple_values.proofs.numbers.NumberWriter.with_number.Goals as goal

pub returns-clause-kept : goal.returns-clause-kept
returns-clause-kept c = record {
  keeps = λ count most numbers room small has.
      let n = nat_abs c.args.x in
      let w = digits most in
      let head = bits (values_head count most) in
      let own : c.min-number.result ≡ n = omega (arith, c.min-number.ensures, c.unsigned_abs.ensures.value, ap nat_abs (to_z-of_z c.ranges.x), has.most_is, small) in
      record {
        most_is = has.most_is;
        width_is = has.width_is;
        left_are = omega (arith, has.left_are, length_push numbers n, c.requires);
        written =
            c.put.ensures.bits
            ∙ ap₂ (λ (xs ys : List Bool). xs ++ ys) has.written (ap₂ (λ (v m : ℕ). bits_of v m) has.width_is own)
            ∙ append_assoc head (fields w numbers) (bits_of w n)
            ∙ ap (λ (ys : List Bool). head ++ ys) (sym (fields_more w numbers n));
      };
}
