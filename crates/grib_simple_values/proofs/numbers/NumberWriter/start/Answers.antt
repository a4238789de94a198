use Rattle.std.proofs.Common.{◌≡◌, ℕ, ◌+◌, ◌*◌, ◌/◌, ◌^◌, ◌<◌, List, Bool, ◌++◌, refl, sym, ap, ◌∙◌, arith, subst}
use Rattle.std.proofs.lemmas.List.{append-nil}
use Rattle.grib_bits.specs.Bits.{bits}
use Rattle.grib_packing.specs.Groupings.{digits}
use Rattle.grib_packing.proofs.Digits.{digits-lt_64, digits-most_64}
use Rattle.grib_packing.proofs.Sections.{head_of}
use Rattle.grib_simple_values.proofs.numbers.NumberWriter.start.Goals as goal

pub invariant_of-result : goal.invariant_of-result
invariant_of-result c =
    let most = c.args.greatest in
    let is = c.bit_length-width.ensures.is in
    let small : most < 2 ^ 64 = omega (arith, c.requires.narrow) in
    record {
      narrow = omega (arith, is, digits-most_64 most 48 small c.requires.narrow);
      fits = subst (λ (w : ℕ). most < 2 ^ w) (sym is) (digits-lt_64 most small);
      room = omega (arith, c.in_ok-out.ensures.1, c.write_head.ensures.spare, c.div_ceil-length.ensures);
    }

pub returns : goal.returns
returns c =
    let most = c.args.greatest in
    let is = c.bit_length-width.ensures.is in
    let long : 5 + c.div_ceil-length.result ≡ 5 + (c.args.count * digits most + 7) / 8 =
    omega (arith, c.div_ceil-length.ensures, ap (λ (w : ℕ). c.args.count * w) is) in
    let head = bits (head_of (5 + c.div_ceil-length.result) 7) in
    record {
      most_is = refl;
      width_is = is;
      left_are = omega arith;
      written =
          c.write_head.ensures.bits ∙ ap (λ (xs : List Bool). xs ++ head) c.in_ok-out.ensures.0
          ∙ ap (λ (n : ℕ). bits (head_of n 7)) long ∙ sym (append-nil (bits (head_of (5 + (c.args.count * digits most + 7) / 8) 7)));
    }
