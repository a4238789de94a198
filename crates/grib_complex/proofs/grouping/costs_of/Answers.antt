use Rattle.std.proofs.Common.{◌≡◌, ℕ, List, All, ap, sym, ◌∙◌, arith, subst}
use Rattle.grib_base.specs.declared.code.Code.{Code}
use Rattle.grib_packing.specs.Groupings.{digits, width_of, width_bits_of, reference_bits_of}
use Rattle.grib_codes.specs.Span.{IsBelow}
use Rattle.grib_codes.proofs.Bounds.{all_below, width_bits-few}
use Rattle.grib_complex.proofs.grouping.costs_of.Goals as goal

pub width-requires-clause-small : goal.width-requires-clause-small
width-requires-clause-small c =
    let k = c.args.management in
    let small = c.span-span.ensures.small k c.requires.few (all_below k c.args.codes.now c.requires.codes) in
    omega (arith, small, c.from-reserved.ensures)

-- the bits of widths
widths_are : (k reserved bits from width : ℕ) (codes : List Code) → reserved ≡ k → bits ≡ digits from → from ≡ width → width ≡ width_of reserved codes → bits ≡ width_bits_of k codes
widths_are k reserved bits from width codes same is_bits is_from is_width =
    is_bits ∙ ap digits (is_from ∙ is_width ∙ ap (λ (j : ℕ). width_of j codes) same)

pub returns-clause-split : goal.returns-clause-split
returns-clause-split c =
    let k = c.args.management in
    let codes = c.args.codes.now in
    record {
      some = c.requires.some;
      most = c.requires.most;
      reserved = omega (arith, c.from-reserved.ensures, c.requires.few);
      references = c.reference_bits.ensures.few;
      widths = width_bits-few k c.bit_length.result codes
          (widths_are k c.from-reserved.result c.bit_length.result c.from.result c.width.result codes c.from-reserved.ensures c.bit_length.ensures.is c.from.ensures (c.width.ensures.is codes c.span-span.ensures.span))
          c.requires.few c.requires.codes;
      codes = subst (λ (j : ℕ). All (IsBelow j) codes) (sym c.from-reserved.ensures) (all_below k codes c.requires.codes);
    }

pub returns-clause-references : goal.returns-clause-references
returns-clause-references c =
    let codes = c.args.codes.now in
    c.reference_bits.ensures.is codes c.span-span.ensures.span ∙ ap (λ (j : ℕ). reference_bits_of j codes) c.from-reserved.ensures

pub returns-clause-widths : goal.returns-clause-widths
returns-clause-widths c =
    let codes = c.args.codes.now in
    widths_are c.args.management c.from-reserved.result c.bit_length.result c.from.result c.width.result codes c.from-reserved.ensures c.bit_length.ensures.is c.from.ensures (c.width.ensures.is codes c.span-span.ensures.span)
