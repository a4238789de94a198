use Rattle.std.proofs.Common.{◌≡◌, ℕ, ◌-◌, ◌++◌, List, All, map, sym, ap, ◌∙◌, arith, subst}
use Rattle.grib_packing.specs.Groupings.{runs, length_bits, width_of}
use Rattle.grib_packing.specs.Packed.{fields, reference_of}
use Rattle.grib_codes.specs.Span.{IsTold}
use Rattle.grib_codes.proofs.Bounds.{references_fit, reference_bits-few, widths_fit, width_bits-few}
use Rattle.grib_base.specs.declared.code.Code.{Code}
use Rattle.grib_packing.specs.declared.layout.Layout.{Layout}
use Rattle.grib_packing.proofs.Left.{even_after}
use Rattle.grib_groups.specs.declared.measuring.Measure.{Measure}
use Rattle.grib_groups.specs.Encoding.{AreGrouped, AreMeasures, LaysOut}
use Rattle.grib_groups.proofs.Measures.{known-by}
use Rattle.grib_groups.proofs.Parts.{four_parts, length-parts, parts-are}
use Rattle.grib_groups.proofs.encoding.encode_measured_groups.Goals as goal

-- the codes as they are grouped, by the numbers of the layout
are_grouped : (layout : Layout) (k b : ℕ) (codes : List Code) (lengths : List ℕ) (known : List Measure) → k ≡ layout.management → b ≡ layout.reference_bits → LaysOut layout codes lengths
    → AreMeasures layout.management layout.reference_bits known (runs lengths codes) → AreGrouped k b codes lengths known
are_grouped layout k b codes lengths known is_k is_b lays_out are = record {
  few = reference_bits-few layout.management b codes (is_b ∙ lays_out.reference_bits) lays_out.management lays_out.codes_are_told;
  reserved = omega (arith, is_k, lays_out.management);
  grouping = lays_out.grouping;
  codes = subst (λ (j : ℕ). All (IsTold j) codes) (sym is_k) lays_out.codes_are_told;
  known = known-by layout.management layout.reference_bits k b known (runs lengths codes) is_k is_b are;
}

pub put_references-requires-clause-grouped : goal.put_references-requires-clause-grouped
put_references-requires-clause-grouped c =
    are_grouped c.args.layout.now c.from-reserved.result c.from-bits.result c.args.codes.now c.args.lengths.now c.args.known.now c.from-reserved.ensures c.from-bits.ensures c.requires.lays_out c.requires.known

pub put_widths-requires-clause-grouped : goal.put_widths-requires-clause-grouped
put_widths-requires-clause-grouped c =
    are_grouped c.args.layout.now c.from-reserved.result c.from-bits.result c.args.codes.now c.args.lengths.now c.args.known.now c.from-reserved.ensures c.from-bits.ensures c.requires.lays_out c.requires.known

pub put_numbers-requires-clause-grouped : goal.put_numbers-requires-clause-grouped
put_numbers-requires-clause-grouped c =
    are_grouped c.args.layout.now c.from-reserved.result c.from-bits.result c.args.codes.now c.args.lengths.now c.args.known.now c.from-reserved.ensures c.from-bits.ensures c.requires.lays_out c.requires.known

pub put_references-requires-clause-fits : goal.put_references-requires-clause-fits
put_references-requires-clause-fits c =
    references_fit c.args.layout.now.management c.from-bits.result c.args.codes.now c.args.lengths.now (c.from-bits.ensures ∙ c.requires.lays_out.reference_bits) c.requires.lays_out.management c.requires.lays_out.codes_are_told

pub put_references-requires-clause-room : goal.put_references-requires-clause-room
put_references-requires-clause-room c =
    let l = c.args.layout.now in
    let long = length-parts l.management c.from-reserved.result c.from-bits.result l.width_bits c.args.codes.now c.args.lengths.now c.from-reserved.ensures (c.from-bits.ensures ∙ c.requires.lays_out.reference_bits) c.requires.lays_out.width_bits in
    omega (arith, long, c.requires.room)

pub put_widths-requires-clause-few : goal.put_widths-requires-clause-few
put_widths-requires-clause-few c =
    omega (arith, width_bits-few c.args.layout.now.management c.from-width_bits.result c.args.codes.now (c.from-width_bits.ensures ∙ c.requires.lays_out.width_bits) c.requires.lays_out.management c.requires.lays_out.codes_are_told)

pub put_widths-requires-clause-fits : goal.put_widths-requires-clause-fits
put_widths-requires-clause-fits c =
    widths_fit c.args.layout.now.management c.from-reserved.result c.from-width_bits.result c.args.codes.now c.args.lengths.now c.from-reserved.ensures (c.from-width_bits.ensures ∙ c.requires.lays_out.width_bits) c.requires.lays_out.management c.requires.lays_out.codes_are_told

pub put_widths-requires-clause-whole : goal.put_widths-requires-clause-whole
put_widths-requires-clause-whole c = even_after c.args.out.now.bits c.put_references.new.out.bits (fields c.from-bits.result (map (reference_of c.from-bits.result) (runs c.args.lengths.now c.args.codes.now))) c.requires.whole c.put_references.ensures.bits

pub put_widths-requires-clause-room : goal.put_widths-requires-clause-room
put_widths-requires-clause-room c =
    let long = length-parts c.args.layout.now.management c.from-reserved.result c.from-bits.result c.from-width_bits.result c.args.codes.now c.args.lengths.now c.from-reserved.ensures (c.from-bits.ensures ∙ c.requires.lays_out.reference_bits) (c.from-width_bits.ensures ∙ c.requires.lays_out.width_bits) in
    omega (arith, long, c.requires.room, c.put_references.ensures.spare)

pub put_lengths-requires-clause-whole : goal.put_lengths-requires-clause-whole
put_lengths-requires-clause-whole c =
    let one = even_after c.args.out.now.bits c.put_references.new.out.bits (fields c.from-bits.result (map (reference_of c.from-bits.result) (runs c.args.lengths.now c.args.codes.now))) c.requires.whole c.put_references.ensures.bits in
    even_after c.put_references.new.out.bits c.put_widths.new.out.bits (fields c.from-width_bits.result (map (width_of c.from-reserved.result) (runs c.args.lengths.now c.args.codes.now))) one c.put_widths.ensures.bits

pub put_lengths-requires-clause-room : goal.put_lengths-requires-clause-room
put_lengths-requires-clause-room c =
    let long = length-parts c.args.layout.now.management c.from-reserved.result c.from-bits.result c.from-width_bits.result c.args.codes.now c.args.lengths.now c.from-reserved.ensures (c.from-bits.ensures ∙ c.requires.lays_out.reference_bits) (c.from-width_bits.ensures ∙ c.requires.lays_out.width_bits) in
    omega (arith, long, c.requires.room, c.put_references.ensures.spare, c.put_widths.ensures.spare)

pub put_numbers-requires-clause-whole : goal.put_numbers-requires-clause-whole
put_numbers-requires-clause-whole c =
    let one = even_after c.args.out.now.bits c.put_references.new.out.bits (fields c.from-bits.result (map (reference_of c.from-bits.result) (runs c.args.lengths.now c.args.codes.now))) c.requires.whole c.put_references.ensures.bits in
    let two = even_after c.put_references.new.out.bits c.put_widths.new.out.bits (fields c.from-width_bits.result (map (width_of c.from-reserved.result) (runs c.args.lengths.now c.args.codes.now))) one c.put_widths.ensures.bits in
    even_after c.put_widths.new.out.bits c.put_lengths.new.out.bits (fields length_bits (map (λ l. l - 1) c.args.lengths.now)) two c.put_lengths.ensures.bits

pub put_numbers-requires-clause-room : goal.put_numbers-requires-clause-room
put_numbers-requires-clause-room c =
    let long = length-parts c.args.layout.now.management c.from-reserved.result c.from-bits.result c.from-width_bits.result c.args.codes.now c.args.lengths.now c.from-reserved.ensures (c.from-bits.ensures ∙ c.requires.lays_out.reference_bits) (c.from-width_bits.ensures ∙ c.requires.lays_out.width_bits) in
    omega (arith, long, c.requires.room, c.put_references.ensures.spare, c.put_widths.ensures.spare, c.put_lengths.ensures.spare)

pub returns : goal.returns
returns c =
    let codes = c.args.codes.now in
    let lengths = c.args.lengths.now in
    let is_bits = c.from-bits.ensures ∙ c.requires.lays_out.reference_bits in
    let is_width_bits = c.from-width_bits.ensures ∙ c.requires.lays_out.width_bits in
    let parts = parts-are c.args.layout.now.management c.from-reserved.result c.from-bits.result c.from-width_bits.result codes lengths c.from-reserved.ensures is_bits is_width_bits in
    let long = length-parts c.args.layout.now.management c.from-reserved.result c.from-bits.result c.from-width_bits.result codes lengths c.from-reserved.ensures is_bits is_width_bits in
    record {
      bits =
          four_parts c.args.out.now.bits c.put_references.new.out.bits c.put_widths.new.out.bits c.put_lengths.new.out.bits c.put_numbers.new.out.bits _ _ _ _
          c.put_references.ensures.bits c.put_widths.ensures.bits c.put_lengths.ensures.bits c.put_numbers.ensures.bits
          ∙ ap (λ xs. c.args.out.now.bits ++ xs) (sym parts);
      spare = omega (arith, long, c.put_references.ensures.spare, c.put_widths.ensures.spare, c.put_lengths.ensures.spare, c.put_numbers.ensures.spare);
    }
