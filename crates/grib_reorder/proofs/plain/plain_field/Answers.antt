use Rattle.std.proofs.Common.{◌≡◌, ℕ, ◌-◌, ◌*◌, List, length, length-drop, map, take, drop, sym, ap, ap₂, ◌∙◌, arith, subst}
use Rattle.std.proofs.lemmas.List.{take_rest}
use Rattle.grib2_grids.specs.Grid.{grid_points}
use Rattle.grib_bits.specs.Bits.{bits}
use Rattle.grib_bits.specs.Plain.{plain}
use Rattle.grib_packing.specs.Column.{points_with_mask}
use Rattle.grib_packing.specs.Entries.{entries_of}
use Rattle.grib_packing.specs.Packing.{packing_template, value_count, bit_width}
use Rattle.grib_packing.specs.Representation.{Spelled}
use Rattle.grib2_message.specs.Fields.{part_octets}
use Rattle.grib_packing.proofs.Packings.{most-simple, packing_passes}
use Rattle.grib_simple_reading.proofs.Accepted.{same_column}
use Rattle.grib_rescan.proofs.Added.{scaled}
use Rattle.grib_repack.proofs.Simply.{has_numbers}
use Rattle.grib_reorder.proofs.Numbered.{are_points}
use Rattle.grib_reorder.proofs.plain.plain_field.Goals as goal

pub numbers_of-simple-requires : goal.numbers_of-simple-requires
numbers_of-simple-requires c =
    let m = c.args.message.now in
    let i = c.args.field in
    let packing = packing_passes (part_octets m i 5) (grid_points (part_octets m i 3)) c.part.ensures.passes.packing in
    omega (arith, ap length c.in-Some-Some.ensures.part.1, packing.long)

pub returns-clause-stands : goal.returns-clause-stands
returns-clause-stands c =
    let m = c.args.message.now in
    let i = c.args.field in
    let s5 = part_octets m i 5 in
    let s7 = part_octets m i 7 in
    let own = c.in-Some-Some.section7.octets.now in
    let simple = c.numbers_of-simple.result in
    let spelled = subst (Spelled simple) c.in-Some-Some.ensures.part.1 c.numbers_of-simple.ensures in
    let template : packing_template s5 ≡ 0 = sym spelled.template ∙ c.if-simple-ne0.false in
    let packing = packing_passes s5 (grid_points (part_octets m i 3)) c.part.ensures.passes.packing in
    let bits_are : c.from.result ≡ bit_width s5 = c.from.ensures ∙ spelled.bits in
    let product : simple.values * c.from.result ≡ value_count s5 * bit_width s5 = ap₂ (λ (a b : ℕ). a * b) spelled.values bits_are in
    let room = has_numbers s5 s7 template c.part.ensures.passes.values in
    let rest : length (take (length own - 5) (drop 5 own)) ≡ length s7 - 5 =
    ap length (take_rest own 5 ∙ ap (drop 5) c.in-Some-Some.ensures'.part.1) ∙ length-drop 5 s7 in
    record {
      numbers = record {
        width = omega (arith, bits_are, packing.narrow, most-simple (packing_template s5) template);
        within = omega (arith, product, room, rest);
      };
      count = c.if-simple-len.false ∙ c.len.ensures ∙ c.in_ok-mask.ensures.long;
    }

pub returns-clause-column : goal.returns-clause-column
returns-clause-column c =
    let m = c.args.message.now in
    let i = c.args.field in
    let s5 = part_octets m i 5 in
    let s7 = part_octets m i 7 in
    let own = c.in-Some-Some.section7.octets.now in
    let simple = c.numbers_of-simple.result in
    let spelled = subst (Spelled simple) c.in-Some-Some.ensures.part.1 c.numbers_of-simple.ensures in
    let template : packing_template s5 ≡ 0 = sym spelled.template ∙ c.if-simple-ne0.false in
    let full : value_count s5 ≡ length c.in_ok-mask.mask = sym spelled.values ∙ c.if-simple-len.false ∙ c.len.ensures in
    let numbers =
    ap (λ (xs : List ℕ). map scaled (plain (bits xs) c.from.result simple.values)) (take_rest own 5 ∙ ap (drop 5) c.in-Some-Some.ensures'.part.1)
    ∙ ap₂ (λ (w n : ℕ). map scaled (plain (bits (drop 5 s7)) w n)) (c.from.ensures ∙ spelled.bits) spelled.values in
    let points =
    numbers ∙ are_points s5 s7 template c.in_ok-mask.mask c.in_ok-mask.ensures.values full
    ∙ ap (λ mask. points_with_mask mask (entries_of s5 s7)) c.in_ok-mask.ensures.mask in
    same_column s5 _ _ _ _ _ spelled.reference spelled.e spelled.d points
