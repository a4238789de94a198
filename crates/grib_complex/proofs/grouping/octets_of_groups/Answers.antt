use Rattle.std.proofs.Common.{◌≡◌, ℕ, ◌+◌, ◌*◌, ◌≤◌, length, map, All, sym, subst, subst₂, arith}
use Rattle.grib_packing.specs.Groupings.{joined, runs}
use Rattle.grib_packing.specs.Packed.{group_fields}
use Rattle.grib_codes.specs.Span.{IsBelow}
use Rattle.grib_codes.proofs.Bounds.{all_below}
use Rattle.grib_groups.specs.Encoding.{AreMeasures}
use Rattle.grib_complex.proofs.GroupByGroup.{groups_few, references_few, widths_few, parts_octets}
use Rattle.grib_codes.specs.FieldCodes.{codes_in}
use Rattle.grib_complex.proofs.grouping.octets_of_groups.Goals as goal

pub bits_of_groups-bits-requires-clause-codes : goal.bits_of_groups-bits-requires-clause-codes
bits_of_groups-bits-requires-clause-codes c =
    let layout = c.args.layout.now in
    let codes = codes_in c.args.codes.now in
    let below = all_below layout.management codes c.requires.lays_out.codes_are_told in
    subst (λ (j : ℕ). All (IsBelow j) codes) (sym c.from-reserved.ensures) below

pub bits_of_groups-bits-requires-clause-references : goal.bits_of_groups-bits-requires-clause-references
bits_of_groups-bits-requires-clause-references c =
    omega (arith, references_few c.args.layout.now (codes_in c.args.codes.now) c.args.lengths.now c.requires.lays_out, c.from-reference_bits.ensures)

pub bits_of_groups-bits-requires-clause-known : goal.bits_of_groups-bits-requires-clause-known
bits_of_groups-bits-requires-clause-known c =
    subst₂ (λ (k b : ℕ). AreMeasures k b c.args.known.now (runs c.args.lengths.now (codes_in c.args.codes.now))) (sym c.from-reserved.ensures) (sym c.from-reference_bits.ensures) c.requires.known

pub octets_for-references-requires-clause-count : goal.octets_for-references-requires-clause-count
octets_for-references-requires-clause-count c = omega (arith, groups_few c.args.layout.now (codes_in c.args.codes.now) c.args.lengths.now c.requires.lays_out, c.requires.most)

pub octets_for-references-requires-clause-bits : goal.octets_for-references-requires-clause-bits
octets_for-references-requires-clause-bits c = references_few c.args.layout.now (codes_in c.args.codes.now) c.args.lengths.now c.requires.lays_out

pub octets_for-widths-requires-clause-count : goal.octets_for-widths-requires-clause-count
octets_for-widths-requires-clause-count c = omega (arith, groups_few c.args.layout.now (codes_in c.args.codes.now) c.args.lengths.now c.requires.lays_out, c.requires.most)

pub octets_for-widths-requires-clause-bits : goal.octets_for-widths-requires-clause-bits
octets_for-widths-requires-clause-bits c = omega (arith, widths_few c.args.layout.now (codes_in c.args.codes.now) c.args.lengths.now c.requires.lays_out)

pub octets_for-requires-clause-count : goal.octets_for-requires-clause-count
octets_for-requires-clause-count c = omega (arith, groups_few c.args.layout.now (codes_in c.args.codes.now) c.args.lengths.now c.requires.lays_out, c.requires.most)

few : (groups codes references widths lengths numbers bits : ℕ) → groups ≤ codes → codes ≤ 33554432 → references ≤ 4 * groups + 1 → widths ≤ 4 * groups + 1 → lengths ≤ 4 * groups + 1
    → numbers * 8 ≤ bits + 7 → bits ≤ 32 * codes → references + widths + lengths + numbers ≤ 1000000000
few groups codes references widths lengths numbers bits a b c d e f g = omega arith

pub overflow_add-result : goal.overflow_add-result
overflow_add-result c = record {
  fits = omega (arith, groups_few c.args.layout.now (codes_in c.args.codes.now) c.args.lengths.now c.requires.lays_out, c.requires.most, c.octets_for-references.ensures.few, c.octets_for-widths.ensures.few);
}

pub overflow_add-result-2 : goal.overflow_add-result-2
overflow_add-result-2 c = record {
  fits = omega (arith, groups_few c.args.layout.now (codes_in c.args.codes.now) c.args.lengths.now c.requires.lays_out, c.requires.most, c.octets_for-references.ensures.few, c.octets_for-widths.ensures.few, c.octets_for.ensures.few);
}

small : (c : goal.After-div_ceil) → c.octets_for-references.result + c.octets_for-widths.result + c.octets_for.result + c.div_ceil.result ≤ 1000000000
small c =
    few c.args.layout.now.groups (length (codes_in c.args.codes.now)) c.octets_for-references.result c.octets_for-widths.result c.octets_for.result c.div_ceil.result c.bits_of_groups-bits.result
    (groups_few c.args.layout.now (codes_in c.args.codes.now) c.args.lengths.now c.requires.lays_out) c.requires.most c.octets_for-references.ensures.few c.octets_for-widths.ensures.few c.octets_for.ensures.few
    (omega (arith, c.div_ceil.ensures)) c.bits_of_groups-bits.ensures.few

pub overflow_add-result-3 : goal.overflow_add-result-3
overflow_add-result-3 c = record { fits = omega (arith, small c) }

pub returns-clause-is : goal.returns-clause-is
returns-clause-is c =
    let whole = parts_octets c.args.layout.now (codes_in c.args.codes.now) c.args.lengths.now c.requires.lays_out c.bits_of_groups-bits.result
    (subst (λ (j : ℕ). c.bits_of_groups-bits.result ≡ length (joined (map (group_fields j c.args.layout.now.reference_bits) (runs c.args.lengths.now (codes_in c.args.codes.now))))) c.from-reserved.ensures
    (c.bits_of_groups-bits.ensures.is c.args.layout.now.reference_bits)) in
    omega (arith, whole, c.octets_for-references.ensures.is, c.octets_for-widths.ensures.is, c.octets_for.ensures.is, c.div_ceil.ensures)

pub returns-clause-few : goal.returns-clause-few
returns-clause-few c = small c
