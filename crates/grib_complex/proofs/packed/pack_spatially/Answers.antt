use Rattle.std.proofs.Common.{◌≡◌, ◌+◌, ◌*◌, ◌++◌, ◌≤◌, ℕ, length, ap, ap₂, sym, refl, ◌∙◌, ◌⊎◌, inl, inr, arith, append_assoc}
use Rattle.std.proofs.lemmas.List.{length-append}
use Rattle.grib_bits.specs.Bits.{bits}
use Rattle.grib_bits.proofs.OctetBits.{length-bits}
use Rattle.grib_packing.specs.Differences.{Descriptors}
use Rattle.grib_packing.specs.Packed.{HasContents, group_parts, descriptor_fields, descriptor_size}
use Rattle.grib_packing.proofs.Sections.{head_of}
use Rattle.grib_groups.specs.Encoding.{LaysOut}
use Rattle.grib_spatial.specs.Undoing.{read_with}
use Rattle.grib_complex.proofs.Wholly.{contents_whole, grouped_by}
use Rattle.grib_complex.proofs.DifferencesTold.{codes_as_long, codes_told}
use Rattle.grib_complex.proofs.Differing.{length-descriptors, is_spatial}
use Rattle.grib_codes.specs.FieldCodes.{codes_in}
use Rattle.grib_complex.proofs.packed.pack_spatially.Goals as goal

few_octets : (order size o s : ℕ) → o ≡ order → s ≡ size → size ≤ 4 → (order ≡ 1) ⊎ (order ≡ 2) → (o + 1) * s ≤ 12
few_octets order size o s is_o is_s few (inl e) = rw (is_o, e) (omega (arith, is_s, few))
few_octets order size o s is_o is_s few (inr e) = rw (is_o, e) (omega (arith, is_s, few))

-- the octets of the extra descriptors, as they are counted
counted : (order size : ℕ) (d : Descriptors) (o s : ℕ) → o ≡ order → s ≡ size → size ≡ descriptor_size d → d.order ≡ order → (d.order ≡ 1) ⊎ (d.order ≡ 2)
    → length (descriptor_fields d) ≡ 8 * ((o + 1) * s)
counted order size d o s is_o is_s is_size is_order either =
    length-descriptors d either ∙ ap₂ (λ (m n : ℕ). 8 * ((m + 1) * n)) (is_order ∙ sym is_o) (sym is_size ∙ sym is_s)

pub grouping_of-requires-clause-some : goal.grouping_of-requires-clause-some
grouping_of-requires-clause-some c = omega (arith, codes_as_long _ _ _ _ _ c.requires.told, c.requires.column.some)

pub grouping_of-requires-clause-most : goal.grouping_of-requires-clause-most
grouping_of-requires-clause-most c = omega (arith, codes_as_long _ _ _ _ _ c.requires.told, c.requires.column.few)

pub grouping_of-requires-clause-codes : goal.grouping_of-requires-clause-codes
grouping_of-requires-clause-codes c = codes_told _ _ _ _ _ c.requires.told

pub octets_of_groups-groups-requires-clause-most : goal.octets_of_groups-groups-requires-clause-most
octets_of_groups-groups-requires-clause-most c = omega (arith, codes_as_long _ _ _ _ _ c.requires.told, c.requires.column.few)

pub count-values-requires : goal.count-values-requires
count-values-requires c = omega (arith, codes_as_long _ _ _ _ _ c.requires.told, c.requires.column.few)

pub groups_section-requires-clause-some : goal.groups_section-requires-clause-some
groups_section-requires-clause-some c = omega (arith, codes_as_long _ _ _ _ _ c.requires.told, c.requires.column.some)

pub groups_section-requires-clause-most : goal.groups_section-requires-clause-most
groups_section-requires-clause-most c = omega (arith, codes_as_long _ _ _ _ _ c.requires.told, c.requires.column.few)

pub groups_section-requires-clause-whole : goal.groups_section-requires-clause-whole
groups_section-requires-clause-whole c =
    let d = read_with c.args.order c.args.told.now.differences in
    let octets = 5 + (c.from.result + 1) * c.from-2.result + c.octets_of_groups-groups.result in
    let head : c.write_head.new.out.bits ≡ bits (head_of octets 7) =
    c.write_head.ensures.bits ∙ ap (λ xs. xs ++ bits (head_of octets 7)) c.in_ok-section7.ensures.0 in
    let size = counted c.args.order c.descriptor_octets-size.result d c.from.result c.from-2.result c.from.ensures c.from-2.ensures (c.descriptor_octets-size.ensures.is c.args.order) refl c.requires.order in
    omega (arith, ap length c.write_descriptors.ensures.bits, length-append c.write_head.new.out.bits (descriptor_fields d), ap length head, length-bits (head_of octets 7), size)

pub groups_section-requires-clause-room : goal.groups_section-requires-clause-room
groups_section-requires-clause-room c =
    let codes = codes_in c.args.told.now.codes in
    let layout = c.in_ok-grouping.grouping.layout in
    let first : c.deref.result.now ≡ c.in_ok-grouping.grouping.lengths.items = c.deref.ensures.value in
    let second : c.deref-3.result.now ≡ c.in_ok-grouping.grouping.lengths.items = c.deref-3.ensures.value in
    let size = c.octets_of_groups-groups.ensures.is ∙ ap (λ ls. length (group_parts layout.management codes ls)) (first ∙ sym second) in
    let product : (c.from.result + 1) * c.from-2.result ≡ (c.args.order + 1) * c.descriptor_octets-size.result = ap₂ (λ (m n : ℕ). (m + 1) * n) c.from.ensures c.from-2.ensures in
    omega (arith, size, product, c.write_descriptors.ensures.spare, c.write_head.ensures.spare, c.in_ok-section7.ensures.1)

pub returns : goal.returns
returns c =
    let column = c.args.column.now in
    let codes = codes_in c.args.told.now.codes in
    let k = c.args.told.now.management in
    let grouping = c.in_ok-grouping.grouping in
    let layout = grouping.layout in
    let lengths = grouping.lengths.items in
    let d = read_with c.args.order c.args.told.now.differences in
    let fields = descriptor_fields d in
    let laid : LaysOut layout codes lengths = c.in_ok-grouping.ensures.lays_out in
    let octets = 5 + (c.from.result + 1) * c.from-2.result + c.octets_of_groups-groups.result in
    let parts = group_parts layout.management codes lengths in
    let head : c.write_head.new.out.bits ≡ bits (head_of octets 7) =
    c.write_head.ensures.bits ∙ ap (λ xs. xs ++ bits (head_of octets 7)) c.in_ok-section7.ensures.0 in
    let begun : c.write_descriptors.new.out.bits ≡ bits (head_of octets 7) ++ fields = c.write_descriptors.ensures.bits ∙ ap (λ xs. xs ++ fields) head in
    let first : c.deref.result.now ≡ lengths = c.deref.ensures.value in
    let second : c.deref-3.result.now ≡ lengths = c.deref-3.ensures.value in
    let size : 8 * c.octets_of_groups-groups.result ≡ length parts =
    c.octets_of_groups-groups.ensures.is ∙ ap (λ ls. length (group_parts layout.management codes ls)) first in
    let most : c.octets_of_groups-groups.result ≤ 1000000000 = c.octets_of_groups-groups.ensures.few in
    let is_size : c.descriptor_octets-size.result ≡ descriptor_size d = c.descriptor_octets-size.ensures.is c.args.order in
    let front : length fields ≡ 8 * ((c.from.result + 1) * c.from-2.result) =
    counted c.args.order c.descriptor_octets-size.result d c.from.result c.from-2.result c.from.ensures c.from-2.ensures is_size refl c.requires.order in
    let few : (c.from.result + 1) * c.from-2.result ≤ 12 = few_octets c.args.order c.descriptor_octets-size.result c.from.result c.from-2.result c.from.ensures c.from-2.ensures c.descriptor_octets-size.ensures.few c.requires.order in
    let ended : bits c.groups_section.result ≡ bits (head_of octets 7) ++ (fields ++ parts) =
    c.groups_section.ensures.bits ∙ ap₂ (λ xs ls. xs ++ group_parts layout.management codes ls) begun second ∙ append_assoc (bits (head_of octets 7)) fields parts in
    let each = c.groups_section.ensures.octets in
    let whole = length-append fields parts in
    let contents : HasContents 7 c.groups_section.result (fields ++ parts) =
    contents_whole c.groups_section.result 7 octets (fields ++ parts) each (omega arith) (omega arith) (omega arith) ended in
    is_spatial c.args.order column c.args.kind k codes d c.spatial_representation.result c.no_bitmap.result c.groups_section.result c.requires.told.codes_are c.requires.told.management c.requires.told.told
    c.spatial_representation.ensures.length c.spatial_representation.ensures.order (c.spatial_representation.ensures.size ∙ is_size)
    (grouped_by column c.args.kind 3 k c.count-values.result codes lengths layout fields c.spatial_representation.result c.no_bitmap.result c.groups_section.result (c.count-values.ensures ∙ codes_as_long _ _ _ _ _ c.requires.told) laid c.in_ok-grouping.ensures.management
    c.in_ok-grouping.ensures.chosen c.spatial_representation.ensures.numbers c.spatial_representation.ensures.layout c.no_bitmap.ensures.section contents)
