use Rattle.std.proofs.Common.{◌≡◌, ◌+◌, ◌*◌, ◌++◌, [], ◌≤◌, length, ap, ap₂, ◌∙◌, arith}
use Rattle.grib_bits.specs.Bits.{bits}
use Rattle.grib_packing.specs.Packed.{HasContents, group_parts}
use Rattle.grib_packing.proofs.Sections.{head_of}
use Rattle.grib_groups.specs.Encoding.{LaysOut}
use Rattle.grib_codes.proofs.Reserved.{length-codes}
use Rattle.grib_packing.proofs.Sections.{same_numbers}
use Rattle.grib_complex.proofs.Wholly.{contents_whole, grouped_by, is_complex}
use Rattle.grib_codes.specs.FieldCodes.{codes_in}
use Rattle.grib_complex.proofs.packed.pack_plainly.Goals as goal

pub returns : goal.returns
returns c = λ column same_reference same_e same_d has.
    let codes = codes_in c.args.codes.now in
    let k = c.args.management in
    let grouping = c.in_ok-grouping.grouping in
    let layout = grouping.layout in
    let lengths = grouping.lengths.items in
    let laid : LaysOut layout codes lengths = c.in_ok-grouping.ensures.lays_out in
    let octets = 5 + c.octets_of_groups-octets.result in
    let parts = group_parts layout.management codes lengths in
    let begun : c.write_head.new.out.bits ≡ bits (head_of octets 7) =
    c.write_head.ensures.bits ∙ ap (λ xs. xs ++ bits (head_of octets 7)) c.in_ok-section7.ensures.0 in
    let first : c.deref.result.now ≡ lengths = c.deref.ensures.value in
    let second : c.deref-3.result.now ≡ lengths = c.deref-3.ensures.value in
    let size : 8 * c.octets_of_groups-octets.result ≡ length parts =
    c.octets_of_groups-octets.ensures.is ∙ ap (λ ls. length (group_parts layout.management codes ls)) first in
    let most : c.octets_of_groups-octets.result ≤ 1000000000 = c.octets_of_groups-octets.ensures.few in
    let ended : bits c.groups_section.result ≡ bits (head_of octets 7) ++ parts =
    c.groups_section.ensures.bits ∙ ap₂ (λ xs ls. xs ++ group_parts layout.management codes ls) begun second in
    let each = c.groups_section.ensures.octets in
    let contents : HasContents 7 c.groups_section.result parts = contents_whole c.groups_section.result 7 octets parts each (omega arith) (omega arith) (omega arith) ended in
    let as_long = ap length has.codes_are ∙ length-codes column.points in
    is_complex column c.args.kind k codes c.complex_representation.result c.no_bitmap.result c.groups_section.result has.codes_are has.management c.complex_representation.ensures.length
    (grouped_by column c.args.kind 2 k c.count-values.result codes lengths layout [] c.complex_representation.result c.no_bitmap.result c.groups_section.result (c.count-values.ensures ∙ as_long) laid c.in_ok-grouping.ensures.management
    c.in_ok-grouping.ensures.chosen (same_numbers c.complex_representation.result c.args.column.now column c.count-values.result 2 layout.reference_bits c.args.kind same_reference same_e same_d c.complex_representation.ensures.numbers)
    c.complex_representation.ensures.layout c.no_bitmap.ensures.section contents)
