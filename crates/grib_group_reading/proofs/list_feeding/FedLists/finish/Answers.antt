use Rattle.std.proofs.Common.{◌≡◌, ℕ, ◌+◌, ◌-◌, ◌*◌, ◌≤◌, List, drop, map, ◌∙◌, arith, subst, add-mul}
use Rattle.std.proofs.lemmas.List.{length-map, length-set}
use Rattle.grib_bits.specs.Bits.{bits}
use Rattle.grib_bits.specs.Plain.{plain}
use Rattle.grib_base.specs.declared.code.Code.{Code}
use Rattle.grib_packing.specs.Groups.{reference_octets, width_octets, length_octets}
use Rattle.grib_packing.proofs.Fields.{length-plain}
use Rattle.grib_group_reading.specs.Lists.{ReferencesTook, WidthsTook, LengthsAre, LengthsTook, LengthAdded}
use Rattle.grib_group_reading.specs.declared.list_feeding.FedLists.{FedLists}
use Rattle.grib_group_reading.specs.Feeding.{part, no_marks, plain_groups, CanBeFed, Listing}
use Rattle.grib_group_reading.proofs.Pieces.{part_enough, part_codes}
use Rattle.grib_group_reading.proofs.Reading.{references_read, widths_read, lengths_read, last_set}
use Rattle.grib_group_reading.proofs.list_feeding.FedLists.finish.Goals as goal

pub returns : goal.returns
returns c = λ values octets fed enough.
    let layout = c.args.layout.now in
    let n = layout.groups in
    let start = fed.start in
    let empty = fed.empty in
    let first = reference_octets layout in
    let second = width_octets layout in
    let third = length_octets layout in
    let reference_numbers = plain (bits octets) layout.reference_bits n in
    let width_numbers = plain (bits (drop first octets)) layout.width_bits n in
    let length_bits = bits (drop (first + second) octets) in
    let length_numbers = plain length_bits layout.length_bits (n - 1) in
    let code_width = λ (coded : ℕ). layout.width_reference + coded in
    let code_length = λ (coded : ℕ). layout.length_reference + layout.length_increment * coded in
    let whole : (n - 1) + 1 ≡ n = omega (arith, c.requires.feedable.groups.groups) in
    let product : (n - 1) * layout.length_bits + layout.length_bits ≡ n * layout.length_bits = subst (λ (k : ℕ). (n - 1) * layout.length_bits + layout.length_bits ≡ k * layout.length_bits) whole (omega (arith, add-mul (n - 1) 1 layout.length_bits)) in
    let fits_3 : (n - 1) * layout.length_bits ≤ 8 * third = omega (arith, product) in
    let here = subst (λ (lists : FedLists). Listing layout start octets lists) c.in-AtLengths.is fed.listing in
    let references_took = here.references_are.took in
    let widths_took = here.widths_are.took in
    let lengths_took = subst (λ (cs : List Code). LengthsTook start.lengths cs c.finish-lengths.result) (part_codes (first + second) third layout.length_bits (n - 1) octets (omega arith) fits_3)
    (c.finish-lengths.ensures.took no_marks (plain_groups layout.length_bits (n - 1)) start.lengths (part (first + second) third octets) here.reads (part_enough (first + second) third layout.length_bits (n - 1) octets (omega arith) fits_3)) in
    let added = subst (λ (k : ℕ). LengthAdded c.finish-lengths.result k c.add.result) c.from.ensures c.add.ensures in
    let lengths_are = lengths_read values start.lengths c.finish-lengths.result c.add.result layout.length_reference layout.length_increment layout.last_length length_numbers
    empty.length_reference empty.length_increment empty.lengths (omega (arith, empty.length_memory, length-plain length_bits layout.length_bits (n - 1))) lengths_took added in
    record {
      references_are = references_read start.references c.in-AtLengths.references reference_numbers empty.references
          (omega (arith, empty.reference_memory, length-plain (bits octets) layout.reference_bits n)) references_took;
      widths_are = widths_read start.widths c.in-AtLengths.widths layout.width_reference width_numbers empty.width_reference empty.widths
          (omega (arith, empty.width_memory, length-plain (bits (drop first octets)) layout.width_bits n)) widths_took;
      lengths_are = subst (λ (xs : List ℕ). LengthsAre values c.add.result xs) (last_set code_length length_bits layout.length_bits n layout.last_length c.requires.feedable.groups.groups) lengths_are;
      reference_count = length-plain (bits octets) layout.reference_bits n;
      width_count = length-map width_numbers code_width ∙ length-plain (bits (drop first octets)) layout.width_bits n;
      length_count = length-set (map code_length (plain length_bits layout.length_bits n)) (n - 1) layout.last_length
          ∙ length-map (plain length_bits layout.length_bits n) code_length ∙ length-plain length_bits layout.length_bits n;
    }

pub add-requires : goal.add-requires
add-requires c =
    let can = subst (λ (lists : FedLists). CanBeFed c.args.layout.now lists) c.in-AtLengths.is c.requires.feedable.list in
    c.finish-lengths.ensures.room 1 can.1
