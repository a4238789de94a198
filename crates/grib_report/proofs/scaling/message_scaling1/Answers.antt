use Rattle.std.proofs.Common.{◌≤◌, drop, ltb-false}
use Rattle.std.specs.List.{range_with_len}
use Rattle.grib_bits.specs.Bits.{bits}
use Rattle.grib_base.proofs.Places.{any_of_none}
use Rattle.grib_bitmap.specs.Mask.{present_count}
use Rattle.grib_packing.specs.Column.{points_with_mask}
use Rattle.grib_packing.specs.Entries.{is_out_of_range}
use Rattle.grib_base.proofs.Passing.{passes_from_none}
use Rattle.grib1_sections.specs.Acceptance.{mask, data_section, values_of}
use Rattle.grib1_sections.specs.Column.{entries_of}
use Rattle.grib1_sections.specs.Data.{bit_width, data_rules}
use Rattle.grib_repack.proofs.Ranges.{plain_within, none_with_mask}
use Rattle.grib_report.proofs.scaling.message_scaling1.Goals as goal

pub returns-clause-small : goal.returns-clause-small
returns-clause-small c =
    let m = c.args.message.now in
    let s4 = data_section m in
    let rules = passes_from_none (data_rules (values_of m) s4) c.section.ensures.passes.data_stands.rules_hold in
    let few : bit_width s4 ≤ 48 = ltb-false 48 (bit_width s4) rules.1.1.1.0 in
    let presence = mask m in
    let entries = entries_of s4 (present_count presence) in
    any_of_none is_out_of_range (points_with_mask presence entries)
    (none_with_mask presence entries (plain_within (bits (drop 11 s4)) (bit_width s4) (range_with_len 0 (present_count presence)) few))
