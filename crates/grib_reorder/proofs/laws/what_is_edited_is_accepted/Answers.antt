use Rattle.std.proofs.Common.{◌≡◌, ℕ, ◌+◌, ◌-◌, None, ◌∙◌, arith, subst}
use Rattle.grib2_grids.specs.Grid.{grid_points}
use Rattle.grib_bitmap.specs.Mask.{mask_of}
use Rattle.grib_packing.specs.Entries.{column_from}
use Rattle.grib2_message.specs.Fields.{part_octets, column_of}
use Rattle.grib_repack.proofs.Kept.{unpacks}
use Rattle.grib_reorder.specs.Rescanned.{section_of, edited_field, edited_fields, edited}
use Rattle.grib_reorder.proofs.Kept.{may_be_assembled, column_is, part_there}
use Rattle.grib_reorder.proofs.laws.what_is_edited_is_accepted.Goals as goal

pub returns-clause-accepted : goal.returns-clause-accepted
returns-clause-accepted c = λ profile edit message may.
    let unpack = unpacks c.what_is_packed_simply_reads_back.ensures c.what_is_packed_in_groups_reads_back.ensures c.what_is_packed_by_differences_reads_back.ensures c.what_is_packed_in_blocks_reads_back.ensures in
    c.what_is_assembled_with_other_grids_is_accepted.ensures.accepted profile (section_of edit) message (edited_fields edit message)
    (may_be_assembled c.a_packing_is_written.ensures unpack profile (c.field_holds.ensures.passes profile) (c.field_holds.ensures.mask profile) edit message may)

pub returns-clause-fields : goal.returns-clause-fields
returns-clause-fields c = λ profile edit message may.
    let unpack = unpacks c.what_is_packed_simply_reads_back.ensures c.what_is_packed_in_groups_reads_back.ensures c.what_is_packed_by_differences_reads_back.ensures c.what_is_packed_in_blocks_reads_back.ensures in
    c.what_is_assembled_with_other_grids_is_accepted.ensures.fields profile (section_of edit) message (edited_fields edit message)
    (may_be_assembled c.a_packing_is_written.ensures unpack profile (c.field_holds.ensures.passes profile) (c.field_holds.ensures.mask profile) edit message may)

pub returns-clause-columns : goal.returns-clause-columns
returns-clause-columns c = λ profile edit message may i low high.
    let unpack = unpacks c.what_is_packed_simply_reads_back.ensures c.what_is_packed_in_groups_reads_back.ensures c.what_is_packed_by_differences_reads_back.ensures c.what_is_packed_in_blocks_reads_back.ensures in
    let p = edited_field edit message i in
    let place : i - 1 + 1 ≡ i = omega arith in
    let assembled = may_be_assembled c.a_packing_is_written.ensures unpack profile (c.field_holds.ensures.passes profile) (c.field_holds.ensures.mask profile) edit message may in
    let made =
    c.what_is_assembled_with_other_grids_is_accepted.ensures.columns profile (section_of edit) message (edited_fields edit message) assembled (i - 1) p
    (part_there edit message i low high) in
    subst (λ (n : ℕ). column_of (edited edit message) n ≡ column_from p.section5 (mask_of p.section6 (grid_points (section_of edit (part_octets message n 3))) None) p.section7) place made
    ∙ column_is c.a_packing_is_written.ensures unpack profile (c.field_holds.ensures.passes profile) (c.field_holds.ensures.mask profile) edit message may i low high

pub returns-clause-grids : goal.returns-clause-grids
returns-clause-grids c = λ profile edit message may.
    let unpack = unpacks c.what_is_packed_simply_reads_back.ensures c.what_is_packed_in_groups_reads_back.ensures c.what_is_packed_by_differences_reads_back.ensures c.what_is_packed_in_blocks_reads_back.ensures in
    c.what_is_assembled_with_other_grids_is_accepted.ensures.grids profile (section_of edit) message (edited_fields edit message)
    (may_be_assembled c.a_packing_is_written.ensures unpack profile (c.field_holds.ensures.passes profile) (c.field_holds.ensures.mask profile) edit message may)

pub returns-clause-kept : goal.returns-clause-kept
returns-clause-kept c = λ profile edit message may.
    let unpack = unpacks c.what_is_packed_simply_reads_back.ensures c.what_is_packed_in_groups_reads_back.ensures c.what_is_packed_by_differences_reads_back.ensures c.what_is_packed_in_blocks_reads_back.ensures in
    c.what_is_assembled_with_other_grids_is_accepted.ensures.kept profile (section_of edit) message (edited_fields edit message)
    (may_be_assembled c.a_packing_is_written.ensures unpack profile (c.field_holds.ensures.passes profile) (c.field_holds.ensures.mask profile) edit message may)
