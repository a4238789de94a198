use Rattle.std.proofs.Common.{◌≡◌, ℕ, ◌+◌, ◌-◌, None, map, ap, ◌∙◌, arith, subst}
use Rattle.grib2_grids.specs.Grid.{grid_points}
use Rattle.grib_bitmap.specs.Mask.{mask_of}
use Rattle.grib_packing.specs.declared.column.Column.{Column}
use Rattle.grib_packing.specs.Entries.{column_from}
use Rattle.grib2_message.specs.Fields.{part_octets, column_of, meaning_at}
use Rattle.grib_repack.specs.Repacked.{packed_field, packed_fields, repacked}
use Rattle.grib_repack.proofs.Kept.{unpacks, may_be_assembled, column_kept, part_there}
use Rattle.grib_repack.proofs.laws.what_is_repacked_keeps_each_value.Goals as goal

pub returns-clause-accepted : goal.returns-clause-accepted
returns-clause-accepted c = λ profile target message may.
    let unpack = unpacks c.what_is_packed_simply_reads_back.ensures c.what_is_packed_in_groups_reads_back.ensures c.what_is_packed_by_differences_reads_back.ensures c.what_is_packed_in_blocks_reads_back.ensures in
    c.what_is_assembled_is_accepted.ensures.accepted profile message (packed_fields target message)
    (may_be_assembled c.a_packing_is_written.ensures unpack profile (c.field_holds.ensures.passes profile) (c.field_holds.ensures.mask profile) target message may)

pub returns-clause-fields : goal.returns-clause-fields
returns-clause-fields c = λ profile target message may.
    let unpack = unpacks c.what_is_packed_simply_reads_back.ensures c.what_is_packed_in_groups_reads_back.ensures c.what_is_packed_by_differences_reads_back.ensures c.what_is_packed_in_blocks_reads_back.ensures in
    c.what_is_assembled_is_accepted.ensures.fields profile message (packed_fields target message)
    (may_be_assembled c.a_packing_is_written.ensures unpack profile (c.field_holds.ensures.passes profile) (c.field_holds.ensures.mask profile) target message may)

pub returns-clause-columns : goal.returns-clause-columns
returns-clause-columns c = λ profile target message may i low high.
    let unpack = unpacks c.what_is_packed_simply_reads_back.ensures c.what_is_packed_in_groups_reads_back.ensures c.what_is_packed_by_differences_reads_back.ensures c.what_is_packed_in_blocks_reads_back.ensures in
    let parts = packed_fields target message in
    let p = packed_field target message i in
    let place : i - 1 + 1 ≡ i = omega arith in
    let assembled = may_be_assembled c.a_packing_is_written.ensures unpack profile (c.field_holds.ensures.passes profile) (c.field_holds.ensures.mask profile) target message may in
    let made = c.what_is_assembled_is_accepted.ensures.columns profile message parts assembled (i - 1) p (part_there target message i low high) in
    subst (λ (n : ℕ). column_of (repacked target message) n ≡ column_from p.section5 (mask_of p.section6 (grid_points (part_octets message n 3)) None) p.section7) place made
    ∙ column_kept c.a_packing_is_written.ensures unpack profile (c.field_holds.ensures.passes profile) (c.field_holds.ensures.mask profile) target message may i low high

pub returns-clause-meanings : goal.returns-clause-meanings
returns-clause-meanings c = λ profile target message may i low high.
    ap (λ (column : Column). map (meaning_at column) column.points) (returns-clause-columns c profile target message may i low high)

pub returns-clause-kept : goal.returns-clause-kept
returns-clause-kept c = λ profile target message may i k high.
    let unpack = unpacks c.what_is_packed_simply_reads_back.ensures c.what_is_packed_in_groups_reads_back.ensures c.what_is_packed_by_differences_reads_back.ensures c.what_is_packed_in_blocks_reads_back.ensures in
    c.what_is_assembled_is_accepted.ensures.kept profile message (packed_fields target message)
    (may_be_assembled c.a_packing_is_written.ensures unpack profile (c.field_holds.ensures.passes profile) (c.field_holds.ensures.mask profile) target message may) i k high
