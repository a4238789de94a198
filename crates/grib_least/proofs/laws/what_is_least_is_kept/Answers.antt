use Rattle.std.proofs.Common.{◌≡◌, ℕ, ◌+◌, ◌-◌, None, List, map, refl, ap, ◌∙◌, arith, subst}
use Rattle.grib2_grids.specs.Grid.{grid_points}
use Rattle.grib_bitmap.specs.Mask.{mask_of}
use Rattle.grib_packing.specs.declared.column.Column.{Column}
use Rattle.grib_packing.specs.Entries.{column_from}
use Rattle.grib2_message.specs.Fields.{field_count, part_octets, column_of, meaning_at}
use Rattle.grib2_message.specs.Message.{IsMessageUnder}
use Rattle.grib2_message.specs.Assembled.{assembled}
use Rattle.grib_repack.proofs.Kept.{unpacks}
use Rattle.grib_least.specs.Least.{least_form, least_forms}
use Rattle.grib_least.proofs.Kept.{least_is, least_stands, may_be_assembled, part_there}
use Rattle.grib_least.proofs.laws.what_is_least_is_kept.Goals as goal

pub returns-clause-accepted : goal.returns-clause-accepted
returns-clause-accepted c = λ profile message accepted readable each.
    let unpack = unpacks c.what_is_packed_simply_reads_back.ensures c.what_is_packed_in_groups_reads_back.ensures c.what_is_packed_by_differences_reads_back.ensures c.what_is_packed_in_blocks_reads_back.ensures in
    least_is profile (IsMessageUnder profile) message accepted accepted
    (λ few. c.what_is_assembled_is_accepted.ensures.accepted profile message (least_forms profile message)
    (may_be_assembled c.a_packing_is_written.ensures unpack profile (c.field_holds.ensures.passes profile) (c.field_holds.ensures.mask profile) message accepted readable each few))

pub returns-clause-fields : goal.returns-clause-fields
returns-clause-fields c = λ profile message accepted readable each.
    let unpack = unpacks c.what_is_packed_simply_reads_back.ensures c.what_is_packed_in_groups_reads_back.ensures c.what_is_packed_by_differences_reads_back.ensures c.what_is_packed_in_blocks_reads_back.ensures in
    least_is profile (λ (x : List ℕ). field_count x ≡ field_count message) message accepted refl
    (λ few. c.what_is_assembled_is_accepted.ensures.fields profile message (least_forms profile message)
    (may_be_assembled c.a_packing_is_written.ensures unpack profile (c.field_holds.ensures.passes profile) (c.field_holds.ensures.mask profile) message accepted readable each few))

pub returns-clause-columns : goal.returns-clause-columns
returns-clause-columns c = λ profile message accepted readable each i low high.
    let unpack = unpacks c.what_is_packed_simply_reads_back.ensures c.what_is_packed_in_groups_reads_back.ensures c.what_is_packed_by_differences_reads_back.ensures c.what_is_packed_in_blocks_reads_back.ensures in
    let forms = least_forms profile message in
    let p = least_form profile message i in
    let place : i - 1 + 1 ≡ i = omega arith in
    let stands = least_stands c.a_packing_is_written.ensures unpack profile (c.field_holds.ensures.passes profile) (c.field_holds.ensures.mask profile) message accepted readable each i low high in
    least_is profile (λ (x : List ℕ). column_of x i ≡ column_of message i) message accepted refl
    (λ few.
    let assembled_here = may_be_assembled c.a_packing_is_written.ensures unpack profile (c.field_holds.ensures.passes profile) (c.field_holds.ensures.mask profile) message accepted readable each few in
    let made = c.what_is_assembled_is_accepted.ensures.columns profile message forms assembled_here (i - 1) p (part_there (least_form profile message) (field_count message) i low high) in
    subst (λ (n : ℕ). column_of (assembled message forms) n ≡ column_from p.section5 (mask_of p.section6 (grid_points (part_octets message n 3)) None) p.section7) place made
    ∙ stands.column)

pub returns-clause-meanings : goal.returns-clause-meanings
returns-clause-meanings c = λ profile message accepted readable each i low high.
    ap (λ (column : Column). map (meaning_at column) column.points) (returns-clause-columns c profile message accepted readable each i low high)

pub returns-clause-kept : goal.returns-clause-kept
returns-clause-kept c = λ profile message accepted readable each i k high.
    let unpack = unpacks c.what_is_packed_simply_reads_back.ensures c.what_is_packed_in_groups_reads_back.ensures c.what_is_packed_by_differences_reads_back.ensures c.what_is_packed_in_blocks_reads_back.ensures in
    least_is profile (λ (x : List ℕ). part_octets x i k ≡ part_octets message i k) message accepted refl
    (λ few. c.what_is_assembled_is_accepted.ensures.kept profile message (least_forms profile message)
    (may_be_assembled c.a_packing_is_written.ensures unpack profile (c.field_holds.ensures.passes profile) (c.field_holds.ensures.mask profile) message accepted readable each few) i k high)
