use Rattle.std.proofs.Common.{◌≡◌, ℕ, ◌+◌, ◌-◌, None, ◌∙◌, arith, subst}
use Rattle.grib2_grids.specs.Grid.{grid_points}
use Rattle.grib_bitmap.specs.Mask.{mask_of}
use Rattle.grib_packing.specs.Entries.{column_from}
use Rattle.grib2_message.specs.Fields.{field_count, part_octets, column_of}
use Rattle.grib2_message.specs.Assembled.{assembled}
use Rattle.grib2_message.proofs.Parted.{message_most}
use Rattle.grib_repack.proofs.Kept.{unpacks}
use Rattle.grib_least.specs.Least.{least_form, least_forms}
use Rattle.grib_least.proofs.Kept.{least_stands, may_be_assembled, part_there}
use Rattle.grib_least.proofs.Again.{again_least}
use Rattle.grib_least.proofs.laws.least_of_least.Goals as goal

pub returns : goal.returns
returns c = λ profile message accepted readable each.
    let unpack = unpacks c.what_is_packed_simply_reads_back.ensures c.what_is_packed_in_groups_reads_back.ensures c.what_is_packed_by_differences_reads_back.ensures c.what_is_packed_in_blocks_reads_back.ensures in
    let forms = least_forms profile message in
    let stands = least_stands c.a_packing_is_written.ensures unpack profile (c.field_holds.ensures.passes profile) (c.field_holds.ensures.mask profile) message accepted readable each in
    again_least profile message
    (λ low.
    let may = may_be_assembled c.a_packing_is_written.ensures unpack profile (c.field_holds.ensures.passes profile) (c.field_holds.ensures.mask profile) message accepted readable each (omega (arith, low, message_most profile message accepted)) in
    record {
      may = may;
      stands = stands;
      fields = c.what_is_assembled_is_accepted.ensures.fields profile message forms may;
      columns = λ i low high.
          let p = least_form profile message i in
          let place : i - 1 + 1 ≡ i = omega arith in
          let made = c.what_is_assembled_is_accepted.ensures.columns profile message forms may (i - 1) p (part_there (least_form profile message) (field_count message) i low high) in
          subst (λ (n : ℕ). column_of (assembled message forms) n ≡ column_from p.section5 (mask_of p.section6 (grid_points (part_octets message n 3)) None) p.section7) place made
          ∙ (stands i low high).column;
      parts = λ i low high.
          let p = least_form profile message i in
          let place : i - 1 + 1 ≡ i = omega arith in
          subst (λ (n : ℕ). let x = assembled message forms in (part_octets x n 5 ≡ p.section5) × (part_octets x n 6 ≡ p.section6) × (part_octets x n 7 ≡ p.section7)) place
          (c.what_is_assembled_is_accepted.ensures.parts profile message forms may (i - 1) p (part_there (least_form profile message) (field_count message) i low high));
    })
