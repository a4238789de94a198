-- What is edited may be assembled, and its columns are the new ones.
use Rattle.std.proofs.Common.{◌≡◌, ℕ, ◌+◌, ◌-◌, ◌<◌, ◌≤◌, Bool, true, false, cond, nat_lt, Some, None, List, length, All, slice_get, refl, sym, ap, ◌∙◌, arith, subst, ltb-false}
use Rattle.std.proofs.lemmas.List.FromFn.{length-map-range_with_len, get_or-map-range_with_len}
use Rattle.std.proofs.lemmas.Option.{slice_get_within, get_or_from_slice_get, slice_get-get_or}
use Rattle.grib_base.proofs.Firsts.{none_later}
use Rattle.grib_base.specs.Rules.{first_among}
use Rattle.grib_base.specs.declared.profile.Profile.{Profile}
use Rattle.grib_base.specs.declared.profile.Profile.TheVariants.{Open}
use Rattle.grib2_grids.specs.Grid.{grid_points}
use Rattle.grib_bitmap.specs.Mask.{mask_of}
use Rattle.grib_packing.specs.declared.column.Column.{Column}
use Rattle.grib_packing.specs.Entries.{column_from}
use Rattle.grib_packing.specs.Misfits.{first_misfit}
use Rattle.grib_packing.specs.Packing.{packing_template}
use Rattle.grib_packing.specs.Packed.{Packed as HasPacked}
use Rattle.grib_packing.specs.declared.written.Packed.{Packed}
use Rattle.grib_packing.specs.Laws.{UnpackTo}
use Rattle.grib_packed.specs.Written.{HasWords}
use Rattle.grib2_message.specs.Fields.{field_count, part_octets, field_mask, column_of}
use Rattle.grib2_message.specs.Message.{IsMessageUnder, FieldPassesUnder}
use Rattle.grib2_message.specs.Assembled.{PartsPassUnder, MayBeAssembledWithUnder}
use Rattle.grib_repack.specs.Repacked.{kind_of}
use Rattle.grib_repack.proofs.Columns.{may_be_packed, has_words, kind_small}
use Rattle.grib_repack.proofs.Kept.{IsWritten, Unpacks, reads}
use Rattle.grib_repack.proofs.Sections.{are_written, template_stands}
use Rattle.grib_reorder.specs.declared.edit.GridEdit.{GridEdit}
use Rattle.grib_reorder.specs.Rescanned.{TooLong, MayBeEdited, cause_of, section_of, new_column, own_target, edited_column, edited_field, edited_fields, edited, grid_misfit, column_misfit, length_misfit, field_misfit}
use Rattle.grib_reorder.proofs.Fields.{no_grid, no_column, each_fits}
use Rattle.grib_reorder.proofs.Grids.{stated_rules, new_grid, new_points}
use Rattle.grib_reorder.proofs.Packs.{packs_as, accepted_alike}
use Rattle.grib_reorder.proofs.Points.{new_packable, same_reference, same_e, same_d}

not_long : (l : ℕ) → length_misfit l ≡ None → l ≤ 268435456
not_long l none = go (nat_lt 268435456 l) refl none where
  go : (b : Bool) → nat_lt 268435456 l ≡ b → cond b (Some (TooLong l)) None ≡ None → l ≤ 268435456
  go true e h = absurd (cc)
  go false e h = ltb-false 268435456 l e

-- one of the parts, and its place
module _ (edit : GridEdit) (message : List ℕ) where
  pub part_is : (k : ℕ) (part : Packed) → slice_get (edited_fields edit message) k ≡ Some part → (k < field_count message) × (edited_field edit message (k + 1) ≡ part)
  part_is k part e =
      let count = field_count message in
      let place : 1 + k ≡ k + 1 = omega arith in
      let within : k < length (edited_fields edit message) = slice_get_within (edited_fields edit message) k part e in
      let low : k < count = omega (arith, within, length-map-range_with_len (edited_field edit message) 1 count) in
      (low, sym (get_or-map-range_with_len (edited_field edit message) 1 count k (k + 1) part low place) ∙ get_or_from_slice_get (edited_fields edit message) k part part e)

  pub part_there : (i : ℕ) → 1 ≤ i → i ≤ field_count message → slice_get (edited_fields edit message) (i - 1) ≡ Some (edited_field edit message i)
  part_there i low high =
      let count = field_count message in
      let d = edited_field edit message i in
      let place : 1 + (i - 1) ≡ i = omega arith in
      let below : i - 1 < count = omega arith in
      let within : i - 1 < length (edited_fields edit message) = omega (arith, length-map-range_with_len (edited_field edit message) 1 count) in
      slice_get-get_or (edited_fields edit message) (i - 1) d within
      ∙ ap Some (get_or-map-range_with_len (edited_field edit message) 1 count (i - 1) i d below place)

-- the words of R, E and D stay
new_words : (edit : GridEdit) (s : List ℕ) (column : Column) → HasWords column → HasWords (new_column edit s column)
new_words edit s column h = record {
  reference = omega (arith, same_reference edit s column, h.reference);
  binary_scale = omega (arith, same_e edit s column, h.binary_scale);
  decimal_scale = omega (arith, same_d edit s column, h.decimal_scale);
}

module _ (written : IsWritten) (unpack : Unpacks) (profile : Profile)
    (passes : (message : List ℕ) (i : ℕ) → IsMessageUnder profile message → 1 ≤ i → i ≤ field_count message → FieldPassesUnder profile message i)
    (masks : (message : List ℕ) (i : ℕ) → IsMessageUnder profile message → All (λ octet. octet < 256) message → 1 ≤ i → i ≤ field_count message
    → length (field_mask message i) ≡ grid_points (part_octets message i 3))
    (edit : GridEdit) (message : List ℕ) (may : MayBeEdited profile edit message) where
  fits : (first_among (field_misfit edit message) (field_count message) 1 ≡ None) × (length_misfit (length (edited edit message)) ≡ None)
  fits =
      none_later (first_among (field_misfit edit message) (field_count message) 1)
      (λ _. length_misfit (length (edited edit message))) may.fits

  -- no cause holds of the grid of field i, and its new column fits
  field_fits : (i : ℕ) → 1 ≤ i → i ≤ field_count message → (grid_misfit edit message i ≡ None) × (column_misfit edit message i ≡ None)
  field_fits i low high =
      none_later (grid_misfit edit message i) (λ _. column_misfit edit message i) (each_fits edit message (field_count message) i fits.0 low high)

  uncaused : (i : ℕ) → 1 ≤ i → i ≤ field_count message → cause_of edit (part_octets message i 3) ≡ None
  uncaused i low high = no_grid i (cause_of edit (part_octets message i 3)) (field_fits i low high).0

  -- all that is known of field i
  record Field (i : ℕ) : Type 0 where
    pub has : (let p = edited_field edit message i in
        HasPacked (own_target (part_octets message i 5)) (edited_column edit message i) (kind_of message i) p.section5 p.section6 p.section7)
    pub unpacked : (let p = edited_field edit message i in UnpackTo (edited_column edit message i) p.section5 p.section6 p.section7)
    pub as_long : length (edited_column edit message i).points ≡ grid_points (section_of edit (part_octets message i 3))
    pub template : packing_template (edited_field edit message i).section5 ≡ packing_template (part_octets message i 5)

  field : (i : ℕ) → 1 ≤ i → i ≤ field_count message → Field i
  field i low high =
      let s3 = part_octets message i 3 in
      let target = own_target (part_octets message i 5) in
      let column = edited_column edit message i in
      let kind = kind_of message i in
      let p = edited_field edit message i in
      let here = reads profile message i (passes message i may.accepted low high) (may.readable i low high) in
      let long = masks message i may.accepted may.are_octets low high in
      let own = packs_as (part_octets message i 5) (grid_points s3) here.packing in
      let free = uncaused i low high in
      let rules = stated_rules edit Open s3 here.grid free in
      let packable = new_packable edit s3 (column_of message i) may.stands rules free (may_be_packed message i here long) in
      let none : first_misfit target column.points ≡ None = no_column i (first_misfit target column.points) (field_fits i low high).1 in
      let has : HasPacked target column kind p.section5 p.section6 p.section7 =
      written target column kind packable (new_words edit s3 (column_of message i) (has_words message i may.are_octets)) own.target (kind_small message i may.are_octets) none in
      record {
        has = has;
        unpacked = unpack target own.target column kind p.section5 p.section6 p.section7 packable none has;
        as_long = new_points edit s3 (column_of message i) may.stands rules free;
        template = template_stands target column kind p.section5 p.section6 p.section7 has ∙ own.template;
      }

  part_passes : (i : ℕ) → 1 ≤ i → i ≤ field_count message → PartsPassUnder profile (grid_points (section_of edit (part_octets message i 3))) (edited_field edit message i)
  part_passes i low high =
      let f = field i low high in
      let p = edited_field edit message i in
      let w = are_written (own_target (part_octets message i 5)) (edited_column edit message i) (kind_of message i) p.section5 p.section6 p.section7 f.has in
      subst (λ (n : ℕ). PartsPassUnder profile n p) f.as_long (record {
        itself_5 = w.itself_5;
        itself_6 = w.itself_6;
        itself_7 = w.itself_7;
        packing = accepted_alike profile (part_octets message i 5) p.section5 (grid_points (part_octets message i 3)) (length (edited_column edit message i).points) f.template
            (passes message i may.accepted low high).packing f.unpacked.representation;
        alone = w.alone;
        bitmap = f.unpacked.bitmap;
        values = f.unpacked.values;
      })

  pub may_be_assembled : MayBeAssembledWithUnder profile (section_of edit) message (edited_fields edit message)
  may_be_assembled = record {
    accepted = may.accepted;
    one_each = length-map-range_with_len (edited_field edit message) 1 (field_count message);
    grids = λ i low high grid. new_grid profile edit (part_octets message i 3) may.stands (uncaused i low high) grid;
    pass = λ k part e.
        let at = part_is edit message k part e in
        subst (λ (p : Packed). PartsPassUnder profile (grid_points (section_of edit (part_octets message (k + 1) 3))) p) at.1
        (part_passes (k + 1) (omega arith) (omega (arith, at.0)));
    most = not_long (length (edited edit message)) fits.1;
  }

  -- the column of a part
  pub column_is : (i : ℕ) → 1 ≤ i → i ≤ field_count message
      → column_from (edited_field edit message i).section5 (mask_of (edited_field edit message i).section6 (grid_points (section_of edit (part_octets message i 3))) None)
      (edited_field edit message i).section7
      ≡ edited_column edit message i
  column_is i low high =
      let f = field i low high in
      let p = edited_field edit message i in
      ap (λ (n : ℕ). column_from p.section5 (mask_of p.section6 n None) p.section7) (sym f.as_long) ∙ f.unpacked.column_stands None
