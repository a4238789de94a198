-- What is repacked may be assembled, and its columns are those that were packed.
use Rattle.std.proofs.Common.{◌≡◌, ℕ, ◌+◌, ◌-◌, ◌<◌, ◌≤◌, ◌⊎◌, Bool, true, false, cond, nat_lt, Option, Some, None, option_map, List, length, All, slice_get, refl, sym, ap, ◌∙◌, arith, subst, ltb-false}
use Rattle.std.proofs.lemmas.List.FromFn.{length-map-range_with_len, get_or-map-range_with_len}
use Rattle.std.proofs.lemmas.Option.{slice_get_within, get_or_from_slice_get, slice_get-get_or}
use Rattle.grib_base.proofs.Firsts.{none_later}
use Rattle.grib_base.specs.Rules.{first_among}
use Rattle.grib_base.specs.declared.profile.Profile.{Profile}
use Rattle.grib_base.specs.declared.profile.Profile.TheVariants.{Open}
use Rattle.grib2_grids.specs.Grid.{grid_points}
use Rattle.grib_bitmap.specs.Mask.{mask_of}
use Rattle.grib_packing.specs.declared.column.Column.{Column}
use Rattle.grib_packing.specs.Entries.{column_from}
use Rattle.grib_packing.specs.Misfits.{Target, ToSimple, ToComplex, ToSpatial, ToCoded, Misfit, first_misfit}
use Rattle.grib_packing.specs.Packed.{Packed as HasPacked}
use Rattle.grib_packing.specs.declared.written.Packed.{Packed}
use Rattle.grib_packing.specs.Laws.{UnpackTo}
use Rattle.grib_packing.specs.Written.{IsBlocks, MayBePacked, IsTarget}
use Rattle.grib_packed.specs.Written.{HasWords, packed}
use Rattle.grib2_message.specs.Fields.{field_count, part_octets, field_mask, column_of}
use Rattle.grib2_message.specs.Message.{IsMessageUnder, FieldPassesUnder, FieldReads, HasValues}
use Rattle.grib2_message.specs.Assembled.{PartsPassUnder, MayBeAssembledUnder}
use Rattle.grib2_message.proofs.Opened.{field_opened, field_read}
use Rattle.grib_repack.specs.Repacked.{OutputTooLong, MayBeRepacked, kind_of, packed_field, packed_fields, repacked, in_field, length_misfit, field_misfit}
use Rattle.grib_repack.proofs.Fields.{each_fits}
use Rattle.grib_repack.proofs.Sections.{are_written, accepted_under}
use Rattle.grib_repack.proofs.Columns.{column_long, may_be_packed, has_words, kind_small}

no_misfit : (i : ℕ) (misfit : Option Misfit) → option_map (in_field i) misfit ≡ None → misfit ≡ None
no_misfit i (Some misfit) none = absurd (cc)
no_misfit i None none = refl

not_long : (l : ℕ) → length_misfit l ≡ None → l ≤ 268435456
not_long l none = go (nat_lt 268435456 l) refl none where
  go : (b : Bool) → nat_lt 268435456 l ≡ b → cond b (Some (OutputTooLong l)) None ≡ None → l ≤ 268435456
  go true e h = absurd (cc)
  go false e h = ltb-false 268435456 l e

-- what laws of packings say
abbrev pub UnpacksAt : Target → Type 0
UnpacksAt target =
    (column : Column) (kind : ℕ) (s5 s6 s7 : List ℕ) → MayBePacked column → first_misfit target column.points ≡ None → HasPacked target column kind s5 s6 s7 → UnpackTo column s5 s6 s7

abbrev pub Unpacks : Type 0
Unpacks = (target : Target) → IsTarget target → UnpacksAt target

pub unpacks : UnpacksAt ToSimple → UnpacksAt ToComplex
    → ((order kind : ℕ) (column : Column) (s5 s6 s7 : List ℕ) → (order ≡ 1) ⊎ (order ≡ 2) → MayBePacked column → first_misfit (ToSpatial order) column.points ≡ None
    → HasPacked (ToSpatial order) column kind s5 s6 s7 → UnpackTo column s5 s6 s7)
    → ((block interval : ℕ) (column : Column) (kind : ℕ) (s5 s6 s7 : List ℕ) → MayBePacked column → IsBlocks block interval
    → first_misfit (ToCoded block interval) column.points ≡ None → HasPacked (ToCoded block interval) column kind s5 s6 s7 → UnpackTo column s5 s6 s7)
    → Unpacks
unpacks simply grouped differing coded ToSimple is column kind s5 s6 s7 may fits has = simply column kind s5 s6 s7 may fits has
unpacks simply grouped differing coded ToComplex is column kind s5 s6 s7 may fits has = grouped column kind s5 s6 s7 may fits has
unpacks simply grouped differing coded (ToSpatial order) is column kind s5 s6 s7 may fits has = differing order kind column s5 s6 s7 is may fits has
unpacks simply grouped differing coded (ToCoded block interval) is column kind s5 s6 s7 may fits has = coded block interval column kind s5 s6 s7 may is fits has

abbrev pub IsWritten : Type 0
IsWritten =
    (target : Target) (column : Column) (kind : ℕ) → MayBePacked column → HasWords column → IsTarget target → kind < 256 → first_misfit target column.points ≡ None
    → let p = packed target column kind in HasPacked target column kind p.section5 p.section6 p.section7

-- one of the parts, and its place
module _ (target : Target) (message : List ℕ) where
  pub part_is : (k : ℕ) (part : Packed) → slice_get (packed_fields target message) k ≡ Some part → (k < field_count message) × (packed_field target message (k + 1) ≡ part)
  part_is k part e =
      let count = field_count message in
      let place : 1 + k ≡ k + 1 = omega arith in
      let within : k < length (packed_fields target message) = slice_get_within (packed_fields target message) k part e in
      let low : k < count = omega (arith, within, length-map-range_with_len (packed_field target message) 1 count) in
      (low, sym (get_or-map-range_with_len (packed_field target message) 1 count k (k + 1) part low place) ∙ get_or_from_slice_get (packed_fields target message) k part part e)

  pub part_there : (i : ℕ) → 1 ≤ i → i ≤ field_count message → slice_get (packed_fields target message) (i - 1) ≡ Some (packed_field target message i)
  part_there i low high =
      let count = field_count message in
      let d = packed_field target message i in
      let place : 1 + (i - 1) ≡ i = omega arith in
      let below : i - 1 < count = omega arith in
      let within : i - 1 < length (packed_fields target message) = omega (arith, length-map-range_with_len (packed_field target message) 1 count) in
      slice_get-get_or (packed_fields target message) (i - 1) d within
      ∙ ap Some (get_or-map-range_with_len (packed_field target message) 1 count (i - 1) i d below place)

-- a field whose values can be read
pub reads : (profile : Profile) (message : List ℕ) (i : ℕ) → FieldPassesUnder profile message i → HasValues message i → FieldReads message i
reads profile message i passes read = field_read Open message i (field_opened profile message i passes) read

module _ (written : IsWritten) (unpack : Unpacks) (profile : Profile)
    (passes : (message : List ℕ) (i : ℕ) → IsMessageUnder profile message → 1 ≤ i → i ≤ field_count message → FieldPassesUnder profile message i)
    (masks : (message : List ℕ) (i : ℕ) → IsMessageUnder profile message → All (λ octet. octet < 256) message → 1 ≤ i → i ≤ field_count message
    → length (field_mask message i) ≡ grid_points (part_octets message i 3))
    (target : Target) (message : List ℕ) (may : MayBeRepacked profile target message) where
  -- all that is known of field i
  record Field (i : ℕ) : Type 0 where
    pub has : HasPacked target (column_of message i) (kind_of message i) (packed_field target message i).section5 (packed_field target message i).section6 (packed_field target message i).section7
    pub unpacked : UnpackTo (column_of message i) (packed_field target message i).section5 (packed_field target message i).section6 (packed_field target message i).section7
    pub as_long : length (column_of message i).points ≡ grid_points (part_octets message i 3)

  fits : (first_among (field_misfit target message) (field_count message) 1 ≡ None) × (length_misfit (length (repacked target message)) ≡ None)
  fits =
      none_later (first_among (field_misfit target message) (field_count message) 1)
      (λ _. length_misfit (length (repacked target message))) may.fits

  field : (i : ℕ) → 1 ≤ i → i ≤ field_count message → Field i
  field i low high =
      let column = column_of message i in
      let kind = kind_of message i in
      let p = packed_field target message i in
      let here = reads profile message i (passes message i may.accepted low high) (may.readable i low high) in
      let long = masks message i may.accepted may.are_octets low high in
      let packable = may_be_packed message i here long in
      let none : first_misfit target column.points ≡ None = no_misfit i (first_misfit target column.points) (each_fits target message (field_count message) i fits.0 low high) in
      let has : HasPacked target column kind p.section5 p.section6 p.section7 =
      written target column kind packable (has_words message i may.are_octets) may.target_stands (kind_small message i may.are_octets) none in
      record {
        has = has;
        unpacked = unpack target may.target_stands column kind p.section5 p.section6 p.section7 packable none has;
        as_long = column_long message i here long;
      }

  part_passes : (i : ℕ) → 1 ≤ i → i ≤ field_count message → PartsPassUnder profile (grid_points (part_octets message i 3)) (packed_field target message i)
  part_passes i low high =
      let f = field i low high in
      let p = packed_field target message i in
      let w = are_written target (column_of message i) (kind_of message i) p.section5 p.section6 p.section7 f.has in
      subst (λ (n : ℕ). PartsPassUnder profile n p) f.as_long (record {
        itself_5 = w.itself_5;
        itself_6 = w.itself_6;
        itself_7 = w.itself_7;
        packing = accepted_under profile target (column_of message i) (kind_of message i) p.section5 p.section6 p.section7 (length (column_of message i).points) may.packing f.has
            f.unpacked.representation;
        alone = w.alone;
        bitmap = f.unpacked.bitmap;
        values = f.unpacked.values;
      })

  pub may_be_assembled : MayBeAssembledUnder profile message (packed_fields target message)
  may_be_assembled = record {
    accepted = may.accepted;
    one_each = length-map-range_with_len (packed_field target message) 1 (field_count message);
    pass = λ k part e.
        let at = part_is target message k part e in
        subst (λ (p : Packed). PartsPassUnder profile (grid_points (part_octets message (k + 1) 3)) p) at.1
        (part_passes (k + 1) (omega arith) (omega (arith, at.0)));
    most = not_long (length (repacked target message)) fits.1;
  }

  -- the column of a part
  pub column_kept : (i : ℕ) → 1 ≤ i → i ≤ field_count message
      → column_from (packed_field target message i).section5 (mask_of (packed_field target message i).section6 (grid_points (part_octets message i 3)) None) (packed_field target message i).section7
      ≡ column_of message i
  column_kept i low high =
      let f = field i low high in
      let p = packed_field target message i in
      ap (λ (n : ℕ). column_from p.section5 (mask_of p.section6 n None) p.section7) (sym f.as_long) ∙ f.unpacked.column_stands None
