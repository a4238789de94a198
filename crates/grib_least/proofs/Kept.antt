-- The smallest form of each field may stand in the message, and has the column of the field.
use Rattle.std.proofs.Common.{◌≡◌, ◌≢◌, ℕ, ◌+◌, ◌-◌, ◌^◌, ◌<◌, ◌≤◌, ◌⊎◌, Bool, true, false, cond, ◌&&◌, ◌==◌, nat_lt, Some, None, List, [], ◌∷◌, length, map, All, slice_get, inl, inr, refl, sym, ap, ◌∙◌, arith, subst, lt-ltb, eqb-true}
use Rattle.std.specs.List.{range_with_len}
use Rattle.std.proofs.lemmas.Bool.{cases_eq, ltb-true}
use Rattle.std.proofs.lemmas.List.FromFn.{length-map-range_with_len, get_or-map-range_with_len}
use Rattle.std.proofs.lemmas.Option.{slice_get_within, get_or_from_slice_get, slice_get-get_or}
use Rattle.grib_bits.specs.Octets.{octets}
use Rattle.grib_bits.proofs.Logic.{right_true}
use Rattle.grib_base.specs.Rules.{choose}
use Rattle.grib_base.specs.declared.profile.Profile.{Profile}
use Rattle.grib2_grids.specs.Grid.{grid_points}
use Rattle.grib2_sections.specs.Frame.{Placed}
use Rattle.grib_bitmap.specs.Mask.{bitmap_indicator, bitmap_rules, mask_of}
use Rattle.grib_packing.specs.declared.column.Column.{Column}
use Rattle.grib_packing.specs.Entries.{column_from}
use Rattle.grib_packing.specs.Misfits.{Target, ToSimple, ToComplex, ToSpatial, ToCoded, first_misfit}
use Rattle.grib_packing.specs.Packed.{Packed as HasPacked}
use Rattle.grib_packing.specs.Packing.{value_count}
use Rattle.grib_packing.specs.Written.{IsTarget}
use Rattle.grib_packing.specs.declared.written.Packed.{Packed}
use Rattle.grib_packed.specs.Written.{packed}
use Rattle.grib2_message.specs.View.{is_numbered, octets_in_force, earlier_bitmap, first_octets, own_bitmap}
use Rattle.grib2_message.specs.Fields.{field_count, field_sections, part_octets, field_bitmap, field_mask, column_of}
use Rattle.grib2_message.specs.Message.{IsMessageUnder, IsReadable, FieldPassesUnder}
use Rattle.grib2_message.specs.Assembled.{assembled, PartsPassUnder, MayBeAssembledUnder}
use Rattle.grib2_message.proofs.Bitmaps.{rules_alone}
use Rattle.grib2_message.proofs.Latest.{own_alone, own_repeated}
use Rattle.grib2_message.proofs.Parted.{message_most}
use Rattle.grib2_message.proofs.Passed.{passes_from_none}
use Rattle.grib_select.proofs.Accepted.{field_up_to}
use Rattle.grib_select.proofs.Alone.{parts}
use Rattle.grib_select.proofs.Cut.{stands_alone}
use Rattle.grib_repack.specs.Repacked.{HasPacking, kind_of}
use Rattle.grib_repack.proofs.Octets.{part_of_octets, octets_few}
use Rattle.grib_repack.proofs.Columns.{column_long, may_be_packed, has_words, kind_small}
use Rattle.grib_repack.proofs.Kept.{IsWritten, Unpacks, reads}
use Rattle.grib_repack.proofs.Sections.{are_written, accepted_under}
use Rattle.grib_least.specs.Least.{own_form, form_of, packed_forms, least_form, least_forms, shorter, least}
use Rattle.grib_least.proofs.Smallest.{smallest_of, each_packed, counts}

-- ---- one part for each field

module _ (f : ℕ → Packed) (count : ℕ) where
  part_is : (k : ℕ) (part : Packed) → slice_get (map f (range_with_len 1 count)) k ≡ Some part → (k < count) × (f (k + 1) ≡ part)
  part_is k part e =
      let those = map f (range_with_len 1 count) in
      let place : 1 + k ≡ k + 1 = omega arith in
      let within : k < length those = slice_get_within those k part e in
      let low : k < count = omega (arith, within, length-map-range_with_len f 1 count) in
      (low, sym (get_or-map-range_with_len f 1 count k (k + 1) part low place) ∙ get_or_from_slice_get those k part part e)

  pub part_there : (i : ℕ) → 1 ≤ i → i ≤ count → slice_get (map f (range_with_len 1 count)) (i - 1) ≡ Some (f i)
  part_there i low high =
      let those = map f (range_with_len 1 count) in
      let place : 1 + (i - 1) ≡ i = omega arith in
      let below : i - 1 < count = omega arith in
      let within : i - 1 < length those = omega (arith, length-map-range_with_len f 1 count) in
      slice_get-get_or those (i - 1) (f i) within
      ∙ ap Some (get_or-map-range_with_len f 1 count (i - 1) i (f i) below place)

-- ---- the bitmap with the bits of a field

choose_own : (b : Bool) (here there : List Placed) → (b ≡ true → bitmap_indicator (first_octets here) ≡ 0) → bitmap_indicator (first_octets there) ≡ 0
    → bitmap_indicator (first_octets (choose b (λ _. here) (λ _. there))) ≡ 0
choose_own true here there own behind = own refl
choose_own false here there own behind = behind

earlier_own : (before : List Placed) → bitmap_indicator (first_octets (earlier_bitmap before)) ≡ 0
earlier_own [] = refl
earlier_own (s ∷ before) =
    choose_own (is_numbered 6 s && (bitmap_indicator s.octets == 0)) (s ∷ before) (earlier_bitmap before)
    (λ e. eqb-true (bitmap_indicator s.octets) 0 (right_true (is_numbered 6 s) (bitmap_indicator s.octets == 0) e)) (earlier_own before)

-- an indicator that passes and repeats nothing
passing_indicator : (n : ℕ) → n < 256 → n ≢ 254 → (nat_lt 0 n && nat_lt n 254) ≡ false → (n ≡ 0) ⊎ (n ≡ 255)
passing_indicator n small other passes = elim (cases_eq n 0) [
  | inl none ↦ inl none
  | inr some ↦ elim (cases_eq n 255) [
    | inl all ↦ inr all
    | inr neither ↦
        let low : nat_lt 0 n ≡ true = lt-ltb 0 n (omega (arith, some)) in
        let high : nat_lt n 254 ≡ true = lt-ltb n 254 (omega (arith, small, other, neither)) in
        absurd (let both : (nat_lt 0 n && nat_lt n 254) ≡ true = ap (λ (b : Bool). b && nat_lt n 254) low ∙ high in cc)
  ]
]

module _ (profile : Profile) (message : List ℕ) (i : ℕ) (accepted : IsMessageUnder profile message) (each : All (λ octet. octet < 256) message) (low : 1 ≤ i) (high : i ≤ field_count message) where
  own_indicator : (bitmap_indicator (field_bitmap message i) ≡ 0) ⊎ (bitmap_indicator (field_bitmap message i) ≡ 255)
  own_indicator =
      let before = field_sections message i in
      elim (cases_eq (bitmap_indicator (octets_in_force 6 before)) 254) [
        | inl repeats ↦ inl (ap bitmap_indicator (own_repeated before repeats) ∙ earlier_own before)
        | inr other ↦
            let s = octets_in_force 6 before in
            let is : bitmap_indicator (own_bitmap before) ≡ bitmap_indicator s = ap bitmap_indicator (own_alone before other) in
            let p = parts profile message i accepted low high in
            let rules = passes_from_none (bitmap_rules (own_bitmap before) (grid_points (part_octets message i 3)) (value_count (part_octets message i 5)) None) p.bitmap in
            let few : octets s 6 6 < 2 ^ 8 = octets_few s 6 6 8 (part_of_octets message i 6 each) (omega arith) in
            passing_indicator (bitmap_indicator (own_bitmap before)) (omega (arith, few, is)) p.alone rules.1.0
      ]

-- ---- the forms of a field

-- It may stand for field i, whose column it has, with the type of the original values.
pub record Stands (profile : Profile) (message : List ℕ) (i : ℕ) (form : Packed) : Type 0 where
  pub passes : PartsPassUnder profile (grid_points (part_octets message i 3)) form
  pub column : column_from form.section5 (mask_of form.section6 (grid_points (part_octets message i 3)) None) form.section7 ≡ column_of message i
  pub kind : octets form.section5 21 21 ≡ kind_of message i

kind_stands : (target : Target) (column : Column) (kind : ℕ) (s5 s6 s7 : List ℕ) → HasPacked target column kind s5 s6 s7 → octets s5 21 21 ≡ kind
kind_stands ToSimple column kind s5 s6 s7 has = has.numbers.kind_stands
kind_stands ToComplex column kind s5 s6 s7 has = has.numbers.kind_stands
kind_stands (ToSpatial order) column kind s5 s6 s7 has = has.numbers.kind_stands
kind_stands (ToCoded block interval) column kind s5 s6 s7 has = has.numbers.kind_stands

module _ (written : IsWritten) (unpack : Unpacks) (profile : Profile)
    (passes : (message : List ℕ) (i : ℕ) → IsMessageUnder profile message → 1 ≤ i → i ≤ field_count message → FieldPassesUnder profile message i)
    (masks : (message : List ℕ) (i : ℕ) → IsMessageUnder profile message → All (λ octet. octet < 256) message → 1 ≤ i → i ≤ field_count message
    → length (field_mask message i) ≡ grid_points (part_octets message i 3))
    (message : List ℕ) (accepted : IsMessageUnder profile message) (readable : IsReadable message) (each : All (λ octet. octet < 256) message) where
  own_stands : (i : ℕ) → 1 ≤ i → i ≤ field_count message → Stands profile message i (own_form message i)
  own_stands i low high =
      let p = parts profile message i accepted low high in
      let here = reads profile message i (passes message i accepted low high) (readable i low high) in
      let up = field_up_to profile message i accepted low high in
      let alone = stands_alone profile (field_sections message i) up.accepted up.ends in
      let s6 = field_bitmap message i in
      let points = grid_points (part_octets message i 3) in
      record {
        passes = record {
          itself_5 = p.itself_5;
          itself_6 = p.itself_6;
          itself_7 = p.itself_7;
          packing = (passes message i accepted low high).packing;
          alone = own_indicator profile message i accepted each low high;
          bitmap = λ earlier. rules_alone s6 points (value_count (part_octets message i 5)) p.alone earlier None ∙ p.bitmap;
          values = p.values;
        };
        column = ap (λ (mask : List Bool). column_from (part_octets message i 5) mask (part_octets message i 7)) alone.mask;
        kind = refl;
      }

  packed_stands : (i : ℕ) → 1 ≤ i → i ≤ field_count message → (target : Target) → IsTarget target → HasPacking profile target → first_misfit target (column_of message i).points ≡ None
      → Stands profile message i (packed target (column_of message i) (kind_of message i))
  packed_stands i low high target is own none =
      let column = column_of message i in
      let kind = kind_of message i in
      let p = packed target column kind in
      let here = reads profile message i (passes message i accepted low high) (readable i low high) in
      let long = masks message i accepted each low high in
      let packable = may_be_packed message i here long in
      let has : HasPacked target column kind p.section5 p.section6 p.section7 =
      written target column kind packable (has_words message i each) is (kind_small message i each) none in
      let back = unpack target is column kind p.section5 p.section6 p.section7 packable none has in
      let w = are_written target column kind p.section5 p.section6 p.section7 has in
      let as_long : length column.points ≡ grid_points (part_octets message i 3) = column_long message i here long in
      let pass : PartsPassUnder profile (length column.points) p = record {
        itself_5 = w.itself_5;
        itself_6 = w.itself_6;
        itself_7 = w.itself_7;
        packing = accepted_under profile target column kind p.section5 p.section6 p.section7 (length column.points) own has back.representation;
        alone = w.alone;
        bitmap = back.bitmap;
        values = back.values;
      } in
      record {
        passes = subst (λ (n : ℕ). PartsPassUnder profile n p) as_long pass;
        column = ap (λ (n : ℕ). column_from p.section5 (mask_of p.section6 n None) p.section7) (sym as_long) ∙ back.column_stands None;
        kind = kind_stands target column kind p.section5 p.section6 p.section7 has;
      }

  pub least_stands : (i : ℕ) → 1 ≤ i → i ≤ field_count message → Stands profile message i (least_form profile message i)
  least_stands i low high =
      let column = column_of message i in
      let kind = kind_of message i in
      smallest_of (Stands profile message i) (own_form message i) (packed_forms profile message i) (own_stands i low high)
      (each_packed profile (Stands profile message i) (form_of column kind)
      (λ target is own p e.
      let c = counts (first_misfit target column.points) (packed target column kind) p e in
      subst (Stands profile message i) c.1 (packed_stands i low high target is own c.0)))

  pub may_be_assembled : length (assembled message (least_forms profile message)) ≤ 268435456 → MayBeAssembledUnder profile message (least_forms profile message)
  may_be_assembled few = record {
    accepted = accepted;
    one_each = length-map-range_with_len (least_form profile message) 1 (field_count message);
    pass = λ k part e.
        let at = part_is (least_form profile message) (field_count message) k part e in
        subst (λ (p : Packed). PartsPassUnder profile (grid_points (part_octets message (k + 1) 3)) p) at.1
        (least_stands (k + 1) (omega arith) (omega (arith, at.0))).passes;
    most = few;
  }

-- ---- the shorter of both

-- what is so of the message, and of a shorter one, is so of the shorter
pub shorter_is : (P : List ℕ → Type 0) (message other : List ℕ) → P message → (length other < length message → P other) → P (shorter message other)
shorter_is P message other here there = go (nat_lt (length other) (length message)) refl where
  go : (b : Bool) → nat_lt (length other) (length message) ≡ b → P (cond b other message)
  go true e = there (ltb-true (length other) (length message) e)
  go false e = here

pub least_is : (profile : Profile) (P : List ℕ → Type 0) (message : List ℕ) → IsMessageUnder profile message → P message
    → (length (assembled message (least_forms profile message)) ≤ 268435456 → P (assembled message (least_forms profile message))) → P (least profile message)
least_is profile P message accepted here there =
    shorter_is P message (assembled message (least_forms profile message)) here (λ low. there (omega (arith, low, message_most profile message accepted)))

pub no_longer : (message other : List ℕ) → length (shorter message other) ≤ length message
no_longer message other = shorter_is (λ (x : List ℕ). length x ≤ length message) message other (omega arith) (λ low. omega (arith, low))
