-- Sections 3 and 4 as they are written pass their rules.
use Rattle.std.proofs.Common.{◌≡◌, ℕ, ◌+◌, ◌*◌, ◌/◌, ◌%◌, ◌^◌, ◌<◌, ◌≤◌, ◌==◌, Bool, true, false, not, cond, Option, Some, None, List, [], ◌∷◌, ◌++◌, length, take, drop, replicate, nat_lt, refl, sym, ap, ◌∙◌, subst, arith, le-ltb, ne_eqb, length-append}
use Rattle.std.specs.Prelude.{unwrap_or, is_some}
use Rattle.std.specs.List.{list_any}
use Rattle.std.proofs.lemmas.List.{length-map, take-append-le, take_at}
use Rattle.grib_bits.specs.Bits.{bit, bits, bits_of, digit}
use Rattle.grib_bits.specs.Octets.{octets}
use Rattle.grib_bits.specs.Written as written
use Rattle.grib_bits.proofs.Encoding.{num_on-octets_of}
use Rattle.grib_bits.proofs.OctetBits.{length-bits, bits-append}
use Rattle.grib_base.proofs.Passing.{none_from_passes}
use Rattle.grib_packing.specs.declared.column.Point.{Point}
use Rattle.grib_packing.specs.declared.written.Packed.{Packed}
use Rattle.grib_packing.specs.Misfits.{is_missing}
use Rattle.grib_packing.specs.Packing.{value_count, bit_width as bit_width_2}
use Rattle.grib_packing.specs.Packed.{HasContents, padded, present_bits}
use Rattle.grib_packing.proofs.Left.{padded-more}
use Rattle.grib_simple.proofs.Bitmaps.{all_present, indicator_is, mask_bits}
use Rattle.grib1_sections.specs.Bitmap.{bitmap_rules, bitmap_number, mask_of}
use Rattle.grib1_sections.specs.Data.{data_rules, data_flags, bit_width}
use Rattle.grib1_sections.specs.Grammar.{IsSection, IsBitmap}
use Rattle.grib_bits.specs.Encoding.{all_octets, section1_of}
use Rattle.grib_demote.specs.Values.{padding, has_bitmap, bitmap_numbers, bitmap_octets, bitmap_section, packing_numbers, data_octets, data_section}
use Rattle.grib_demote_law.proofs.Joined.{stands}

-- what is added to an even number of octets
abbrev pub tail_for : ℕ → List ℕ
tail_for n = cond (n % 2 == 0) (0 ∷ []) []

padding_few : (n : ℕ) → padding n < 16
padding_few n = omega arith

-- ---- Section 3

-- Section 3, where a point is missing
abbrev pub section_3 : Packed → ℕ → Option (List ℕ)
section_3 values points = cond (has_bitmap values) (Some (section1_of (bitmap_octets values points))) None

pub section_3-octets : (values : Packed) (points : ℕ) → unwrap_or (section_3 values points) [] ≡ bitmap_section values points
section_3-octets values points = by (has_bitmap values) where
  by : (b : Bool) → unwrap_or (cond b (Some (section1_of (bitmap_octets values points))) None) [] ≡ cond b (section1_of (bitmap_octets values points)) []
  by true = refl
  by false = refl

pub section_3-some : (values : Packed) (points : ℕ) → is_some (section_3 values points) ≡ has_bitmap values
section_3-some values points = by (has_bitmap values) where
  by : (b : Bool) → is_some (cond b (Some (section1_of (bitmap_octets values points))) None) ≡ b
  by true = refl
  by false = refl

module _ (points : List Point) (values : Packed) (n : ℕ) (long : length points ≡ n) where
  abbrev bitmap : List ℕ
  bitmap = section1_of (bitmap_octets values n)

  abbrev octets_6 : List ℕ
  octets_6 = drop 6 values.section6

  abbrev tail : List ℕ
  tail = tail_for (length (all_octets (bitmap_numbers n) ++ octets_6))

  length_bitmap : length bitmap ≡ 6 + length octets_6 + length tail
  length_bitmap = omega (arith, length-append octets_6 tail)

  own_is : HasContents 6 values.section6 (bits_of 8 0 ++ present_bits points) → length bitmap ≤ 16777215
      → (IsSection 6 (bitmap_rules n) bitmap) × (mask_of (Some bitmap) n ≡ present_bits points)
  own_is h short =
      let present = present_bits points in
      let as_many : length present ≡ n = length-map points (λ point. not (is_missing point)) ∙ long in
      let there : bits octets_6 ≡ padded present = mask_bits values.section6 0 present h (omega arith) in
      let room : n ≤ 8 * length octets_6 = omega (arith, length-bits octets_6, ap length there, padded-more present, as_many) in
      let zero : bitmap_number bitmap ≡ 0 = num_on-octets_of 2 0 (omega arith) in
      let mask : take n (bits (octets_6 ++ tail)) ≡ present =
      ap (take n) (bits-append octets_6 tail)
      ∙ take-append-le n (bits octets_6) (bits tail) (omega (arith, length-bits octets_6, room))
      ∙ ap (take n) there ∙ take_at present (replicate (written.padding present) false) n as_many in (
        record {
          length_stands = stands (bitmap_octets values n) (omega (arith, short));
          long = omega (arith, length_bitmap);
          rules_hold = none_from_passes (bitmap_rules n bitmap) (
            ap (λ (k : ℕ). not (k == 0)) zero,
            (le-ltb (8 * length bitmap) (n + 48) (omega (arith, length_bitmap, room)), tt),
          );
        },
        mask,
      )

-- what is known of Section 3
pub record BitmapStands (points : List Point) (values : Packed) (n : ℕ) : Type 0 where
  pub passes : IsBitmap n (section_3 values n)
  pub mask_is : mask_of (section_3 values n) n ≡ present_bits points

pub bitmap_stands : (points : List Point) (values : Packed) (n : ℕ) → length points ≡ n
    → HasContents 6 values.section6 (cond (list_any is_missing points) (bits_of 8 0 ++ present_bits points) (bits_of 8 255))
    → length (bitmap_section values n) ≤ 16777215 → BitmapStands points values n
bitmap_stands points values n long h short = by (list_any is_missing points) refl h where
  by : (b : Bool) → list_any is_missing points ≡ b → HasContents 6 values.section6 (cond b (bits_of 8 0 ++ present_bits points) (bits_of 8 255)) → BitmapStands points values n
  by true some own =
      let zero = indicator_is values.section6 0 (present_bits points) own (omega arith) in
      let on : has_bitmap values ≡ true = ap (λ (k : ℕ). not (k == 255)) zero in
      let here : section_3 values n ≡ Some (section1_of (bitmap_octets values n)) = ap (λ (b : Bool). cond b (Some (section1_of (bitmap_octets values n))) None) on in
      let few : length (section1_of (bitmap_octets values n)) ≤ 16777215 =
      subst (λ (b : Bool). length (cond b (section1_of (bitmap_octets values n)) []) ≤ 16777215) on short in
      let both = own_is points values n long own few in
      record {
        passes = subst (IsBitmap n) (sym here) both.0;
        mask_is = ap (λ (c : Option (List ℕ)). mask_of c n) here ∙ both.1;
      }
  by false none full =
      let ones = indicator_is values.section6 255 [] full (omega arith) in
      let off : has_bitmap values ≡ false = ap (λ (k : ℕ). not (k == 255)) ones in
      let here : section_3 values n ≡ None = ap (λ (b : Bool). cond b (Some (section1_of (bitmap_octets values n))) None) off in
      record {
        passes = subst (IsBitmap n) (sym here) tt;
        mask_is = ap (λ (c : Option (List ℕ)). mask_of c n) here ∙ sym (all_present points none ∙ ap (λ (k : ℕ). replicate k true) long);
      }

-- ---- Section 4

-- bit 3 of an octet, and four bits of padding
flag_bits : (b : Bool) (p : ℕ) → p < 16
    → (bit 1 (32 * digit b + p) ≡ false) × (bit 2 (32 * digit b + p) ≡ false) × (bit 4 (32 * digit b + p) ≡ false) × (32 * digit b + p < 256)
flag_bits true p few = (
  ne_eqb ((32 * 1 + p) / 2 ^ 7 % 2) 1 (λ e. omega (arith, e, few)),
  ne_eqb ((32 * 1 + p) / 2 ^ 6 % 2) 1 (λ e. omega (arith, e, few)),
  ne_eqb ((32 * 1 + p) / 2 ^ 4 % 2) 1 (λ e. omega (arith, e, few)),
  omega arith,
)
flag_bits false p few = (
  ne_eqb ((32 * 0 + p) / 2 ^ 7 % 2) 1 (λ e. omega (arith, e, few)),
  ne_eqb ((32 * 0 + p) / 2 ^ 6 % 2) 1 (λ e. omega (arith, e, few)),
  ne_eqb ((32 * 0 + p) / 2 ^ 4 % 2) 1 (λ e. omega (arith, e, few)),
  omega arith,
)

module _ (s5 : List ℕ) (values : Packed) (w n : ℕ) (width_is : bit_width_2 values.section5 ≡ w) (count_is : value_count values.section5 ≡ n)
    (few_bits : w ≤ 48) (room : n * w ≤ 8 * length (drop 5 values.section7)) where
  abbrev written_4 : List ℕ
  written_4 = data_section s5 values

  abbrev octets_7 : List ℕ
  octets_7 = drop 5 values.section7

  abbrev more : List ℕ
  more = tail_for (length (all_octets (packing_numbers s5 values) ++ octets_7))

  abbrev flags : ℕ
  flags = 32 * digit (octets s5 21 21 == 1) + padding (88 + value_count values.section5 * bit_width_2 values.section5)

  length_data : length written_4 ≡ 11 + length octets_7 + length more
  length_data = omega (arith, length-append octets_7 more)

  flags_known : (bit 1 flags ≡ false) × (bit 2 flags ≡ false) × (bit 4 flags ≡ false) × (flags < 256)
  flags_known =
      let bits_of_padding = 88 + value_count values.section5 * bit_width_2 values.section5 in
      flag_bits (octets s5 21 21 == 1) (padding bits_of_padding) (padding_few bits_of_padding)

  flags_stand : data_flags written_4 ≡ flags
  flags_stand = num_on-octets_of 1 flags (let known = flags_known.3 in omega arith)

  width_stands : bit_width written_4 ≡ w
  width_stands = num_on-octets_of 1 (bit_width_2 values.section5) (omega (arith, width_is, few_bits)) ∙ width_is

  pub is_section_4 : length written_4 ≤ 16777215 → IsSection 11 (data_rules n) written_4
  is_section_4 short =
      let known = flags_known in
      record {
        length_stands = stands (data_octets s5 values) (omega (arith, short));
        long = omega (arith, length_data);
        rules_hold = none_from_passes (data_rules n written_4) (
          ap (bit 1) flags_stand ∙ known.0,
          (
            ap (bit 2) flags_stand ∙ known.1,
            (
              ap (bit 4) flags_stand ∙ known.2,
              (
                ap (nat_lt 48) width_stands ∙ le-ltb 48 w few_bits,
                (
                  ap (λ (k : ℕ). nat_lt (8 * length written_4) (n * k + 88)) width_stands ∙ le-ltb (8 * length written_4) (n * w + 88) (omega (arith, length_data, room)),
                  tt,
                ),
              ),
            ),
          ),
        );
      }
