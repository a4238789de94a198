-- What is packed by differences unpacks to the same column.
use Rattle.std.proofs.Common.{◌≡◌, ◌⊎◌, ℕ, ◌+◌, ◌-◌, ◌*◌, ◌%◌, ◌^◌, ◌<◌, ◌≤◌, ◌==◌, ◌&&◌, ◌||◌, inl, inr, Bool, true, false, not, cond, Some, None, ℤ, pos, nat_abs, nat_lt, List, [], ◌∷◌, ◌++◌, length, drop, map, replicate, refl, sym, ap, ap₂, ◌∙◌, arith, subst, le-ltb, append-nil}
use Rattle.std.specs.List.{list_any, filter_map}
use Rattle.std.proofs.lemmas.List.{length-append, length-drop, drop-drop}
use Rattle.grib_bits.specs.Bits.{bits, bits_of}
use Rattle.grib_bits.specs.Octets.{octets}
use Rattle.grib_bits.proofs.OctetBits.{AreOctets, length-bits}
use Rattle.grib_base.specs.declared.code.Code.{Code}
use Rattle.grib_base.specs.Rules.{first_fault, first_place}
use Rattle.grib_base.proofs.Places.{NoneOf, first_place-none}
use Rattle.grib_bitmap.specs.Mask.{bitmap_rules, mask_of}
use Rattle.grib_packing.specs.declared.column.Column.{Column}
use Rattle.grib_packing.specs.Column.{points_with_mask}
use Rattle.grib_packing.specs.Complex.{layout_of, complex_rules, difference_order, extra_octets, descriptor_octets}
use Rattle.grib_packing.specs.Differences.{Descriptors, undone, descriptors_of, difference_codes}
use Rattle.grib_packing.specs.Entries.{packing_fault, data_fault, entries_of, group_entries, codes_of, numbers_of, refilled, present_code, column_from, is_first_value_signed, descriptors, first_value, minimum, is_out_of_range}
use Rattle.grib_packing.specs.Groupings.{greatest, reference_bits_of}
use Rattle.grib_packing.specs.Misfits.{DifferenceRange, ToSpatial, first_misfit, are_differences_out, is_outside, greatest_code, management_of, scaled_numbers}
use Rattle.grib_packing.specs.Packed.{IsSpatial, descriptor_fields, descriptor_size, signed_field, group_parts, padded, target_codes}
use Rattle.grib_packing.specs.Packing.{packing_template, value_count}
use Rattle.grib_packing.proofs.Fields.{segment}
use Rattle.grib_packing.proofs.Sections.{AreOctets-all}
use Rattle.grib_spatial.proofs.Undone.{undone_1, undone_2, undone-first, undone-second}
use Rattle.grib_groups.specs.Encoding.{LaysOut, ReadsBack}
use Rattle.grib_packing.specs.Laws.{UnpackTo}
use Rattle.grib_packing.specs.Written.{MayBePacked}
use Rattle.grib_packing.proofs.Packings.{IsComplexTemplate, packing_fault-complex}
use Rattle.grib_simple_reading.proofs.Accepted.{same_column}
use Rattle.grib_simple.proofs.Back.{shared_rules}
use Rattle.grib_simple.proofs.Fitting.{number_back, parts_false}
use Rattle.grib_simple_reading.proofs.Masked.{with_mask_all}
use Rattle.grib_complex.proofs.Back.{lays_out, one_passes, two_pass, none_of_seven, no_bitmap_rules, present_placed, refilled_placed, codes_stand, groups_pass, group_data_passes, data_passes, entries_are}
use Rattle.grib_codes.proofs.Reserved.{length-placed, management-few}
use Rattle.grib_complex.proofs.Differing.{small_values, size_some, spatial_told, length-codes, length-descriptors}
use Rattle.grib_complex.proofs.FirstValues.{first_back, first_clear, second_back, second_clear, minimum_back, size_few, size_room}
use Rattle.grib_complex.proofs.GroupByGroup.{few_groups, references_few, widths_few, parts_octets}
use Rattle.grib_complex.proofs.Wholly.{padded-whole}

-- ---- what is read with the same descriptors

-- the second first value counts for order 2 alone
pub undone_same : (d e : Descriptors) (codes : List ℕ) → (d.order ≡ 1) ⊎ ((d.order ≡ 2) × (d.second ≡ e.second)) → d.order ≡ e.order → d.first ≡ e.first → d.minimum ≡ e.minimum
    → undone d codes ≡ undone e codes
undone_same d e codes (inl one) order first least =
    undone-first d codes one ∙ ap₂ (λ (f m : ℤ). undone_1 f m codes) first least ∙ sym (undone-first e codes (sym order ∙ one))
undone_same d e codes (inr two) order first least =
    undone-second d codes two.0 ∙ ap (λ (f : ℤ). undone_2 f d.second d.minimum codes) first
    ∙ ap₂ (λ (f m : ℤ). undone_2 e.first f m codes) two.1 least ∙ sym (undone-second e codes (sym order ∙ two.0))

-- ---- no point is out of range

none_of_any : {A : Type 0} (test : A → Bool) (xs : List A) → list_any test xs ≡ false → NoneOf test xs
none_of_any test [] e = tt
none_of_any test (x ∷ xs) e =
    let both = parts_false (test x) (list_any test xs) e in
    (both.0, none_of_any test xs both.1)

-- ---- differences that fit

no_misfit : (b : Bool) → cond b (Some DifferenceRange) None ≡ None → b ≡ false
no_misfit true e = absurd (cc)
no_misfit false e = refl

module _ (order k : ℕ) (numbers : List ℤ) (fits : are_differences_out order k numbers ≡ false) where
  abbrev d : Descriptors
  d = descriptors_of order numbers

  -- the first values are not negative
  naturals : (pos (nat_abs (descriptors_of order numbers).first) ≡ (descriptors_of order numbers).first) × (pos (nat_abs (descriptors_of order numbers).second) ≡ (descriptors_of order numbers).second)
  naturals =
      let first_out = is_outside (2 ^ 31 - 1) d.first in
      let second_out = is_outside (2 ^ 31 - 1) d.second in
      let least_out = nat_lt (2 ^ 31 - 1) (nat_abs d.minimum) in
      let four = parts_false ((first_out || second_out) || least_out) (list_any (λ code. nat_lt (greatest_code k) code) (difference_codes order numbers)) fits in
      let three = parts_false (first_out || second_out) least_out four.0 in
      let two = parts_false first_out second_out three.0 in
      (number_back (2 ^ 31 - 1) d.first two.0, number_back (2 ^ 31 - 1) d.second two.1)

  -- and have their top bit clear
  rooms : (nat_abs (descriptors_of order numbers).first < 2 ^ (8 * descriptor_size (descriptors_of order numbers) - 1))
      × (nat_abs (descriptors_of order numbers).second < 2 ^ (8 * descriptor_size (descriptors_of order numbers) - 1))
      × (nat_abs (descriptors_of order numbers).minimum < 2 ^ (8 * descriptor_size (descriptors_of order numbers) - 1))
  rooms =
      let small = small_values order k numbers fits in
      let most = greatest (nat_abs d.first ∷ nat_abs d.second ∷ nat_abs d.minimum ∷ []) in
      let few : most < 2 ^ 31 = omega (arith, small.0, small.1, small.2) in
      let room : most < 2 ^ (8 * descriptor_size d - 1) = size_room most few in
      (omega (arith, room), omega (arith, room), omega (arith, room))

-- ---- the rules of Section 5

order_known : (spatial : Bool) (n : ℕ) → (n ≡ 1) ⊎ (n ≡ 2) → ((spatial && not (n == 1)) && not (n == 2)) ≡ false
order_known true n (inl one) = rw one refl
order_known true n (inr two) = rw two refl
order_known false n known = refl

extra_few : (spatial : Bool) (n : ℕ) → n ≤ 4 → (spatial && nat_lt 4 n) ≡ false
extra_few true n few = le-ltb 4 n few
extra_few false n few = refl

module _ (s5 : List ℕ) (codes : List Code) (lengths : List ℕ) (laid : LaysOut (layout_of s5) codes lengths) (values : value_count s5 ≡ length codes) where
  spatial_rules_pass : (difference_order s5 ≡ 1) ⊎ (difference_order s5 ≡ 2) → extra_octets s5 ≤ 4 → first_fault (complex_rules s5) ≡ None
  spatial_rules_pass order few =
      let layout = layout_of s5 in
      none_of_seven _ _ _ _ _ _ _ _ _ _ _ _ _ _ (le-ltb 2 layout.management laid.management)
      (le-ltb (value_count s5) layout.groups (omega (arith, values, laid.groups, few_groups (length codes) lengths laid.grouping)))
      (le-ltb 32 layout.width_reference (omega (arith, laid.width_reference)))
      (le-ltb 32 layout.width_bits (omega (arith, widths_few layout codes lengths laid)))
      (le-ltb 32 layout.length_bits (omega (arith, laid.coded_length_bits)))
      (order_known (packing_template s5 == 3) (difference_order s5) order)
      (extra_few (packing_template s5 == 3) (extra_octets s5) few)

-- ---- first values whose top bit is clear

clear_here : (a b c : Bool) → c ≡ false → ((a && b) && c) ≡ false
clear_here true true c e = e
clear_here true false c e = refl
clear_here false b c e = refl

not_before : (j o : ℕ) (b c : Bool) → o ≤ j → ((nat_lt j o && b) && c) ≡ false
not_before j o b c past = ap (λ a. (a && b) && c) (le-ltb j o past)

order_cases : (o n : ℕ) → o ≡ n → (n ≡ 1) ⊎ (n ≡ 2) → (o ≡ 1) ⊎ (o ≡ 2)
order_cases o n e (inl one) = inl (e ∙ one)
order_cases o n e (inr two) = inr (e ∙ two)

-- ---- sections of differences

module _ (order : ℕ) (column : Column) (kind : ℕ) (s5 s6 s7 : List ℕ) (known : (order ≡ 1) ⊎ (order ≡ 2)) (may : MayBePacked column)
    (none : first_misfit (ToSpatial order) column.points ≡ None) (h : IsSpatial order column kind s5 s6 s7) where
  abbrev codes : List Code
  codes = target_codes (ToSpatial order) column.points

  abbrev numbers : List ℤ
  numbers = scaled_numbers column.points

  abbrev described : Descriptors
  described = descriptors_of order (scaled_numbers column.points)

  fits : are_differences_out order (management_of column.points) (scaled_numbers column.points) ≡ false
  fits = no_misfit (are_differences_out order (management_of column.points) numbers) none

  pub laid_out : LaysOut (layout_of s5) (target_codes (ToSpatial order) column.points) h.lengths
  laid_out =
      lays_out s5 column (length column.points) 3 kind (management_of column.points) codes h.lengths (management-few column.points) (spatial_told order column.points fits) h.numbers h.layout h.chosen.grouping

  same_many : length (difference_codes order (scaled_numbers column.points)) ≡ length (scaled_numbers column.points)
  same_many = length-codes order numbers

  long : length (target_codes (ToSpatial order) column.points) ≡ length column.points
  long = length-placed column.points (difference_codes order numbers) same_many

  is_spatial : (packing_template s5 == 3) ≡ true
  is_spatial = ap (λ (t : ℕ). t == 3) h.numbers.template_stands

  is_complex : IsComplexTemplate (packing_template s5)
  is_complex = inr h.numbers.template_stands

  is_order : difference_order s5 ≡ order
  is_order = ap (λ (b : Bool). cond b (octets s5 48 48) 0) is_spatial ∙ h.order_stands

  is_extra : extra_octets s5 ≡ descriptor_size (descriptors_of order (scaled_numbers column.points))
  is_extra = ap (λ (b : Bool). cond b (octets s5 49 49) 0) is_spatial ∙ h.size_stands

  order_of : (difference_order s5 ≡ 1) ⊎ (difference_order s5 ≡ 2)
  order_of = order_cases (difference_order s5) order is_order known

  skipped : descriptor_octets s5 ≡ (order + 1) * descriptor_size (descriptors_of order (scaled_numbers column.points))
  skipped = ap₂ (λ (o e : ℕ). (o + 1) * e) is_order is_extra

  some_octets : 1 ≤ extra_octets s5
  some_octets = omega (arith, is_extra, size_some described)

  few_octets : extra_octets s5 ≤ 4
  few_octets =
      let most = greatest (nat_abs described.first ∷ nat_abs described.second ∷ nat_abs described.minimum ∷ []) in
      let few : descriptor_size described ≤ 4 = size_few (nat_lt most (2 ^ 7)) (nat_lt most (2 ^ 15)) (nat_lt most (2 ^ 23)) in
      omega (arith, is_extra, few)

  front_long : length (descriptor_fields (descriptors_of order (scaled_numbers column.points))) ≡ 8 * descriptor_octets s5
  front_long = length-descriptors described known ∙ ap (λ (n : ℕ). 8 * n) (sym skipped)

  -- Section 7 behind its octet 5: the descriptors, and the groups
  whole_stands : bits (drop 5 s7) ≡ descriptor_fields (descriptors_of order (scaled_numbers column.points)) ++ group_parts (layout_of s5).management (target_codes (ToSpatial order) column.points) h.lengths
  whole_stands =
      let front = descriptor_fields described in
      let parts = group_parts (layout_of s5).management codes h.lengths in
      let size = parts_octets (layout_of s5) codes h.lengths laid_out _ refl in
      let whole : length (front ++ parts) % 8 ≡ 0 = omega (arith, length-append front parts, size, front_long) in
      h.values.contents_stand ∙ ap (λ (k : ℕ). padded (front ++ group_parts k codes h.lengths)) (sym h.layout.management)
      ∙ padded-whole (front ++ parts) whole

  pub room : 5 + descriptor_octets s5 ≤ length s7
  room =
      let front = descriptor_fields described in
      let parts = group_parts (layout_of s5).management codes h.lengths in
      omega (arith, h.values.itself.least, length-bits (drop 5 s7), length-drop 5 s7, ap length whole_stands, length-append front parts, front_long)

  pub parts_stand : bits (drop (5 + descriptor_octets s5) s7) ≡ group_parts (layout_of s5).management (target_codes (ToSpatial order) column.points) h.lengths ++ []
  parts_stand =
      let front = descriptor_fields described in
      let parts = group_parts (layout_of s5).management codes h.lengths in
      ap bits (sym (drop-drop (descriptor_octets s5) 5 s7)) ∙ segment (drop 5 s7) front parts (descriptor_octets s5) whole_stands front_long ∙ sym (append-nil parts)

  -- the descriptors by the order and the octets that Section 5 states
  fields_stand : bits (drop 5 s7)
      ≡ ((bits_of (8 * extra_octets s5) (nat_abs (descriptors_of order (scaled_numbers column.points)).first)
      ++ cond (difference_order s5 == 1) [] (bits_of (8 * extra_octets s5) (nat_abs (descriptors_of order (scaled_numbers column.points)).second)))
      ++ signed_field (8 * extra_octets s5) (descriptors_of order (scaled_numbers column.points)).minimum)
      ++ group_parts (layout_of s5).management (target_codes (ToSpatial order) column.points) h.lengths
  fields_stand =
      whole_stands
      ∙ ap₂ (λ (o e : ℕ). ((bits_of (8 * e) (nat_abs described.first) ++ cond (o == 1) [] (bits_of (8 * e) (nat_abs described.second))) ++ signed_field (8 * e) described.minimum)
      ++ group_parts (layout_of s5).management codes h.lengths) (sym is_order) (sym is_extra)

  are_octets : AreOctets s7
  are_octets = AreOctets-all s7 h.values.are_octets

  fit_first : nat_abs (descriptors_of order (scaled_numbers column.points)).first < 2 ^ (8 * extra_octets s5 - 1)
  fit_first = let all = rooms order (management_of column.points) numbers fits in subst (λ (e : ℕ). nat_abs described.first < 2 ^ (8 * e - 1)) (sym is_extra) all.0

  fit_second : nat_abs (descriptors_of order (scaled_numbers column.points)).second < 2 ^ (8 * extra_octets s5 - 1)
  fit_second = let all = rooms order (management_of column.points) numbers fits in subst (λ (e : ℕ). nat_abs described.second < 2 ^ (8 * e - 1)) (sym is_extra) all.1

  fit_least : nat_abs (descriptors_of order (scaled_numbers column.points)).minimum < 2 ^ (8 * extra_octets s5 - 1)
  fit_least = let all = rooms order (management_of column.points) numbers fits in subst (λ (e : ℕ). nat_abs described.minimum < 2 ^ (8 * e - 1)) (sym is_extra) all.2

  -- ---- what is read

  first_is : pos (first_value s5 s7 0) ≡ (descriptors_of order (scaled_numbers column.points)).first
  first_is =
      let all = naturals order (management_of column.points) numbers fits in
      ap pos (first_back s7 (difference_order s5) (extra_octets s5) (nat_abs described.first) (nat_abs described.second) described.minimum _ are_octets some_octets fields_stand fit_first) ∙ all.0

  second_is : difference_order s5 ≡ 2 → pos (first_value s5 s7 1) ≡ (descriptors_of order (scaled_numbers column.points)).second
  second_is two =
      let all = naturals order (management_of column.points) numbers fits in
      ap pos (second_back s7 (difference_order s5) (extra_octets s5) (nat_abs described.first) (nat_abs described.second) described.minimum _ are_octets some_octets fields_stand two fit_second) ∙ all.1

  least_is : minimum s5 s7 ≡ (descriptors_of order (scaled_numbers column.points)).minimum
  least_is =
      minimum_back s7 (difference_order s5) (extra_octets s5) (nat_abs described.first) (nat_abs described.second) described.minimum _ are_octets some_octets fields_stand order_of fit_least

  undone_is : (ns : List ℕ) → undone (descriptors s5 s7) ns ≡ undone (descriptors_of order (scaled_numbers column.points)) ns
  undone_is ns = undone_same (descriptors s5 s7) described ns (either order_of) is_order first_is least_is
    where
      either : (difference_order s5 ≡ 1) ⊎ (difference_order s5 ≡ 2) → (difference_order s5 ≡ 1) ⊎ ((difference_order s5 ≡ 2) × (pos (first_value s5 s7 1) ≡ (descriptors_of order (scaled_numbers column.points)).second))
      either (inl one) = inl one
      either (inr two) = inr (two, second_is two)

  first_unsigned : is_first_value_signed s5 s7 0 ≡ false
  first_unsigned =
      clear_here (nat_lt 0 (difference_order s5)) (nat_lt 0 (extra_octets s5)) _
      (first_clear s7 (difference_order s5) (extra_octets s5) (nat_abs described.first) (nat_abs described.second) described.minimum _ are_octets some_octets fields_stand fit_first)

  second_unsigned : (difference_order s5 ≡ 1) ⊎ (difference_order s5 ≡ 2) → is_first_value_signed s5 s7 1 ≡ false
  second_unsigned (inl one) = not_before 1 (difference_order s5) (nat_lt 0 (extra_octets s5)) _ (omega (arith, one))
  second_unsigned (inr two) =
      clear_here (nat_lt 1 (difference_order s5)) (nat_lt 0 (extra_octets s5)) _
      (second_clear s7 (difference_order s5) (extra_octets s5) (nat_abs described.first) (nat_abs described.second) described.minimum _ are_octets some_octets fields_stand two fit_second)

  module _ (reads : ReadsBack (layout_of s5) s7 (descriptor_octets s5) (target_codes (ToSpatial order) column.points))
      (again : undone (descriptors_of order (scaled_numbers column.points)) (difference_codes order (scaled_numbers column.points)) ≡ scaled_numbers column.points) where
    values : value_count s5 ≡ length (target_codes (ToSpatial order) column.points)
    values = h.numbers.values_stand ∙ sym long

    some : 1 ≤ length (target_codes (ToSpatial order) column.points)
    some = omega (arith, long, may.some)

    accepted : packing_fault s5 (length column.points) ≡ None
    accepted =
        let narrow = references_few (layout_of s5) codes h.lengths laid_out in
        let shared = shared_rules s5 column (length column.points) (length column.points) 3 (reference_bits_of (management_of column.points) codes) kind h.numbers
        refl (omega (arith, h.as_long)) (omega (arith, h.as_long)) (omega arith) may.finite (omega (arith, narrow, h.numbers.bit_width_stands)) in
        packing_fault-complex s5 (length column.points) shared is_complex
        ∙ spatial_rules_pass s5 codes h.lengths laid_out values order_of few_octets

    stand : codes_of s5 s7 ≡ target_codes (ToSpatial order) column.points
    stand = codes_stand s5 s7 codes h.lengths laid_out some values reads

    numbers_back : numbers_of s5 s7 ≡ scaled_numbers column.points
    numbers_back =
        let present : filter_map present_code (codes_of s5 s7) ≡ difference_codes order numbers =
        ap (filter_map present_code) stand ∙ present_placed column.points (difference_codes order numbers) same_many in
        ap (λ (b : Bool). cond b (undone (descriptors s5 s7) (filter_map present_code (codes_of s5 s7))) (map pos (filter_map present_code (codes_of s5 s7)))) is_spatial
        ∙ ap (undone (descriptors s5 s7)) present ∙ undone_is (difference_codes order numbers) ∙ again

    group_points : group_entries s5 s7 ≡ column.points
    group_points = ap₂ refilled stand numbers_back ∙ refilled_placed column.points (difference_codes order numbers) same_many

    data_none : data_fault s5 s7 ≡ None
    data_none =
        let rules = two_pass _ _ _ _ _ first_unsigned (second_unsigned order_of) (groups_pass s5 s7 codes h.lengths laid_out some values reads) in
        let place : first_place is_out_of_range (group_entries s5 s7) ≡ 0 =
        ap (first_place is_out_of_range) group_points ∙ first_place-none is_out_of_range column.points (none_of_any is_out_of_range column.points may.within) in
        let within : (packing_template s5 == 3 && nat_lt 0 (first_place is_out_of_range (group_entries s5 s7))) ≡ false =
        ap₂ (λ (b : Bool) (n : ℕ). b && nat_lt 0 n) is_spatial place in
        let range = one_passes _ _ within in
        data_passes s5 s7 codes h.lengths laid_out some values reads is_complex (group_data_passes s5 s7 codes h.lengths laid_out some values reads rules range)

    column_is : (mask : List Bool) → mask ≡ replicate (length column.points) true → column_from s5 mask s7 ≡ column
    column_is mask is =
        let entries : entries_of s5 s7 ≡ column.points = entries_are s5 s7 codes h.lengths laid_out some values reads is_complex ∙ group_points in
        let points : points_with_mask mask (entries_of s5 s7) ≡ column.points = ap₂ points_with_mask is entries ∙ with_mask_all (length column.points) column.points refl in
        sym (same_column s5 column.reference column.e column.d column.points (points_with_mask mask (entries_of s5 s7))
        (sym h.numbers.reference_stands) (sym h.numbers.binary_scale_stands) (sym h.numbers.decimal_scale_stands) (sym points))

    pub unpacks : UnpackTo column s5 s6 s7
    unpacks = record {
      representation = accepted;
      bitmap = λ earlier.
          ap₂ (λ (s : List ℕ) (v : ℕ). first_fault (bitmap_rules s (length column.points) v earlier)) h.bitmap h.numbers.values_stand
          ∙ no_bitmap_rules (length column.points) (length column.points) earlier refl;
      values = data_none;
      column_stands = λ earlier. column_is (mask_of s6 (length column.points) earlier) (ap (λ (s : List ℕ). mask_of s (length column.points) earlier) h.bitmap);
    }
