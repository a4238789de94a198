-- What is packed in groups unpacks to the same column.
use Rattle.std.proofs.Common.{inl, ◌≡◌, ℕ, ◌+◌, ◌*◌, ◌%◌, ◌≤◌, ◌==◌, ◌&&◌, Bool, true, false, not, cond, Option, Some, None, ℤ, pos, nat_abs, nat_lt, List, [], ◌∷◌, ◌++◌, length, drop, map, replicate, All, refl, sym, ap, ap₂, ◌∙◌, arith, subst, le-ltb, eq-eqb, ne_eqb, append-nil}
use Rattle.std.specs.List.{list_any, filter_map}
use Rattle.std.proofs.lemmas.List.{length-map}
use Rattle.grib_bits.specs.Bits.{bits}
use Rattle.grib_bits.specs.Octets.{octets}
use Rattle.grib_base.specs.declared.code.Code.{Code}
use Rattle.grib_base.specs.declared.fault.Fault.{Fault}
use Rattle.grib_base.specs.Rules.{first_fault, first_place, or_then}
use Rattle.grib_bitmap.specs.Mask.{bitmap_rules, mask_of, present_count}
use Rattle.grib_bitmap.proofs.Runs.{present_count-replicate}
use Rattle.grib_packing.specs.declared.column.Column.{Column}
use Rattle.grib_packing.specs.declared.column.Point.{Point}
use Rattle.grib_packing.specs.declared.column.Point.TheVariants.{Scaled, Missing, Missing2}
use Rattle.grib_packing.specs.Column.{points_with_mask}
use Rattle.grib_packing.specs.Complex.{layout_of, complex_rules, difference_order, extra_octets, descriptor_octets}
use Rattle.grib_packing.specs.Entries.{packing_fault, data_fault, group_data_fault, group_data_rules, range_rules, entries_of, group_entries, codes_of, numbers_of, refilled, present_code, has_no_groups, column_from, is_first_value_signed, descriptor_place, is_out_of_range, descriptors}
use Rattle.grib_packing.specs.Differences.{undone}
use Rattle.grib_packing.specs.Groups.{group_rules}
use Rattle.grib_packing.specs.Groupings.{IsGrouping, width_bits_of, reference_bits_of}
use Rattle.grib_packing.specs.Misfits.{ToComplex, first_misfit, greatest_code, is_scaled_outside, is_outside, management_of, scaled_numbers}
use Rattle.grib_packing.specs.Packed.{HasLayout, HasNumbers, IsComplex, group_parts, no_bitmap_section, padded, placed_codes, target_codes}
use Rattle.grib_packing.specs.Packing.{packing_template, value_count}
use Rattle.grib_codes.specs.Span.{IsTold}
use Rattle.grib_groups.specs.Encoding.{LaysOut, ReadsBack}
use Rattle.grib_packing.specs.Laws.{UnpackTo}
use Rattle.grib_packing.specs.Written.{MayBePacked}
use Rattle.grib_packing.proofs.Packings.{IsComplexTemplate, data_fault-complex, entries_of-complex, packing_fault-complex}
use Rattle.grib_simple_reading.proofs.Accepted.{same_column}
use Rattle.grib_simple.proofs.Back.{shared_rules}
use Rattle.grib_simple.proofs.Fitting.{parts_false, number_back}
use Rattle.grib_simple_reading.proofs.Masked.{with_mask_all}
use Rattle.grib_codes.proofs.Reserved.{all_inside, length-placed, management-few, plain_told}
use Rattle.grib_complex.proofs.GroupByGroup.{few_groups, some_groups, references_few, widths_few, parts_octets}
use Rattle.grib_complex.proofs.Wholly.{padded-whole}

-- ---- the layout

pub lays_out : (s5 : List ℕ) (column : Column) (values template kind k : ℕ) (codes : List Code) (lengths : List ℕ) → k ≤ 2 → All (IsTold k) codes
    → HasNumbers s5 column values template (reference_bits_of k codes) kind → HasLayout s5 k codes lengths → IsGrouping (length codes) lengths → LaysOut (layout_of s5) codes lengths
lays_out s5 column values template kind k codes lengths few told numbers h g = record {
  management = omega (arith, h.management);
  codes_are_told = subst (λ (j : ℕ). All (IsTold j) codes) (sym h.management) told;
  grouping = g;
  groups = h.groups;
  reference_bits = numbers.bit_width_stands ∙ ap (λ (j : ℕ). reference_bits_of j codes) (sym h.management);
  width_reference = h.width_reference;
  width_bits = h.width_bits ∙ ap (λ (j : ℕ). width_bits_of j codes) (sym h.management);
  length_reference = h.length_reference;
  length_increment = h.length_increment;
  last_length = h.last_length;
  coded_length_bits = h.coded_length_bits;
}

-- ---- a section without a bitmap

pub one_passes : (a : Bool) (fault : Fault) → a ≡ false → cond a (Some fault) None ≡ None
one_passes a fault e = rw e refl

pub two_pass : (a b : Bool) (fa fb : Fault) (rest : Option Fault) → a ≡ false → b ≡ false → rest ≡ None → cond a (Some fa) (cond b (Some fb) rest) ≡ None
two_pass a b fa fb rest ea eb er = rw (ea, eb) er

pub no_bitmap_rules : (points values : ℕ) (earlier : Option (List Bool)) → values ≡ points → first_fault (bitmap_rules no_bitmap_section points values earlier) ≡ None
no_bitmap_rules points values earlier same =
    one_passes _ _
    (ap not (eq-eqb (present_count (replicate points true)) values (present_count-replicate points true ∙ sym same)))

-- ---- points by their codes

pub present_placed : (points : List Point) (ns : List ℕ) → length ns ≡ length (scaled_numbers points) → filter_map present_code (placed_codes points ns) ≡ ns
present_placed [] [] e = refl
present_placed [] (n ∷ ns) e = absurd (omega arith)
present_placed (Missing ∷ points) ns e = present_placed points ns e
present_placed (Missing2 ∷ points) ns e = present_placed points ns e
present_placed (Scaled x ∷ points) [] e = absurd (omega arith)
present_placed (Scaled x ∷ points) (n ∷ ns) e = ap (λ ms. n ∷ ms) (present_placed points ns (omega arith))

pub refilled_placed : (points : List Point) (ns : List ℕ) → length ns ≡ length (scaled_numbers points) → refilled (placed_codes points ns) (scaled_numbers points) ≡ points
refilled_placed [] ns e = refl
refilled_placed (Missing ∷ points) ns e = ap (λ ps. Missing ∷ ps) (refilled_placed points ns e)
refilled_placed (Missing2 ∷ points) ns e = ap (λ ps. Missing2 ∷ ps) (refilled_placed points ns e)
refilled_placed (Scaled x ∷ points) [] e = absurd (omega arith)
refilled_placed (Scaled x ∷ points) (n ∷ ns) e = ap (λ ps. Scaled x ∷ ps) (refilled_placed points ns (omega arith))

naturals_back : (m : ℕ) (points : List Point) → list_any (is_scaled_outside m) points ≡ false → map pos (map nat_abs (scaled_numbers points)) ≡ scaled_numbers points
naturals_back m [] e = refl
naturals_back m (Scaled x ∷ points) e =
    let both = parts_false (is_outside m x) (list_any (is_scaled_outside m) points) e in
    ap₂ (λ (z : ℤ) (zs : List ℤ). z ∷ zs) (number_back m x both.0) (naturals_back m points both.1)
naturals_back m (Missing ∷ points) e = naturals_back m points e
naturals_back m (Missing2 ∷ points) e = naturals_back m points e

-- ---- the rules of Section 5

pub none_of_seven : (a b c d e f g : Bool) (fa fb fc fd fe ff fg : Fault) → a ≡ false → b ≡ false → c ≡ false → d ≡ false → e ≡ false → f ≡ false → g ≡ false
    → cond a (Some fa) (cond b (Some fb) (cond c (Some fc) (cond d (Some fd) (cond e (Some fe) (cond f (Some ff) (cond g (Some fg) None)))))) ≡ None
none_of_seven a b c d e f g fa fb fc fd fe ff fg ea eb ec ed ee ef eg = rw (ea, eb, ec, ed, ee, ef, eg) refl

module _ (s5 : List ℕ) (codes : List Code) (lengths : List ℕ) (laid : LaysOut (layout_of s5) codes lengths) (values : value_count s5 ≡ length codes) where
  pub complex_rules_pass : packing_template s5 ≡ 2 → first_fault (complex_rules s5) ≡ None
  complex_rules_pass template =
      let layout = layout_of s5 in
      let not_spatial : (packing_template s5 == 3) ≡ false = ap (λ (t : ℕ). t == 3) template in
      none_of_seven _ _ _ _ _ _ _ _ _ _ _ _ _ _ (le-ltb 2 layout.management laid.management)
      (le-ltb (value_count s5) layout.groups (omega (arith, values, laid.groups, few_groups (length codes) lengths laid.grouping)))
      (le-ltb 32 layout.width_reference (omega (arith, laid.width_reference)))
      (le-ltb 32 layout.width_bits (omega (arith, widths_few layout codes lengths laid)))
      (le-ltb 32 layout.length_bits (omega (arith, laid.coded_length_bits)))
      (ap (λ b. (b && not (difference_order s5 == 1)) && not (difference_order s5 == 2)) not_spatial)
      (ap (λ b. b && nat_lt 4 (extra_octets s5)) not_spatial)

-- ---- Section 7

module _ (s5 s7 : List ℕ) (codes : List Code) (lengths : List ℕ) (laid : LaysOut (layout_of s5) codes lengths) (some : 1 ≤ length codes) (values : value_count s5 ≡ length codes)
    (reads : ReadsBack (layout_of s5) s7 (descriptor_octets s5) codes) where
  some_here : has_no_groups s5 ≡ false
  some_here = ne_eqb (octets s5 32 35) 0 (λ e. omega (arith, laid.groups, some_groups (length codes) lengths some laid.grouping, e))

  pub codes_stand : codes_of s5 s7 ≡ codes
  codes_stand = reads.codes_stand

  pub groups_pass : first_fault (group_rules (layout_of s5) s7 (descriptor_octets s5) (value_count s5)) ≡ None
  groups_pass = ap (λ (n : ℕ). first_fault (group_rules (layout_of s5) s7 (descriptor_octets s5) n)) values ∙ reads.group_rules_pass

  pub group_data_passes : first_fault (group_data_rules s5 s7) ≡ None → first_fault (range_rules s5 s7) ≡ None → group_data_fault s5 s7 ≡ None
  group_data_passes rules range =
      ap (λ (f : Option Fault). or_then (or_then f (λ _. group_data_rules s5 s7)) (λ _. range_rules s5 s7)) reads.list_rules_pass
      ∙ ap (λ (f : Option Fault). or_then f (λ _. range_rules s5 s7)) rules ∙ range

  pub data_passes : IsComplexTemplate (packing_template s5) → group_data_fault s5 s7 ≡ None → data_fault s5 s7 ≡ None
  data_passes template passes = data_fault-complex s5 s7 template ∙ rw some_here passes

  pub entries_are : IsComplexTemplate (packing_template s5) → entries_of s5 s7 ≡ group_entries s5 s7
  entries_are template = entries_of-complex s5 s7 template ∙ rw some_here refl

-- ---- without differences

module _ (column : Column) (kind : ℕ) (s5 s6 s7 : List ℕ) (may : MayBePacked column) (none : first_misfit ToComplex column.points ≡ None) (h : IsComplex column kind s5 s6 s7) where
  abbrev codes : List Code
  codes = target_codes ToComplex column.points

  pub laid_out : LaysOut (layout_of s5) (target_codes ToComplex column.points) h.lengths
  laid_out =
      lays_out s5 column (length column.points) 2 kind (management_of column.points) codes h.lengths (management-few column.points) (plain_told column.points none) h.numbers h.layout h.chosen.grouping

  long : length codes ≡ length column.points
  long = length-placed column.points (map nat_abs (scaled_numbers column.points)) (length-map (scaled_numbers column.points) nat_abs)

  not_spatial : (packing_template s5 == 3) ≡ false
  not_spatial = ap (λ (t : ℕ). t == 3) h.numbers.template_stands

  is_complex : IsComplexTemplate (packing_template s5)
  is_complex = inl h.numbers.template_stands

  no_order : difference_order s5 ≡ 0
  no_order = ap (λ (b : Bool). cond b (octets s5 48 48) 0) not_spatial

  no_descriptors : descriptor_octets s5 ≡ 0
  no_descriptors =
      let none_extra : extra_octets s5 ≡ 0 = ap (λ (b : Bool). cond b (octets s5 49 49) 0) not_spatial in
      let product : (difference_order s5 + 1) * extra_octets s5 ≡ (difference_order s5 + 1) * 0 = ap (λ (n : ℕ). (difference_order s5 + 1) * n) none_extra in
      omega (arith, product)

  pub room : 5 + descriptor_octets s5 ≤ length s7
  room = omega (arith, no_descriptors, h.values.itself.least)

  pub parts_stand : bits (drop (5 + descriptor_octets s5) s7) ≡ group_parts (layout_of s5).management (target_codes ToComplex column.points) h.lengths ++ []
  parts_stand =
      let place : 5 + descriptor_octets s5 ≡ 5 = omega (arith, no_descriptors) in
      let parts = group_parts (layout_of s5).management codes h.lengths in
      let size = parts_octets (layout_of s5) codes h.lengths laid_out _ refl in
      let whole : length parts % 8 ≡ 0 = omega (arith, size) in
      ap (λ (n : ℕ). bits (drop n s7)) place ∙ h.values.contents_stand
      ∙ ap (λ (k : ℕ). padded (group_parts k codes h.lengths)) (sym h.layout.management)
      ∙ padded-whole parts whole ∙ sym (append-nil parts)

  module _ (reads : ReadsBack (layout_of s5) s7 (descriptor_octets s5) (target_codes ToComplex column.points)) where
    values : value_count s5 ≡ length codes
    values = h.numbers.values_stand ∙ sym long

    some : 1 ≤ length codes
    some = omega (arith, long, may.some)

    accepted : packing_fault s5 (length column.points) ≡ None
    accepted =
        let narrow = references_few (layout_of s5) codes h.lengths laid_out in
        let shared = shared_rules s5 column (length column.points) (length column.points) 2 (reference_bits_of (management_of column.points) codes) kind h.numbers
        refl (omega (arith, h.as_long)) (omega (arith, h.as_long)) (omega arith) may.finite (omega (arith, narrow, h.numbers.bit_width_stands)) in
        packing_fault-complex s5 (length column.points) shared is_complex
        ∙ complex_rules_pass s5 codes h.lengths laid_out values h.numbers.template_stands

    not_signed : (j : ℕ) → is_first_value_signed s5 s7 j ≡ false
    not_signed j =
        ap (λ (o : ℕ). (nat_lt j o && nat_lt 0 (extra_octets s5)) && nat_lt 127 (octets s7 (descriptor_place s5 j) (descriptor_place s5 j))) no_order
        ∙ ap (λ (b : Bool). (b && nat_lt 0 (extra_octets s5)) && nat_lt 127 (octets s7 (descriptor_place s5 j) (descriptor_place s5 j))) (le-ltb j 0 (omega arith))

    data_none : data_fault s5 s7 ≡ None
    data_none =
        let rules = two_pass _ _ _ _ _ (not_signed 0) (not_signed 1) (groups_pass s5 s7 codes h.lengths laid_out some values reads) in
        let range = one_passes _ _ (ap (λ (b : Bool). b && nat_lt 0 (first_place is_out_of_range (group_entries s5 s7))) not_spatial) in
        data_passes s5 s7 codes h.lengths laid_out some values reads is_complex (group_data_passes s5 s7 codes h.lengths laid_out some values reads rules range)

    numbers_back : numbers_of s5 s7 ≡ scaled_numbers column.points
    numbers_back =
        let numbers = map nat_abs (scaled_numbers column.points) in
        ap (λ (b : Bool). cond b (undone (descriptors s5 s7) (filter_map present_code (codes_of s5 s7))) (map pos (filter_map present_code (codes_of s5 s7)))) not_spatial
        ∙ ap (λ (cs : List Code). map pos (filter_map present_code cs)) (codes_stand s5 s7 codes h.lengths laid_out some values reads)
        ∙ ap (map pos) (present_placed column.points numbers (length-map (scaled_numbers column.points) nat_abs))
        ∙ naturals_back (greatest_code (management_of column.points)) column.points (all_inside column.points none)

    points_back : entries_of s5 s7 ≡ column.points
    points_back =
        let numbers = map nat_abs (scaled_numbers column.points) in
        entries_are s5 s7 codes h.lengths laid_out some values reads is_complex
        ∙ ap₂ refilled (codes_stand s5 s7 codes h.lengths laid_out some values reads) numbers_back
        ∙ refilled_placed column.points numbers (length-map (scaled_numbers column.points) nat_abs)

    column_is : (mask : List Bool) → mask ≡ replicate (length column.points) true → column_from s5 mask s7 ≡ column
    column_is mask is =
        let points : points_with_mask mask (entries_of s5 s7) ≡ column.points = ap₂ points_with_mask is points_back ∙ with_mask_all (length column.points) column.points refl in
        sym (same_column s5 column.reference column.e column.d column.points (points_with_mask mask (entries_of s5 s7))
        (sym h.numbers.reference_stands) (sym h.numbers.binary_scale_stands) (sym h.numbers.decimal_scale_stands) (sym points))

    pub unpacks : UnpackTo column s5 s6 s7
    unpacks = record {
      representation = accepted;
      bitmap = λ earlier.
          ap₂ (λ (s : List ℕ) (v : ℕ). first_fault (bitmap_rules s (length column.points) v earlier)) h.bitmap h.numbers.values_stand
          ∙ no_bitmap_rules (length column.points) (length column.points) earlier refl;
      values = data_none;
      column_stands = λ earlier. column_is (mask_of s6 (length column.points) earlier) (ap (λ (s : List ℕ). mask_of s (length column.points) earlier) h.bitmap);
    }
