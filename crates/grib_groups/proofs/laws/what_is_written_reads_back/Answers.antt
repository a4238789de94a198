use Rattle.std.proofs.Common.{◌≡◌, ℕ, ◌+◌, ◌-◌, ◌*◌, ◌^◌, ◌<◌, ◌≤◌, Bool, false, not, List, ◌++◌, length, drop, map, sum, All, nat_lt, replicate, refl, sym, ap, ap₂, ◌∙◌, arith, subst, append_assoc, eq-eqb, le-ltb, slice_set}
use Rattle.std.proofs.lemmas.List.{length-append, length-map, length-drop, set-get_or}
use Rattle.std.proofs.lemmas.List.Elements.{All-map}
use Rattle.grib_bits.specs.Bits.{bits}
use Rattle.grib_bits.specs.Plain.{plain}
use Rattle.grib_bits.specs.Written.{padding}
use Rattle.grib_bits.proofs.OctetBits.{length-bits}
use Rattle.grib_base.specs.declared.code.Code.{Code}
use Rattle.grib_base.specs.Rules.{first_place}
use Rattle.grib_packing.specs.declared.layout.Layout.{Layout}
use Rattle.grib_packing.specs.Groups.{coded_lengths, codes_from, grouped, groups, groups_from, lengths, list_octets, packed_bits, reference_octets, references, width_octets, length_octets, widths}
use Rattle.grib_packing.specs.Groupings.{digits, greatest, joined, present_codes, runs, width_of}
use Rattle.grib_packing.specs.Packed.{fields, group_fields, group_parts, padded, reference_of}
use Rattle.grib_codes.proofs.Spans.{small_run}
use Rattle.grib_packing.proofs.Digits.{digits-lt}
use Rattle.grib_codes.proofs.Bounds.{all_below, references_fit, widths_few, widths_fit}
use Rattle.grib_packing.proofs.Left.{padded-more}
use Rattle.grib_packing.proofs.Fields.{padded_octets, plain-padded, segment}
use Rattle.grib_groups.specs.Encoding.{LaysOut}
use Rattle.grib_groups.proofs.Parts.{parts-are}
use Rattle.grib_groups.proofs.Back.{bits_back, coded_back, coded_lt, codes_back, first_part, length-runs, no_rule, no_rules, no_wide, plus_none, second_part, third_part}
use Rattle.grib_groups.proofs.laws.what_is_written_reads_back.Goals as goal

module _ (layout : Layout) (codes : List Code) (ns : List ℕ) (octets : List ℕ) (after : List Bool) (laid : LaysOut layout codes ns)
    (stands : bits octets ≡ group_parts layout.management codes ns ++ after) where
  abbrev gs : List (List Code)
  gs = runs ns codes

  abbrev refs : List ℕ
  refs = map (reference_of layout.reference_bits) (runs ns codes)

  abbrev ws : List ℕ
  ws = map (width_of layout.management) (runs ns codes)

  abbrev cl : List ℕ
  cl = map (λ l. l - 1) ns

  abbrev numbers : List Bool
  numbers = joined (map (group_fields layout.management layout.reference_bits) (runs ns codes))

  abbrev A : List Bool
  A = padded (fields layout.reference_bits refs)

  abbrev B : List Bool
  B = padded (fields layout.width_bits ws)

  abbrev C : List Bool
  C = padded (fields layout.length_bits cl)

  abbrev D : List Bool
  D = padded numbers

  all : bits octets ≡ (((A ++ B) ++ C) ++ D) ++ after
  all =
      stands
      ∙ ap (λ xs. xs ++ after)
      (parts-are layout.management layout.management layout.reference_bits layout.width_bits codes ns refl laid.reference_bits laid.width_bits
      ∙ ap (λ (n : ℕ). ((A ++ B) ++ padded (fields n cl)) ++ D) (sym laid.coded_length_bits))

  as_refs : layout.groups ≡ length refs
  as_refs = laid.groups ∙ sym (length-map (runs ns codes) (reference_of layout.reference_bits) ∙ length-runs ns codes)

  as_ws : layout.groups ≡ length ws
  as_ws = laid.groups ∙ sym (length-map (runs ns codes) (width_of layout.management) ∙ length-runs ns codes)

  as_cl : layout.groups ≡ length cl
  as_cl = laid.groups ∙ sym (length-map ns (λ l. l - 1))

  long_a : length A ≡ 8 * reference_octets layout
  long_a = padded_octets layout.reference_bits layout.groups refs as_refs

  long_b : length B ≡ 8 * width_octets layout
  long_b = padded_octets layout.width_bits layout.groups ws as_ws

  long_c : length C ≡ 8 * length_octets layout
  long_c = padded_octets layout.length_bits layout.groups cl as_cl

  long_ab : length (A ++ B) ≡ 8 * (reference_octets layout + width_octets layout)
  long_ab = omega (arith, length-append A B, long_a, long_b)

  long_abc : length ((A ++ B) ++ C) ≡ 8 * list_octets layout
  long_abc = omega (arith, length-append (A ++ B) C, long_ab, long_c)

  in_references : references layout octets ≡ refs
  in_references =
      ap (λ xs. plain xs layout.reference_bits layout.groups) (first_part (bits octets) A B C D after all)
      ∙ plain-padded layout.reference_bits layout.groups refs (B ++ (C ++ (D ++ after))) as_refs
      (All-map (λ n. n < 2 ^ layout.reference_bits) (reference_of layout.reference_bits) (runs ns codes) (references_fit layout.management layout.reference_bits codes ns laid.reference_bits laid.management laid.codes_are_told))

  in_widths : widths layout octets ≡ ws
  in_widths =
      plus_none layout.width_reference (plain (bits (drop (reference_octets layout) octets)) layout.width_bits layout.groups) laid.width_reference
      ∙ ap (λ xs. plain xs layout.width_bits layout.groups) (segment octets A (B ++ (C ++ (D ++ after))) (reference_octets layout) (first_part (bits octets) A B C D after all) long_a)
      ∙ plain-padded layout.width_bits layout.groups ws (C ++ (D ++ after)) as_ws
      (All-map (λ n. n < 2 ^ layout.width_bits) (width_of layout.management) (runs ns codes) (widths_fit layout.management layout.management layout.width_bits codes ns refl laid.width_bits laid.management laid.codes_are_told))

  in_coded : coded_lengths layout octets ≡ cl
  in_coded =
      ap (λ xs. plain xs layout.length_bits layout.groups) (segment octets (A ++ B) (C ++ (D ++ after)) (reference_octets layout + width_octets layout) (second_part (bits octets) A B C D after all) long_ab)
      ∙ plain-padded layout.length_bits layout.groups cl (D ++ after) as_cl
      (subst (λ (n : ℕ). All (λ m. m < 2 ^ n) cl) (sym laid.coded_length_bits) (coded_lt ns laid.grouping.each))

  in_lengths : lengths layout octets ≡ ns
  in_lengths =
      ap (λ xs. slice_set (map (λ n. layout.length_reference + layout.length_increment * n) xs) (layout.groups - 1) layout.last_length) in_coded
      ∙ ap (λ xs. slice_set xs (layout.groups - 1) layout.last_length) (coded_back layout.length_reference layout.length_increment ns laid.length_reference laid.length_increment laid.grouping.each)
      ∙ ap₂ (λ (i x : ℕ). slice_set ns i x) (ap (λ n. n - 1) laid.groups) laid.last_length
      ∙ set-get_or ns (length ns - 1) 0

  in_groups : groups layout octets ≡ groups_from refs ws ns
  in_groups = ap₂ (λ (rs vs : List ℕ). groups_from rs vs (lengths layout octets)) in_references in_widths ∙ ap (groups_from refs ws) in_lengths

  in_numbers : bits (drop (list_octets layout) octets) ≡ D ++ after
  in_numbers = segment octets ((A ++ B) ++ C) (D ++ after) (list_octets layout) (third_part (bits octets) A B C D after all) long_abc

  in_codes : grouped layout octets ≡ codes
  in_codes =
      let k = layout.management in
      let small = small_run k codes laid.management (all_below k codes laid.codes_are_told) in
      let room = digits-lt (greatest (present_codes codes) + k) small in
      let power : 2 ^ layout.reference_bits ≡ 2 ^ digits (greatest (present_codes codes) + k) = ap (λ w. 2 ^ w) laid.reference_bits in
      let pad : List Bool = replicate (padding numbers) false in
      ap₂ (codes_from layout) in_groups (in_numbers ∙ append_assoc numbers pad after)
      ∙ codes_back layout laid.management ns codes (pad ++ after) laid.grouping laid.codes_are_told (omega (arith, room, power))

  few_widths : All (λ w. w ≤ 32) ws
  few_widths = All-map (λ w. w ≤ 32) (width_of layout.management) (runs ns codes) (widths_few layout.management codes ns laid.management laid.codes_are_told)

  long_octets : 8 * list_octets layout + length numbers ≤ 8 * length octets
  long_octets =
      omega (arith, length-bits octets, ap length (third_part (bits octets) A B C D after all), length-append ((A ++ B) ++ C) (D ++ after), length-append D after, long_abc, padded-more numbers)

  in_bits : packed_bits (groups layout octets) ≡ length numbers
  in_bits = ap packed_bits in_groups ∙ bits_back layout laid.management ns codes laid.grouping

pub returns : goal.returns
returns c layout codes ns s7 skip after laid within stands =
    let octets = drop (5 + skip) s7 in
    let long : length octets ≡ length s7 - (5 + skip) = length-drop (5 + skip) s7 in
    let read = in_widths layout codes ns octets after laid stands in
    let total : sum (lengths layout octets) ≡ length codes = ap sum (in_lengths layout codes ns octets after laid stands) ∙ laid.grouping.total in
    let narrow = few_widths layout codes ns octets after laid stands in
    let too_wide = first_place (λ w. nat_lt 32 w) (widths layout octets) in
    let none : too_wide ≡ 0 = ap (first_place (λ w. nat_lt 32 w)) read ∙ no_wide _ narrow in
    let enough = long_octets layout codes ns octets after laid stands in
    record {
      list_rules_pass = no_rule (nat_lt (length s7) (5 + skip + list_octets layout)) _ (le-ltb (length s7) (5 + skip + list_octets layout) (omega (arith, enough, long)));
      widths_fit = subst (All (λ w. w ≤ 32)) (sym read) narrow;
      total = total;
      group_rules_pass =
          no_rules _ _ _ _ _ _ (le-ltb 0 too_wide (omega (arith, none))) (ap not (eq-eqb (sum (lengths layout octets)) (length codes) total))
          (le-ltb (8 * length s7) (8 * (5 + skip + list_octets layout) + packed_bits (groups layout octets)) (omega (arith, enough, long, in_bits layout codes ns octets after laid stands)));
      codes_stand = in_codes layout codes ns octets after laid stands;
    }
