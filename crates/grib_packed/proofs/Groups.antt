-- Groups of the chosen lengths: what Section 5 says of them, and how many bits they take.
use Rattle.std.proofs.Common.{◌≡◌, ℕ, ◌+◌, ◌-◌, ◌*◌, ◌/◌, ◌≤◌, List, [], ◌∷◌, length, take, drop, get_or, map, All, refl, ap, arith, take-append-drop}
use Rattle.std.proofs.Math.Nat.{mul-le-mul_left}
use Rattle.std.proofs.lemmas.List.{length-append}
use Rattle.std.proofs.lemmas.List.Elements.{All-take, All-drop}
use Rattle.grib_base.specs.declared.code.Code.{Code}
use Rattle.grib_packing.specs.declared.layout.Layout.{Layout}
use Rattle.grib_packing.specs.Groupings.{IsGrouping, joined, runs, reference_bits_of, width_bits_of, width_of}
use Rattle.grib_packing.specs.Packed.{group_fields, group_parts}
use Rattle.grib_codes.specs.Span.{IsBelow, IsTold}
use Rattle.grib_codes.proofs.Bounds.{all_below, width-few}
use Rattle.grib_codes.proofs.Spans.{small_run}
use Rattle.grib_groups.specs.Encoding.{LaysOut}
use Rattle.grib_groups.proofs.Back.{length-group}
use Rattle.grib_complex.proofs.GroupByGroup.{few_groups, references_few, widths_few, parts_octets}
use Rattle.grib_packed.specs.Written.{layout_with}

-- ---- the packed numbers of all groups

run_bits : (k b : ℕ) (run : List Code) → k ≤ 2 → length (group_fields k b run) ≡ length run * width_of k run
run_bits k b run few =
    let layout : Layout = record {
      groups = 0;
      reference_bits = b;
      width_reference = 0;
      width_bits = 0;
      length_reference = 0;
      length_increment = 0;
      last_length = 0;
      length_bits = 0;
      management = k;
    } in
    length-group layout few run

-- take 32 bits a code at most
joined_few : (k b : ℕ) (lengths : List ℕ) (codes : List Code) → k ≤ 2 → All (IsBelow k) codes
    → length (joined (map (group_fields k b) (runs lengths codes))) ≤ length codes * 32
joined_few k b [] codes few below = omega arith
joined_few k b (n ∷ ns) codes few below =
    let run = take n codes in
    let rest = drop n codes in
    let here = run_bits k b run few in
    let narrow = width-few k run (small_run k run few (All-take (IsBelow k) n codes below)) in
    let product : length run * width_of k run ≤ length run * 32 = mul-le-mul_left (length run) narrow in
    let later = joined (map (group_fields k b) (runs ns rest)) in
    let more : length later ≤ length rest * 32 = joined_few k b ns rest few (All-drop (IsBelow k) n codes below) in
    let whole = length-append (group_fields k b run) later in
    let parts = ap length (take-append-drop n codes) in
    omega (arith, here, product, more, whole, parts, length-append run rest)

-- ---- the four parts

pub laid : (k : ℕ) (codes : List Code) (lengths : List ℕ) → k ≤ 2 → All (IsTold k) codes → IsGrouping (length codes) lengths → LaysOut (layout_with k codes lengths) codes lengths
laid k codes lengths few told grouping = record {
  management = few;
  codes_are_told = told;
  grouping = grouping;
  groups = refl;
  reference_bits = refl;
  width_reference = refl;
  width_bits = refl;
  length_reference = refl;
  length_increment = refl;
  last_length = refl;
  coded_length_bits = refl;
}

four_few : (g n p q bits total : ℕ) → g ≤ n → p ≤ g * 32 → q ≤ g * 6 → bits ≤ n * 32
    → total ≡ 8 * ((p + 7) / 8 + (q + 7) / 8 + (g * 6 + 7) / 8 + (bits + 7) / 8) → total ≤ 76 * n + 28
four_few g n p q bits total groups references widths numbers is = omega arith

pub parts_few : (k : ℕ) (codes : List Code) (lengths : List ℕ) → k ≤ 2 → All (IsTold k) codes → IsGrouping (length codes) lengths
    → length (group_parts k codes lengths) ≤ 76 * length codes + 28
parts_few k codes lengths few told grouping =
    let layout = layout_with k codes lengths in
    let h = laid k codes lengths few told grouping in
    let bits = length (joined (map (group_fields k (reference_bits_of k codes)) (runs lengths codes))) in
    four_few (length lengths) (length codes) (length lengths * reference_bits_of k codes) (length lengths * width_bits_of k codes) bits (length (group_parts k codes lengths))
    (few_groups (length codes) lengths grouping)
    (mul-le-mul_left (length lengths) (references_few layout codes lengths h))
    (mul-le-mul_left (length lengths) (widths_few layout codes lengths h))
    (joined_few k (reference_bits_of k codes) lengths codes few (all_below k codes told))
    (parts_octets layout codes lengths h bits refl)

-- ---- the last length

pub last_few : (n : ℕ) (lengths : List ℕ) → IsGrouping n lengths → get_or lengths (length lengths - 1) 0 ≤ 64
last_few n [] grouping = omega arith
last_few n (l ∷ lengths) grouping =
    let last = grouping.each (length (l ∷ lengths) - 1) 0 (omega arith) in
    last.1
