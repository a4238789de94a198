-- Lemmas on groups, one after another, and on the octets that they take.
use Rattle.std.proofs.Common.{◌≡◌, ℕ, ◌+◌, ◌-◌, ◌*◌, ◌/◌, ◌<◌, ◌≤◌, List, [], ◌∷◌, ◌++◌, length, take, drop, get_or, map, sum, refl, sym, ap, ap₂, ◌∙◌, arith}
use Rattle.std.proofs.lemmas.List.{length-append, length-take-le, length-map}
use Rattle.std.proofs.lemmas.List.Elements.{All-head, All-tail}
use Rattle.grib_base.specs.declared.code.Code.{Code}
use Rattle.grib_packing.specs.declared.layout.Layout.{Layout}
use Rattle.grib_packing.specs.Groupings.{IsGrouping, greatest, present_codes, joined, runs, length_bits, width_of}
use Rattle.grib_packing.specs.Packed.{reference_of, group_fields, group_parts}
use Rattle.grib_codes.proofs.Bounds.{all_below, width_bits-few}
use Rattle.grib_packing.proofs.Digits.{digits-most}
use Rattle.grib_codes.proofs.Spans.{small_run}
use Rattle.grib_packing.proofs.Fields.{padded_octets, length-padded8}
use Rattle.grib_groups.specs.Encoding.{LaysOut}
use Rattle.grib_groups.proofs.Parts.{drop-next, sum-more, length-parts}
use Rattle.grib_groups.proofs.Back.{length-group, length-runs}

-- the bits of one run
pub run_bits : (k b : ℕ) (run : List Code) → k ≤ 2 → length (group_fields k b run) ≡ length run * width_of k run
run_bits k b run few =
    let layout : Layout = record {
      groups = 0;
      reference_bits = b;
      width_reference = 0;
      width_bits = 0;
      length_reference = 0;
      length_increment = 0;
      last_length = 0;
      length_bits = 0;
      management = k;
    } in
    length-group layout few run

-- the bits of the next group and of those after it
pub next_bits : (k b : ℕ) (lengths : List ℕ) (i : ℕ) (rest after : List Code) (width : ℕ) → k ≤ 2 → i < length lengths → get_or lengths i 0 ≤ length rest
    → width ≡ width_of k (take (get_or lengths i 0) rest) → after ≡ drop (get_or lengths i 0) rest
    → length (joined (map (group_fields k b) (runs (drop i lengths) rest)))
    ≡ get_or lengths i 0 * width + length (joined (map (group_fields k b) (runs (drop (i + 1) lengths) after)))
next_bits k b lengths i rest after width few within fits is_width is_after =
    let l = get_or lengths i 0 in
    let run = take l rest in
    let later = joined (map (group_fields k b) (runs (drop (i + 1) lengths) (drop l rest))) in
    let split : joined (map (group_fields k b) (runs (drop i lengths) rest)) ≡ group_fields k b run ++ later =
    ap (λ ns. joined (map (group_fields k b) (runs ns rest))) (drop-next lengths i within) in
    let product : length run * width_of k run ≡ l * width = ap₂ (λ (m n : ℕ). m * n) (length-take-le l rest fits) (sym is_width) in
    let same : length later ≡ length (joined (map (group_fields k b) (runs (drop (i + 1) lengths) after))) =
    ap (λ cs. length (joined (map (group_fields k b) (runs (drop (i + 1) lengths) cs)))) (sym is_after) in
    omega (arith, ap length split, length-append (group_fields k b run) later, run_bits k b run few, product, same)

-- there are no more groups than codes
pub few_groups : (n : ℕ) (lengths : List ℕ) → IsGrouping n lengths → length lengths ≤ n
few_groups n [] g = omega arith
few_groups n (l ∷ lengths) g =
    let here : (1 ≤ l) × (l ≤ 64) = All-head (λ l. (1 ≤ l) × (l ≤ 64)) l lengths g.each in
    let rest = few_groups (sum lengths) lengths (record { each = All-tail (λ l. (1 ≤ l) × (l ≤ 64)) l lengths g.each; total = refl }) in
    omega (arith, g.total, sum-more l lengths, here.0, rest)

-- the octets of the four parts
module _ (layout : Layout) (codes : List Code) (lengths : List ℕ) (h : LaysOut layout codes lengths) where
  pub parts_octets : (bits : ℕ) → bits ≡ length (joined (map (group_fields layout.management layout.reference_bits) (runs lengths codes)))
      → length (group_parts layout.management codes lengths)
      ≡ 8 * ((layout.groups * layout.reference_bits + 7) / 8 + (layout.groups * layout.width_bits + 7) / 8 + (layout.groups * 6 + 7) / 8 + (bits + 7) / 8)
  parts_octets bits is =
      let k = layout.management in
      let b = layout.reference_bits in
      let w = layout.width_bits in
      let groups = runs lengths codes in
      let count : layout.groups ≡ length groups = h.groups ∙ sym (length-runs lengths codes) in
      let references = padded_octets b layout.groups (map (reference_of b) groups) (count ∙ sym (length-map groups (reference_of b))) in
      let widths = padded_octets w layout.groups (map (width_of k) groups) (count ∙ sym (length-map groups (width_of k))) in
      let coded = padded_octets length_bits layout.groups (map (λ l. l - 1) lengths) (h.groups ∙ sym (length-map lengths (λ l. l - 1))) in
      let numbers = length-padded8 (joined (map (group_fields k b) groups)) in
      omega (arith, length-parts k k b w codes lengths refl h.reference_bits h.width_bits, references, widths, coded, numbers, is)

-- what is known of the numbers of a layout
module _ (layout : Layout) (codes : List Code) (lengths : List ℕ) (h : LaysOut layout codes lengths) where
  pub groups_few : layout.groups ≤ length codes
  groups_few = omega (arith, h.groups, few_groups (length codes) lengths h.grouping)

  pub references_few : layout.reference_bits ≤ 32
  references_few =
      let k = layout.management in
      let small = small_run k codes h.management (all_below k codes h.codes_are_told) in
      omega (arith, h.reference_bits, digits-most (greatest (present_codes codes) + k) 32 (omega (arith, small)) (omega (arith, small)))

  pub widths_few : layout.width_bits ≤ 6
  widths_few = width_bits-few layout.management layout.width_bits codes h.width_bits h.management h.codes_are_told

-- some codes have a group
pub some_groups : (n : ℕ) (lengths : List ℕ) → 1 ≤ n → IsGrouping n lengths → 1 ≤ length lengths
some_groups n [] some g = absurd (let none : n ≡ 0 = sym g.total in omega arith)
some_groups n (l ∷ lengths) some g = omega arith
