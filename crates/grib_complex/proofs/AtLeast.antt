-- Lemmas on the octets that groups take at least.
use Rattle.std.proofs.Common.{◌≡◌, ◌⊎◌, ℕ, ◌+◌, ◌-◌, ◌*◌, ◌/◌, ◌≤◌, Bool, List, [], ◌∷◌, ◌++◌, length, take, drop, map, sum, refl, sym, ap, ◌∙◌, arith, subst₂}
use Rattle.std.proofs.lemmas.List.{length-append, length-drop, length-take-le, length-map}
use Rattle.grib_bits.specs.Bits.{bits}
use Rattle.grib_bits.proofs.OctetBits.{length-bits}
use Rattle.grib_base.specs.declared.code.Code.{Code}
use Rattle.grib_packing.specs.declared.column.Column.{Column}
use Rattle.grib_packing.specs.Differences.{Descriptors, descriptors_of}
use Rattle.grib_packing.specs.Groupings.{IsGrouping, cost_of, header_bits, joined, length_bits, reference_bits_of, runs, width_bits_of, width_of}
use Rattle.grib_packing.specs.Misfits.{ToComplex, ToSpatial, management_of, scaled_numbers}
use Rattle.grib_packing.specs.Packed.{HasContents, IsComplex, IsSpatial, descriptor_fields, descriptor_size, fields, group_fields, group_parts, padded, reference_of, target_codes}
use Rattle.grib_packing.proofs.Fields.{length-fields, length-padded8}
use Rattle.grib_groups.proofs.Back.{length-runs}
use Rattle.grib_groups.proofs.Parts.{length-parts, sum-more}
use Rattle.grib_complex.proofs.Differing.{length-descriptors}
use Rattle.grib_complex.proofs.GroupByGroup.{run_bits}

-- the cost of a grouping is that of the headers and of the packed numbers
pub cost_parts : (header k b : ℕ) (lengths : List ℕ) (codes : List Code) → k ≤ 2 → sum lengths ≤ length codes
    → cost_of header (width_of k) lengths codes ≡ length lengths * header + length (joined (map (group_fields k b) (runs lengths codes)))
cost_parts header k b [] codes few within = omega arith
cost_parts header k b (l ∷ lengths) codes few within =
    let total = sum-more l lengths in
    let rest = cost_parts header k b lengths (drop l codes) few (omega (arith, length-drop l codes)) in
    let run = take l codes in
    let later = joined (map (group_fields k b) (runs lengths (drop l codes))) in
    let long : length run * width_of k run ≡ l * width_of k run = ap (λ (n : ℕ). n * width_of k run) (length-take-le l codes (omega arith)) in
    omega (arith, rest, length-append (group_fields k b run) later, run_bits k b run few, long)

-- a padded part has no fewer bits than its numbers
part_bits : (w n : ℕ) (ns : List ℕ) → length ns ≡ n → n * w ≤ length (padded (fields w ns))
part_bits w n ns is =
    let product : length ns * w ≡ n * w = ap (λ (m : ℕ). m * w) is in
    omega (arith, length-padded8 (fields w ns), length-fields w ns, product)

-- the bits of the four parts are no fewer than the cost
pub parts_at_least : (k : ℕ) (codes : List Code) (lengths : List ℕ) → k ≤ 2 → IsGrouping (length codes) lengths
    → cost_of (header_bits k codes) (width_of k) lengths codes ≤ length (group_parts k codes lengths)
parts_at_least k codes lengths few g =
    let b = reference_bits_of k codes in
    let w = width_bits_of k codes in
    let n = length lengths in
    let groups = runs lengths codes in
    let references = part_bits b n (map (reference_of b) groups) (length-map groups (reference_of b) ∙ length-runs lengths codes) in
    let widths = part_bits w n (map (width_of k) groups) (length-map groups (width_of k) ∙ length-runs lengths codes) in
    let coded = part_bits length_bits n (map (λ l. l - 1) lengths) (length-map lengths (λ l. l - 1)) in
    let numbers = length-padded8 (joined (map (group_fields k b) groups)) in
    let header : n * (b + w + length_bits) ≡ n * b + n * w + n * length_bits = omega arith in
    omega (arith, cost_parts (header_bits k codes) k b lengths codes few (omega (arith, g.total)), length-parts k k b w codes lengths refl refl refl, references, widths, coded, numbers, header)

-- and they are whole octets
pub whole_parts : (k : ℕ) (codes : List Code) (lengths : List ℕ) (bits : ℕ) → bits ≤ length (group_parts k codes lengths)
    → 8 * ((bits + 7) / 8) ≤ length (group_parts k codes lengths)
whole_parts k codes lengths bits less =
    let b = reference_bits_of k codes in
    let w = width_bits_of k codes in
    let groups = runs lengths codes in
    omega (
      arith,
      length-parts k k b w codes lengths refl refl refl,
      length-padded8 (fields b (map (reference_of b) groups)),
      length-padded8 (fields w (map (width_of k) groups)),
      length-padded8 (fields length_bits (map (λ l. l - 1) lengths)),
      length-padded8 (joined (map (group_fields k b) groups)),
    )

-- ---- sections

-- a section has the octets of its head and of its contents
pub section_at_least : (number : ℕ) (s : List ℕ) (contents : List Bool) → HasContents number s contents → 40 + length contents ≤ 8 * length s
section_at_least number s contents h =
    let least : 5 ≤ length s = h.itself.least in
    omega (arith, ap length h.contents_stand, length-bits (drop 5 s), length-drop 5 s, length-padded8 contents)

-- the groups of these codes, and the bits that sections with them have at least beside the groups
pub record Grouped (beside k : ℕ) (codes : List Code) (s5 s6 s7 : List ℕ) : Type 0 where
  pub lengths : List ℕ
  pub grouping : IsGrouping (length codes) lengths
  pub at_least : beside + length (group_parts k codes lengths) ≤ 8 * (length s5 + length s6 + length s7)

pub complex_at_least : (column : Column) (kind k : ℕ) (codes : List Code) (s5 s6 s7 : List ℕ) → codes ≡ target_codes ToComplex column.points → k ≡ management_of column.points
    → IsComplex column kind s5 s6 s7 → Grouped (8 * 58) k codes s5 s6 s7
complex_at_least column kind k codes s5 s6 s7 is_codes is_k h =
    let long = section_at_least 7 s7 _ h.values in
    subst₂ (λ (j : ℕ) (cs : List Code). Grouped (8 * 58) j cs s5 s6 s7) (sym is_k) (sym is_codes)
    (record { lengths = h.lengths; grouping = h.chosen.grouping; at_least = omega (arith, h.as_long, ap length h.bitmap, long) })

pub spatial_at_least : (order : ℕ) (column : Column) (kind k : ℕ) (codes : List Code) (d : Descriptors) (s5 s6 s7 : List ℕ) → (order ≡ 1) ⊎ (order ≡ 2)
    → codes ≡ target_codes (ToSpatial order) column.points → k ≡ management_of column.points → d ≡ descriptors_of order (scaled_numbers column.points)
    → IsSpatial order column kind s5 s6 s7 → Grouped (8 * (60 + (order + 1) * descriptor_size d)) k codes s5 s6 s7
spatial_at_least order column kind k codes d s5 s6 s7 either is_codes is_k is_d h =
    let told = descriptors_of order (scaled_numbers column.points) in
    let parts = group_parts (management_of column.points) (target_codes (ToSpatial order) column.points) h.lengths in
    let long = section_at_least 7 s7 (descriptor_fields told ++ parts) h.values in
    let front : length (descriptor_fields told) ≡ 8 * ((order + 1) * descriptor_size told) = length-descriptors told either in
    let size : (order + 1) * descriptor_size d ≡ (order + 1) * descriptor_size told = ap (λ (e : Descriptors). (order + 1) * descriptor_size e) is_d in
    subst₂ (λ (j : ℕ) (cs : List Code). Grouped (8 * (60 + (order + 1) * descriptor_size d)) j cs s5 s6 s7) (sym is_k) (sym is_codes)
    (record {
      lengths = h.lengths;
      grouping = h.chosen.grouping;
      at_least = omega (arith, h.as_long, ap length h.bitmap, long, length-append (descriptor_fields told) parts, front, size);
    })
