-- The sections of the function are what packing has to write, and nothing else is.
use Rattle.std.proofs.Common.{◌≡◌, ◌⊎◌, inl, inr, ℕ, ◌+◌, ◌-◌, ◌*◌, ◌^◌, ◌<◌, ◌≤◌, Bool, true, false, not, cond, Some, None, nat_abs, nat_lt, List, [], ◌∷◌, ◌++◌, length, map, get_or, All, refl, ap, ap₂, ◌∙◌, arith}
use Rattle.std.specs.List.{list_any}
use Rattle.std.proofs.Math.Nat.{mul-le-mul_left}
use Rattle.std.proofs.lemmas.List.{length-append, length-map, drop_all}
use Rattle.std.proofs.lemmas.List.Elements.{All-nil, All-append}
use Rattle.grib_bits.specs.Bits.{bits_of}
use Rattle.grib_bits.specs.Encoding.{octets_of, section_of}
use Rattle.grib_bits.proofs.Encoding.{All-octets_of, num_on-octets_of}
use Rattle.grib_base.specs.declared.limits.TheConstants.{MOST_POINTS}
use Rattle.grib_packing.specs.declared.column.Point.{Point}
use Rattle.grib_packing.specs.declared.column.Column.{Column}
use Rattle.grib_packing.specs.Differences.{Descriptors, descriptors_of, difference_codes}
use Rattle.grib_packing.specs.Groupings.{Chosen, greatest, header_bits, reference_bits_of, width_bits_of, width_of}
use Rattle.grib_packing.specs.Misfits.{Target, DifferenceRange, ToSimple, ToComplex, ToSpatial, are_differences_out, first_misfit, is_missing, management_of, scaled_numbers}
use Rattle.grib_packing.specs.Packed.{HasLayout, HasNumbers, IsComplex, IsSimple, IsSpatial, descriptor_fields, descriptor_size, fields, present_bits, simple_numbers, simple_width, target_codes}
use Rattle.grib_codes.specs.Span.{IsTold}
use Rattle.grib_codes.proofs.Bounds.{reference_bits-few, width_bits-few}
use Rattle.grib_packing.proofs.Fields.{length-fields}
use Rattle.grib_packing.specs.Sections.{number_octets}
use Rattle.grib_packing.specs.Written.{MayBePacked}
use Rattle.grib_simple.proofs.Fitting.{few_numbers, width_few}
use Rattle.grib_complex.specs.Written.{layout_octets}
use Rattle.grib_codes.proofs.Reserved.{length-placed, management-few, plain_told}
use Rattle.grib_complex.proofs.Differing.{length-codes, length-descriptors, spatial_told}
use Rattle.grib_complex.proofs.FirstValues.{size_few}
use Rattle.grib_complex.proofs.GroupByGroup.{few_groups}
use Rattle.grib_packed.specs.Written.{HasWords, simple_sections, complex_sections, spatial_sections, group_bits, group_lengths, group_octets, layout_with}
use Rattle.grib_packed.proofs.Choosing.{within_chosen}
use Rattle.grib_packed.proofs.Groups.{last_few, parts_few}
use Rattle.grib_packed.proofs.Numbers.{below-layout, has_layout, has_numbers, numbers_front}
use Rattle.grib_packed.proofs.Octets.{has_contents, only_contents}

-- ---- simple packing

bitmap_short : (b : Bool) (n : ℕ) (bits : List Bool) → n ≤ MOST_POINTS → length bits ≡ n → length (cond b (bits_of 8 0 ++ bits) (bits_of 8 255)) ≤ n + 8
bitmap_short true n bits few long = omega (arith, length-append (bits_of 8 0) bits)
bitmap_short false n bits few long = omega arith

pub bitmap_few : (points : List Point) → length points ≤ MOST_POINTS
    → length (cond (list_any is_missing points) (bits_of 8 0 ++ present_bits points) (bits_of 8 255)) ≤ length points + 8
bitmap_few points few = bitmap_short (list_any is_missing points) (length points) (present_bits points) few (length-map points (λ point. not (is_missing point)))

pub values_few : (points : List Point) → first_misfit ToSimple points ≡ None
    → length (fields (simple_width points) (simple_numbers points)) ≤ length points * 48
values_few points none =
    let n = length (simple_numbers points) in
    let product : n * simple_width points ≤ n * 48 = mul-le-mul_left n (width_few points none) in
    omega (arith, length-fields (simple_width points) (simple_numbers points), product, few_numbers points)

pub simple_written : (column : Column) (kind : ℕ) → MayBePacked column → HasWords column → kind < 256 → first_misfit ToSimple column.points ≡ None
    → let p = simple_sections column kind in IsSimple column kind p.section5 p.section6 p.section7
simple_written column kind may words small none =
    let points = column.points in
    let few : length points ≤ MOST_POINTS = may.few in
    record {
      as_long = refl;
      numbers = has_numbers column (length (simple_numbers points)) 0 (simple_width points) kind [] words (omega (arith, few, few_numbers points)) (omega arith)
          (omega (arith, width_few points none)) small (All-nil (λ octet. octet < 256)) (omega arith);
      bitmap = has_contents 6 (cond (list_any is_missing points) (bits_of 8 0 ++ present_bits points) (bits_of 8 255)) (omega arith) (omega (arith, few, bitmap_few points few));
      values = has_contents 7 (fields (simple_width points) (simple_numbers points)) (omega arith) (omega (arith, few, values_few points none));
    }

numbers_only : (s : List ℕ) (column : Column) (values template bit_width kind : ℕ) → length s ≡ 21 → HasNumbers s column values template bit_width kind
    → s ≡ section_of 5 (number_octets column values template bit_width kind)
numbers_only s column values template bit_width kind long h =
    numbers_front s column values template bit_width kind (omega arith) h
    ∙ ap₂ (λ (n : ℕ) (r : List ℕ). octets_of 4 n ++ (octets_of 1 5 ++ (number_octets column values template bit_width kind ++ r))) long (drop_all 21 s (omega arith))

pub simple_only : (column : Column) (kind : ℕ) (s5 s6 s7 : List ℕ) → IsSimple column kind s5 s6 s7
    → let p = simple_sections column kind in (s5 ≡ p.section5) × (s6 ≡ p.section6) × (s7 ≡ p.section7)
simple_only column kind s5 s6 s7 h =
    let points = column.points in (
      numbers_only s5 column (length (simple_numbers points)) 0 (simple_width points) kind h.as_long h.numbers,
      only_contents 6 s6 (cond (list_any is_missing points) (bits_of 8 0 ++ present_bits points) (bits_of 8 255)) (omega arith) h.bitmap,
      only_contents 7 s7 (fields (simple_width points) (simple_numbers points)) (omega arith) h.values,
    )

-- ---- groups

pub lengths_chosen : (target : Target) (points : List Point)
    → (let k = management_of points in
    let codes = target_codes target points in
    Chosen (header_bits k codes) (width_of k) codes (group_lengths target points))
lengths_chosen target points =
    let k = management_of points in
    let codes = target_codes target points in
    within_chosen (length codes) (header_bits k codes) (width_of k) codes (omega arith)

-- codes that are told, one for each point
pub record Coded (target : Target) (points : List Point) : Type 0 where
  pub told : All (IsTold (management_of points)) (target_codes target points)
  pub as_many : length (target_codes target points) ≡ length points

pub coded_plainly : (points : List Point) → first_misfit ToComplex points ≡ None → Coded ToComplex points
coded_plainly points none = record {
  told = plain_told points none;
  as_many = length-placed points (map nat_abs (scaled_numbers points)) (length-map (scaled_numbers points) nat_abs);
}

no_misfit : (b : Bool) → cond b (Some DifferenceRange) None ≡ None → b ≡ false
no_misfit true e = absurd (cc)
no_misfit false e = refl

pub coded_by_differences : (order : ℕ) (points : List Point) → first_misfit (ToSpatial order) points ≡ None → Coded (ToSpatial order) points
coded_by_differences order points none = record {
  told = spatial_told order points (no_misfit (are_differences_out order (management_of points) (scaled_numbers points)) none);
  as_many = length-placed points (difference_codes order (scaled_numbers points)) (length-codes order (scaled_numbers points));
}

pub bits_few : (target : Target) (points : List Point) → Coded target points → length (group_bits target points) ≤ 76 * length points + 28
bits_few target points coded =
    let k = management_of points in
    let codes = target_codes target points in
    let chosen = lengths_chosen target points in
    omega (arith, parts_few k codes (group_lengths target points) (management-few points) coded.told chosen.grouping, coded.as_many)

-- octets 6 to 47 with what follows them
module _ (target : Target) (template : ℕ) (column : Column) (kind : ℕ) (rest : List ℕ) (may : MayBePacked column) (words : HasWords column) (small : kind < 256)
    (known : template < 2 ^ 16) (coded : Coded target column.points) (each : All (λ octet. octet < 256) rest) (short : length rest < 100) where
  numbers_stand : HasNumbers (section_of 5 (group_octets target template column kind ++ rest)) column (length column.points) template
      (reference_bits_of (management_of column.points) (target_codes target column.points)) kind
  numbers_stand =
      let points = column.points in
      let k = management_of points in
      let codes = target_codes target points in
      let lengths = group_lengths target points in
      let narrow : reference_bits_of k codes ≤ 32 = reference_bits-few k (reference_bits_of k codes) codes refl (management-few points) coded.told in
      has_numbers column (length points) template (reference_bits_of k codes) kind (layout_octets (layout_with k codes lengths) ++ rest) words
      (omega (arith, may.few)) known (omega (arith, narrow)) small
      (All-append (λ octet. octet < 256) (layout_octets (layout_with k codes lengths)) rest (below-layout k codes lengths) each)
      (omega arith)

  layout_stands : HasLayout (section_of 5 (group_octets target template column kind ++ rest)) (management_of column.points)
      (target_codes target column.points) (group_lengths target column.points)
  layout_stands =
      let points = column.points in
      let k = management_of points in
      let codes = target_codes target points in
      let lengths = group_lengths target points in
      let chosen = lengths_chosen target points in
      let groups : length lengths ≤ length codes = few_groups (length codes) lengths chosen.grouping in
      let narrow : width_bits_of k codes ≤ 6 = width_bits-few k (width_bits_of k codes) codes refl (management-few points) coded.told in
      let last : get_or lengths (length lengths - 1) 0 ≤ 64 = last_few (length codes) lengths chosen.grouping in
      has_layout column (length points) template (reference_bits_of k codes) kind k codes lengths rest (omega (arith, management-few points))
      (omega (arith, groups, coded.as_many, may.few)) (omega (arith, narrow)) (omega (arith, last))

pub complex_written : (column : Column) (kind : ℕ) → MayBePacked column → HasWords column → kind < 256 → first_misfit ToComplex column.points ≡ None
    → let p = complex_sections column kind in IsComplex column kind p.section5 p.section6 p.section7
complex_written column kind may words small none =
    let points = column.points in
    let coded = coded_plainly points none in
    let nothing = All-nil (λ octet. octet < 256) in
    record {
      lengths = group_lengths ToComplex points;
      as_long = refl;
      numbers = numbers_stand ToComplex 2 column kind [] may words small (omega arith) coded nothing (omega arith);
      layout = layout_stands ToComplex 2 column kind [] may words small (omega arith) coded nothing (omega arith);
      chosen = lengths_chosen ToComplex points;
      bitmap = refl;
      values = has_contents 7 (group_bits ToComplex points) (omega arith) (omega (arith, may.few, bits_few ToComplex points coded));
    }

-- ---- differences

pub descriptors_few : (d : Descriptors) → (d.order ≡ 1) ⊎ (d.order ≡ 2) → (descriptor_size d ≤ 4) × (length (descriptor_fields d) ≤ 96)
descriptors_few d known =
    let most = greatest (nat_abs d.first ∷ nat_abs d.second ∷ nat_abs d.minimum ∷ []) in
    let few : descriptor_size d ≤ 4 = size_few (nat_lt most (2 ^ 7)) (nat_lt most (2 ^ 15)) (nat_lt most (2 ^ 23)) in
    (few, bound d.order (descriptor_size d) (length (descriptor_fields d)) known few (length-descriptors d known))
  where
    bound : (order size bits : ℕ) → (order ≡ 1) ⊎ (order ≡ 2) → size ≤ 4 → bits ≡ 8 * ((order + 1) * size) → bits ≤ 96
    bound order size bits (inl one) few is = let same : (order + 1) * size ≡ 2 * size = ap (λ (o : ℕ). (o + 1) * size) one in omega (arith, few, is, same)
    bound order size bits (inr two) few is = let same : (order + 1) * size ≡ 3 * size = ap (λ (o : ℕ). (o + 1) * size) two in omega (arith, few, is, same)

order_small : (order : ℕ) → (order ≡ 1) ⊎ (order ≡ 2) → order < 256
order_small order (inl one) = omega arith
order_small order (inr two) = omega arith

pub spatial_written : (order : ℕ) (column : Column) (kind : ℕ) → (order ≡ 1) ⊎ (order ≡ 2) → MayBePacked column → HasWords column → kind < 256
    → first_misfit (ToSpatial order) column.points ≡ None
    → let p = spatial_sections order column kind in IsSpatial order column kind p.section5 p.section6 p.section7
spatial_written order column kind known may words small none =
    let points = column.points in
    let d = descriptors_of order (scaled_numbers points) in
    let coded = coded_by_differences order points none in
    let size = descriptors_few d known in
    let ends = octets_of 1 order ++ octets_of 1 (descriptor_size d) in
    let each = All-append (λ octet. octet < 256) (octets_of 1 order) (octets_of 1 (descriptor_size d)) (All-octets_of 1 order) (All-octets_of 1 (descriptor_size d)) in
    record {
      lengths = group_lengths (ToSpatial order) points;
      as_long = refl;
      numbers = numbers_stand (ToSpatial order) 3 column kind ends may words small (omega arith) coded each (omega arith);
      layout = layout_stands (ToSpatial order) 3 column kind ends may words small (omega arith) coded each (omega arith);
      order_stands = num_on-octets_of 1 order (order_small order known);
      size_stands = num_on-octets_of 1 (descriptor_size d) (omega (arith, size.0));
      chosen = lengths_chosen (ToSpatial order) points;
      bitmap = refl;
      values = has_contents 7 (descriptor_fields d ++ group_bits (ToSpatial order) points) (omega arith)
          (omega (arith, may.few, bits_few (ToSpatial order) points coded, size.1, length-append (descriptor_fields d) (group_bits (ToSpatial order) points)));
    }
