-- There is one packing of a column in groups.
use Rattle.std.proofs.Common.{◌≡◌, ℕ, ◌≤◌, List, ◌++◌, length, drop, ap, ap₂, ◌∙◌, arith, subst}
use Rattle.std.proofs.lemmas.List.{drop_all}
use Rattle.grib_bits.specs.Octets.{octets}
use Rattle.grib_base.specs.declared.code.Code.{Code}
use Rattle.grib_bits.specs.Encoding.{octets_of, section_of}
use Rattle.grib_packing.specs.declared.column.Column.{Column}
use Rattle.grib_packing.specs.Differences.{descriptors_of}
use Rattle.grib_packing.specs.Groupings.{header_bits, reference_bits_of, width_of}
use Rattle.grib_packing.specs.Misfits.{ToComplex, ToSpatial, management_of, scaled_numbers}
use Rattle.grib_packing.specs.Packed.{HasContents, HasLayout, HasNumbers, IsComplex, IsSpatial, descriptor_fields, descriptor_size, group_parts, target_codes}
use Rattle.grib_packing.proofs.Sections.{AreOctets-all}
use Rattle.grib_split.proofs.Following.{only_chosen}
use Rattle.grib_packing.specs.Sections.{number_octets}
use Rattle.grib_complex.specs.Written.{layout_octets}
use Rattle.grib_packed.specs.Written.{complex_sections, spatial_sections, group_lengths, layout_with}
use Rattle.grib_packed.proofs.Numbers.{layout_front, numbers_front}
use Rattle.grib_packed.proofs.Octets.{next, only_contents}
use Rattle.grib_packed.proofs.Written.{lengths_chosen}

-- octets 1 to 47
grouped_front : (s : List ℕ) (column : Column) (values template bit_width kind k : ℕ) (codes : List Code) (lengths : List ℕ) → 47 ≤ length s
    → HasNumbers s column values template bit_width kind → HasLayout s k codes lengths
    → s ≡ octets_of 4 (length s) ++ (octets_of 1 5 ++ (number_octets column values template bit_width kind ++ (layout_octets (layout_with k codes lengths) ++ drop 47 s)))
grouped_front s column values template bit_width kind k codes lengths long numbers layout =
    numbers_front s column values template bit_width kind (omega arith) numbers
    ∙ ap (λ (r : List ℕ). octets_of 4 (length s) ++ (octets_of 1 5 ++ (number_octets column values template bit_width kind ++ r)))
    (layout_front s k codes lengths (AreOctets-all s numbers.are_octets) long layout)

complex_section : (s : List ℕ) (column : Column) (values template bit_width kind k : ℕ) (codes : List Code) (lengths : List ℕ) → length s ≡ 47
    → HasNumbers s column values template bit_width kind → HasLayout s k codes lengths
    → s ≡ section_of 5 (number_octets column values template bit_width kind ++ layout_octets (layout_with k codes lengths))
complex_section s column values template bit_width kind k codes lengths long numbers layout =
    grouped_front s column values template bit_width kind k codes lengths (omega arith) numbers layout
    ∙ ap₂ (λ (n : ℕ) (r : List ℕ). octets_of 4 n ++ (octets_of 1 5 ++ (number_octets column values template bit_width kind ++ (layout_octets (layout_with k codes lengths) ++ r))))
    long (drop_all 47 s (omega arith))

spatial_section : (s : List ℕ) (column : Column) (values template bit_width kind k : ℕ) (codes : List Code) (lengths : List ℕ) (order size : ℕ) → length s ≡ 49
    → HasNumbers s column values template bit_width kind → HasLayout s k codes lengths → octets s 48 48 ≡ order → octets s 49 49 ≡ size
    → s ≡ section_of 5 ((number_octets column values template bit_width kind ++ layout_octets (layout_with k codes lengths)) ++ octets_of 1 order ++ octets_of 1 size)
spatial_section s column values template bit_width kind k codes lengths order size long numbers layout is_order is_size =
    let known = AreOctets-all s numbers.are_octets in
    let last = next s known 48 1 size (omega arith) is_size ∙ ap (λ (r : List ℕ). octets_of 1 size ++ r) (drop_all 49 s (omega arith)) in
    let ends = next s known 47 1 order (omega arith) is_order ∙ ap (λ (r : List ℕ). octets_of 1 order ++ r) last in
    grouped_front s column values template bit_width kind k codes lengths (omega arith) numbers layout
    ∙ ap₂ (λ (n : ℕ) (r : List ℕ). octets_of 4 n ++ (octets_of 1 5 ++ (number_octets column values template bit_width kind ++ (layout_octets (layout_with k codes lengths) ++ r))))
    long ends

pub complex_only : (column : Column) (kind : ℕ) (s5 s6 s7 : List ℕ) → IsComplex column kind s5 s6 s7
    → let p = complex_sections column kind in (s5 ≡ p.section5) × (s6 ≡ p.section6) × (s7 ≡ p.section7)
complex_only column kind s5 s6 s7 h =
    let points = column.points in
    let k = management_of points in
    let codes = target_codes ToComplex points in
    let lengths = group_lengths ToComplex points in
    let one : h.lengths ≡ lengths = only_chosen (header_bits k codes) (width_of k) codes h.lengths lengths h.chosen (lengths_chosen ToComplex points) in
    let layout = subst (λ (ls : List ℕ). HasLayout s5 k codes ls) one h.layout in
    let values = subst (λ (ls : List ℕ). HasContents 7 s7 (group_parts k codes ls)) one h.values in (
      complex_section s5 column (length points) 2 (reference_bits_of k codes) kind k codes lengths h.as_long h.numbers layout,
      h.bitmap,
      only_contents 7 s7 (group_parts k codes lengths) (omega arith) values,
    )

pub spatial_only : (order : ℕ) (column : Column) (kind : ℕ) (s5 s6 s7 : List ℕ) → IsSpatial order column kind s5 s6 s7
    → let p = spatial_sections order column kind in (s5 ≡ p.section5) × (s6 ≡ p.section6) × (s7 ≡ p.section7)
spatial_only order column kind s5 s6 s7 h =
    let points = column.points in
    let k = management_of points in
    let codes = target_codes (ToSpatial order) points in
    let lengths = group_lengths (ToSpatial order) points in
    let d = descriptors_of order (scaled_numbers points) in
    let one : h.lengths ≡ lengths = only_chosen (header_bits k codes) (width_of k) codes h.lengths lengths h.chosen (lengths_chosen (ToSpatial order) points) in
    let layout = subst (λ (ls : List ℕ). HasLayout s5 k codes ls) one h.layout in
    let values = subst (λ (ls : List ℕ). HasContents 7 s7 (descriptor_fields d ++ group_parts k codes ls)) one h.values in (
      spatial_section s5 column (length points) 3 (reference_bits_of k codes) kind k codes lengths order (descriptor_size d) h.as_long h.numbers layout h.order_stands h.size_stands,
      h.bitmap,
      only_contents 7 s7 (descriptor_fields d ++ group_parts k codes lengths) (omega arith) values,
    )
