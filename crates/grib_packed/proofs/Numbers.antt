-- Section 5 by its numbers.
use Rattle.std.proofs.Common.{◌≡◌, ℕ, ◌-◌, ◌^◌, ◌<◌, ◌≤◌, List, ◌++◌, length, drop, get_or, All, ap, ◌∙◌, arith}
use Rattle.std.proofs.lemmas.List.Elements.{All-append}
use Rattle.grib_bits.proofs.OctetBits.{AreOctets}
use Rattle.grib_base.specs.declared.code.Code.{Code}
use Rattle.grib_bits.specs.Encoding.{octets_of, section_of}
use Rattle.grib_bits.proofs.Encoding.{All-octets_of, num_on-octets_of, StatesItself-section_of}
use Rattle.grib_packing.specs.declared.column.Column.{Column}
use Rattle.grib_packing.specs.Groupings.{length_bits, width_bits_of}
use Rattle.grib_packing.specs.Packed.{HasLayout, HasNumbers}
use Rattle.grib_packing.proofs.Sections.{AreOctets-all}
use Rattle.grib_packing.specs.Sections.{number_octets}
use Rattle.grib_complex.specs.Written.{layout_octets}
use Rattle.grib_packed.specs.Written.{HasWords, layout_with}
use Rattle.grib_packed.proofs.Octets.{below-section, next}

-- ---- octets below 256

record AreBelow (xs : List ℕ) : Type 0 where
  each : All (λ octet. octet < 256) xs

one : (k n : ℕ) → AreBelow (octets_of k n)
one k n = record { each = All-octets_of k n }

behind : {xs ys : List ℕ} → AreBelow xs → AreBelow ys → AreBelow (xs ++ ys)
behind {xs} {ys} first second = record { each = All-append (λ octet. octet < 256) xs ys first.each second.each }

pub below-numbers : (column : Column) (values template bit_width kind : ℕ) → All (λ octet. octet < 256) (number_octets column values template bit_width kind)
below-numbers column values template bit_width kind =
    let all =
    behind (one 4 values) (behind (one 2 template) (behind (one 4 column.reference) (behind (one 2 column.e) (behind (one 2 column.d) (behind (one 1 bit_width) (one 1 kind)))))) in
    all.each

pub below-layout : (k : ℕ) (codes : List Code) (lengths : List ℕ) → All (λ octet. octet < 256) (layout_octets (layout_with k codes lengths))
below-layout k codes lengths =
    let all =
    behind (one 1 1) (behind (one 1 k) (behind (one 4 4294967295) (behind (one 4 4294967295) (behind (one 4 (length lengths)) (behind (one 1 0)
    (behind (one 1 (width_bits_of k codes)) (behind (one 4 1) (behind (one 1 1) (behind (one 4 (get_or lengths (length lengths - 1) 0)) (one 1 length_bits)))))))))) in
    all.each

-- ---- the numbers stand in the section that is made of them

pub has_numbers : (column : Column) (values template bit_width kind : ℕ) (rest : List ℕ) → HasWords column → values < 2 ^ 32 → template < 2 ^ 16 → bit_width < 256 → kind < 256
    → All (λ octet. octet < 256) rest → length rest < 1000
    → HasNumbers (section_of 5 (number_octets column values template bit_width kind ++ rest)) column values template bit_width kind
has_numbers column values template bit_width kind rest words few known narrow kind_fits each short = record {
  itself = StatesItself-section_of 5 (number_octets column values template bit_width kind ++ rest) (omega arith);
  are_octets = below-section 5 (number_octets column values template bit_width kind ++ rest) (omega arith)
      (All-append (λ octet. octet < 256) (number_octets column values template bit_width kind) rest (below-numbers column values template bit_width kind) each);
  values_stand = num_on-octets_of 4 values (omega arith);
  template_stands = num_on-octets_of 2 template (omega arith);
  reference_stands = num_on-octets_of 4 column.reference (omega (arith, words.reference));
  binary_scale_stands = num_on-octets_of 2 column.e (omega (arith, words.binary_scale));
  decimal_scale_stands = num_on-octets_of 2 column.d (omega (arith, words.decimal_scale));
  bit_width_stands = num_on-octets_of 1 bit_width (omega arith);
  kind_stands = num_on-octets_of 1 kind (omega arith);
}

pub has_layout : (column : Column) (values template bit_width kind k : ℕ) (codes : List Code) (lengths rest : List ℕ) → k < 256 → length lengths < 2 ^ 32
    → width_bits_of k codes < 256 → get_or lengths (length lengths - 1) 0 < 2 ^ 32
    → HasLayout (section_of 5 (number_octets column values template bit_width kind ++ (layout_octets (layout_with k codes lengths) ++ rest))) k codes lengths
has_layout column values template bit_width kind k codes lengths rest small few narrow last = record {
  splitting = num_on-octets_of 1 1 (omega arith);
  management = num_on-octets_of 1 k (omega arith);
  primary = num_on-octets_of 4 4294967295 (omega arith);
  secondary = num_on-octets_of 4 4294967295 (omega arith);
  groups = num_on-octets_of 4 (length lengths) (omega arith);
  width_reference = num_on-octets_of 1 0 (omega arith);
  width_bits = num_on-octets_of 1 (width_bits_of k codes) (omega arith);
  length_reference = num_on-octets_of 4 1 (omega arith);
  length_increment = num_on-octets_of 1 1 (omega arith);
  last_length = num_on-octets_of 4 (get_or lengths (length lengths - 1) 0) (omega arith);
  coded_length_bits = num_on-octets_of 1 length_bits (omega arith);
}

-- ---- and a section with these numbers is made of them

-- octets 1 to 21
pub numbers_front : (s : List ℕ) (column : Column) (values template bit_width kind : ℕ) → 21 ≤ length s → HasNumbers s column values template bit_width kind
    → s ≡ octets_of 4 (length s) ++ (octets_of 1 5 ++ (number_octets column values template bit_width kind ++ drop 21 s))
numbers_front s column values template bit_width kind long h =
    let known = AreOctets-all s h.are_octets in
    let kinds = next s known 20 1 kind (omega arith) h.kind_stands in
    let widths = next s known 19 1 bit_width (omega arith) h.bit_width_stands ∙ ap (λ r. octets_of 1 bit_width ++ r) kinds in
    let decimal = next s known 17 2 column.d (omega arith) h.decimal_scale_stands ∙ ap (λ r. octets_of 2 column.d ++ r) widths in
    let binary = next s known 15 2 column.e (omega arith) h.binary_scale_stands ∙ ap (λ r. octets_of 2 column.e ++ r) decimal in
    let reference = next s known 11 4 column.reference (omega arith) h.reference_stands ∙ ap (λ r. octets_of 4 column.reference ++ r) binary in
    let templates = next s known 9 2 template (omega arith) h.template_stands ∙ ap (λ r. octets_of 2 template ++ r) reference in
    let counts = next s known 5 4 values (omega arith) h.values_stand ∙ ap (λ r. octets_of 4 values ++ r) templates in
    let five = next s known 4 1 5 (omega arith) h.itself.number_stands ∙ ap (λ r. octets_of 1 5 ++ r) counts in
    next s known 0 4 (length s) (omega arith) h.itself.length_stands ∙ ap (λ r. octets_of 4 (length s) ++ r) five

-- octets 22 to 47
pub layout_front : (s : List ℕ) (k : ℕ) (codes : List Code) (lengths : List ℕ) → AreOctets s → 47 ≤ length s → HasLayout s k codes lengths
    → drop 21 s ≡ layout_octets (layout_with k codes lengths) ++ drop 47 s
layout_front s k codes lengths known long h =
    let coded = next s known 46 1 length_bits (omega arith) h.coded_length_bits in
    let last = next s known 42 4 (get_or lengths (length lengths - 1) 0) (omega arith) h.last_length ∙ ap (λ r. octets_of 4 (get_or lengths (length lengths - 1) 0) ++ r) coded in
    let increment = next s known 41 1 1 (omega arith) h.length_increment ∙ ap (λ r. octets_of 1 1 ++ r) last in
    let reference = next s known 37 4 1 (omega arith) h.length_reference ∙ ap (λ r. octets_of 4 1 ++ r) increment in
    let widths = next s known 36 1 (width_bits_of k codes) (omega arith) h.width_bits ∙ ap (λ r. octets_of 1 (width_bits_of k codes) ++ r) reference in
    let width = next s known 35 1 0 (omega arith) h.width_reference ∙ ap (λ r. octets_of 1 0 ++ r) widths in
    let groups = next s known 31 4 (length lengths) (omega arith) h.groups ∙ ap (λ r. octets_of 4 (length lengths) ++ r) width in
    let secondary = next s known 27 4 4294967295 (omega arith) h.secondary ∙ ap (λ r. octets_of 4 4294967295 ++ r) groups in
    let primary = next s known 23 4 4294967295 (omega arith) h.primary ∙ ap (λ r. octets_of 4 4294967295 ++ r) secondary in
    let management = next s known 22 1 k (omega arith) h.management ∙ ap (λ r. octets_of 1 k ++ r) primary in
    next s known 21 1 1 (omega arith) h.splitting ∙ ap (λ r. octets_of 1 1 ++ r) management
