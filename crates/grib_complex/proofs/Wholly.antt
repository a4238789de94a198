-- Lemmas on sections of complex packing that are written.
use Rattle.std.proofs.Common.{◌≡◌, ℕ, ◌+◌, ◌*◌, ◌%◌, ◌^◌, ◌<◌, Bool, false, List, [], ◌++◌, length, replicate, All, sym, ap, ◌∙◌, arith, subst, subst₂}
use Rattle.std.proofs.lemmas.List.{append-nil}
use Rattle.grib_bits.specs.Bits.{bits}
use Rattle.grib_bits.specs.Written.{padding}
use Rattle.grib_base.specs.declared.code.Code.{Code}
use Rattle.grib_packing.specs.declared.column.Column.{Column}
use Rattle.grib_packing.specs.declared.layout.Layout.{Layout}
use Rattle.grib_packing.specs.Groupings.{Chosen, header_bits, width_of, width_bits_of, reference_bits_of}
use Rattle.grib_packing.specs.Misfits.{ToComplex, management_of}
use Rattle.grib_packing.specs.Packed.{HasContents, HasLayout, HasNumbers, IsComplex, group_parts, no_bitmap_section, padded, target_codes}
use Rattle.grib_packing.proofs.Sections.{head_of, has_contents}
use Rattle.grib_groups.specs.Encoding.{LaysOut}
use Rattle.grib_complex.specs.Written.{HasLayoutOf}

-- whole octets need no padding
pub padded-whole : (xs : List Bool) → length xs % 8 ≡ 0 → padded xs ≡ xs
padded-whole xs whole =
    let none : padding xs ≡ 0 = omega arith in
    ap (λ (n : ℕ). xs ++ replicate n false) none ∙ append-nil xs

pub contents_whole : (s : List ℕ) (number n : ℕ) (contents : List Bool) → All (λ octet. octet < 256) s → number < 256 → n < 2 ^ 32
    → 8 * n ≡ 40 + length contents → bits s ≡ bits (head_of n number) ++ contents → HasContents number s contents
contents_whole s number n contents each small short long is =
    let whole : length contents % 8 ≡ 0 = omega arith in
    let same = padded-whole contents whole in
    has_contents s number n contents each small short (long ∙ ap (λ xs. 40 + length xs) (sym same)) (is ∙ ap (λ xs. bits (head_of n number) ++ xs) (sym same))

-- octets 22 to 47 of a layout of groups
pub has_layout : (s : List ℕ) (layout : Layout) (k : ℕ) (codes : List Code) (lengths : List ℕ) → HasLayoutOf s layout → LaysOut layout codes lengths → layout.management ≡ k
    → HasLayout s k codes lengths
has_layout s layout k codes lengths has h same = record {
  splitting = has.splitting;
  management = ap (λ (l : Layout). l.management) has.laid_out ∙ same;
  primary = has.primary;
  secondary = has.secondary;
  groups = ap (λ (l : Layout). l.groups) has.laid_out ∙ h.groups;
  width_reference = ap (λ (l : Layout). l.width_reference) has.laid_out ∙ h.width_reference;
  width_bits = ap (λ (l : Layout). l.width_bits) has.laid_out ∙ h.width_bits ∙ ap (λ (j : ℕ). width_bits_of j codes) same;
  length_reference = ap (λ (l : Layout). l.length_reference) has.laid_out ∙ h.length_reference;
  length_increment = ap (λ (l : Layout). l.length_increment) has.laid_out ∙ h.length_increment;
  last_length = ap (λ (l : Layout). l.last_length) has.laid_out ∙ h.last_length;
  coded_length_bits = ap (λ (l : Layout). l.length_bits) has.laid_out ∙ h.coded_length_bits;
}

-- the bits of references
pub references_are : (layout : Layout) (k : ℕ) (codes : List Code) (lengths : List ℕ) → LaysOut layout codes lengths → layout.management ≡ k → layout.reference_bits ≡ reference_bits_of k codes
references_are layout k codes lengths h same = h.reference_bits ∙ ap (λ (j : ℕ). reference_bits_of j codes) same

-- the sections of groups of these codes, behind other fields of Section 7
pub record GroupedBy (column : Column) (kind template k : ℕ) (codes : List Code) (front : List Bool) (s5 s6 s7 : List ℕ) : Type 0 where
  pub lengths : List ℕ
  pub numbers : HasNumbers s5 column (length column.points) template (reference_bits_of k codes) kind
  pub layout : HasLayout s5 k codes lengths
  pub chosen : Chosen (header_bits k codes) (width_of k) codes lengths
  pub bitmap : s6 ≡ no_bitmap_section
  pub values : HasContents 7 s7 (front ++ group_parts k codes lengths)

pub grouped_by : (column : Column) (kind template k values : ℕ) (codes : List Code) (lengths : List ℕ) (layout : Layout) (front : List Bool) (s5 s6 s7 : List ℕ)
    → values ≡ length column.points → LaysOut layout codes lengths → layout.management ≡ k → Chosen (header_bits k codes) (width_of k) codes lengths
    → HasNumbers s5 column values template layout.reference_bits kind → HasLayoutOf s5 layout → s6 ≡ no_bitmap_section
    → HasContents 7 s7 (front ++ group_parts layout.management codes lengths) → GroupedBy column kind template k codes front s5 s6 s7
grouped_by column kind template k values codes lengths layout front s5 s6 s7 is_values laid same chosen numbers has bitmap contents = record {
  lengths = lengths;
  numbers = subst₂ (λ (n b : ℕ). HasNumbers s5 column n template b kind) is_values (references_are layout k codes lengths laid same) numbers;
  layout = has_layout s5 layout k codes lengths has laid same;
  chosen = chosen;
  bitmap = bitmap;
  values = subst (λ (j : ℕ). HasContents 7 s7 (front ++ group_parts j codes lengths)) same contents;
}

pub is_complex : (column : Column) (kind k : ℕ) (codes : List Code) (s5 s6 s7 : List ℕ) → codes ≡ target_codes ToComplex column.points → k ≡ management_of column.points
    → length s5 ≡ 47 → GroupedBy column kind 2 k codes [] s5 s6 s7 → IsComplex column kind s5 s6 s7
is_complex column kind k codes s5 s6 s7 is_codes is_k long h =
    let g = subst₂ (λ (j : ℕ) (cs : List Code). GroupedBy column kind 2 j cs [] s5 s6 s7) is_k is_codes h in
    record { lengths = g.lengths; as_long = long; numbers = g.numbers; layout = g.layout; chosen = g.chosen; bitmap = g.bitmap; values = g.values }
