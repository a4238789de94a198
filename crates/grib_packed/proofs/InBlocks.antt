-- CCSDS packing: its sections are what packing has to write, nothing else is, and they have few octets.
use Rattle.std.proofs.Common.{◌≡◌, ◌⊎◌, inl, inr, ℕ, ◌+◌, ◌-◌, ◌*◌, ◌/◌, ◌%◌, ◌^◌, ◌<◌, ◌≤◌, ◌==◌, Bool, true, false, cond, None, List, [], ◌++◌, length, drop, All, refl, ap, ap₂, ◌∙◌, arith}
use Rattle.std.specs.List.{list_any}
use Rattle.std.proofs.lemmas.Bool.Decides.{nat_tests}
use Rattle.std.proofs.lemmas.List.{drop_all}
use Rattle.std.proofs.lemmas.List.Elements.{All-append}
use Rattle.grib_bits.specs.Bits.{bits_of}
use Rattle.grib_bits.proofs.OctetBits.{AreOctets}
use Rattle.grib_bits.specs.Encoding.{octets_of, section_of}
use Rattle.grib_bits.proofs.Encoding.{All-octets_of, num_on-octets_of}
use Rattle.grib_base.specs.declared.limits.TheConstants.{MOST_POINTS}
use Rattle.grib_coding.specs.declared.coding.Coding.{Coding}
use Rattle.grib_coding.specs.Written.{written}
use Rattle.grib_packing.specs.declared.column.Point.{Point}
use Rattle.grib_packing.specs.declared.column.Column.{Column}
use Rattle.grib_packing.specs.Groupings.{greatest}
use Rattle.grib_packing.specs.Misfits.{ToCoded, first_misfit, is_missing}
use Rattle.grib_packing.specs.Packed.{HasCoding, IsCoded, HasNumbers, blocks_written, coding_to, present_bits, simple_numbers, simple_width}
use Rattle.grib_packing.proofs.Digits.{digits-most_64}
use Rattle.grib_packing.proofs.Sections.{AreOctets-all}
use Rattle.grib_packing.specs.Sections.{number_octets}
use Rattle.grib_packing.specs.Written.{IsBlocks, MayBePacked}
use Rattle.grib_simple.proofs.Fitting.{few_numbers, greatest_most}
use Rattle.grib_packed.specs.Written.{HasWords, coded_sections, coding_octets}
use Rattle.grib_packed.proofs.Blocks.{written_few}
use Rattle.grib_packed.proofs.Numbers.{has_numbers, numbers_front}
use Rattle.grib_packed.proofs.Octets.{has_contents, length-section, next, only_contents}
use Rattle.grib_packed.proofs.Written.{bitmap_few}

-- ---- numbers that fit

pub width_few : (block interval : ℕ) (points : List Point) → first_misfit (ToCoded block interval) points ≡ None → simple_width points ≤ 32
width_few block interval points none =
    let most = greatest_most (2 ^ 32 - 1) points none in
    digits-most_64 (greatest (simple_numbers points)) 32 (omega arith) (omega (arith, most))

-- ---- the bits of the blocks

block_sizes : (block : ℕ) → (block ≡ 8) ⊎ ((block ≡ 16) ⊎ ((block ≡ 32) ⊎ (block ≡ 64))) → (8 ≤ block) × (block ≤ 64) × (block % 2 ≡ 0)
block_sizes block (inl is) = (omega arith, omega arith, omega arith)
block_sizes block (inr (inl is)) = (omega arith, omega arith, omega arith)
block_sizes block (inr (inr (inl is))) = (omega arith, omega arith, omega arith)
block_sizes block (inr (inr (inr is))) = (omega arith, omega arith, omega arith)

either_few : (c : Coding) (numbers : List ℕ) (none : Bool) → (c.bits == 0) ≡ none → 8 ≤ c.block → c.block ≤ 64 → c.block % 2 ≡ 0 → c.bits ≤ 32
    → length (cond none [] (written c numbers)) ≤ 5 * ((length numbers + 63) / 8) + 32 * (length numbers + 63)
either_few c numbers true none eight most even few = omega arith
either_few c numbers false none eight most even few =
    let some : 1 ≤ c.bits = grind (arith, nat_tests) in
    written_few c numbers (record { eight = eight; even = even; some_bits = some }) most few

pub blocks_few : (block interval : ℕ) (points : List Point) → IsBlocks block interval → first_misfit (ToCoded block interval) points ≡ None
    → length (blocks_written (coding_to block interval points) (simple_numbers points)) ≤ 5 * ((length points + 63) / 8) + 32 * (length points + 63)
blocks_few block interval points known none =
    let c = coding_to block interval points in
    let size = block_sizes block known.0 in
    omega (
      arith,
      few_numbers points,
      either_few c (simple_numbers points) (c.bits == 0) refl size.0 size.1 size.2 (width_few block interval points none),
    )

-- ---- octets 22 to 25

below-coding : (c : Coding) → All (λ octet. octet < 256) (coding_octets c)
below-coding c =
    All-append (λ octet. octet < 256) (octets_of 1 c.flags) (octets_of 1 c.block ++ octets_of 2 c.interval) (All-octets_of 1 c.flags)
    (All-append (λ octet. octet < 256) (octets_of 1 c.block) (octets_of 2 c.interval) (All-octets_of 1 c.block) (All-octets_of 2 c.interval))

has_coding : (column : Column) (values template bit_width kind : ℕ) (c : Coding) → c.flags < 256 → c.block < 256 → c.interval < 2 ^ 16
    → HasCoding (section_of 5 (number_octets column values template bit_width kind ++ coding_octets c)) c
has_coding column values template bit_width kind c flags block interval = record {
  flags = num_on-octets_of 1 c.flags (omega (arith, flags));
  block = num_on-octets_of 1 c.block (omega (arith, block));
  interval = num_on-octets_of 2 c.interval (omega (arith, interval));
}

coding_front : (s : List ℕ) (c : Coding) → AreOctets s → length s ≡ 25 → HasCoding s c → drop 21 s ≡ coding_octets c
coding_front s c known long h =
    let interval = next s known 23 2 c.interval (omega arith) h.interval ∙ ap (λ r. octets_of 2 c.interval ++ r) (drop_all 25 s (omega arith)) in
    let block = next s known 22 1 c.block (omega arith) h.block ∙ ap (λ r. octets_of 1 c.block ++ r) interval in
    next s known 21 1 c.flags (omega arith) h.flags ∙ ap (λ r. octets_of 1 c.flags ++ r) block

-- ---- the sections

pub coded_written : (block interval : ℕ) (column : Column) (kind : ℕ) → IsBlocks block interval → MayBePacked column → HasWords column → kind < 256
    → first_misfit (ToCoded block interval) column.points ≡ None
    → let p = coded_sections block interval column kind in IsCoded block interval column kind p.section5 p.section6 p.section7
coded_written block interval column kind known may words small none =
    let points = column.points in
    let c = coding_to block interval points in
    let few : length points ≤ MOST_POINTS = may.few in
    let narrow = width_few block interval points none in
    let size = block_sizes block known.0 in
    record {
      as_long = refl;
      numbers = has_numbers column (length (simple_numbers points)) 42 c.bits kind (coding_octets c) words (omega (arith, few, few_numbers points)) (omega arith)
          (omega (arith, narrow)) small (below-coding c) (omega arith);
      coding = has_coding column (length (simple_numbers points)) 42 c.bits kind c (omega arith) (omega (arith, size.1)) (omega (arith, known.2));
      bitmap = has_contents 6 (cond (list_any is_missing points) (bits_of 8 0 ++ present_bits points) (bits_of 8 255)) (omega arith) (omega (arith, few, bitmap_few points few));
      values = has_contents 7 (blocks_written c (simple_numbers points)) (omega arith) (omega (arith, few, blocks_few block interval points known none));
    }

coded_section : (s : List ℕ) (column : Column) (values template bit_width kind : ℕ) (c : Coding) → length s ≡ 25
    → HasNumbers s column values template bit_width kind → HasCoding s c
    → s ≡ section_of 5 (number_octets column values template bit_width kind ++ coding_octets c)
coded_section s column values template bit_width kind c long numbers coding =
    numbers_front s column values template bit_width kind (omega arith) numbers
    ∙ ap₂ (λ (n : ℕ) (r : List ℕ). octets_of 4 n ++ (octets_of 1 5 ++ (number_octets column values template bit_width kind ++ r)))
    long (coding_front s c (AreOctets-all s numbers.are_octets) long coding)

pub coded_only : (block interval : ℕ) (column : Column) (kind : ℕ) (s5 s6 s7 : List ℕ) → IsCoded block interval column kind s5 s6 s7
    → let p = coded_sections block interval column kind in (s5 ≡ p.section5) × (s6 ≡ p.section6) × (s7 ≡ p.section7)
coded_only block interval column kind s5 s6 s7 h =
    let points = column.points in
    let c = coding_to block interval points in (
      coded_section s5 column (length (simple_numbers points)) 42 c.bits kind c h.as_long h.numbers h.coding,
      only_contents 6 s6 (cond (list_any is_missing points) (bits_of 8 0 ++ present_bits points) (bits_of 8 255)) (omega arith) h.bitmap,
      only_contents 7 s7 (blocks_written c (simple_numbers points)) (omega arith) h.values,
    )

pub coded_short : (block interval : ℕ) (column : Column) (kind : ℕ) → IsBlocks block interval → MayBePacked column
    → first_misfit (ToCoded block interval) column.points ≡ None
    → let p = coded_sections block interval column kind in length p.section5 + length p.section6 + length p.section7 ≤ 11 * length column.points + 300
coded_short block interval column kind known may none =
    let points = column.points in
    let bitmap : List Bool = cond (list_any is_missing points) (bits_of 8 0 ++ present_bits points) (bits_of 8 255) in
    let contents = blocks_written (coding_to block interval points) (simple_numbers points) in
    omega (arith, length-section 6 bitmap, length-section 7 contents, bitmap_few points may.few, blocks_few block interval points known none)
