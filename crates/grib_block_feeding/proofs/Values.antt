-- A Section 7 of template 7.42 that was read.
use Rattle.std.proofs.Common.{◌≡◌, ℕ, ◌+◌, Bool, true, false, Some, None, List, [], ◌∷◌, length, map, replicate, drop, refl, sym, ap, ◌∙◌, arith, subst, nat_lt}
use Rattle.std.proofs.lemmas.List.{length-map, length-replicate}
use Rattle.grib_bits.specs.Bits.{bits}
use Rattle.grib_base.specs.Rules.{choose}
use Rattle.grib_coding.specs.declared.coding.Coding.{Coding}
use Rattle.grib_coding.specs.Coding.{Fits}
use Rattle.grib_coding.specs.Numbers.{told_after}
use Rattle.grib_coding.proofs.Told.{found_again}
use Rattle.grib_packing.specs.declared.column.Point.{Point}
use Rattle.grib_packing.specs.Coded.{coding_of, is_coded, point_of, coded_numbers, decoded_of, block_refusal}
use Rattle.grib_packing.specs.Entries.{data_fault, entries_of}
use Rattle.grib_packing.specs.Packing.{packing_template, value_count, bit_width}
use Rattle.grib_packing.proofs.Packings.{data_fault-coded, entries_of-coded}
use Rattle.grib_block_reading.specs.Kept.{AreKept}
use Rattle.grib_block_reading.proofs.Counted.{all_told}

-- what is read of the values, by a choice that is known
pub fault_by : (s5 s7 : List ℕ) (b : Bool) → packing_template s5 ≡ 42 → is_coded s5 ≡ b
    → data_fault s5 s7 ≡ choose b (λ _. block_refusal (length s7) (decoded_of s5 s7).fault) (λ _. None)
fault_by s5 s7 b template is =
    data_fault-coded s5 s7 template ∙ ap (λ (c : Bool). choose c (λ _. block_refusal (length s7) (decoded_of s5 s7).fault) (λ _. None)) is

pub entries_by : (s5 s7 : List ℕ) (b : Bool) → packing_template s5 ≡ 42 → is_coded s5 ≡ b
    → entries_of s5 s7 ≡ choose b (λ _. map point_of (coded_numbers s5 s7)) (λ _. replicate (value_count s5) (point_of 0))
entries_by s5 s7 b template is =
    entries_of-coded s5 s7 template
    ∙ ap (λ (c : Bool). choose c (λ _. map point_of (coded_numbers s5 s7)) (λ _. replicate (value_count s5) (point_of 0))) is

-- all values were handed on, and nothing is wrong with Section 7
abbrev pub IsTaken : {K : Type 0} → (K → List Point → K → Type 0) → List ℕ → List ℕ → K → K → Type 0
IsTaken kept s5 s7 keeper after =
    (data_fault s5 s7 ≡ None) × kept keeper (entries_of s5 s7) after × (length (entries_of s5 s7) ≡ value_count s5)

pub length-told-after : (c : Coding) (place last : ℕ) (numbers : List ℕ) → length (told_after c place last numbers) ≡ length numbers
length-told-after c place last [] = refl
length-told-after c place last (number ∷ numbers) = let more = length-told-after c (place + 1) number numbers in omega (arith, more)

-- numbers of no bits are 0
pub zeros_taken : {K : Type 0} (kept : K → List Point → K → Type 0) (s5 s7 : List ℕ) (width count : ℕ) (keeper after : K) → packing_template s5 ≡ 42
    → width ≡ bit_width s5 → width ≡ 0 → count ≡ value_count s5 → kept keeper (replicate count (point_of 0)) after → IsTaken kept s5 s7 keeper after
zeros_taken kept s5 s7 width count keeper after template is_width none is_count all =
    let uncoded : is_coded s5 ≡ false = ap (λ (w : ℕ). nat_lt 0 w) (sym is_width ∙ none) in
    let entries = entries_by s5 s7 false template uncoded in (
      fault_by s5 s7 false template uncoded,
      subst (λ (ps : List Point). kept keeper ps after) (ap (λ (n : ℕ). replicate n (point_of 0)) is_count ∙ sym entries) all,
      ap length entries ∙ length-replicate (value_count s5) (point_of 0),
    )

module _ (s5 s7 : List ℕ) (template : packing_template s5 ≡ 42) (coded : is_coded s5 ≡ true) where
  -- the refusal of a Section 7 is that of its blocks
  pub blocks_fault : data_fault s5 s7 ≡ block_refusal (length s7) (decoded_of s5 s7).fault
  blocks_fault = fault_by s5 s7 true template coded

  -- what blocks without a fault tell is kept
  pub blocks_read : {K : Type 0} (kept : K → List Point → K → Type 0) (keeper after : K) → Fits (coding_of s5) → (decoded_of s5 s7).fault ≡ None
      → AreKept kept (coding_of s5) (decoded_of s5 s7).entries keeper after
      → IsTaken kept s5 s7 keeper after
  blocks_read {K} kept keeper after fits none are =
      let found : coded_numbers s5 s7 ≡ are.numbers = found_again (coding_of s5) (decoded_of s5 s7).entries are.numbers are.told in
      let points : entries_of s5 s7 ≡ map point_of are.numbers = entries_by s5 s7 true template coded ∙ ap (map point_of) found in
      let told = ap length are.told.entries_stand in (
        blocks_fault ∙ ap (block_refusal (length s7)) none,
        subst (λ (ps : List Point). kept keeper ps after) (sym points) are.passed,
        omega (arith, ap length points, length-map are.numbers point_of, told, length-told-after (coding_of s5) 0 0 are.numbers, all_told (coding_of s5) (value_count s5) (bits (drop 5 s7)) fits none),
      )
