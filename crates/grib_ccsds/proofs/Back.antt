-- What is packed in blocks unpacks to the same column.
use Rattle.std.proofs.Common.{◌≡◌, ◌⊎◌, inl, inr, ℕ, zero, suc, ◌-◌, ◌^◌, ◌<◌, ◌≤◌, ◌==◌, ◌&&◌, ◌||◌, Bool, true, false, not, None, nat_lt, List, [], ◌∷◌, length, drop, map, replicate, All, refl, sym, ap, ap₂, ◌∙◌, arith, subst, subst₂}
use Rattle.std.proofs.lemmas.Bool.{lt-ltb, le-ltb, cases_lt, ne_eqb}
use Rattle.std.proofs.lemmas.List.Elements.{All-head, All-tail}
use Rattle.grib_bits.specs.Bits.{bits}
use Rattle.grib_bits.specs.Written.{padding}
use Rattle.grib_base.specs.Rules.{first_fault}
use Rattle.grib_base.proofs.Passing.{none_from_passes}
use Rattle.grib_coding.specs.declared.coding.Coding.{Coding}
use Rattle.grib_coding.specs.Numbers.{numbers_told, told_after}
use Rattle.grib_coding.specs.Reading.{Decoded, decoded, read_as}
use Rattle.grib_coding.proofs.Told.{found_again}
use Rattle.grib_packing.specs.declared.column.Column.{Column}
use Rattle.grib_packing.specs.declared.column.Point.{Point}
use Rattle.grib_packing.specs.Coded.{coding_of, is_coded, is_block, are_flags_refused, coded_rules, point_of, coded_numbers, decoded_of, block_refusal}
use Rattle.grib_packing.specs.Column.{points_with_mask}
use Rattle.grib_packing.specs.Entries.{packing_fault, data_fault, entries_of, column_from}
use Rattle.grib_packing.specs.Misfits.{ToCoded, first_misfit}
use Rattle.grib_packing.specs.Packed.{IsCoded, blocks_written, coding_to, padded, present_bits, simple_numbers, simple_width}
use Rattle.grib_packing.specs.Packing.{bit_width}
use Rattle.grib_packing.specs.Written.{IsBlocks, MayBePacked}
use Rattle.grib_packing.proofs.Packings.{packing_fault-coded}
use Rattle.grib_coding.specs.Written.{written}
use Rattle.grib_block_writing.proofs.Stream.{read_back}
use Rattle.grib_simple_reading.proofs.Accepted.{same_column}
use Rattle.grib_simple.proofs.Back.{points_again, shared_rules}
use Rattle.grib_simple.proofs.Fitting.{few_numbers, nothing_fails}
use Rattle.grib_block_feeding.proofs.Values.{fault_by, entries_by}
use Rattle.grib_ccsds.proofs.ToCode.{column_fits, column_within, width_holds, width_most}

-- ---- the rules of Section 5

and_false : (a b : Bool) → b ≡ false → (a && b) ≡ false
and_false true b e = e
and_false false b e = refl

known_block : (j : ℕ) → (j ≡ 8) ⊎ ((j ≡ 16) ⊎ ((j ≡ 32) ⊎ (j ≡ 64))) → not (is_block j) ≡ false
known_block j (inl is) = ap (λ (n : ℕ). not (is_block n)) is
known_block j (inr (inl is)) = ap (λ (n : ℕ). not (is_block n)) is
known_block j (inr (inr (inl is))) = ap (λ (n : ℕ). not (is_block n)) is
known_block j (inr (inr (inr is))) = ap (λ (n : ℕ). not (is_block n)) is

known_interval : (n : ℕ) → 1 ≤ n → n ≤ 4096 → ((n == 0) || nat_lt 4096 n) ≡ false
known_interval n some most = ap₂ ◌||◌ (ne_eqb n 0 (λ z. omega arith)) (le-ltb 4096 n most)

known_flags : (c : Coding) → c.flags ≡ 14 → are_flags_refused c ≡ false
known_flags c is = ap (λ (f : ℕ). are_flags_refused (record { bits = c.bits; flags = f; block = c.block; interval = c.interval })) is

rules_pass : (s : List ℕ) → (coding_of s).flags ≡ 14 → IsBlocks (coding_of s).block (coding_of s).interval → first_fault (coded_rules s) ≡ None
rules_pass s flags blocks =
    let c = coding_of s in
    none_from_passes (coded_rules s) (
      and_false (is_coded s) (are_flags_refused c) (known_flags c flags),
      (
        and_false (is_coded s) (not (is_block c.block)) (known_block c.block blocks.0),
        (and_false (is_coded s) ((c.interval == 0) || nat_lt 4096 c.interval) (known_interval c.interval blocks.1 blocks.2), tt),
      ),
    )

-- ---- numbers of no bits

all_zero : (ns : List ℕ) → All (λ n. n < 1) ns → ns ≡ replicate (length ns) 0
all_zero [] each = refl
all_zero (n ∷ ns) each =
    let here : n < 1 = All-head (λ k. k < 1) n ns each in
    let none : n ≡ 0 = omega arith in
    ap₂ (λ (k : ℕ) (ks : List ℕ). k ∷ ks) none (all_zero ns (All-tail (λ k. k < 1) n ns each))

map_replicate : (n : ℕ) → map point_of (replicate n 0) ≡ replicate n (point_of 0)
map_replicate zero = refl
map_replicate (suc n) = ap (λ (ps : List Point). point_of 0 ∷ ps) (map_replicate n)

-- ---- the column

module _ (block interval : ℕ) (column : Column) (kind : ℕ) (s5 s6 s7 : List ℕ) (may : MayBePacked column) (blocks : IsBlocks block interval) (none : first_misfit (ToCoded block interval) column.points ≡ None) (h : IsCoded block interval column kind s5 s6 s7) where
  pub accepted : packing_fault s5 (length column.points) ≡ None
  accepted =
      let points = column.points in
      let shared = shared_rules s5 column (length points) (length (simple_numbers points)) 42 (simple_width points) kind h.numbers
      refl (omega (arith, h.as_long)) (omega (arith, h.as_long)) (few_numbers points) may.finite (width_most points none) in
      packing_fault-coded s5 (length points) shared h.numbers.template_stands
      ∙ rules_pass s5 h.coding.flags (subst₂ IsBlocks (sym h.coding.block) (sym h.coding.interval) blocks)

  coding_is : coding_of s5 ≡ coding_to block interval column.points
  coding_is = λ i. record { bits = h.numbers.bit_width_stands i; flags = h.coding.flags i; block = h.coding.block i; interval = h.coding.interval i }

  -- what is read of numbers that have bits
  read_again : 1 ≤ simple_width column.points → decoded_of s5 s7 ≡ read_as (coding_to block interval column.points) (simple_numbers column.points)
  read_again some =
      let numbers = simple_numbers column.points in
      let c = coding_to block interval column.points in
      let coded : blocks_written c numbers ≡ written c numbers = rw (ne_eqb c.bits 0 (λ z. omega arith)) refl in
      ap₂ (λ (x : Coding) (n : ℕ). decoded x n (bits (drop 5 s7))) coding_is h.numbers.values_stand
      ∙ ap (decoded c (length numbers)) (h.values.contents_stand ∙ ap padded coded)
      ∙ read_back c numbers (replicate (padding (written c numbers)) false) (column_fits column.points none block interval blocks some) refl
      (column_within column.points none block interval blocks)

  some_bits : 1 ≤ simple_width column.points → (data_fault s5 s7 ≡ None) × (entries_of s5 s7 ≡ map point_of (simple_numbers column.points))
  some_bits some =
      let numbers = simple_numbers column.points in
      let c = coding_to block interval column.points in
      let coded : is_coded s5 ≡ true = lt-ltb 0 (bit_width s5) (omega (arith, some, h.numbers.bit_width_stands)) in
      let read = read_again some in
      let told : coded_numbers s5 s7 ≡ numbers =
      ap₂ (λ (x : Coding) (d : Decoded). numbers_told x 0 d.entries) coding_is read
      ∙ found_again c (told_after c 0 0 numbers) numbers (record { within = column_within column.points none block interval blocks; entries_stand = refl }) in (
        fault_by s5 s7 true h.numbers.template_stands coded ∙ ap (λ (d : Decoded). block_refusal (length s7) d.fault) read,
        entries_by s5 s7 true h.numbers.template_stands coded ∙ ap (map point_of) told,
      )

  no_bits : simple_width column.points ≡ 0 → (data_fault s5 s7 ≡ None) × (entries_of s5 s7 ≡ map point_of (simple_numbers column.points))
  no_bits nothing =
      let numbers = simple_numbers column.points in
      let uncoded : is_coded s5 ≡ false = ap (λ (w : ℕ). nat_lt 0 w) (h.numbers.bit_width_stands ∙ nothing) in
      let zeros = all_zero numbers (subst (λ (w : ℕ). All (λ n. n < 2 ^ w) numbers) nothing (width_holds column.points none)) in (
        fault_by s5 s7 false h.numbers.template_stands uncoded,
        entries_by s5 s7 false h.numbers.template_stands uncoded ∙ ap (λ (n : ℕ). replicate n (point_of 0)) h.numbers.values_stand
            ∙ sym (map_replicate (length numbers)) ∙ ap (map point_of) (sym zeros),
      )

  pub values_back : (data_fault s5 s7 ≡ None) × (entries_of s5 s7 ≡ map point_of (simple_numbers column.points))
  values_back = elim (cases_lt 0 (simple_width column.points)) [
    | inl some ↦ some_bits some
    | inr nothing ↦ no_bits (omega arith)
  ]

  pub column_back : (mask : List Bool) → mask ≡ present_bits column.points → column_from s5 mask s7 ≡ column
  column_back mask is =
      let marks = nothing_fails (2 ^ 32 - 1) column.points none in
      let values = values_back in
      let points : points_with_mask mask (entries_of s5 s7) ≡ column.points =
      ap₂ points_with_mask is values.1 ∙ points_again (2 ^ 32 - 1) column.points marks.0 marks.1 in
      sym (same_column s5 column.reference column.e column.d column.points (points_with_mask mask (entries_of s5 s7))
      (sym h.numbers.reference_stands) (sym h.numbers.binary_scale_stands) (sym h.numbers.decimal_scale_stands) (sym points))
