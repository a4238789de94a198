-- The numbers of accepted blocks are within the range of the columns that are packed.
use Rattle.std.proofs.Common.{◌≡◌, inl, inr, ℕ, ◌+◌, ◌-◌, ◌%◌, ◌^◌, ◌<◌, ◌≤◌, ◌==◌, ◌||◌, ◌&&◌, Bool, true, false, not, Option, Some, None, List, [], ◌∷◌, length, drop, map, replicate, All, nat_lt, refl, sym, ap, ◌∙◌, arith, subst, le-ltb, eqb-true, pow_mono}
use Rattle.std.proofs.lemmas.Bool.{not-false, or_cases}
use Rattle.std.proofs.lemmas.Bool.Decides.{nat_tests}
use Rattle.std.proofs.lemmas.List.Elements.{All-head, All-tail}
use Rattle.grib_bits.specs.Bits.{bits}
use Rattle.grib_base.specs.Rules.{choose}
use Rattle.grib_base.proofs.Passing.{passes_from_none}
use Rattle.grib_base.proofs.Places.{NoneOf}
use Rattle.grib_coding.specs.declared.fault.BlockFault.{BlockFault}
use Rattle.grib_coding.specs.declared.fault.BlockFault.TheVariants.{Short, Block, Value}
use Rattle.grib_coding.specs.Coding.{greatest}
use Rattle.grib_block_reading.proofs.Within.{told_within}
use Rattle.grib_packing.specs.Coded.{block_refusal, coded_data_fault, coded_numbers, coded_rules, coding_of, decoded_of, are_flags_refused, is_block, is_coded, point_of}
use Rattle.grib_packing.specs.Entries.{data_fault, is_out_of_range, packing_fault}
use Rattle.grib_packing.specs.Packing.{packing_template, bit_width, value_count}
use Rattle.grib_packing.proofs.Packings.{data_fault-coded, most-coded, packing_fault-coded, packing_passes, packing_shared}

-- ---- what the rules say

second_by : (a b : Bool) → a ≡ true → (a && b) ≡ false → b ≡ false
second_by true b is none = none
second_by false b is none = absurd (cc)

some_interval : (n : ℕ) → ((n == 0) || nat_lt 4096 n) ≡ false → 1 ≤ n
some_interval n none = grind (arith, nat_tests)

-- a block has an even count of values
even_block : (j : ℕ) → is_block j ≡ true → (2 ≤ j) × (j % 2 ≡ 0)
even_block j is = elim (or_cases (j == 8) ((j == 16) || ((j == 32) || (j == 64))) is) [
  | inl eight ↦ even 8 j (eqb-true j 8 eight) (omega arith) refl
  | inr more ↦ elim (or_cases (j == 16) ((j == 32) || (j == 64)) more) [
    | inl sixteen ↦ even 16 j (eqb-true j 16 sixteen) (omega arith) refl
    | inr last ↦ elim (or_cases (j == 32) (j == 64) last) [
      | inl half ↦ even 32 j (eqb-true j 32 half) (omega arith) refl
      | inr most ↦ even 64 j (eqb-true j 64 most) (omega arith) refl
    ]
  ]
] where
  even : (size j : ℕ) → j ≡ size → 2 ≤ size → size % 2 ≡ 0 → (2 ≤ j) × (j % 2 ≡ 0)
  even size j is some half = (omega (arith, is, some), ap (λ (n : ℕ). n % 2) is ∙ half)

no_refusal : (l : ℕ) (fault : Option BlockFault) → block_refusal l fault ≡ None → fault ≡ None
no_refusal l None none = refl
no_refusal l (Some Short) none = absurd (cc)
no_refusal l (Some (Block block)) none = absurd (cc)
no_refusal l (Some (Value value)) none = absurd (cc)

-- ---- the numbers

points_within : (most : ℕ) (numbers : List ℕ) → most ≤ 2 ^ 60 → All (λ number. number ≤ most) numbers → NoneOf is_out_of_range (map point_of numbers)
points_within most [] few all = tt
points_within most (number ∷ numbers) few all =
    let here : number ≤ most = All-head (λ n. n ≤ most) number numbers all in
    (le-ltb (2 ^ 60) number (omega (arith, here, few)), points_within most numbers few (All-tail (λ n. n ≤ most) number numbers all))

module _ (s5 s7 : List ℕ) (points : ℕ) (coded : packing_template s5 ≡ 42) (accepted : packing_fault s5 points ≡ None) (values : data_fault s5 s7 ≡ None)
    (some : is_coded s5 ≡ true) where
  numbers_small : All (λ number. number ≤ greatest (coding_of s5)) (coded_numbers s5 s7)
  numbers_small =
      let c = coding_of s5 in
      let rules = passes_from_none (coded_rules s5) (sym (packing_fault-coded s5 points (packing_shared s5 points accepted) coded) ∙ accepted) in
      let block = even_block c.block (not-false (is_block c.block) (second_by (is_coded s5) (not (is_block c.block)) some rules.1.0)) in
      let interval = some_interval c.interval (second_by (is_coded s5) ((c.interval == 0) || nat_lt 4096 c.interval) some rules.1.1.0) in
      let refusal : block_refusal (length s7) (decoded_of s5 s7).fault ≡ None =
      ap (λ (b : Bool). choose b (λ _. block_refusal (length s7) (decoded_of s5 s7).fault) (λ _. None)) (sym some) ∙ (sym (data_fault-coded s5 s7 coded) ∙ values) in
      told_within c (value_count s5) block.0 block.1 interval (bits (drop 5 s7)) (no_refusal (length s7) (decoded_of s5 s7).fault refusal)

  pub blocks_within : NoneOf is_out_of_range (map point_of (coded_numbers s5 s7))
  blocks_within =
      let narrow : bit_width s5 ≤ 32 = omega (arith, (packing_passes s5 points accepted).narrow, most-coded (packing_template s5) coded) in
      let power : 2 ^ bit_width s5 ≤ 2 ^ 32 = pow_mono narrow in
      points_within (greatest (coding_of s5)) (coded_numbers s5 s7) (omega (arith, power)) numbers_small
