-- A Section 5 of template 5.42 that is accepted.
use Rattle.std.proofs.Common.{◌≡◌, ℕ, ◌≤◌, ◌<◌, ◌==◌, ◌&&◌, ◌||◌, Bool, true, false, not, None, List, refl, sym, ap, ◌∙◌, arith, subst, nat_lt}
use Rattle.std.proofs.lemmas.Bool.{lt-ltb, ltb-false, not-false}
use Rattle.std.proofs.lemmas.Bool.Decides.{nat_tests}
use Rattle.grib_base.proofs.Passing.{passes_from_none}
use Rattle.grib_coding.specs.declared.coding.Coding.{Coding}
use Rattle.grib_coding.specs.Coding.{Fits, has_flag, is_restricted}
use Rattle.grib_packing.specs.Coded.{coding_of, is_coded, is_block, are_flags_refused, coded_rules}
use Rattle.grib_packing.specs.Entries.{packing_fault}
use Rattle.grib_packing.specs.Packing.{packing_template, bit_width}
use Rattle.grib_block_feeding.specs.Blocks.{block_known}
use Rattle.grib_packing.proofs.Packings.{packing_shared, packing_fault-coded, packing_passes, most-coded}

-- what the rules let pass can be coded by
pub coding_fits : (s5 : List ℕ) (points : ℕ) (c : Coding) → c ≡ coding_of s5 → c.flags < 256 → 0 < c.bits → packing_template s5 ≡ 42
    → packing_fault s5 points ≡ None → Fits c
coding_fits s5 points c is small some template none =
    let shared = packing_shared s5 points none in
    let rules = passes_from_none (coded_rules s5) (sym (packing_fault-coded s5 points shared template) ∙ none) in
    let narrow = (packing_passes s5 points none).narrow in
    let most = most-coded (packing_template s5) template in
    let own = coding_of s5 in
    let bits : c.bits ≡ own.bits = ap (λ (x : Coding). x.bits) is in
    let coded : is_coded s5 ≡ true = lt-ltb 0 (bit_width s5) (omega (arith, some, bits)) in
    let refused : are_flags_refused own ≡ false = by_true (is_coded s5) (are_flags_refused own) coded rules.0 in
    let flags = four (has_flag own.flags 1) (has_flag own.flags 64) (has_flag own.flags 128) (is_restricted own && nat_lt 4 own.bits) refused in
    let block : not (is_block own.block) ≡ false = by_true (is_coded s5) (not (is_block own.block)) coded rules.1.0 in
    let interval : ((own.interval == 0) || nat_lt 4096 own.interval) ≡ false = by_true (is_coded s5) ((own.interval == 0) || nat_lt 4096 own.interval) coded rules.1.1.0 in
    let within = two (own.interval == 0) (nat_lt 4096 own.interval) interval in
    let high : own.flags < 256 = omega (arith, small, ap (λ (x : Coding). x.flags) is) in
    subst Fits (sym is) (record {
      some_bits = omega (arith, some, bits);
      most_bits = omega (arith, narrow, most);
      unsigned = flags.0;
      enforced = flags.1;
      seven_flags = seven own.flags high flags.2;
      restricted = λ short. short_bits (is_restricted own) own.bits short flags.3;
      block = block_known own.block (not-false (is_block own.block) block);
      some_blocks = above own.interval within.0;
      most_blocks = ltb-false 4096 own.interval within.1;
    })
  where
    by_true : (a b : Bool) → a ≡ true → (a && b) ≡ false → b ≡ false
    by_true true b is e = e
    by_true false b is e = cc

    two : (a b : Bool) → (a || b) ≡ false → (a ≡ false) × (b ≡ false)
    two true b e = cc
    two false b e = (refl, e)

    four : (a b c d : Bool) → (a || (b || (c || d))) ≡ false → (a ≡ false) × (b ≡ false) × (c ≡ false) × (d ≡ false)
    four true b c d e = cc
    four false true c d e = cc
    four false false true d e = cc
    four false false false d e = (refl, refl, refl, e)

    seven : (flags : ℕ) → flags < 256 → has_flag flags 128 ≡ false → flags ≤ 127
    seven flags high e = grind (arith, nat_tests)

    short_bits : (short : Bool) (bits : ℕ) → short ≡ true → (short && nat_lt 4 bits) ≡ false → bits ≤ 4
    short_bits true bits is e = ltb-false 4 bits e
    short_bits false bits is e = cc

    above : (n : ℕ) → (n == 0) ≡ false → 1 ≤ n
    above n e = grind (arith, nat_tests)
