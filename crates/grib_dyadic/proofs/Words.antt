-- The parts of a word, and what it stands for by them.
use Rattle.std.proofs.Common.{◌≡◌, ℕ, ◌+◌, ◌-◌, ◌*◌, ◌/◌, ◌^◌, ◌<◌, ◌≤◌, ◌⊎◌, ◌==◌, false, cond, pos, neg_ℤ, ◌-ℤ◌, refl, sym, ap, ◌∙◌, inl, inr, arith}
use Rattle.std.proofs.Math.Nat.{eq-zero-or-pos}
use Rattle.std.proofs.lemmas.Int.{ints}
use Rattle.std.proofs.lemmas.Bool.{cases_lt}
use Rattle.std.proofs.lemmas.Bool.Decides.{nat_tests}
use mathlib.Core.Logic.{⊎_elim}
use Rattle.grib_bits.specs.Binary32.{ieee_sign, ieee_exponent, ieee_fraction}
use Rattle.grib_dyadic.specs.Reference.{Binary, binary, with_sign, ieee, IsFinite, ibm, ibm_a, ibm_b}

-- ---- binary32

-- the word has this sign bit and stands for digits * 2 ^ (place - 149)
pub record IsIeeeWord (word sign place digits : ℕ) : Type 0 where
  pub bits : word ≡ sign * 2 ^ 31 + (place * 2 ^ 23 + digits)
  pub sign_bit : sign < 2
  pub in_range : place < 254
  pub below : digits < 2 ^ 24
  pub normal : (place ≡ 0) ⊎ (2 ^ 23 ≤ digits)

-- the three fields of a word that is made of them
pub ieee_fields : (word sign field fraction : ℕ) → sign < 2 → field < 256 → fraction < 2 ^ 23 → word ≡ sign * 2 ^ 31 + (field * 2 ^ 23 + fraction) → (ieee_sign word ≡ sign) × (ieee_exponent word ≡ field) × (ieee_fraction word ≡ fraction)
ieee_fields word sign field fraction p q r e = (omega arith, omega arith, omega arith)

-- the number of a word by its fields
abbrev ieee_of : ℕ → ℕ → ℕ → Binary
ieee_of sign field fraction =
    cond (field == 0) (binary (with_sign sign fraction) (neg_ℤ (pos 149))) (binary (with_sign sign (2 ^ 23 + fraction)) (pos field -ℤ pos 150))

ieee_of-same : (word sign field fraction : ℕ) → (ieee_sign word ≡ sign) × (ieee_exponent word ≡ field) × (ieee_fraction word ≡ fraction) → ieee word ≡ ieee_of sign field fraction
ieee_of-same word sign field fraction e =
    ap (λ s. ieee_of s (ieee_exponent word) (ieee_fraction word)) e.0 ∙ ap (λ f. ieee_of sign f (ieee_fraction word)) e.1 ∙ ap (λ r. ieee_of sign field r) e.2

-- what the word stands for
abbrev pub placed : ℕ → ℕ → ℕ → Binary
placed sign place digits = binary (with_sign sign digits) (pos place -ℤ pos 149)

some_test : (n : ℕ) → (n + 1 == 0) ≡ false
some_test n = grind (arith, nat_tests)

ieee_of-normal : (sign place fraction : ℕ) → ieee_of sign (place + 1) fraction ≡ placed sign place (2 ^ 23 + fraction)
ieee_of-normal sign place fraction =
    let e : pos (place + 1) -ℤ pos 150 ≡ pos place -ℤ pos 149 = omega (arith, ints) in
    ap (λ t. cond t (binary (with_sign sign fraction) (neg_ℤ (pos 149))) (binary (with_sign sign (2 ^ 23 + fraction)) (pos (place + 1) -ℤ pos 150))) (some_test place) ∙ ap (λ k. binary (with_sign sign (2 ^ 23 + fraction)) k) e

pub record ReadsIeee (word sign place digits : ℕ) : Type 0 where
  pub in_word : word < 2 ^ 32
  pub finite : IsFinite word
  pub number : ieee word ≡ placed sign place digits

pub IsIeeeWord-reads : (word sign place digits : ℕ) → IsIeeeWord word sign place digits → ReadsIeee word sign place digits
IsIeeeWord-reads word sign place digits is = by (cases_lt digits (2 ^ 23))
  where
    by : (digits < 2 ^ 23) ⊎ (2 ^ 23 ≤ digits) → ReadsIeee word sign place digits
    by (inl small) =
        let first : place ≡ 0 = ⊎_elim (λ z. z) (λ high. absurd (omega arith)) is.normal in
        let f = ieee_fields word sign 0 digits is.sign_bit (omega arith) small (omega arith) in
        record {
          in_word = omega arith;
          finite = omega (arith, f.1);
          number = ieee_of-same word sign 0 digits f ∙ ap (λ n. placed sign n digits) (sym first);
        }
    by (inr high) =
        let f = ieee_fields word sign (place + 1) (digits - 2 ^ 23) is.sign_bit (omega arith) (omega arith) (omega arith) in
        let e : 2 ^ 23 + (digits - 2 ^ 23) ≡ digits = omega arith in
        record {
          in_word = omega arith;
          finite = omega (arith, f.1);
          number = ieee_of-same word sign (place + 1) (digits - 2 ^ 23) f ∙ ieee_of-normal sign place (digits - 2 ^ 23) ∙ ap (λ n. placed sign place n) e;
        }

pub IsIeeeWord-some : (word : ℕ) → word < 2 ^ 32 → IsFinite word → (sign : ℕ) × (place : ℕ) × (digits : ℕ) × IsIeeeWord word sign place digits
IsIeeeWord-some word p finite = by (eq-zero-or-pos (ieee_exponent word))
  where
    by : (ieee_exponent word ≡ 0) ⊎ (0 < ieee_exponent word) → (sign : ℕ) × (place : ℕ) × (digits : ℕ) × IsIeeeWord word sign place digits
    by (inl none) = (
      ieee_sign word,
      0,
      ieee_fraction word,
      record { bits = omega arith; sign_bit = omega arith; in_range = omega arith; below = omega arith; normal = inl refl },
    )
    by (inr some) = (
      ieee_sign word,
      ieee_exponent word - 1,
      2 ^ 23 + ieee_fraction word,
      record { bits = omega arith; sign_bit = omega arith; in_range = omega arith; below = omega arith; normal = inr (omega arith) },
    )

-- ---- the IBM single form

-- the word has this sign bit, A and B
pub record IsIbmWord (word sign a b : ℕ) : Type 0 where
  pub bits : word ≡ sign * 2 ^ 31 + (a * 2 ^ 24 + b)
  pub sign_bit : sign < 2
  pub in_range : a < 128
  pub below : b < 2 ^ 24

abbrev pub placed_ibm : ℕ → ℕ → ℕ → Binary
placed_ibm sign a b = binary (with_sign sign b) (pos (4 * a) -ℤ pos 280)

pub record ReadsIbm (word sign a b : ℕ) : Type 0 where
  pub in_word : word < 2 ^ 32
  pub a_is : ibm_a word ≡ a
  pub number : ibm word ≡ placed_ibm sign a b

pub IsIbmWord-reads : (word sign a b : ℕ) → IsIbmWord word sign a b → ReadsIbm word sign a b
IsIbmWord-reads word sign a b is =
    let s : word / 2 ^ 31 ≡ sign = omega arith in
    let p : ibm_a word ≡ a = omega arith in
    let r : ibm_b word ≡ b = omega arith in
    record {
      in_word = omega arith;
      a_is = p;
      number = ap (λ n. binary (with_sign n (ibm_b word)) (pos (4 * ibm_a word) -ℤ pos 280)) s ∙ ap (λ n. binary (with_sign sign n) (pos (4 * ibm_a word) -ℤ pos 280)) r ∙ ap (λ n. placed_ibm sign n b) p;
    }
