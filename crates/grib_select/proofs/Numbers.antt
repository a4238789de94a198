-- Numbers with a sign as octets, and back.
use Rattle.std.proofs.Common.{◌≡◌, ℕ, zero, suc, ◌+◌, ◌-◌, ◌*◌, ◌^◌, ◌<◌, ◌≤◌, inl, inr, Bool, true, false, cond, Option, Some, None, IsNone, IfSome, ℤ, pos, negsuc, neg_ℤ, refl, sym, ap, ◌∙◌, arith, subst, lt-ltb, le-ltb, pow_mono, pow-suc, add-one, ltb-true, nat_abs}
use lib.Signed.{lt_z}
use Rattle.std.specs.Prelude.{unsigned_abs, ◌↔◌}
use Rattle.std.proofs.lemmas.Bool.{cases_lt}
use Rattle.grib_bits.specs.Bits.{bits_of, signed}
use Rattle.grib_bits.proofs.Signs.{signed-clear, signed-set}
use Rattle.grib_bits.proofs.Encoding.{pow_256}
use Rattle.grib_select.specs.Changed.{signed_number, unsigned_number}

-- 256 to the n is at most 2 to the 32 for up to four octets
pub four_octets : (n : ℕ) → n ≤ 4 → 256 ^ n ≤ 4294967296
four_octets n few =
    let less : 8 * n ≤ 32 = omega arith in
    let power : 2 ^ (8 * n) ≤ 2 ^ 32 = pow_mono less in
    omega (arith, pow_256 n)

-- a number of bits that reads as x is the one of its sign and magnitude
raw_clear : (k raw m : ℕ) (x : ℤ) → raw < 2 ^ k → signed (bits_of (suc k) raw) ≡ x → pos raw ≡ x
raw_clear k raw m x small e = sym (signed-clear k raw small) ∙ e

-- the sign is set
raw_set : (k raw : ℕ) (x : ℤ) → raw < 2 ^ suc k → 2 ^ k ≤ raw → signed (bits_of (suc k) raw) ≡ x → neg_ℤ (pos (raw - 2 ^ k)) ≡ x
raw_set k raw x small high e =
    let power : 2 ^ suc k ≡ 2 ^ k * 2 = pow-suc 2 k in
    let whole : raw ≡ 2 ^ k + (raw - 2 ^ k) = omega arith in
    sym (ap (λ (n : ℕ). signed (bits_of (suc k) n)) whole ∙ signed-set k (raw - 2 ^ k) (omega arith)) ∙ e

raw_pos : (k raw m : ℕ) → raw < 2 ^ suc k → signed (bits_of (suc k) raw) ≡ pos m → (m ≡ 0 → raw ≡ 0) → raw ≡ m
raw_pos k raw m small e zeros = elim (cases_lt raw (2 ^ k)) [
  | inl low ↦ (let same = raw_clear k raw m (pos m) low e in cc)
  | inr high ↦ at_set (raw - 2 ^ k) refl (raw_set k raw (pos m) small high e)
]
  where
    at_set : (n : ℕ) → raw - 2 ^ k ≡ n → neg_ℤ (pos n) ≡ pos m → raw ≡ m
    at_set zero is same = (let none : m ≡ 0 = cc in zeros none ∙ sym none)
    at_set (suc n) is same = absurd (cc)

raw_neg : (k raw m : ℕ) → raw < 2 ^ suc k → signed (bits_of (suc k) raw) ≡ negsuc m → raw ≡ 2 ^ k + (m + 1)
raw_neg k raw m small e = elim (cases_lt raw (2 ^ k)) [
  | inl low ↦ (let same = raw_clear k raw m (negsuc m) low e in absurd (cc))
  | inr high ↦ at_set (raw - 2 ^ k) refl (raw_set k raw (negsuc m) small high e) high
]
  where
    at_set : (n : ℕ) → raw - 2 ^ k ≡ n → neg_ℤ (pos n) ≡ negsuc m → 2 ^ k ≤ raw → raw ≡ 2 ^ k + (m + 1)
    at_set zero is same high = absurd (cc)
    at_set (suc n) is same high = (let e : n ≡ m = cc in omega arith)

module _ (n : ℕ) (some : 1 ≤ n) where
  first : suc (8 * n - 1) ≡ 8 * n
  first = omega arith

  pub signed_is : (x : ℤ) (r : Option ℕ) → (IsNone r ↔ (2 ^ (8 * n - 1) ≤ unsigned_abs x)) → IfSome r (λ raw. raw < 2 ^ (8 * n))
      → IfSome r (λ raw. signed (bits_of (8 * n) raw) ≡ x) → (x ≡ pos 0 → r ≡ Some 0) → r ≡ signed_number n x
  signed_is (pos m) None large fits value zeros =
      let high : 2 ^ (8 * n - 1) ≤ m = large.0 refl in
      sym (ap (λ (b : Bool). cond b (Some m) None) (le-ltb m (2 ^ (8 * n - 1)) high))
  signed_is (pos m) (Some raw) large fits value zeros =
      let k = 8 * n - 1 in
      let small : raw < 2 ^ suc k = subst (λ (w : ℕ). raw < 2 ^ w) (sym first) fits in
      let reads : signed (bits_of (suc k) raw) ≡ pos m = ap (λ (w : ℕ). signed (bits_of w raw)) first ∙ value in
      elim (cases_lt m (2 ^ k)) [
        | inl low ↦
            let same : raw ≡ m = raw_pos k raw m small reads (λ none. (let e = zeros (ap pos none) in cc)) in
            ap Some same ∙ sym (ap (λ (b : Bool). cond b (Some m) None) (lt-ltb m (2 ^ k) low))
        | inr high ↦ (let clash = large.1 high in absurd (cc))
      ]
  signed_is (negsuc m) None large fits value zeros =
      let high : 2 ^ (8 * n - 1) ≤ m + 1 = subst (λ (w : ℕ). 2 ^ (8 * n - 1) ≤ w) (sym (add-one m)) (large.0 refl) in
      sym (ap (λ (b : Bool). cond b (Some (2 ^ (8 * n - 1) + (m + 1))) None) (le-ltb (m + 1) (2 ^ (8 * n - 1)) high))
  signed_is (negsuc m) (Some raw) large fits value zeros =
      let k = 8 * n - 1 in
      let small : raw < 2 ^ suc k = subst (λ (w : ℕ). raw < 2 ^ w) (sym first) fits in
      let reads : signed (bits_of (suc k) raw) ≡ negsuc m = ap (λ (w : ℕ). signed (bits_of w raw)) first ∙ value in
      elim (cases_lt (m + 1) (2 ^ k)) [
        | inl low ↦
            let same : raw ≡ 2 ^ k + (m + 1) = raw_neg k raw m small reads in
            ap Some same ∙ sym (ap (λ (b : Bool). cond b (Some (2 ^ k + (m + 1))) None) (lt-ltb (m + 1) (2 ^ k) low))
        | inr high ↦ (let clash = large.1 (subst (λ (w : ℕ). 2 ^ k ≤ w) (add-one m) high) in absurd (cc))
      ]

-- 256 to the n is not 0
pub some_octets : (n : ℕ) → 1 ≤ 256 ^ n
some_octets n =
    let less : 0 ≤ 8 * n = omega arith in
    let power : 2 ^ 0 ≤ 2 ^ (8 * n) = pow_mono less in
    omega (arith, pow_256 n)

-- ---- numbers without sign

pub below_zero : (n : ℕ) (x : ℤ) → lt_z x (pos 0) ≡ true → None ≡ unsigned_number n x
below_zero n (pos m) e = (let lt : m < 0 = ltb-true m 0 e in absurd (omega arith))
below_zero n (negsuc m) e = refl

pub too_great : (n : ℕ) (x : ℤ) → lt_z x (pos 0) ≡ false → 256 ^ n ≤ nat_abs x → None ≡ unsigned_number n x
too_great n (pos m) e high = sym (ap (λ (b : Bool). cond b (Some m) None) (le-ltb m (256 ^ n) high))
too_great n (negsuc m) e high = absurd (cc)

pub unsigned_is : (n : ℕ) (x : ℤ) → lt_z x (pos 0) ≡ false → nat_abs x < 256 ^ n → Some (nat_abs x) ≡ unsigned_number n x
unsigned_is n (pos m) e low = sym (ap (λ (b : Bool). cond b (Some m) None) (lt-ltb m (256 ^ n) low))
unsigned_is n (negsuc m) e low = absurd (cc)
