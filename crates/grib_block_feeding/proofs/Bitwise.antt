-- Numbers that are read bit by bit.
use Rattle.std.proofs.Common.{◌≡◌, inl, inr, ℕ, suc, ◌+◌, ◌-◌, ◌*◌, ◌^◌, ◌<◌, ◌≤◌, Bool, false, cond, List, ◌∷◌, length, take, drop, sym, ap, subst, ◌∙◌, arith, nat_le, pow-suc}
use Rattle.std.proofs.Math.Nat.{mul-le-mul_right}
use Rattle.std.proofs.lemmas.Bool.{le-leb, cases_lt}
use Rattle.std.proofs.lemmas.Bool.Decides.{nat_tests}
use Rattle.std.proofs.lemmas.List.{length-take-le}
use Rattle.grib_bits.specs.Bits.{num, digit}
use Rattle.grib_coding.specs.Reading.{Ended, Found, and_then, front_number}
use Rattle.grib_block_feeding.specs.Pending.{front_pending}
use Rattle.grib_block_feeding.specs.declared.pending.Pending.TheVariants.{Bits}

not_le : (a b : ℕ) → b < a → nat_le a b ≡ false
not_le a b less = grind (arith, nat_tests)

pub number_found : (width : ℕ) (bits : List Bool) → width ≤ length bits → front_number width bits ≡ Found (num (take width bits)) (drop width bits)
number_found width bits enough = ap (λ t. cond t (Found (num (take width bits)) (drop width bits)) Ended) (le-leb width (length bits) enough)

pub number_ended : (width : ℕ) (bits : List Bool) → length bits < width → front_number width bits ≡ Ended
number_ended width bits short = ap (λ t. cond t (Found (num (take width bits)) (drop width bits)) Ended) (not_le width (length bits) short)

-- the value of a bit and those behind it
joined_value : (value m : ℕ) (d n : ℕ) → value * 2 ^ suc m + (d * 2 ^ m + n) ≡ (2 * value + d) * 2 ^ m + n
joined_value value m d n = rw pow-suc (omega arith)

on_found : (value m : ℕ) (bit : Bool) (rest : List Bool) → m ≤ length rest → front_pending (Bits value (suc m)) (bit ∷ rest) ≡ front_pending (Bits (2 * value + digit bit) m) rest
on_found value m bit rest enough =
    let long : length (take m rest) ≡ m = length-take-le m rest enough in
    ap (λ f. and_then f (λ n r. Found (value * 2 ^ suc m + n) r)) (number_found (suc m) (bit ∷ rest) (omega arith))
    ∙ (ap (λ k. Found (value * 2 ^ suc m + (digit bit * 2 ^ k + num (take m rest))) (drop m rest)) long
    ∙ (ap (λ k. Found k (drop m rest)) (joined_value value m (digit bit) (num (take m rest)))
    ∙ sym (ap (λ f. and_then f (λ n r. Found ((2 * value + digit bit) * 2 ^ m + n) r)) (number_found m rest enough))))

on_ended : (value m : ℕ) (bit : Bool) (rest : List Bool) → length rest < m → front_pending (Bits value (suc m)) (bit ∷ rest) ≡ front_pending (Bits (2 * value + digit bit) m) rest
on_ended value m bit rest short =
    ap (λ f. and_then f (λ n r. Found (value * 2 ^ suc m + n) r)) (number_ended (suc m) (bit ∷ rest) (omega arith))
    ∙ sym (ap (λ f. and_then f (λ n r. Found ((2 * value + digit bit) * 2 ^ m + n) r)) (number_ended m rest short))

on : (value m : ℕ) (bit : Bool) (rest : List Bool) → front_pending (Bits value (suc m)) (bit ∷ rest) ≡ front_pending (Bits (2 * value + digit bit) m) rest
on value m bit rest = elim (cases_lt (length rest) m) [
  | inl short ↦ on_ended value m bit rest short
  | inr enough ↦ on_found value m bit rest enough
]

pub bit_read : (value left now less : ℕ) (bit : Bool) (rest : List Bool) → 1 ≤ left → now ≡ 2 * value + digit bit → less ≡ left - 1
    → front_pending (Bits value left) (bit ∷ rest) ≡ front_pending (Bits now less) rest
bit_read value left now less bit rest some is one =
    let more : left ≡ suc less = omega (arith, one) in
    ap (λ n. front_pending (Bits value n) (bit ∷ rest)) more ∙ (on value less bit rest ∙ ap (λ v. front_pending (Bits v less) rest) (sym is))

pub bit_fits : (value left now less width d : ℕ) → 1 ≤ left → now ≡ 2 * value + d → d ≤ 1 → less ≡ left - 1 → (value + 1) * 2 ^ left ≤ 2 ^ width → (now + 1) * 2 ^ less ≤ 2 ^ width
bit_fits value left now less width d some is small one fits =
    let more : left ≡ suc less = omega (arith, one) in
    let whole : (value + 1) * (2 ^ less * 2) ≤ 2 ^ width = subst (λ n. (value + 1) * n ≤ 2 ^ width) (ap (λ n. 2 ^ n) more ∙ pow-suc 2 less) fits in
    let digit_less : d * 2 ^ less ≤ 1 * 2 ^ less = mul-le-mul_right (2 ^ less) small in
    let value_is : (now + 1) * 2 ^ less ≡ 2 * value * 2 ^ less + d * 2 ^ less + 2 ^ less = ap (λ n. (n + 1) * 2 ^ less) is ∙ omega arith in
    omega (arith, whole, digit_less, value_is)
