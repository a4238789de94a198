-- Whole numbers as values with no scale factors and no places.
use Rattle.std.proofs.Common.{◌≡◌, ℕ, suc, ◌-◌, ◌*◌, ◌/◌, ◌%◌, ◌^◌, ◌<◌, Bool, true, false, cond, ◌&&◌, List, [], ◌∷◌, ◌++◌, length, nat_lt, ℤ, pos, negsuc, nat_abs, ◌+ℤ◌, ◌*ℤ◌, refl, ap, ◌∙◌, arith}
use Rattle.std.specs.Prelude.{replicate}
use Rattle.std.specs.Fmt.{decimal, signed_decimal}
use Rattle.std.specs.Int.{is_negative}
use Rattle.std.proofs.lemmas.Bool.Decides.{nat_tests}
use Rattle.std.proofs.lemmas.Fmt.{decimal_nonempty}
use Rattle.std.proofs.lemmas.Int.{ints}
use Rattle.grib_dyadic.specs.Reference.{binary}
use Rattle.grib_dyadic.proofs.Numbers.{times_one}
use Rattle.grib_decimal.specs.Decimal.{decimal_text, scale, value_at}
use Rattle.grib_decimal.specs.Rounding.{nearest}
use Rattle.grib_decimal.specs.Text as text

nearest_one : (n : ℕ) → nearest n 1 ≡ n
nearest_one n = grind (arith, nat_tests)

filled_one : (n : ℕ) → n < 2 ^ 64 → text.filled 1 (decimal n) ≡ decimal n
filled_one n small =
    let some : 0 < length (decimal n) = decimal_nonempty n small in
    let none : 1 - length (decimal n) ≡ 0 = omega arith in
    ap (λ (k : ℕ). replicate k 48 ++ decimal n) none

number_is : (x : ℤ) → (pos 0 +ℤ (x *ℤ pos 1)) ≡ x
number_is x = ap (λ (y : ℤ). pos 0 +ℤ y) (times_one x) ∙ (let plain : (y : ℤ) → (pos 0 +ℤ y) ≡ y = λ y. omega (arith, ints) in plain x)

not_negative : (n : ℕ) → is_negative (pos n) ≡ false
not_negative n = grind (arith, nat_tests)

above : (n : ℕ) → nat_lt 0 (suc n) ≡ true
above n = grind (arith, nat_tests)

signed_text : (x : ℤ) → nat_abs x < 2 ^ 64 → text.decimal_text (is_negative x) (nat_abs x) 0 ≡ signed_decimal x
signed_text (pos n) small =
    ap (λ (b : Bool). cond (b && nat_lt 0 n) (45 ∷ []) [] ++ text.filled 1 (decimal n)) (not_negative n) ∙ filled_one n small
signed_text (negsuc n) small =
    ap (λ (b : Bool). cond b (45 ∷ []) [] ++ text.filled 1 (decimal (nat_abs (negsuc n)))) (above n) ∙ ap (λ (xs : List ℕ). 45 ∷ xs) (filled_one (nat_abs (negsuc n)) small)

pub whole_is : (x : ℤ) → nat_abs x < 2 ^ 64 → decimal_text (value_at (scale (binary (pos 0) (pos 0)) (pos 0) (pos 0) 0) x) 0 ≡ signed_decimal x
whole_is x small =
    let one : nat_abs x * 1 ≡ nat_abs x = omega arith in
    ap (λ (z : ℤ). text.decimal_text (is_negative z) (nearest (nat_abs z * 1) 1) 0) (number_is x)
    ∙ ap (λ (n : ℕ). text.decimal_text (is_negative x) n 0) (nearest_one (nat_abs x * 1) ∙ one)
    ∙ signed_text x small
