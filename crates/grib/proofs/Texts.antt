-- The text of a value is ASCII, and so UTF-8.
use Rattle.std.proofs.Common.{◌≡◌, ℕ, zero, suc, ◌+◌, ◌-◌, ◌*◌, ◌/◌, ◌%◌, ◌^◌, ◌<◌, ◌≤◌, Bool, true, false, cond, not, ◌&&◌, ◌||◌, ◌==◌, nat_lt, nat_le, IsTrue, IsFalse, refl, nat_abs, List, [], ◌∷◌, ◌++◌, length, take, drop, replicate, ap, arith, ⊎_elim}
use Rattle.std.proofs.Math.Nat.{div-le_self}
use Rattle.std.proofs.lemmas.Bool.{cases_lt}
use Rattle.std.proofs.lemmas.Bool.Decides.{nat_tests}
use Rattle.std.proofs.lemmas.Str.{IsAscii-append, IsAscii-take, IsAscii-drop, IsUtf8-from_ascii}
use Rattle.std.proofs.lemmas.Fmt.{IsAscii-decimal_wide}
use Rattle.std.specs.Int.{is_negative}
use Rattle.std.specs.Str.{IsAscii, IsUtf8}
use Rattle.std.specs.Fmt.{decimal}
use Rattle.grib_dyadic.specs.Value.{Exact}
use Rattle.grib_decimal.specs.Decimal.{factor, numerator, denominator, is_too_large, decimal_text as text_of}
use Rattle.grib_decimal.specs.Rounding.{nearest}
use Rattle.grib_decimal.specs.Text.{filled, with_point, decimal_text}

one_ascii : (c : ℕ) → c < 128 → IsAscii (c ∷ [])
one_ascii c low zero = low
one_ascii c low (suc i) = omega arith

none_ascii : IsAscii []
none_ascii i = omega arith

replicate_ascii : (n c : ℕ) → c < 128 → IsAscii (replicate n c)
replicate_ascii zero c low i = none_ascii i
replicate_ascii (suc n) c low zero = low
replicate_ascii (suc n) c low (suc i) = replicate_ascii n c low i

cond_ascii : (b : Bool) (xs ys : List ℕ) → IsAscii xs → IsAscii ys → IsAscii (cond b xs ys)
cond_ascii true xs ys first second = first
cond_ascii false xs ys first second = second

point_ascii : (places : ℕ) (digits : List ℕ) → IsAscii digits → IsAscii (with_point places digits)
point_ascii places digits ascii =
    let whole = length digits - places in
    cond_ascii (places == 0) digits (take whole digits ++ 46 ∷ drop whole digits) ascii
    (IsAscii-append (take whole digits) (46 ∷ drop whole digits) (IsAscii-take digits whole ascii)
    (IsAscii-append (46 ∷ []) (drop whole digits) (one_ascii 46 (omega arith)) (IsAscii-drop digits whole ascii)))

-- the text of a number of fewer than 64 digits
text_ascii : (negative : Bool) (number places : ℕ) → number < 10 ^ 64 → IsAscii (decimal_text negative number places)
text_ascii negative number places low =
    let digits = decimal number in
    let full : IsAscii (filled (places + 1) digits) =
    IsAscii-append (replicate (places + 1 - length digits) 48) digits (replicate_ascii (places + 1 - length digits) 48 (omega arith))
    (IsAscii-decimal_wide number low) in
    IsAscii-append (cond (negative && nat_lt 0 number) (45 ∷ []) []) (with_point places (filled (places + 1) digits))
    (cond_ascii (negative && nat_lt 0 number) (45 ∷ []) [] (one_ascii 45 (omega arith)) none_ascii)
    (point_ascii places (filled (places + 1) digits) full)

few_digits : (n a b : ℕ) → IsFalse (not (n == 0) && (nat_le (2 ^ 126) a || nat_le (2 ^ 126) b)) → 0 < n → a < 2 ^ 126
few_digits n a b small some = grind (arith, nat_tests)

zero_product : (n f : ℕ) → n ≡ 0 → n * f < 2 ^ 126
zero_product n f none = let e : n * f ≡ 0 * f = ap (λ m. m * f) none in omega (arith, e)

small_unless : (b : Bool) → (IsTrue b → ⊥) → IsFalse b
small_unless true never = absurd (never refl)
small_unless false never = refl

-- a numerator of 0 has no digits, and one of a value that is not too large has few
numerator_few : (v : Exact) (places : ℕ) → IsFalse (is_too_large v places) → numerator v places < 2 ^ 126
numerator_few v places small =
    ⊎_elim (λ some. few_digits (nat_abs v.number) (numerator v places) (denominator v places) small some)
    (λ none. zero_product (nat_abs v.number) (factor v.binary v.decimal places) (omega (arith, none)))
    (cases_lt 0 (nat_abs v.number))

near_by : (b c : Bool) (whole n : ℕ) → whole ≤ n → cond b whole (cond c (whole + 1) (whole + whole % 2)) ≤ n + 1
near_by true c whole n few = omega arith
near_by false true whole n few = omega arith
near_by false false whole n few = omega arith

nearest_few : (n d : ℕ) → nearest n d ≤ n + 1
nearest_few n d =
    near_by (nat_lt (2 * (n % d)) d) (nat_lt d (2 * (n % d))) (n / d) n (div-le_self n d)

text_utf8 : (v : Exact) (places : ℕ) → IsFalse (is_too_large v places) → IsUtf8 (text_of v places)
text_utf8 v places small =
    IsUtf8-from_ascii (text_of v places)
    (text_ascii (is_negative v.number) (nearest (numerator v places) (denominator v places)) places
    (omega (arith, numerator_few v places small, nearest_few (numerator v places) (denominator v places))))

pub utf8_unless : (v : Exact) (places : ℕ) → (IsTrue (is_too_large v places) → ⊥) → IsUtf8 (text_of v places)
utf8_unless v places never = text_utf8 v places (small_unless (is_too_large v places) never)
