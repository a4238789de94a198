-- The word that is worked out, and the rounding of the machine's operations.
use Rattle.std.proofs.Common.{◌≡◌, ℕ, ◌+◌, ◌-◌, ◌*◌, ◌/◌, ◌%◌, ◌^◌, ◌<◌, ◌≤◌, inl, inr, false, T, not, sym, ap, subst, ◌∙◌, arith}
use Rattle.std.proofs.Math.Nat.{mul-pos}
use Rattle.std.proofs.lemmas.Nat.{pow_pos, pow-add, mod_below, div-add-mod', le-div}
use Rattle.std.proofs.lemmas.Bool.{cases_lt}
use Rattle.std.proofs.lemmas.Bool.Decides.{nat_tests}
use native.Mathlib.Nat.{div-div-eq-div-mul}
use lib.Ieee.{Format, prec, low, hid, top, size, round, units, of_bits, to_bits, is_nan}
use lib.Ieee.Bits.{to_bits-of_bits, nan_bits_is}
use lib.Ieee.Digits.{size_reaches}
use lib.Ieee.Fits.{round_is, kept-lt, nearest-le}
use lib.Ieee.Nearest.{closest, nearest-ge}
use Prim.Native.Nat.{compare}
use Rattle.core.specs.Dec2flt.Rounding.{IsNearestBits, scaled_bits}
use Rattle.core.proofs.num.Patterns.{up_to_infinity}
use Rattle.core.proofs.dec2flt.Closest.{closest_below, closest_tie, closest_above}
use Rattle.core.proofs.dec2flt.Patterns.{shape, of_bits-scaled_bits}
use Rattle.grib_decimal.specs.Rounding.{nearest}
use Rattle.grib_nearest.specs.Nearest.{field_unit, infinity, nearest_word}

-- what rounding to a whole number gives
pub nearest_down : (n d : ℕ) → 2 * (n % d) < d → nearest n d ≡ n / d
nearest_down n d less = grind (arith, nat_tests)

pub nearest_up : (n d : ℕ) → d < 2 * (n % d) → nearest n d ≡ n / d + 1
nearest_up n d more = grind (arith, nat_tests)

pub nearest_tie : (n d : ℕ) → 2 * (n % d) ≡ d → nearest n d ≡ n / d + n / d % 2
nearest_tie n d half = grind (arith, nat_tests)

pub nearest_is_closest : (n d : ℕ) → 0 < d → nearest n d ≡ closest n d
nearest_is_closest n d some =
    let q = n / d in
    let whole : q * d + n % d ≡ n = div-add-mod' n d in
    let rest : n % d < d = mod_below n d some in
    elim (cases_lt (2 * (n % d)) d) [
      | inl less ↦ nearest_down n d less ∙ sym (closest_below n d q (omega arith) (omega arith) (omega arith))
      | inr not_less ↦ elim (cases_lt d (2 * (n % d))) [
        | inl more ↦ nearest_up n d more ∙ (omega arith ∙ sym (closest_above n d q (omega arith) (omega arith) (omega arith)))
        | inr half ↦ nearest_tie n d (omega arith) ∙ sym (closest_tie n d q (omega arith) (omega arith) (omega arith))
      ]
    ]

-- how many digits are dropped of the number n / d in units, and what is kept
abbrev pub dropped : Format → ℕ → ℕ → ℕ
dropped f n d = size (n * 2 ^ low f / d) - prec f

abbrev pub step : Format → ℕ → ℕ → ℕ
step f n d = d * 2 ^ dropped f n d

abbrev pub kept : Format → ℕ → ℕ → ℕ
kept f n d = n * 2 ^ low f / step f n d

pub step_some : (f : Format) (n d : ℕ) → 0 < d → 0 < step f n d
step_some f n d some = mul-pos some (pow_pos (dropped f n d))

kept_is : (f : Format) (n d : ℕ) → n * 2 ^ low f / d / 2 ^ dropped f n d ≡ kept f n d
kept_is f n d = div-div-eq-div-mul (n * 2 ^ low f) d (2 ^ dropped f n d)

pub kept_few : (f : Format) (n d : ℕ) → kept f n d < 2 * field_unit f
kept_few f n d =
    let s = shape f in
    let few : n * 2 ^ low f / d / 2 ^ dropped f n d < 2 ^ prec f = kept-lt (prec f) (n * 2 ^ low f / d) in
    omega (arith, kept_is f n d, s.twice)

pub kept_full : (f : Format) (n d : ℕ) → 0 < dropped f n d → field_unit f ≤ kept f n d
kept_full f n d drops =
    let s = shape f in
    let digits = s.digits in
    let k = dropped f n d in
    let units = n * 2 ^ low f / d in
    let many : 2 ^ (prec f - 1 + k) ≤ units = size_reaches units (prec f - 1 + k) (omega arith) in
    let many' : field_unit f * 2 ^ k ≤ units = omega (arith, pow-add 2 (prec f - 1) k) in
    omega (arith, le-div (field_unit f) units (2 ^ k) (pow_pos k) many', kept_is f n d)

rounded_few : (f : Format) (n d : ℕ) → closest (n * 2 ^ low f) (step f n d) ≤ 2 ^ prec f
rounded_few f n d = let s = shape f in omega (arith, nearest-le (kept f n d) (compare (n * 2 ^ low f % step f n d * 2) (step f n d)), kept_few f n d, s.twice)

-- it is the word of the machine's rounding
pub word_rounds : (f : Format) (n d : ℕ) → 0 < d → IsNearestBits f n d (nearest_word f n d)
unfolding nearest_word
word_rounds f n d some =
    let k = dropped f n d in
    let q = closest (n * 2 ^ low f) (step f n d) in
    let rounds : round f false n d ≡ units f false q k = round_is f false n d in
    let full : 0 < k → hid f ≤ q = λ drops. omega (arith, kept_full f n d drops, nearest-ge (kept f n d) (compare (n * 2 ^ low f % step f n d * 2) (step f n d))) in
    let word : of_bits f (scaled_bits f q k) ≡ units f false q k = of_bits-scaled_bits f q k (rounded_few f n d) full in
    subst (λ m. IsNearestBits f n d (scaled_bits f m k)) (sym (nearest_is_closest (n * 2 ^ low f) (step f n d) (step_some f n d some))) (word ∙ sym rounds, omega arith)

no_nan : (f : Format) (word : ℕ) → word ≤ infinity f → T (not (is_nan (of_bits f word)))
no_nan f word within = subst (λ b. T (not b)) (nan_bits_is f word) (up_to_infinity f word within)

below : (f : Format) (word : ℕ) → word ≤ infinity f → word < 2 * top f
below f word within = omega (arith, pow_pos (prec f - 1))

word_back : (f : Format) (word : ℕ) → word ≤ infinity f → to_bits f (of_bits f word) ≡ word
word_back f word within = to_bits-of_bits f word (below f word within) (no_nan f word within)

-- so it is the only one
pub rounds_to : (f : Format) (n d word : ℕ) → 0 < d → IsNearestBits f n d word → word ≡ nearest_word f n d
rounds_to f n d word some is =
    let own = word_rounds f n d some in
    sym (word_back f word is.1) ∙ ap (to_bits f) (is.0 ∙ sym own.0) ∙ word_back f (nearest_word f n d) own.1

pub machine_word : (f : Format) (n d : ℕ) → 0 < d → nearest_word f n d ≡ to_bits f (round f false n d)
machine_word f n d some =
    let own = word_rounds f n d some in
    sym (word_back f (nearest_word f n d) own.1) ∙ ap (to_bits f) own.0
