-- From the first digits of a number to its word.
use Rattle.std.proofs.Common.{◌≡◌, ℕ, ◌+◌, ◌-◌, ◌*◌, ◌/◌, ◌%◌, ◌^◌, ◌<◌, ◌≤◌, inl, inr, Bool, true, false, ℤ, pos, ◌+ℤ◌, ◌-ℤ◌, ◌≤ℤ◌, sym, ap, subst, ◌∙◌, arith}
use Rattle.std.proofs.Math.Nat.{mul-le-mul_right, mul-lt-mul_of_pos_right, le_of_mul-le-mul_right, mul-pos, pow-le-pow_right, mul_assoc}
use Rattle.std.proofs.lemmas.Nat.{pow_pos, pow-add, mod_below, div-add-mod', shr_below, le-div, one_shl}
use Rattle.std.proofs.lemmas.Bool.{cases_lt, cases_Bool}
use Rattle.std.proofs.lemmas.Int.{ints, clamps}
use Rattle.std.specs.Int.{int_max}
use native.Mathlib.Nat.{mod-eq_of_lt, div-eq_of_lt, lt_of_mul-lt-mul_right, eq_of_mul-eq-mul_right}
use lib.Ieee.{Format, prec, low, hid}
use Rattle.core.specs.Dec2flt.Rounding.{scaled_bits, IsJustAbove, IsSignificand}
use Rattle.core.proofs.dec2flt.Patterns.{shape}
use Rattle.core.proofs.dec2flt.RoundingLemmas.{nearest_below, nearest_tie, nearest_above}
use Rattle.grib_dyadic.specs.Length.{IsLength}
use Rattle.grib_long.specs.Floor.{IsFloor}
use Rattle.grib_nearest.specs.Leading.{IsLeading}
use Rattle.grib_nearest.specs.Nearest.{nearest_word}
use Rattle.grib_nearest.proofs.Rounds.{rounds_to}

-- Of steps of 2 ^ exponent with so many digits, `cut` digits are dropped: what is kept counts 2 ^ (field - low). It has `prec`
-- digits, or fewer with the exponent field 0.
pub record IsCut (f : Format) (length : ℕ) (exponent : ℤ) (field cut : ℕ) : Type 0 where
  pub place : (pos field -ℤ pos (low f + cut)) ≡ exponent
  pub few : length ≤ prec f + cut
  pub full : 0 < field → length ≡ prec f + cut

pub cut_is : (f : Format) (length : ℕ) (exponent : ℤ) (field cut : ℕ) → pos field ≡ int_max (exponent +ℤ pos length +ℤ pos (low f) -ℤ pos (prec f)) (pos 0) → pos cut ≡ pos field -ℤ (exponent +ℤ pos (low f)) → IsCut f length exponent field cut
cut_is f length exponent field cut is is' = record {
  place = omega (arith, ints, clamps);
  few = omega (arith, ints, clamps);
  full = λ some. omega (arith, ints, clamps);
}

pub enough : (f : Format) (length : ℕ) (exponent : ℤ) (field : ℕ) → pos field ≡ int_max (exponent +ℤ pos length +ℤ pos (low f) -ℤ pos (prec f)) (pos 0) → 60 ≤ length → (exponent +ℤ pos (low f)) ≤ℤ pos field
enough f length exponent field is long = let digits = (shape f).digits in omega (arith, ints, clamps)

pub some_cut : (f : Format) (length : ℕ) (exponent : ℤ) (field cut : ℕ) → IsCut f length exponent field cut → 60 ≤ length → 7 ≤ cut
some_cut f length exponent field cut is long = let digits = (shape f).digits in let few = is.few in omega arith

pub long : (length steps : ℕ) → IsLength length steps → 2 ^ 60 ≤ steps → 60 ≤ length
long length steps is many = elim (cases_lt length 60) [
  | inl less ↦
      let room : 2 ^ length ≤ 2 ^ 59 = pow-le-pow_right {n = 2} (omega arith) {i = length} {j = 59} (omega arith) in
      let holds = is.holds in
      absurd (omega arith)
  | inr more ↦ more
]

-- half of what the last kept digit counts, as it is shifted
pub half_is : (cut : ℕ) → 1 ≤ cut → cut ≤ 127 → (1 * 2 ^ (cut - 1) % 2 ^ 128 ≡ 2 ^ (cut - 1)) × (2 * (1 * 2 ^ (cut - 1) % 2 ^ 128) ≡ 2 ^ cut) × (2 ^ cut ≤ 2 ^ 127)
half_is cut some few =
    let e : 1 * 2 ^ (cut - 1) % 2 ^ 128 ≡ 2 ^ (cut - 1) = one_shl (cut - 1) 128 (omega arith) in
    let twice : 2 ^ cut ≡ 2 * 2 ^ (cut - 1) = ap (λ k. 2 ^ k) {x = cut} {y = 1 + (cut - 1)} (omega arith) ∙ pow-add 2 1 (cut - 1) in
    (e, omega (arith, e, twice), pow-le-pow_right {n = 2} (omega arith) {i = cut} {j = 127} few)

short_length : (length steps : ℕ) → IsLength length steps → steps < 2 ^ 126 → length ≤ 127
short_length length steps is few = elim (cases_lt length 128) [
  | inl less ↦ omega arith
  | inr more ↦
      let room : 2 ^ 128 ≤ 2 ^ length = pow-le-pow_right {n = 2} (omega arith) {i = 128} {j = length} more in
      let least = is.least in
      absurd (omega arith)
]

zero_word : (f : Format) (m k : ℕ) → m ≡ 0 → k ≡ 0 → 0 ≡ scaled_bits f m k
zero_word f m k e z = omega (arith, e, ap (λ j. j * hid f) z)

-- n / u from h / c, where h is m * c + r
module _ (h m r c n u : ℕ) (C : 0 < c) (U : 0 < u) (is : m * c + r ≡ h) where
  parts : m * c * u + r * u ≡ h * u
  parts = omega (arith, ap (λ t. t * u) is)

  whole : h * u ≤ n * c → m * u ≤ n
  whole from = le_of_mul-le-mul_right {k = c} (omega (arith, parts)) C

  next : n * c < (h + 1) * u → r < c → n < (m + 1) * u
  next below p = lt_of_mul-lt-mul_right c (omega (arith, parts, mul-le-mul_right u p))

  lower : n * c < (h + 1) * u → 2 * (r + 1) ≤ c → 2 * n < (2 * m + 1) * u
  lower below p = lt_of_mul-lt-mul_right c (omega (arith, parts, mul-le-mul_right u p))

  upper : h * u ≤ n * c → c < 2 * r → (2 * m + 1) * u < 2 * n
  upper from p = lt_of_mul-lt-mul_right c (omega (arith, parts, mul-lt-mul_of_pos_right p U))

  upper_more : h * u < n * c → c ≤ 2 * r → (2 * m + 1) * u < 2 * n
  upper_more above p = lt_of_mul-lt-mul_right c (omega (arith, parts, mul-le-mul_right u p))

  tie : n * c ≡ h * u → 2 * r ≡ c → 2 * n ≡ (2 * m + 1) * u
  tie exact p = eq_of_mul-eq-mul_right c C (2 * n) ((2 * m + 1) * u) (omega (arith, parts, ap (λ t. t * u) p))

module _ (f : Format) (n d steps length field cut : ℕ) (more : Bool) (exponent : ℤ) (some : 0 < d) (leading : IsLeading n d steps more exponent) (is_length : IsLength length steps) (is_cut : IsCut f length exponent field cut) where
  floor : IsFloor (n * 2 ^ low f * 2 ^ cut) steps (d * 2 ^ field) more
  floor =
      let e : n * 2 ^ (low f + cut) ≡ n * 2 ^ low f * 2 ^ cut = ap (λ x. n * x) (pow-add 2 (low f) cut) ∙ sym (mul_assoc n (2 ^ low f) (2 ^ cut)) in
      subst (λ x. IsFloor x steps (d * 2 ^ field) more) e (leading field (low f + cut) is_cut.place)

  step_some : 0 < d * 2 ^ field
  step_some = mul-pos some (pow_pos field)

  divided : steps / 2 ^ cut * 2 ^ cut + steps % 2 ^ cut ≡ steps
  divided = div-add-mod' steps (2 ^ cut)

  rest_below : steps % 2 ^ cut < 2 ^ cut
  rest_below = mod_below steps (2 ^ cut) (pow_pos cut)

  significand : IsSignificand f (steps / 2 ^ cut) field
  significand =
      let s = shape f in
      let digits = s.digits in
      let room : 2 ^ length ≤ 2 ^ (prec f + cut) = pow-le-pow_right {n = 2} (omega arith) {i = length} {j = prec f + cut} is_cut.few in
      record {
        fits = shr_below steps (prec f) cut (let holds = is_length.holds in omega arith);
        normal = λ K.
            let e : length ≡ 1 + (prec f - 1 + cut) = omega (arith, is_cut.full K) in
            let twice : 2 ^ length ≡ 2 * (2 ^ (prec f - 1) * 2 ^ cut) = ap (λ k. 2 ^ k) e ∙ pow-add 2 1 (prec f - 1 + cut) ∙ ap (λ k. 2 * k) (pow-add 2 (prec f - 1) cut) in
            le-div (2 ^ (prec f - 1)) steps (2 ^ cut) (pow_pos cut) (let least = is_length.least in omega arith);
      }

  just_above : IsJustAbove f n d (steps / 2 ^ cut) field
  just_above = record {
    significand = significand;
    from = whole steps (steps / 2 ^ cut) (steps % 2 ^ cut) (2 ^ cut) (n * 2 ^ low f) (d * 2 ^ field) (pow_pos cut) step_some divided floor.from;
    below = next steps (steps / 2 ^ cut) (steps % 2 ^ cut) (2 ^ cut) (n * 2 ^ low f) (d * 2 ^ field) (pow_pos cut) step_some divided floor.below rest_below;
  }

  down : 2 * (steps % 2 ^ cut + 1) ≤ 2 ^ cut → scaled_bits f (steps / 2 ^ cut) field ≡ nearest_word f n d
  down p = rounds_to f n d _ some (nearest_below f n d (steps / 2 ^ cut) field some just_above
      (lower steps (steps / 2 ^ cut) (steps % 2 ^ cut) (2 ^ cut) (n * 2 ^ low f) (d * 2 ^ field) (pow_pos cut) step_some divided floor.below p))

  up : 2 ^ cut < 2 * (steps % 2 ^ cut) → scaled_bits f (steps / 2 ^ cut + 1) field ≡ nearest_word f n d
  up p = rounds_to f n d _ some (nearest_above f n d (steps / 2 ^ cut) field some just_above
      (upper steps (steps / 2 ^ cut) (steps % 2 ^ cut) (2 ^ cut) (n * 2 ^ low f) (d * 2 ^ field) (pow_pos cut) step_some divided floor.from p))

  up_more : 2 * (steps % 2 ^ cut) ≡ 2 ^ cut → more ≡ true → scaled_bits f (steps / 2 ^ cut + 1) field ≡ nearest_word f n d
  up_more p m = rounds_to f n d _ some (nearest_above f n d (steps / 2 ^ cut) field some just_above
      (upper_more steps (steps / 2 ^ cut) (steps % 2 ^ cut) (2 ^ cut) (n * 2 ^ low f) (d * 2 ^ field) (pow_pos cut) step_some divided (floor.above m) (omega arith)))

  at_tie : 2 * (steps % 2 ^ cut) ≡ 2 ^ cut → more ≡ false → scaled_bits f (steps / 2 ^ cut + steps / 2 ^ cut % 2) field ≡ nearest_word f n d
  at_tie p m = rounds_to f n d _ some (nearest_tie f n d (steps / 2 ^ cut) field some just_above
      (tie steps (steps / 2 ^ cut) (steps % 2 ^ cut) (2 ^ cut) (n * 2 ^ low f) (d * 2 ^ field) (pow_pos cut) step_some divided (floor.exact m) p))

  -- what is kept, rounded by the rest and half of what the last kept digit counts
  pub settled : (q half : ℕ) → 2 * half ≡ 2 ^ cut → (steps % (2 * half) < half → q ≡ steps / 2 ^ cut) → (half < steps % (2 * half) → q ≡ steps / 2 ^ cut + 1)
      → (steps % (2 * half) ≡ half → more ≡ true → q ≡ steps / 2 ^ cut + 1) → (steps % (2 * half) ≡ half → more ≡ false → q ≡ steps / 2 ^ cut + steps / 2 ^ cut % 2) → scaled_bits f q field ≡ nearest_word f n d
  settled q half e below above with_more even =
      let rest : steps % (2 * half) ≡ steps % 2 ^ cut = ap (λ k. steps % k) e in
      elim (cases_lt (steps % (2 * half)) half) [
        | inl less ↦ ap (λ m. scaled_bits f m field) (below less) ∙ down (omega arith)
        | inr not_less ↦ elim (cases_lt half (steps % (2 * half))) [
          | inl more' ↦ ap (λ m. scaled_bits f m field) (above more') ∙ up (omega arith)
          | inr not_more ↦
              let same : steps % (2 * half) ≡ half = omega arith in
              let twice : 2 * (steps % 2 ^ cut) ≡ 2 ^ cut = omega arith in
              elim (cases_Bool more) [
                | inl is ↦ ap (λ m. scaled_bits f m field) (with_more same is) ∙ up_more twice is
                | inr none ↦ ap (λ m. scaled_bits f m field) (even same none) ∙ at_tie twice none
              ]
        ]
      ]

  -- all digits are dropped
  pub none_kept : steps < 2 ^ 126 → 127 < cut → 0 ≡ nearest_word f n d
  none_kept few many =
      let room : 2 ^ 128 ≤ 2 ^ cut = pow-le-pow_right {n = 2} (omega arith) {i = 128} {j = cut} many in
      let short : length ≤ 127 = short_length length steps is_length few in
      let digits = (shape f).digits in
      let no_field : field ≡ 0 = elim (cases_lt 0 field) [ inl K ↦ absurd (omega (arith, is_cut.full K)) | inr z ↦ omega arith ] in
      let rest : steps % 2 ^ cut ≡ steps = mod-eq_of_lt (omega arith) in
      let none : steps / 2 ^ cut ≡ 0 = div-eq_of_lt (omega arith) in
      zero_word f (steps / 2 ^ cut) field none no_field ∙ down (omega arith)
