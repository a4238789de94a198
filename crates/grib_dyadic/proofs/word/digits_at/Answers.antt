use Rattle.std.proofs.Common.{◌≡◌, ℕ, ◌*◌, ◌%◌, ◌^◌, ◌<◌, ℤ, ◌-ℤ◌, ◌≤ℤ◌, nat_abs, refl, ap, ◌∙◌, arith, w64, to_z, of_z}
use Rattle.std.proofs.Math.Nat.{mod-eq_of_lt}
use Rattle.std.proofs.lemmas.Int.{ints}
use Rattle.grib_dyadic.specs.Reference.{two_to_difference}
use Rattle.grib_dyadic.proofs.Digits.{HasDigits-some, HasDigits-room}
use Rattle.grib_dyadic.proofs.word.digits_at.Goals as goal
use Rattle.grib_dyadic.proofs.word.digits_at.Goals.{then-shift-lt0-via-then-shift-lt0, then-shift-lt0-via-else-shift-lt0+then-shift-from}

-- the shift as the code computes it
abbrev shift_of : ℤ → ℤ → ℤ
shift_of exponent place = to_z w64 (of_z w64 (to_z w64 (of_z w64 exponent) -ℤ to_z w64 (of_z w64 place)))

-- what is shifted stays below 2 ^ 24, so that no bit is lost
whole_value : (m shift : ℕ) (k place : ℤ) → shift ≡ nat_abs (k -ℤ place) → m * two_to_difference k place < 2 ^ 24 → m * 2 ^ shift % 2 ^ 64 ≡ m * two_to_difference k place
whole_value m shift k place e below =
    let is : m * 2 ^ shift ≡ m * two_to_difference k place = ap (λ n. m * 2 ^ n) e in
    mod-eq_of_lt (omega arith) ∙ is

pub returns-then-shift-lt0-clause-exact : goal.returns-then-shift-lt0-clause-exact
returns-then-shift-lt0-clause-exact c = (
  λ h. cc,
  λ h. elim c.then-shift-lt0.branch [
    | then-shift-lt0-via-then-shift-lt0 w ↦ let whole = h.0 in absurd (omega (arith, ints))
    | then-shift-lt0-via-else-shift-lt0+then-shift-from w ↦ let room = HasDigits-room c.args.mantissa w.bit_length.result c.args.exponent c.args.place w.bit_length.ensures.length c.requires h.0 h.1 in absurd (omega (arith, ints))
  ],
)

pub returns-clause-exact : goal.returns-clause-exact
returns-clause-exact c =
    let whole : c.args.place ≤ℤ c.args.exponent = omega (arith, ints) in
    (λ h. (whole, HasDigits-some c.args.mantissa c.bit_length.result c.args.exponent c.args.place c.bit_length.ensures.length whole (omega (arith, ints))), λ h. refl)

pub returns-clause-value : goal.returns-clause-value
returns-clause-value c =
    let whole : c.args.place ≤ℤ c.args.exponent = omega (arith, ints) in
    whole_value c.args.mantissa (nat_abs (shift_of c.from.result c.from-2.result)) c.args.exponent c.args.place (omega (arith, ints)) (HasDigits-some c.args.mantissa c.bit_length.result c.args.exponent c.args.place c.bit_length.ensures.length whole (omega (arith, ints)))

pub overflow_cast-result-2 : goal.overflow_cast-result-2
overflow_cast-result-2 c =
    let whole : c.args.place ≤ℤ c.args.exponent = omega (arith, ints) in
    let below = HasDigits-some c.args.mantissa c.bit_length.result c.args.exponent c.args.place c.bit_length.ensures.length whole (omega (arith, ints)) in
    let is = whole_value c.args.mantissa (nat_abs (shift_of c.from.result c.from-2.result)) c.args.exponent c.args.place (omega (arith, ints)) below in
    omega arith
