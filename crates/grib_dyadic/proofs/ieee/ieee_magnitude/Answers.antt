use Rattle.std.proofs.Common.{◌≡◌, ℕ, ◌+◌, ◌*◌, ◌%◌, ◌^◌, ◌<◌, ◌≤◌, ℤ, pos, ◌+ℤ◌, ◌-ℤ◌, ◌≤ℤ◌, FitsSigned, refl, arith, w32, to_z, of_z}
use Rattle.std.proofs.lemmas.Bool.{false≢true}
use Rattle.std.proofs.lemmas.Int.{ints}
use Rattle.std.specs.Int.{int_max}
use Rattle.grib_dyadic.specs.Length.{IsLength}
use Rattle.grib_dyadic.specs.Reference.{two_to_difference}
use Rattle.grib_dyadic.proofs.IeeeWords.{WritesIeee, writes_ieee, no_ieee_past, no_ieee_digits}
use Rattle.grib_dyadic.proofs.ieee.ieee_magnitude.Goals as goal

-- the exponent and the place as the code passes them
abbrev passed : ℤ → ℤ
passed exponent = to_z w32 (of_z w32 exponent)

abbrev placed_at : ℕ → ℤ
placed_at place = to_z w32 (of_z w32 (to_z w32 place -ℤ pos 149))

pub returns-then-place-gt253-clause-exact : goal.returns-then-place-gt253-clause-exact
returns-then-place-gt253-clause-exact c =
    (λ h. cc, λ h. absurd (no_ieee_past c.args.mantissa c.bit_length.result c.ieee_place-place.result c.args.exponent (passed c.args.exponent) (pos 0) (omega arith) c.bit_length.ensures.length c.ieee_place-place.ensures (omega (arith, ints)) c.if-place-gt253.true h))

pub returns-in_err-digits-clause-exact : goal.returns-in_err-digits-clause-exact
returns-in_err-digits-clause-exact c =
    let none = c.in_err-digits.ensures.exact.1 in
    rw c.from_residual.ensures (λ h. absurd (false≢true h), λ h. absurd (no_ieee_digits c.args.mantissa c.bit_length.result c.ieee_place-place.result c.args.exponent (passed c.args.exponent) (placed_at c.ieee_place-place.result) (omega arith) c.bit_length.ensures.length c.ieee_place-place.ensures (omega (arith, ints)) (omega (arith, ints)) none h))

written : (m length place digits : ℕ) (k : ℤ) → 0 < m → IsLength length m → FitsSigned w32 k → pos place ≡ int_max (passed k +ℤ pos length +ℤ pos 125) (pos 0) → place ≤ 253 → placed_at place ≤ℤ passed k → digits ≡ m * two_to_difference (passed k) (placed_at place) → WritesIeee (place * 2 ^ 23 % 2 ^ 32 + digits) m k
written m length place digits k some l fits is small whole e =
    writes_ieee m length place k (passed k) (placed_at place) some l is (omega (arith, ints)) digits (place * 2 ^ 23 % 2 ^ 32 + digits) (omega (arith, ints)) small whole e refl

pub returns-clause-exact : goal.returns-clause-exact
returns-clause-exact c =
    let e = c.in_ok-digits.ensures in
    let w = written c.args.mantissa c.bit_length.result c.ieee_place-place.result c.in_ok-digits.digits c.args.exponent (omega arith) c.bit_length.ensures.length c.ranges.exponent c.ieee_place-place.ensures c.if-place-gt253.false (e.exact.0 refl).0 e.value in
    (λ h. w.has, λ h. refl)

pub returns-clause-number : goal.returns-clause-number
returns-clause-number c =
    let e = c.in_ok-digits.ensures in
    (written c.args.mantissa c.bit_length.result c.ieee_place-place.result c.in_ok-digits.digits c.args.exponent (omega arith) c.bit_length.ensures.length c.ranges.exponent c.ieee_place-place.ensures c.if-place-gt253.false (e.exact.0 refl).0 e.value).number
