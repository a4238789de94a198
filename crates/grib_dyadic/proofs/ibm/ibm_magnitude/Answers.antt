use Rattle.std.proofs.Common.{◌≡◌, ℕ, ◌+◌, ◌*◌, ◌%◌, ◌^◌, ◌<◌, ◌≤◌, ℤ, pos, ◌+ℤ◌, ◌-ℤ◌, ◌*ℤ◌, ◌≤ℤ◌, FitsSigned, refl, arith, w32, to_z, of_z}
use Rattle.std.proofs.lemmas.Bool.{false≢true}
use Rattle.std.proofs.lemmas.Int.{ints}
use Rattle.grib_dyadic.specs.Length.{IsLength}
use Rattle.grib_dyadic.specs.Reference.{two_to_difference}
use Rattle.grib_dyadic.proofs.IbmWords.{WritesIbm, writes_ibm, least_ibm, no_ibm_past, no_ibm_digits}
use Rattle.grib_dyadic.proofs.ibm.ibm_magnitude.Goals as goal

-- the exponent and the place as the code passes them
abbrev passed : ℤ → ℤ
passed exponent = to_z w32 (of_z w32 exponent)

abbrev placed_at : ℕ → ℤ
placed_at a = to_z w32 (of_z w32 (to_z w32 (of_z w32 (pos 4 *ℤ to_z w32 a)) -ℤ pos 280))

pub returns-then-a-gt127-clause-exact : goal.returns-then-a-gt127-clause-exact
returns-then-a-gt127-clause-exact c =
    (λ h. cc, λ h. absurd (no_ibm_past c.args.mantissa c.bit_length.result c.least_a-a.result c.args.exponent (passed c.args.exponent) (pos 0) (omega arith) c.bit_length.ensures.length (omega (arith, ints)) c.least_a-a.ensures.least c.if-a-gt127.true h))

pub returns-in_err-b-clause-exact : goal.returns-in_err-b-clause-exact
returns-in_err-b-clause-exact c =
    let none = c.in_err-b.ensures.exact.1 in
    let a = c.least_a-a in
    rw c.from_residual.ensures (λ h. absurd (false≢true h), λ h. absurd (no_ibm_digits c.args.mantissa c.bit_length.result a.result c.args.exponent (passed c.args.exponent) (placed_at a.result) (omega arith) c.bit_length.ensures.length (omega (arith, ints)) a.ensures.least a.ensures.enough (omega (arith, ints)) none h))

written : (m length a digits : ℕ) (k : ℤ) → 0 < m → IsLength length m → FitsSigned w32 k → (passed k +ℤ pos length) ≤ℤ (pos (4 * a) -ℤ pos 256) → a ≤ 127 → placed_at a ≤ℤ passed k → digits ≡ m * two_to_difference (passed k) (placed_at a) → WritesIbm (a * 2 ^ 24 % 2 ^ 32 + digits) m a k
written m length a digits k some l fits enough small whole e =
    writes_ibm m length a k (passed k) (placed_at a) some l (omega (arith, ints)) digits (a * 2 ^ 24 % 2 ^ 32 + digits) enough (omega (arith, ints)) small whole e refl

pub returns-clause-exact : goal.returns-clause-exact
returns-clause-exact c =
    let e = c.in_ok-b.ensures in
    let w = written c.args.mantissa c.bit_length.result c.least_a-a.result c.in_ok-b.b c.args.exponent (omega arith) c.bit_length.ensures.length c.ranges.exponent c.least_a-a.ensures.enough c.if-a-gt127.false (e.exact.0 refl).0 e.value in
    (λ h. w.has, λ h. refl)

pub returns-clause-number : goal.returns-clause-number
returns-clause-number c =
    let e = c.in_ok-b.ensures in
    (written c.args.mantissa c.bit_length.result c.least_a-a.result c.in_ok-b.b c.args.exponent (omega arith) c.bit_length.ensures.length c.ranges.exponent c.least_a-a.ensures.enough c.if-a-gt127.false (e.exact.0 refl).0 e.value).number

pub returns-clause-least : goal.returns-clause-least
returns-clause-least c = λ a some has.
    let e = c.in_ok-b.ensures in
    let w = written c.args.mantissa c.bit_length.result c.least_a-a.result c.in_ok-b.b c.args.exponent some c.bit_length.ensures.length c.ranges.exponent c.least_a-a.ensures.enough c.if-a-gt127.false (e.exact.0 refl).0 e.value in
    let is = w.a_is in
    let below = least_ibm c.args.mantissa c.bit_length.result c.least_a-a.result c.args.exponent (passed c.args.exponent) (pos 0) some c.bit_length.ensures.length (omega (arith, ints)) c.least_a-a.ensures.least a has in
    omega arith
