use Rattle.std.proofs.Common.{◌≡◌, ℤ, w32, to_z, of_z, arith}
use Rattle.std.proofs.lemmas.Int.{ints}
use Rattle.grib_dyadic.proofs.Signs.{HasParts}
use Rattle.grib_dyadic.proofs.IbmWords.{no_ibm_word, ibm_number, ibm_least}
use Rattle.grib_dyadic.proofs.dyadic.Dyadic.to_ibm.Goals as goal

-- the exponent as the code passes it
abbrev passed : ℤ → ℤ
passed exponent = to_z w32 (of_z w32 exponent)

pub returns-in_err-magnitude-clause-no_word : goal.returns-in_err-magnitude-clause-no_word
returns-in_err-magnitude-clause-no_word c =
    let none = c.in_err-magnitude.ensures.exact.1 in
    rw c.from_residual.ensures (no_ibm_word c.args.self.now c.mantissa.result (passed c.exponent.result) c.mantissa.ensures.value (omega (arith, ints)) c.mantissa.ensures.reduced none)

pub returns-clause-number : goal.returns-clause-number
returns-clause-number c =
    let e = c.in_ok-magnitude.ensures in
    let parts : HasParts c.args.self.now c.negative.result c.mantissa.result (passed c.exponent.result) = record { sign = c.negative.ensures; mantissa = c.mantissa.ensures.value; exponent = omega (arith, ints) } in
    (ibm_number c.args.self.now c.negative.result c.mantissa.result c.in_ok-magnitude.magnitude c.signed_word.result (passed c.exponent.result) parts e.unsigned e.number c.signed_word.ensures).1

pub returns-clause-least : goal.returns-clause-least
returns-clause-least c =
    let e = c.in_ok-magnitude.ensures in
    let parts : HasParts c.args.self.now c.negative.result c.mantissa.result (passed c.exponent.result) = record { sign = c.negative.ensures; mantissa = c.mantissa.ensures.value; exponent = omega (arith, ints) } in
    let a_is = (ibm_number c.args.self.now c.negative.result c.mantissa.result c.in_ok-magnitude.magnitude c.signed_word.result (passed c.exponent.result) parts e.unsigned e.number c.signed_word.ensures).0 in
    let zero : c.mantissa.result ≡ 0 → c.in_ok-magnitude.magnitude ≡ 0 = λ h. let s = e.zero h in cc in
    ibm_least c.args.self.now c.mantissa.result c.in_ok-magnitude.magnitude c.signed_word.result (passed c.exponent.result) c.mantissa.ensures.value parts.exponent c.mantissa.ensures.reduced a_is zero e.least
