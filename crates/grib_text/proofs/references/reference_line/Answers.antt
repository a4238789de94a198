use Rattle.std.proofs.Common.{◌≡◌, ap, ◌∙◌, arith, w64, to_z, of_z}
use Rattle.std.proofs.lemmas.Int.{ints}
use Rattle.grib_bits.specs.Bits.{bits_of, signed}
use Rattle.grib_text.proofs.Pieces.{reference_line-pieces}
use Rattle.grib_text.proofs.references.reference_line.Goals as goal

pub returns : goal.returns
returns c =
    let e = c.signed_of-binary in
    let d = c.signed_of-decimal in
    let e_same : to_z w64 (of_z w64 e.result) ≡ e.result = omega (arith, ints) in
    let d_same : to_z w64 (of_z w64 d.result) ≡ d.result = omega (arith, ints) in
    let e_is = e_same ∙ e.ensures ∙ ap (λ n. signed (bits_of 16 n)) c.from.ensures in
    let d_is = d_same ∙ d.ensures ∙ ap (λ n. signed (bits_of 16 n)) c.from-2.ensures in
    ap (λ v. v.items) c.into_bytes.ensures.value ∙ c.in_ok-line.ensures.ok
    ∙ reference_line-pieces c.args.reference.now (signed (bits_of 16 c.args.e)) (signed (bits_of 16 c.args.d)) c.negative-negative.result c.sign_of-sign.result.now c.mantissa-mantissa.result _ _ _ c.negative-negative.ensures c.sign_of-sign.ensures c.mantissa-mantissa.ensures.value (omega (arith, ints)) e_is d_is
