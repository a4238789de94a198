use Rattle.std.proofs.Common.{◌≡◌, ℕ, ◌<◌, ◌^◌, nat_abs, to_z, of_z, to_z-of_z, FitsSigned, ap, sym, subst, ◌∙◌, arith, rules}
use Rattle.std.specs.Int.{w32, w64}
use Rattle.std.proofs.lemmas.Int.{fits_signed_from_abs}
use Rattle.grib_bits.specs.Bits.{bits_of, signed}
use Rattle.grib_dyadic.proofs.Factors.{small_factor}
use Rattle.grib_dyadic.proofs.factor.scale_factor.Goals as goal

factor_fits : (n : ℕ) → n < 2 ^ 16 → FitsSigned w32 (signed (bits_of 16 n))
factor_fits n small = fits_signed_from_abs w32 (signed (bits_of 16 n)) (let less = small_factor n small in omega (arith, less))

pub overflow_cast-result : goal.overflow_cast-result
overflow_cast-result c =
    let fits : FitsSigned w64 c.signed_of.result = search rules in
    let e : to_z w64 (of_z w64 c.signed_of.result) ≡ signed (bits_of 16 c.args.raw) = to_z-of_z fits ∙ c.signed_of.ensures ∙ ap (λ n. signed (bits_of 16 n)) c.from.ensures in
    subst (FitsSigned w32) (sym e) (factor_fits c.args.raw (omega arith))

pub returns-clause-value : goal.returns-clause-value
returns-clause-value c =
    let fits : FitsSigned w64 c.signed_of.result = search rules in
    let e : to_z w64 (of_z w64 c.signed_of.result) ≡ signed (bits_of 16 c.args.raw) = to_z-of_z fits ∙ c.signed_of.ensures ∙ ap (λ n. signed (bits_of 16 n)) c.from.ensures in
    ap (λ z. to_z w32 (of_z w32 z)) e ∙ to_z-of_z (factor_fits c.args.raw (omega arith))

pub returns-clause-small : goal.returns-clause-small
returns-clause-small c =
    let fits : FitsSigned w64 c.signed_of.result = search rules in
    let e : to_z w64 (of_z w64 c.signed_of.result) ≡ signed (bits_of 16 c.args.raw) = to_z-of_z fits ∙ c.signed_of.ensures ∙ ap (λ n. signed (bits_of 16 n)) c.from.ensures in
    let value : to_z w32 (of_z w32 (to_z w64 (of_z w64 c.signed_of.result))) ≡ signed (bits_of 16 c.args.raw) = ap (λ z. to_z w32 (of_z w32 z)) e ∙ to_z-of_z (factor_fits c.args.raw (omega arith)) in
    subst (λ z. nat_abs z < 2 ^ 15) (sym value) (small_factor c.args.raw (omega arith))
