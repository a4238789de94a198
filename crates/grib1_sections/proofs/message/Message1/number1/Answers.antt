use Rattle.std.proofs.Common.{◌≡◌, ◌≢◌, refl, sym, ap, ◌∙◌, subst, arith, w64, SFits, to_z, to_z-of_z, ℕ, List, pos}
use Rattle.std.proofs.lemmas.Int.{ints}
use Rattle.grib_bits.specs.Bits.{bits_of, signed}
use Rattle.grib1_sections.specs.Keys.{key1_of, number1_of}
use Rattle.grib_keys.specs.declared.key1.Key1.{Key1}
use Rattle.grib_keys.specs.declared.key1.Key1.TheVariants.{Version, DecimalScale}
use Rattle.grib1_sections.proofs.message.Message1.number1.Goals as goal

with_sign : (m : List ℕ) (key : Key1) → key ≡ DecimalScale → signed (bits_of 16 (key1_of m key)) ≡ number1_of m key
with_sign m key is = subst (λ (k : Key1). signed (bits_of 16 (key1_of m k)) ≡ number1_of m k) (sym is) refl

without_sign : (m : List ℕ) (key : Key1) → key ≢ DecimalScale → pos (key1_of m key) ≡ number1_of m key
without_sign m DecimalScale other = absurd (other refl)
without_sign m Version other = refl
without_sign m key other = refl

pub returns-in-DecimalScale : goal.returns-in-DecimalScale
returns-in-DecimalScale c =
    let fits : SFits w64 c.signed_of.result = record { sfits = c.signed_of.type_inv } in
    to_z-of_z fits ∙ c.signed_of.ensures
    ∙ ap (λ (n : ℕ). signed (bits_of 16 n)) c.key1-number.ensures.number
    ∙ with_sign c.args.self.now c.args.key c.in-DecimalScale.is

pub returns-in_default : goal.returns-in_default
returns-in_default c =
    let small = c.key1-number.ensures.small in
    let plain : to_z w64 c.key1-number.result ≡ pos c.key1-number.result = omega (arith, ints) in
    plain ∙ ap pos c.key1-number.ensures.number ∙ without_sign c.args.self.now c.args.key c.in_default.not-DecimalScale
