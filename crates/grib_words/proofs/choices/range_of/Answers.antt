use Rattle.std.proofs.Common.{◌≡◌, ℕ, ◌==◌, ℤ, false, Some, List, length, refl, sym, ◌∙◌, FitsSigned, w64, to_z-of_z, rules}
use Rattle.grib_numbers.specs.Numbers.{signed_number}
use Rattle.grib_words.specs.Choices.{between, range_of}
use Rattle.grib_words.proofs.choices.range_of.Goals as goal

two_ends : (least most : List ℕ) (low high : ℤ) → (length least == 0) ≡ false → (length most == 0) ≡ false
    → signed_number least ≡ Some low → signed_number most ≡ Some high → between low high ≡ range_of least most
two_ends least most low high some_least some_most least_is most_is = rw (some_least, some_most, least_is, most_is) refl

pub returns : goal.returns
returns c =
    let low : FitsSigned w64 c.in_ok-signed_number-3.field-0 = search rules in
    let high : FitsSigned w64 c.in_ok-signed_number-4.field-0 = search rules in
    let ends = two_ends c.args.least.now c.args.most.now c.in_ok-signed_number-3.field-0 c.in_ok-signed_number-4.field-0
    (sym c.is_empty.ensures ∙ c.if-is_empty.false) (sym c.is_empty-2.ensures ∙ c.if-is_empty-2.false)
    (sym c.signed_number-2.ensures ∙ c.in_ok-signed_number-3.was) (sym c.signed_number-3.ensures ∙ c.in_ok-signed_number-4.was) in
    let made = simp to_z-of_z at c.between.ensures in
    made ∙ ends
