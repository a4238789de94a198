use Rattle.std.proofs.Common.{◌≡◌, ℕ, ◌+◌, List, ◌++◌, length, ap, ◌∙◌, arith}
use Rattle.grib2_sections.specs.Head.{end_mark}
use Rattle.grib_synthetic.specs.Made.{made_indicator, made_identification, made_grid, made_product}
use Rattle.grib_synthetic.proofs.Joined.{joined}
use Rattle.grib_synthetic.proofs.making.join.Goals as goal

pub returns : goal.returns
returns c =
    let parts = c.args.parts.now in
    let s5 = c.as_slice-section5.result.now in
    let s6 = c.as_slice-section6.result.now in
    let s7 = c.as_slice-section7.result.now in
    let total = 147 + length s5 + length s6 + length s7 in
    let front : List ℕ = made_indicator total ++ made_identification ++ made_grid c.args.ni c.args.nj ++ made_product in
    let begun : c.add_front.new.message.items ≡ front =
    c.in_ok-add_front.ensures ∙ ap (λ (xs : List ℕ). xs ++ front) c.in_ok-message.ensures.items in
    let with_5 : c.extend_from_slice.new.self.items ≡ front ++ parts.section5 =
    c.in_ok-extend_from_slice.ensures.items ∙ ap (λ (xs : List ℕ). xs ++ s5) begun ∙ ap (λ (xs : List ℕ). front ++ xs) c.as_slice-section5.ensures in
    let with_6 : c.extend_from_slice-2.new.self.items ≡ (front ++ parts.section5) ++ parts.section6 =
    c.in_ok-extend_from_slice-2.ensures.items ∙ ap (λ (xs : List ℕ). xs ++ s6) with_5
    ∙ ap (λ (xs : List ℕ). (front ++ parts.section5) ++ xs) c.as_slice-section6.ensures in
    let with_7 : c.extend_from_slice-3.new.self.items ≡ ((front ++ parts.section5) ++ parts.section6) ++ parts.section7 =
    c.in_ok-extend_from_slice-3.ensures.items ∙ ap (λ (xs : List ℕ). xs ++ s7) with_6
    ∙ ap (λ (xs : List ℕ). ((front ++ parts.section5) ++ parts.section6) ++ xs) c.as_slice-section7.ensures in
    let long : total ≡ 147 + length parts.section5 + length parts.section6 + length parts.section7 =
    omega (arith, ap length c.as_slice-section5.ensures, ap length c.as_slice-section6.ensures, ap length c.as_slice-section7.ensures) in
    c.in_ok-extend_from_slice-4.ensures.items ∙ ap (λ (xs : List ℕ). xs ++ end_mark) with_7
    ∙ joined c.args.ni c.args.nj total parts long
