-- Octets that are added one part after another.
use Rattle.std.proofs.Common.{◌≡◌, ℕ, ◌+◌, List, [], ◌++◌, length, ap, ◌∙◌, sym, arith, append_assoc, append-nil, length-append}
use Rattle.std.specs.List.{concat}
use Rattle.grib2_sections.specs.Head.{end_mark}
use Rattle.grib_packing.specs.declared.written.Packed.{Packed}
use Rattle.grib_synthetic.specs.Made.{made_indicator, made_identification, made_grid, made_product, sections_with, message_with}

-- octets behind those that were added before
pub added : (old before now more next : List ℕ) → before ≡ old ++ more → now ≡ before ++ next → now ≡ old ++ (more ++ next)
added old before now more next first second = second ∙ ap (λ (xs : List ℕ). xs ++ next) first ∙ append_assoc old more next

-- the parts of a message, one after another
pub joined : (ni nj total : ℕ) (parts : Packed) → total ≡ 147 + length parts.section5 + length parts.section6 + length parts.section7
    → (((((made_indicator total ++ made_identification ++ made_grid ni nj ++ made_product) ++ parts.section5) ++ parts.section6) ++ parts.section7) ++ end_mark)
    ≡ message_with ni nj parts
joined ni nj total parts is =
    let s5 = parts.section5 in
    let s6 = parts.section6 in
    let s7 = parts.section7 in
    let rest = concat (sections_with ni nj parts) in
    let long : length rest ≡ 127 + length s5 + length s6 + length s7 =
    omega (arith, length-append s5 (s6 ++ (s7 ++ [])), length-append s6 (s7 ++ []), length-append s7 []) in
    let stated : total ≡ 16 + length rest + 4 = omega (arith, is, long) in
    let behind : ((s5 ++ s6) ++ s7) ≡ s5 ++ (s6 ++ (s7 ++ [])) = append_assoc s5 s6 s7 ∙ ap (λ (xs : List ℕ). s5 ++ (s6 ++ xs)) (sym (append-nil s7)) in
    ap (λ (xs : List ℕ). (made_indicator total ++ made_identification ++ made_grid ni nj ++ made_product ++ xs) ++ end_mark) behind
    ∙ ap (λ (t : ℕ). made_indicator t ++ rest ++ end_mark) stated
