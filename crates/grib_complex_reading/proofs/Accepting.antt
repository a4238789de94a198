-- Lemmas on a Section 5 that is accepted.
use Rattle.std.proofs.Common.{◌≡◌, ℕ, ◌⊎◌, Bool, true, false, not, ◌&&◌, eqb, None, List, sym, ap, ◌∙◌, arith, inl, inr}
use Rattle.std.proofs.lemmas.Bool.{cond-false, eq-eqb, ne_eqb, ltb-false, cases_eq}
use Rattle.grib_base.proofs.Passing.{passes_from_none, second_fails}
use Rattle.grib_packing.specs.Complex.{complex_rules, layout_of, difference_order, extra_octets}
use Rattle.grib_packing.specs.Packing.{packing_template}
use Rattle.grib_packing.specs.Entries.{packing_fault}
use Rattle.grib_packing.proofs.Packings.{IsComplexTemplate, most-complex, packing_fault-complex, packing_shared, packing_passes}
use Rattle.grib_complex_reading.specs.declared.representation.Complex.{Complex}
use Rattle.grib_complex_reading.specs.Representation.{Spelled}
use Rattle.grib_complex_reading.specs.Descriptors.{IsAccepted}

-- the tests of rules S5.7 to S5.13 that the code needs
pub accepted_from : (complex : Complex) (s : List ℕ) (points : ℕ) → packing_fault s points ≡ None → Spelled complex s
    → IsComplexTemplate (packing_template s) → IsAccepted complex
accepted_from complex s points accepted spelled templates =
    let passes = packing_passes s points accepted in
    let c = passes_from_none (complex_rules s) (sym (packing_fault-complex s points (packing_shared s points accepted) templates) ∙ accepted) in
    record {
      reference_bits = omega (arith, ap (λ l. l.reference_bits) spelled.layout, passes.narrow, most-complex (packing_template s) templates);
      width_bits = omega (arith, ap (λ l. l.width_bits) spelled.layout, ltb-false 32 (layout_of s).width_bits c.1.1.1.0);
      length_bits = omega (arith, ap (λ l. l.length_bits) spelled.layout, ltb-false 32 (layout_of s).length_bits c.1.1.1.1.0);
      extra = elim templates [
        | inl two ↦
            let none : extra_octets s ≡ 0 = cond-false (eqb (packing_template s) 3) _ 0 (ne_eqb (packing_template s) 3 (λ three. absurd (omega arith))) in
            omega (arith, spelled.extra, none)
        | inr three ↦
            omega (arith, spelled.extra, ltb-false 4 (extra_octets s) (second_fails (eqb (packing_template s) 3) _ c.1.1.1.1.1.1.0 (eq-eqb (packing_template s) 3 three)))
      ];
      order = elim templates [
        | inl two ↦
            let none : difference_order s ≡ 0 = cond-false (eqb (packing_template s) 3) _ 0 (ne_eqb (packing_template s) 3 (λ three. absurd (omega arith))) in
            inl (spelled.simple.template ∙ two, spelled.order ∙ none)
        | inr three ↦
            let template : complex.simple.template ≡ 3 = spelled.simple.template ∙ three in
            inr (template, orders (eqb (packing_template s) 3) (difference_order s) complex.order spelled.order c.1.1.1.1.1.0 (eq-eqb (packing_template s) 3 three))
      ];
    } where
      orders : (spatial : Bool) (o order : ℕ) → order ≡ o → (spatial && not (eqb o 1) && not (eqb o 2)) ≡ false → spatial ≡ true → (order ≡ 1) ⊎ (order ≡ 2)
      orders spatial o order is_order fails holds = elim (cases_eq o 1) [
        | inl one ↦ inl (is_order ∙ one)
        | inr other ↦ elim (cases_eq o 2) [
          | inl two ↦ inr (is_order ∙ two)
          | inr third ↦ absurd (apart spatial (eqb o 1) (eqb o 2) fails holds (ne_eqb o 1 other) (ne_eqb o 2 third))
        ]
      ] where
        apart : (a b c : Bool) → (a && not b && not c) ≡ false → a ≡ true → b ≡ false → c ≡ false → ⊥
        apart true false false fails x y z = absurd (cc)
        apart true true c fails x y z = absurd (cc)
        apart true false true fails x y z = absurd (cc)
        apart false b c fails x y z = absurd (cc)
