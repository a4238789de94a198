use Rattle.std.proofs.Common.{◌≡◌, ℕ, ◌-◌, ◌≤◌, List, length, cond, eqb, get_or, ap, ◌∙◌, arith, sym, inl, inr}
use Rattle.std.proofs.lemmas.Bool.{cases_eq, cond-true, cond-false, eq-eqb, ne_eqb}
use Rattle.grib_bits.specs.Octets.{octets}
use Rattle.grib_bits.proofs.OctetBits.{AreOctets}
use Rattle.grib_bits.proofs.OctetNumbers.{AreOctets-known, big_number-rest}
use Rattle.grib_packing.specs.Packing.{packing_template}
use Rattle.grib2_sections.proofs.Frames.{octet_alone}
use Rattle.grib_complex_reading.proofs.representation.numbers.Goals as goal

-- an octet of template 5.3, where the section has it
spatial_octet : (s : List ℕ) (template place : ℕ) → AreOctets s → template ≡ packing_template s → 1 ≤ place → (packing_template s ≡ 3 → place ≤ length s)
    → cond (eqb template 3) (get_or s (place - 1) 0) 0 ≡ cond (eqb (packing_template s) 3) (octets s place place) 0
spatial_octet s template place known is_template counted there =
    ap (λ (t : ℕ). cond (eqb t 3) (get_or s (place - 1) 0) 0) is_template
    ∙ elim (cases_eq (packing_template s) 3) [
      | inl three ↦
          cond-true (eqb (packing_template s) 3) (get_or s (place - 1) 0) 0 (eq-eqb (packing_template s) 3 three)
          ∙ octet_alone s place known counted (there three)
          ∙ sym (cond-true (eqb (packing_template s) 3) (octets s place place) 0 (eq-eqb (packing_template s) 3 three))
      | inr other ↦
          cond-false (eqb (packing_template s) 3) (get_or s (place - 1) 0) 0 (ne_eqb (packing_template s) 3 other)
          ∙ sym (cond-false (eqb (packing_template s) 3) (octets s place place) 0 (ne_eqb (packing_template s) 3 other))
    ]

pub returns : goal.returns
returns c =
    let s = c.args.octets.now in
    let known = AreOctets-known s c.type_inv.octets in
    let long = c.requires.spatial in
    record {
      simple = c.requires.simple;
      split = octet_alone s 22 known (omega arith) (omega arith);
      primary = c.read_u32.ensures ∙ big_number-rest s 24 27 4 known (omega arith) (omega arith) (omega arith);
      secondary = c.read_u32-2.ensures ∙ big_number-rest s 28 31 4 known (omega arith) (omega arith) (omega arith);
      layout = c.layout.ensures;
      order = c.spatial_octet.ensures ∙ spatial_octet s c.args.simple.template 48 known c.requires.simple.template (omega arith) (λ three. omega (arith, long three));
      extra = c.spatial_octet-2.ensures ∙ spatial_octet s c.args.simple.template 49 known c.requires.simple.template (omega arith) (λ three. omega (arith, long three));
    }
