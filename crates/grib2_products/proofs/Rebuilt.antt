-- A section that is written from a value has the value again.
use Rattle.std.proofs.Common.{◌≡◌, ℕ, ◌+◌, ◌*◌, ◌^◌, ◌<◌, ◌≤◌, not, ◌++◌, length, get_or, All, refl, sym, ap, ap₂, ◌∙◌, arith, le-ltb}
use Rattle.std.proofs.lemmas.List.{length-append}
use Rattle.std.specs.Prelude.{None}
use Rattle.grib_bits.specs.Listed.{numbers_at, numbers_octets}
use Rattle.grib_bits.proofs.Listed.{length-numbers_octets, numbers_at-behind}
use Rattle.grib_base.specs.Rules.{first_fault}
use Rattle.grib_base.proofs.Passing.{none_from_passes}
use Rattle.grib2_sections.specs.Template.{least_length, is_template}
use Rattle.grib2_products.specs.Product.{product_rules, product_templates, product_template, product_length, template_length}
use Rattle.grib2_products.specs.Spelled.{IsSectionOf, SpelledTemplate, template_of, range_count, coordinate_list, written_length}
use Rattle.grib2_products.specs.Writable.{IsWritable}
use Rattle.grib2_products.specs.Written.{SpelledHeader, header, template_octets, section_of_product}
use Rattle.grib2_products.specs.declared.product.ProductSection.{ProductSection}
use Rattle.grib2_products.proofs.ByTemplate.{ranges_spelled, length-template_octets, template_known}

pub length-section_of_product : (value : ProductSection) → IsWritable value → length (section_of_product value) ≡ written_length value
length-section_of_product value w =
    let front = header (written_length value) (length value.coordinates) (template_of value.product) ++ template_octets value.product in
    let template = length-template_octets value.product w.ranges in
    omega (arith, length-append front (numbers_octets 4 value.coordinates), length-numbers_octets 4 value.coordinates)

module _ (value : ProductSection) (w : IsWritable value) (fit : (k : ℕ) → k < length value.coordinates → get_or value.coordinates k 0 < 256 ^ 4)
    (h : SpelledHeader (written_length value) (length value.coordinates) (template_of value.product) (section_of_product value))
    (product : SpelledTemplate value.product (section_of_product value)) where
  template_new : least_length product_templates (template_of value.product) + 12 * range_count value.product ≡ template_length (section_of_product value)
  template_new =
      ap₂ (λ (t n : ℕ). least_length product_templates t + 12 * n) h.template_octets
      (ranges_spelled value.product (section_of_product value) h.template_octets product)

  list_new : value.coordinates ≡ coordinate_list (section_of_product value)
  list_new =
      let new = section_of_product value in
      let first = template_length new + 1 in
      let front = header (written_length value) (length value.coordinates) (template_of value.product) ++ template_octets value.product in
      let template = length-template_octets value.product w.ranges in
      let place : first ≡ length front + 1 = omega (arith, template_new) in
      numbers_at-behind front 4 value.coordinates first place (omega arith) fit ∙ ap (numbers_at new first 4) h.count_octets

  -- no rule of the profile refuses it
  passes_new : first_fault (product_rules (section_of_product value) 1) ≡ None
  passes_new =
      let new = section_of_product value in
      let size = length-section_of_product value w in
      let template = length-template_octets value.product w.ranges in
      let count = h.count_octets in
      let whole : product_length new ≤ length new = omega (arith, template_new) in
      let least : least_length product_templates (product_template new) ≤ length new = omega (arith, template_new) in
      none_from_passes (product_rules new 1) (
        le-ltb (length new) 9 (omega arith),
        (
          refl,
          (
            ap (λ (n : ℕ). not (is_template product_templates n)) (sym h.template_octets) ∙ template_known value.product,
            (le-ltb (length new) (least_length product_templates (product_template new)) least, (le-ltb (length new) (product_length new) whole, tt)),
          ),
        ),
      )

  pub rebuilt : All (λ (octet : ℕ). octet < 256) (section_of_product value) → IsSectionOf value (section_of_product value)
  rebuilt small =
      let size = length-section_of_product value w in
      let template = length-template_octets value.product w.ranges in
      record {
        small = small;
        itself = record {
          length_stands = sym h.length_octets ∙ sym size;
          least = omega arith;
          number_stands = sym h.number_octets;
        };
        rules = passes_new;
        spelled = record {
          count = h.count_octets;
          template = h.template_octets;
          product = product;
          coordinates = list_new;
        };
      }
