-- What a section has that no rule refuses.
use Rattle.std.proofs.Common.{◌≡◌, ℕ, ◌≤◌, true, List, length, arith, ltb-false}
use Rattle.std.proofs.lemmas.Bool.{not-false}
use Rattle.std.proofs.lemmas.Bool.Decides.{nat_tests}
use Rattle.std.specs.Prelude.{None}
use Rattle.grib_base.specs.Rules.{first_fault}
use Rattle.grib_base.proofs.Passing.{passes_from_none}
use Rattle.grib2_sections.specs.Template.{is_template, least_length}
use Rattle.grib2_products.specs.Product.{product_rules, product_templates, product_template, product_length}
use Rattle.grib2_products.specs.Whole.{IsWhole}

least-low : (t : ℕ) → is_template product_templates t ≡ true → 34 ≤ least_length product_templates t
least-low t known = grind (arith, nat_tests)

pub is_whole : (s : List ℕ) → first_fault (product_rules s 1) ≡ None → IsWhole s
is_whole s none =
    let rules = passes_from_none (product_rules s 1) none in
    let known = not-false (is_template product_templates (product_template s)) rules.1.1.0 in
    let short = ltb-false (length s) (least_length product_templates (product_template s)) rules.1.1.1.0 in
    record {
      known = known;
      long = ltb-false (length s) (product_length s) rules.1.1.1.1.0;
      least = omega (arith, short, least-low (product_template s) known);
    }
