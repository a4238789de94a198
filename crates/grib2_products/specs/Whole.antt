-- What the rules of Section 4 tell of a section's length.
use Rattle.std.specs.Prelude.{◌≡◌, ℕ, ◌≤◌, true, List, length}
use Rattle.grib2_sections.specs.Template.{is_template}
use Rattle.grib2_products.specs.Product.{product_templates, product_template, product_length}

-- the section has a template of the profile, its time ranges and its coordinate values as a whole
pub record IsWhole (s : List ℕ) : Type 0 where
  pub known : is_template product_templates (product_template s) ≡ true
  pub long : product_length s ≤ length s
  pub least : 34 ≤ length s
