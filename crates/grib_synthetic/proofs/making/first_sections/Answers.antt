use Rattle.std.proofs.Common.{◌≡◌, ℕ, ◌++◌, refl, ap, ◌∙◌}
use Rattle.grib_bits.specs.Bits.{bits}
use Rattle.grib_bits.specs.Encoding.{AddsOctets}
use Rattle.grib_bits.proofs.Encoding.{AddsOctets-append, AddsOctets-same}
use Rattle.grib_bits.proofs.Listed.{AreOctets-from_All}
use Rattle.grib_bits.proofs.OctetBits.{same_from_bits}
use Rattle.grib2_grids.specs.Written.{section_of_grid}
use Rattle.grib2_products.specs.Written.{section_of_product}
use Rattle.grib_synthetic.specs.Made.{made_identification, made_grid, made_product}
use Rattle.grib_synthetic.specs.Sections.{grid_with, product_with}
use Rattle.grib_synthetic.proofs.making.first_sections.Goals as goal

grid_is : (ni nj : ℕ) → section_of_grid (grid_with ni nj) ≡ made_grid ni nj
grid_is ni nj = refl

product_is : section_of_product product_with ≡ made_product
product_is = refl

pub returns : goal.returns
returns c =
    let sections = made_identification ++ made_grid c.args.ni c.args.nj ++ made_product in
    let first = AddsOctets-same _ made_identification refl c.write_identification.ensures.octets in
    let third = AddsOctets-same _ (made_grid c.args.ni c.args.nj) (ap section_of_grid c.grid.ensures ∙ grid_is c.args.ni c.args.nj) c.write_grid.ensures.octets in
    let fourth = AddsOctets-same _ made_product (ap section_of_product c.product.ensures ∙ product_is) c.write_product.ensures.octets in
    let all : AddsOctets c.in_ok-out.out c.write_product.new.out sections = AddsOctets-append (AddsOctets-append first third) fourth in
    same_from_bits c.octets_written.result sections (AreOctets-from_All c.octets_written.result c.octets_written.ensures.octets) (AreOctets-from_All sections all.small)
    (c.octets_written.ensures.bits ∙ all.bits ∙ ap (λ before. before ++ bits sections) c.in_ok-out.ensures.0)
