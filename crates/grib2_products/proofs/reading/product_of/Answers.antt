use Rattle.std.proofs.Common.{length, ap, ◌+◌, ◌∙◌}
use Rattle.grib_bits.proofs.Listed.{length-numbers_at}
use Rattle.grib2_products.specs.Product.{template_length, coordinate_count}
use Rattle.grib2_products.proofs.reading.product_of.Goals as goal

pub returns-clause-numbers : goal.returns-clause-numbers
returns-clause-numbers c =
    let s = c.args.octets.now in
    let coordinates = c.of.ensures ∙ c.in_ok-coordinates.ensures.coordinates in
    record {
      count = ap length coordinates ∙ length-numbers_at s (template_length s + 1) 4 (coordinate_count s);
      template = c.in_ok-product.ensures.template;
      product = c.in_ok-product.ensures.octets;
      coordinates = coordinates;
    }
