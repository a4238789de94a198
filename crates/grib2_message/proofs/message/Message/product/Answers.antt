use Rattle.std.proofs.Common.{ℕ, List, length, sym, ap, ◌∙◌, arith}
use Rattle.grib_base.specs.declared.profile.Profile.TheVariants.{Open}
use Rattle.grib_base.specs.Rules.{first_fault}
use Rattle.grib2_products.specs.Opaque.{product_rules_under}
use Rattle.grib2_products.proofs.Numbers.{is_whole}
use Rattle.grib2_products.proofs.Under.{same_product_rules, product_parameter_length}
use Rattle.grib2_message.specs.Fields.{part_octets}
use Rattle.grib2_message.proofs.message.Message.product.Goals as goal

pub is_opaque_product-requires : goal.is_opaque_product-requires
is_opaque_product-requires c =
    omega (arith, ap length c.in-Some.ensures.part.1, product_parameter_length Open (part_octets c.args.self.now c.args.field 4) 1 c.in-Some.ensures.passes.product)

pub product_of-requires : goal.product_of-requires
product_of-requires c =
    let s = c.in-Some.section.octets.now in
    let stated = sym c.is_opaque_product.ensures ∙ c.if-is_opaque_product.false in
    is_whole s (ap first_fault (sym (same_product_rules Open s 1 stated))
    ∙ (ap (λ (x : List ℕ). first_fault (product_rules_under Open x 1)) c.in-Some.ensures.part.1 ∙ c.in-Some.ensures.passes.product))
