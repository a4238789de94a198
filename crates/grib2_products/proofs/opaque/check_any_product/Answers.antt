-- The rules of a product that is not opaque are those of the stated profile.
use Rattle.std.proofs.Common.{◌≡◌, List, sym, ◌∙◌, subst}
use Rattle.std.specs.Prelude.{Some, None, MatchResult, false}
use Rattle.grib_base.specs.declared.profile.Profile.TheVariants.{Open}
use Rattle.grib_base.specs.Rules.{Rule, first_fault_at}
use Rattle.grib2_products.specs.Opaque.{is_opaque_product}
use Rattle.grib2_products.proofs.Under.{same_product_rules}
use Rattle.grib2_products.proofs.opaque.check_any_product.Goals as goal

pub returns-then-not-is_opaque_product : goal.returns-then-not-is_opaque_product
returns-then-not-is_opaque_product c =
    let section = c.args.section.now in
    let s = section.octets.now in
    let stated : is_opaque_product s ≡ false = sym c.is_opaque_product.ensures ∙ c.if-not-is_opaque_product.true in
    let Tried : List Rule → Type 0 = λ rules. MatchResult c.check_product.result
    (λ _. first_fault_at section.start rules ≡ None) (λ fault. first_fault_at section.start rules ≡ Some fault) in
    subst Tried (sym (same_product_rules Open s 1 stated)) c.check_product.ensures
