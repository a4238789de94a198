-- Section 4 where any product is accepted: a product by a template that is not stated is opaque, and of its
-- section the octets that template 4.0 has too are read, where they stand (WMO-No. 306, Volume I.2, FM 92 GRIB
-- edition 2, Section 4).
use Rattle.std.specs.Prelude.{ℕ, ◌+◌, Bool, not, cond, List, [], ◌∷◌, length, nat_lt, ◌==◌}
use Rattle.std.specs.Option.{option_map_or}
use Rattle.grib_base.specs.declared.fault.Reason.TheVariants.{SectionLength, FieldCount}
use Rattle.grib_base.specs.declared.profile.Profile.{Profile}
use Rattle.grib_base.specs.declared.profile.Profile.TheVariants.{Stated, Open}
use Rattle.grib_base.specs.Rules.{Rule, rule}
use Rattle.grib2_sections.specs.Template.{is_template}
use Rattle.grib2_sections.specs.Instant.{instant_shift}
use Rattle.grib2_products.specs.Product.{product_templates, product_template, product_rules}

-- the product has a template that is not stated
abbrev pub is_opaque_product : List ℕ → Bool
is_opaque_product s = not (is_template product_templates (product_template s))

-- the least length of a section with this template that is not stated, in octets: 36 or 34 for one that has
-- octets 12-34 of template 4.0, shifted or not, and else 11, for the parameter's category and number
abbrev pub opaque_least : ℕ → ℕ
opaque_least t = option_map_or (λ shift. 34 + shift) (instant_shift t) 11

-- the rules of an opaque product, for the n-th Section 4 of its message: S4.1, S4.2 and S4.4
abbrev pub opaque_product_rules : List ℕ → ℕ → List Rule
opaque_product_rules s n =
    let l = length s in
    rule (nat_lt l 9) 1 SectionLength l  -- S4.1
    ∷ rule (n == 4097) 1 FieldCount 4097  -- S4.2
    ∷ rule (nat_lt l (opaque_least (product_template s))) 1 SectionLength l  -- S4.4
    ∷ []

-- the rules of Section 4 under a profile, for the n-th Section 4 of its message
abbrev pub product_rules_under : Profile → List ℕ → ℕ → List Rule
product_rules_under Stated s n = product_rules s n
product_rules_under Open s n = cond (is_opaque_product s) (opaque_product_rules s n) (product_rules s n)
