-- Section 4, the product definition section (WMO-No. 306, Volume I.2, FM 92 GRIB edition 2, product
-- definition templates 4.0, 4.1, 4.8 and 4.11).
use Rattle.std.specs.Prelude.{ℕ, ◌+◌, ◌*◌, not, cond, List, [], ◌∷◌, length, nat_lt, ◌==◌}
use Rattle.grib_bits.specs.Octets.{octets}
use Rattle.grib_base.specs.declared.fault.Reason.TheVariants.{SectionLength, FieldCount, ProductTemplate}
use Rattle.grib_base.specs.Rules.{Rule, rule}
use Rattle.grib2_sections.specs.Template.{Template, template, is_template, least_length}

-- the product templates of the profile, each with its least length in octets
abbrev pub product_templates : List Template
product_templates = template 0 34 ∷ template 1 37 ∷ template 8 46 ∷ template 11 49 ∷ []

-- the number of coordinate values after the template
abbrev pub coordinate_count : List ℕ → ℕ
coordinate_count s = octets s 6 7

abbrev pub product_template : List ℕ → ℕ
product_template s = octets s 8 9

-- the number of time ranges: octet 42 of template 4.8, octet 45 of template 4.11, none in the others
abbrev pub time_ranges : List ℕ → ℕ
time_ranges s = cond (product_template s == 8) (octets s 42 42) (cond (product_template s == 11) (octets s 45 45) 0)

-- the length of the template in octets: 12 more than the least for each time range
abbrev pub template_length : List ℕ → ℕ
template_length s = least_length product_templates (product_template s) + 12 * time_ranges s

-- the length of the section without surplus: the template, and 4 octets for each coordinate value
abbrev pub product_length : List ℕ → ℕ
product_length s = template_length s + 4 * coordinate_count s

-- rules S4.1 to S4.5, for the n-th Section 4 of its message; for n = 1 the rule FieldCount never fails
abbrev pub product_rules : List ℕ → ℕ → List Rule
product_rules s n =
    let l = length s in
    let t = product_template s in
    rule (nat_lt l 9) 1 SectionLength l  -- S4.1
    ∷ rule (n == 4097) 1 FieldCount 4097  -- S4.2
    ∷ rule (not (is_template product_templates t)) 8 ProductTemplate t  -- S4.3
    ∷ rule (nat_lt l (least_length product_templates t)) 1 SectionLength l  -- S4.4
    ∷ rule (nat_lt l (product_length s)) 1 SectionLength l  -- S4.5
    ∷ []
