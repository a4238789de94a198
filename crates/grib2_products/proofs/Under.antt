-- What the rules of Section 4 under a profile tell.
use Rattle.std.proofs.Common.{◌≡◌, ◌≢◌, ℕ, ◌+◌, ◌<◌, ◌≤◌, Bool, true, false, cond, eqb, nat_lt, Option, Some, None, List, ◌∷◌, length, drop, refl, sym, ap, ◌∙◌, arith, ltb-false, lt-ltb, le-ltb, eq-eqb, ne_eqb}
use Rattle.std.proofs.lemmas.Bool.{eqb-false}
use Rattle.std.proofs.lemmas.Bool.Decides.{nat_tests}
use Rattle.std.specs.Option.{option_map_or}
use Rattle.grib_base.specs.declared.fault.Reason.TheVariants.{SectionLength, FieldCount}
use Rattle.grib_base.specs.declared.profile.Profile.{Profile}
use Rattle.grib_base.specs.declared.profile.Profile.TheVariants.{Stated, Open}
use Rattle.grib_base.specs.Rules.{Rule, rule, first_fault, refusal}
use Rattle.grib_base.proofs.Passing.{AllPass, passes_from_none, none_from_passes}
use Rattle.grib2_sections.specs.Template.{is_template}
use Rattle.grib2_sections.specs.Instant.{instant_shift}
use Rattle.grib2_products.specs.Product.{product_rules, product_template, product_templates}
use Rattle.grib2_products.specs.Opaque.{is_opaque_product, opaque_least, opaque_product_rules, product_rules_under}
use Rattle.grib2_products.proofs.Numbers.{is_whole}

-- ---- the two profiles

-- where the product is not opaque, each profile has the same rules
pub same_product_rules : (profile : Profile) (s : List ℕ) (n : ℕ) → is_opaque_product s ≡ false → product_rules_under profile s n ≡ product_rules s n
same_product_rules Stated s n stated = refl
same_product_rules Open s n stated = ap (λ (b : Bool). cond b (opaque_product_rules s n) (product_rules s n)) stated

-- a product that the stated profile accepts is not opaque
pub not_opaque_product : (s : List ℕ) (n : ℕ) → first_fault (product_rules s n) ≡ None → is_opaque_product s ≡ false
not_opaque_product s n none = (passes_from_none (product_rules s n) none).1.1.0

-- what the stated profile accepts, each profile accepts
pub product_accepted : (profile : Profile) (s : List ℕ) (n : ℕ) → first_fault (product_rules s n) ≡ None → first_fault (product_rules_under profile s n) ≡ None
product_accepted profile s n none =
    ap first_fault (same_product_rules profile s n (not_opaque_product s n none)) ∙ none

-- ---- the number of fields

-- rules of which the first two are S4.1 and S4.2
abbrev counted : List ℕ → ℕ → List Rule → List Rule
counted s n later = rule (nat_lt (length s) 9) 1 SectionLength (length s) ∷ rule (eqb n 4097) 1 FieldCount 4097 ∷ later

counted_by : (opaque : Bool) (s : List ℕ) (n : ℕ) → cond opaque (opaque_product_rules s n) (product_rules s n)
    ≡ counted s n (drop 2 (cond opaque (opaque_product_rules s 1) (product_rules s 1)))
counted_by true s n = refl
counted_by false s n = refl

-- the others do not speak of the number of fields
rules_counted : (profile : Profile) (s : List ℕ) (n : ℕ) → product_rules_under profile s n ≡ counted s n (drop 2 (product_rules_under profile s 1))
rules_counted Stated s n = counted_by false s n
rules_counted Open s n = counted_by (is_opaque_product s) s n

passes_counted : (profile : Profile) (s : List ℕ) (n : ℕ) → first_fault (product_rules_under profile s n) ≡ None → AllPass (counted s n (drop 2 (product_rules_under profile s 1)))
passes_counted profile s n none =
    passes_from_none (counted s n (drop 2 (product_rules_under profile s 1))) (ap first_fault (sym (rules_counted profile s n)) ∙ none)

-- a product that is accepted anywhere would be the first of its message
pub product_first : (profile : Profile) (s : List ℕ) (n : ℕ) → first_fault (product_rules_under profile s n) ≡ None → first_fault (product_rules_under profile s 1) ≡ None
product_first profile s n none =
    let rules = passes_counted profile s n none in
    ap first_fault (rules_counted profile s 1)
    ∙ none_from_passes (counted s 1 (drop 2 (product_rules_under profile s 1))) (rules.0, (refl, rules.1.1))

-- a product that is accepted is not the 4,097th
pub product_few : (profile : Profile) (s : List ℕ) (n : ℕ) → first_fault (product_rules_under profile s n) ≡ None → n ≢ 4097
product_few profile s n none = eqb-false n 4097 (passes_counted profile s n none).1.0

-- a section that is too short is refused for that, whichever it is
pub product_short : (profile : Profile) (s : List ℕ) (n : ℕ) → length s < 9 → first_fault (product_rules_under profile s n) ≡ Some (refusal 1 SectionLength (length s))
product_short profile s n short =
    ap first_fault (rules_counted profile s n) ∙ rw (lt-ltb (length s) 9 short) refl

-- the 4,097th is refused where it is not too short
pub product_many : (profile : Profile) (s : List ℕ) (n : ℕ) → 9 ≤ length s → n ≡ 4097 → first_fault (product_rules_under profile s n) ≡ Some (refusal 1 FieldCount 4097)
product_many profile s n long many =
    ap first_fault (rules_counted profile s n) ∙ rw (le-ltb (length s) 9 long) (rw (eq-eqb n 4097 many) refl)

-- and any other as if it were the first
pub product_as_first : (profile : Profile) (s : List ℕ) (n : ℕ) → n ≢ 4097 → first_fault (product_rules_under profile s n) ≡ first_fault (product_rules_under profile s 1)
product_as_first profile s n few =
    ap first_fault (rules_counted profile s n) ∙ rw (ne_eqb n 4097 few) (ap first_fault (sym (rules_counted profile s 1)))

-- ---- the length

-- each stated template begins as template 4.0
stated_least : (t : ℕ) → is_template product_templates t ≡ true → opaque_least t ≤ 34
stated_least t known = grind (arith, nat_tests)

least_stated : (s : List ℕ) → first_fault (product_rules s 1) ≡ None → opaque_least (product_template s) ≤ length s
least_stated s none =
    let whole = is_whole s none in
    omega (arith, stated_least (product_template s) whole.known, whole.least)

least_by : (opaque : Bool) (s : List ℕ) → first_fault (cond opaque (opaque_product_rules s 1) (product_rules s 1)) ≡ None → opaque_least (product_template s) ≤ length s
least_by true s none =
    ltb-false (length s) (opaque_least (product_template s)) (passes_from_none (opaque_product_rules s 1) none).1.1.0
least_by false s none = least_stated s none

least_first : (profile : Profile) (s : List ℕ) → first_fault (product_rules_under profile s 1) ≡ None → opaque_least (product_template s) ≤ length s
least_first Stated s none = least_by false s none
least_first Open s none = least_by (is_opaque_product s) s none

-- the least length with any shift
least_low : (shift : Option ℕ) → 11 ≤ option_map_or (λ (k : ℕ). 34 + k) shift 11
least_low None = omega arith
least_low (Some k) = omega arith

-- a section that a profile accepts has the parameter's category and number
pub product_parameter_length : (profile : Profile) (s : List ℕ) (n : ℕ) → first_fault (product_rules_under profile s n) ≡ None → 11 ≤ length s
product_parameter_length profile s n none =
    let least = least_first profile s (product_first profile s n none) in
    omega (arith, least, least_low (instant_shift (product_template s)))

-- and what template 4.0 has in octets 12-34, where its template has that, shifted or not
pub product_instant_length : (profile : Profile) (s : List ℕ) (n k : ℕ) → first_fault (product_rules_under profile s n) ≡ None → instant_shift (product_template s) ≡ Some k → 34 + k ≤ length s
product_instant_length profile s n k none shift =
    let least = least_first profile s (product_first profile s n none) in
    omega (arith, least, ap (λ (o : Option ℕ). option_map_or (λ (x : ℕ). 34 + x) o 11) shift)
