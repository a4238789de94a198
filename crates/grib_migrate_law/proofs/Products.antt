-- Sections 1 and 4 as they are written pass their rules.
use Rattle.std.proofs.Common.{◌≡◌, ℕ, ◌+◌, ◌*◌, ◌<◌, ◌≤◌, Bool, true, false, cond, Option, Some, None, List, [], ◌∷◌, ◌++◌, length, nat_lt, refl, ap, ◌∙◌, arith, le-ltb}
use Rattle.grib_bits.specs.Octets.{StatesItself}
use Rattle.grib_bits.specs.Encoding.{section_of, all_octets, missing_1, missing_2}
use Rattle.grib_bits.proofs.Encoding.{num_on-octets_of, StatesItself-section_of}
use Rattle.grib_base.specs.Rules.{first_fault}
use Rattle.grib_base.proofs.Passing.{none_from_passes}
use Rattle.grib_params.specs.declared.row.Target.{Target}
use Rattle.grib2_sections.specs.Identification.{identification_rules}
use Rattle.grib2_products.specs.Product.{product_rules, coordinate_count}
use Rattle.grib1_sections.specs.Keys.{key_in}
use Rattle.grib_keys.specs.declared.key1.Key1.TheVariants.{Process, TimeRange}
use Rattle.grib_migrate.specs.declared.labels.Member.{Member}
use Rattle.grib_migrate.specs.declared.level.Surfaces.{Surfaces}
use Rattle.grib_migrate.specs.declared.time.Unit.{Unit as UnitOfTime}
use Rattle.grib_bits.specs.declared.adding.Number.{Number}
use Rattle.grib_bits.specs.declared.adding.Number.TheVariants.{One, Two, Four}
use Rattle.grib_migrate.specs.Times.{is_interval}
use Rattle.grib_migrate.specs.Labels.{member_numbers}
use Rattle.grib_migrate.specs.Products.{identification_numbers, instant_with, template_by, interval_numbers, coordinate_numbers, product_octets_by}

-- ---- Section 1

pub identification_passes : (target : Target) (s1 : List ℕ) → first_fault (identification_rules (section_of 1 (all_octets (identification_numbers target s1)))) ≡ None
identification_passes target s1 = refl

pub identification_itself : (target : Target) (s1 : List ℕ) → StatesItself 1 (section_of 1 (all_octets (identification_numbers target s1)))
identification_itself target s1 = StatesItself-section_of 1 (all_octets (identification_numbers target s1)) (omega arith)

-- ---- Section 4

-- the template, and how many octets it has, by whether there is a member of an ensemble and an interval
abbrev template_for : Bool → Option Member → ℕ
template_for interval None = cond interval 8 0
template_for interval (Some member) = cond interval 11 1

abbrev size_for : Bool → Option Member → ℕ
size_for true None = 58
size_for false None = 34
size_for true (Some member) = 61
size_for false (Some member) = 37

abbrev product_with : Bool → Option Member → Target → List ℕ → UnitOfTime → Surfaces → ℕ → List ℕ → List ℕ
product_with interval member target s1 unit surfaces count coordinates =
    section_of 4 (all_octets (instant_with (template_for interval member) target s1 unit surfaces count)
    ++ (all_octets (member_numbers member) ++ (all_octets (cond interval (interval_numbers s1 unit) []) ++ coordinates)))

module _ (target : Target) (s1 : List ℕ) (unit : UnitOfTime) (surfaces : Surfaces) (count : ℕ) (coordinates : List ℕ) (few : count < 65536) (long : length coordinates ≡ 4 * count) where
  count_stands : (interval : Bool) (member : Option Member) → coordinate_count (product_with interval member target s1 unit surfaces count coordinates) ≡ count
  count_stands interval member = num_on-octets_of 2 count few

  length_product : (interval : Bool) (member : Option Member) → length (product_with interval member target s1 unit surfaces count coordinates) ≡ size_for interval member + 4 * count
  length_product false None = omega (arith, long)
  length_product true None = omega (arith, long)
  length_product false (Some member) = omega (arith, long)
  length_product true (Some member) = omega (arith, long)

  passes_by : (interval : Bool) (member : Option Member) (least : ℕ) → least ≤ size_for interval member → 9 ≤ size_for interval member
      → (let l = length (product_with interval member target s1 unit surfaces count coordinates) in
      (nat_lt l 9 ≡ false) × (nat_lt l least ≡ false) × (nat_lt l (size_for interval member + 4 * coordinate_count (product_with interval member target s1 unit surfaces count coordinates)) ≡ false))
  passes_by interval member least fits head =
      let l = length (product_with interval member target s1 unit surfaces count coordinates) in
      let known = length_product interval member in (
        le-ltb l 9 (omega (arith, known, head)),
        le-ltb l least (omega (arith, known, fits)),
        ap (λ (n : ℕ). nat_lt l (size_for interval member + 4 * n)) (count_stands interval member) ∙ le-ltb l (size_for interval member + 4 * count) (omega (arith, known)),
      )

  pub with_passes : (interval : Bool) (member : Option Member) → first_fault (product_rules (product_with interval member target s1 unit surfaces count coordinates) 1) ≡ None
  with_passes false None =
      let p = passes_by false None 34 (omega arith) (omega arith) in
      none_from_passes (product_rules (product_with false None target s1 unit surfaces count coordinates) 1) (p.0, (refl, (refl, (p.1, (p.2, tt)))))
  with_passes true None =
      let p = passes_by true None 46 (omega arith) (omega arith) in
      none_from_passes (product_rules (product_with true None target s1 unit surfaces count coordinates) 1) (p.0, (refl, (refl, (p.1, (p.2, tt)))))
  with_passes false (Some member) =
      let p = passes_by false (Some member) 37 (omega arith) (omega arith) in
      none_from_passes (product_rules (product_with false (Some member) target s1 unit surfaces count coordinates) 1) (p.0, (refl, (refl, (p.1, (p.2, tt)))))
  with_passes true (Some member) =
      let p = passes_by true (Some member) 49 (omega arith) (omega arith) in
      none_from_passes (product_rules (product_with true (Some member) target s1 unit surfaces count coordinates) 1) (p.0, (refl, (refl, (p.1, (p.2, tt)))))

  pub with_short : (interval : Bool) (member : Option Member) → length (product_with interval member target s1 unit surfaces count coordinates) ≤ 61 + 4 * count
  with_short false None = omega (arith, length_product false None)
  with_short true None = omega (arith, length_product true None)
  with_short false (Some member) = omega (arith, length_product false (Some member))
  with_short true (Some member) = omega (arith, length_product true (Some member))

length-coordinates : (words : List ℕ) → length (all_octets (coordinate_numbers words)) ≡ 4 * length words
length-coordinates [] = refl
length-coordinates (word ∷ words) = omega (arith, length-coordinates words)

-- the template by what is known
same_template : (member : Option Member) (s1 : List ℕ) → template_by member s1 ≡ template_for (is_interval (key_in s1 TimeRange)) member
same_template None s1 = refl
same_template (Some member) s1 = refl

module _ (member : Option Member) (target : Target) (s1 words : List ℕ) (unit : UnitOfTime) (surfaces : Surfaces) (few : length words ≤ 255) where
  abbrev written : List ℕ
  written = section_of 4 (product_octets_by member target s1 words unit surfaces)

  abbrev known : List ℕ
  known = product_with (is_interval (key_in s1 TimeRange)) member target s1 unit surfaces (length words) (all_octets (coordinate_numbers words))

  same_product : written ≡ known
  same_product =
      ap (λ (t : ℕ). section_of 4 (all_octets (instant_with t target s1 unit surfaces (length words))
      ++ (all_octets (member_numbers member) ++ (all_octets (cond (is_interval (key_in s1 TimeRange)) (interval_numbers s1 unit) []) ++ all_octets (coordinate_numbers words)))))
      (same_template member s1)

  pub product_passes : first_fault (product_rules (section_of 4 (product_octets_by member target s1 words unit surfaces)) 1) ≡ None
  product_passes =
      ap (λ (s : List ℕ). first_fault (product_rules s 1)) same_product
      ∙ with_passes target s1 unit surfaces (length words) (all_octets (coordinate_numbers words)) (omega (arith, few)) (length-coordinates words) (is_interval (key_in s1 TimeRange)) member

  pub product_short : length (section_of 4 (product_octets_by member target s1 words unit surfaces)) ≤ 1100
  product_short =
      let short = with_short target s1 unit surfaces (length words) (all_octets (coordinate_numbers words)) (omega (arith, few)) (length-coordinates words) (is_interval (key_in s1 TimeRange)) member in
      omega (arith, ap length same_product, short, few)

  pub product_itself : StatesItself 4 (section_of 4 (product_octets_by member target s1 words unit surfaces))
  product_itself = StatesItself-section_of 4 (product_octets_by member target s1 words unit surfaces) (omega (arith, product_short))
