-- The values of Section 4, each with its octets (WMO-No. 306, Volume I.2, FM 92 GRIB edition 2, Section 4 and
-- product definition templates 4.0, 4.1, 4.8 and 4.11).
use Rattle.std.specs.Prelude.{◌≡◌, ℕ, ◌+◌, ◌*◌, ◌<◌, List, All, length, map, None}
use Rattle.std.specs.List.{range_with_len}
use Rattle.grib_bits.specs.Octets.{octets, StatesItself}
use Rattle.grib_bits.specs.Listed.{numbers_at}
use Rattle.grib_base.specs.Rules.{first_fault}
use Rattle.grib2_sections.specs.Template.{least_length}
use Rattle.grib2_products.specs.Product.{product_rules, product_templates, template_length, coordinate_count}
use Rattle.grib2_products.specs.declared.templates.Instant.{Instant}
use Rattle.grib2_products.specs.declared.templates.Ensemble.{Ensemble}
use Rattle.grib2_products.specs.declared.templates.Interval.{Interval}
use Rattle.grib2_products.specs.declared.templates.Spec.{Spec}
use Rattle.grib2_products.specs.declared.product.Product.{Product}
use Rattle.grib2_products.specs.declared.product.Product.TheVariants as product
use Rattle.grib2_products.specs.declared.product.ProductSection.{ProductSection}

-- what all four templates share
pub record SpelledInstant (v : Instant) (s : List ℕ) : Type 0 where
  pub category : v.category ≡ octets s 10 10
  pub number : v.number ≡ octets s 11 11
  pub process : v.process ≡ octets s 12 12
  pub background : v.background ≡ octets s 13 13
  pub generator : v.generator ≡ octets s 14 14
  pub cutoff_hours : v.cutoff_hours ≡ octets s 15 16
  pub cutoff_minutes : v.cutoff_minutes ≡ octets s 17 17
  pub unit : v.unit ≡ octets s 18 18
  pub time : v.time ≡ octets s 19 22
  pub surface1 : v.surface1 ≡ octets s 23 23
  pub scale1 : v.scale1 ≡ octets s 24 24
  pub value1 : v.value1 ≡ octets s 25 28
  pub surface2 : v.surface2 ≡ octets s 29 29
  pub scale2 : v.scale2 ≡ octets s 30 30
  pub value2 : v.value2 ≡ octets s 31 34

-- templates 4.1 and 4.11
pub record SpelledEnsemble (v : Ensemble) (s : List ℕ) : Type 0 where
  pub kind : v.kind ≡ octets s 35 35
  pub perturbation : v.perturbation ≡ octets s 36 36
  pub size : v.size ≡ octets s 37 37

-- the time range in the 12 octets from p on
abbrev pub spec_at : List ℕ → ℕ → Spec
spec_at s p = record {
  process = octets s p p;
  increment_type = octets s (p + 1) (p + 1);
  unit = octets s (p + 2) (p + 2);
  length = octets s (p + 3) (p + 6);
  increment_unit = octets s (p + 7) (p + 7);
  increment = octets s (p + 8) (p + 11);
}

-- n time ranges from octet p on
abbrev pub specs_at : List ℕ → ℕ → ℕ → List Spec
specs_at s p n = map (λ k. spec_at s (p + 12 * k)) (range_with_len 0 n)

-- an interval that begins at octet b, octet 35 of template 4.8 and octet 38 of template 4.11: its end, and
-- the number of its time ranges
pub record SpelledEnd (v : Interval) (b : ℕ) (s : List ℕ) : Type 0 where
  pub year : v.year ≡ octets s b (b + 1)
  pub month : v.month ≡ octets s (b + 2) (b + 2)
  pub day : v.day ≡ octets s (b + 3) (b + 3)
  pub hour : v.hour ≡ octets s (b + 4) (b + 4)
  pub minute : v.minute ≡ octets s (b + 5) (b + 5)
  pub second : v.second ≡ octets s (b + 6) (b + 6)
  pub n : v.n ≡ octets s (b + 7) (b + 7)
  pub missing : v.missing ≡ octets s (b + 8) (b + 11)

-- an interval that begins at octet b: its end, and its time ranges
pub record SpelledInterval (v : Interval) (b : ℕ) (s : List ℕ) : Type 0 where
  pub end : SpelledEnd v b s
  pub specs : v.specs ≡ specs_at s (b + 12) v.n

-- the number of a product's template
abbrev pub template_of : Product → ℕ
template_of (product.Instant v) = 0
template_of (product.Ensemble v e) = 1
template_of (product.Interval v i) = 8
template_of (product.EnsembleInterval v e i) = 11

-- the octets of a product's template
abbrev pub SpelledTemplate : Product → List ℕ → Type 0
SpelledTemplate (product.Instant v) s = SpelledInstant v s
SpelledTemplate (product.Ensemble v e) s = SpelledInstant v s × SpelledEnsemble e s
SpelledTemplate (product.Interval v i) s = SpelledInstant v s × SpelledInterval i 35 s
SpelledTemplate (product.EnsembleInterval v e i) s = SpelledInstant v s × SpelledEnsemble e s × SpelledInterval i 38 s

-- the coordinate values: as many as octets 6-7 say, of four octets each, after the template
abbrev pub coordinate_list : List ℕ → List ℕ
coordinate_list s = numbers_at s (template_length s + 1) 4 (coordinate_count s)

-- the value has the numbers of the section
pub record Spelled (value : ProductSection) (s : List ℕ) : Type 0 where
  pub count : length value.coordinates ≡ octets s 6 7
  pub template : template_of value.product ≡ octets s 8 9
  pub product : SpelledTemplate value.product s
  pub coordinates : value.coordinates ≡ coordinate_list s

-- Octets that are a Section 4 which no rule of the profile refuses, and of which the value has the numbers.
pub record IsSectionOf (value : ProductSection) (s : List ℕ) : Type 0 where
  pub small : All (λ octet. octet < 256) s
  pub itself : StatesItself 4 s
  pub rules : first_fault (product_rules s 1) ≡ None
  pub spelled : Spelled value s

-- how many time ranges a product has
abbrev pub range_count : Product → ℕ
range_count (product.Instant v) = 0
range_count (product.Ensemble v e) = 0
range_count (product.Interval v i) = i.n
range_count (product.EnsembleInterval v e i) = i.n

-- the length of a section that has its template, its time ranges and its coordinate values, and no more
abbrev pub written_length : ProductSection → ℕ
written_length value =
    least_length product_templates (template_of value.product) + 12 * range_count value.product + 4 * length value.coordinates
