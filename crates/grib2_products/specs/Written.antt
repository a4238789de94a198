-- The octets of Section 4 as they are written, part after part.
use Rattle.std.specs.Prelude.{◌≡◌, ℕ, ◌^◌, ◌<◌, List, [], ◌∷◌, ◌++◌, length}
use Rattle.grib_bits.specs.Octets.{octets}
use Rattle.grib_bits.specs.Encoding.{octets_of, AddsOctets}
use Rattle.grib_bits.specs.Listed.{numbers_octets}
use Rattle.grib_bits.specs.Written.{Written}
use Rattle.grib2_products.specs.Spelled.{template_of, written_length, SpelledTemplate}
use Rattle.grib2_products.specs.declared.templates.Instant.{Instant}
use Rattle.grib2_products.specs.declared.templates.Ensemble.{Ensemble}
use Rattle.grib2_products.specs.declared.templates.Interval.{Interval}
use Rattle.grib2_products.specs.declared.templates.Spec.{Spec}
use Rattle.grib2_products.specs.declared.product.ProductSection.{ProductSection}
use Rattle.grib2_products.specs.declared.product.Product.{Product}
use Rattle.grib2_products.specs.declared.product.Product.TheVariants as product

-- octets 1-9, of a section of l octets
abbrev pub header : ℕ → ℕ → ℕ → List ℕ
header l count template = octets_of 4 l ++ octets_of 1 4 ++ octets_of 2 count ++ octets_of 2 template

-- the numbers of octets 1-9, by their octets
pub record SpelledHeader (l count template : ℕ) (s : List ℕ) : Type 0 where
  pub length_octets : l ≡ octets s 1 4
  pub number_octets : 4 ≡ octets s 5 5
  pub count_octets : count ≡ octets s 6 7
  pub template_octets : template ≡ octets s 8 9

-- octets 10-34
abbrev pub instant_octets : Instant → List ℕ
instant_octets v =
    octets_of 1 v.category ++ octets_of 1 v.number ++ octets_of 1 v.process ++ octets_of 1 v.background
    ++ octets_of 1 v.generator ++ octets_of 2 v.cutoff_hours ++ octets_of 1 v.cutoff_minutes ++ octets_of 1 v.unit
    ++ octets_of 4 v.time ++ octets_of 1 v.surface1 ++ octets_of 1 v.scale1 ++ octets_of 4 v.value1
    ++ octets_of 1 v.surface2 ++ octets_of 1 v.scale2 ++ octets_of 4 v.value2

-- octets 35-37
abbrev pub ensemble_octets : Ensemble → List ℕ
ensemble_octets v = octets_of 1 v.kind ++ octets_of 1 v.perturbation ++ octets_of 1 v.size

-- the first 12 octets of an interval
abbrev pub end_octets : Interval → List ℕ
end_octets v =
    octets_of 2 v.year ++ octets_of 1 v.month ++ octets_of 1 v.day ++ octets_of 1 v.hour ++ octets_of 1 v.minute
    ++ octets_of 1 v.second ++ octets_of 1 v.n ++ octets_of 4 v.missing

-- the numbers of a time range fit their octets
pub record SpecFits (v : Spec) : Type 0 where
  pub process : v.process < 256
  pub increment_type : v.increment_type < 256
  pub unit : v.unit < 256
  pub length : v.length < 2 ^ 32
  pub increment_unit : v.increment_unit < 256
  pub increment : v.increment < 2 ^ 32

-- a time range
abbrev pub spec_octets : Spec → List ℕ
spec_octets v =
    octets_of 1 v.process ++ octets_of 1 v.increment_type ++ octets_of 1 v.unit ++ octets_of 4 v.length
    ++ octets_of 1 v.increment_unit ++ octets_of 4 v.increment

abbrev pub specs_octets : List Spec → List ℕ
specs_octets [] = []
specs_octets (spec ∷ specs) = spec_octets spec ++ specs_octets specs

-- octet 10 onwards of each template
abbrev pub template_octets : Product → List ℕ
template_octets (product.Instant v) = instant_octets v
template_octets (product.Ensemble v e) = instant_octets v ++ ensemble_octets e
template_octets (product.Interval v i) = instant_octets v ++ (end_octets i ++ specs_octets i.specs)
template_octets (product.EnsembleInterval v e i) = instant_octets v ++ ensemble_octets e ++ (end_octets i ++ specs_octets i.specs)

-- what is added for a template, and that it has the numbers of the template wherever it stands behind octets 1-9
pub record WritesTemplate (before after : Written) (value : Product) : Type 0 where
  pub octets : AddsOctets before after (template_octets value)
  pub spelled : (l count template : ℕ) (rest : List ℕ) → SpelledTemplate value (header l count template ++ template_octets value ++ rest)

-- the section of a value: its template, its time ranges and its coordinate values, and no more
abbrev pub section_of_product : ProductSection → List ℕ
section_of_product value =
    header (written_length value) (length value.coordinates) (template_of value.product)
    ++ template_octets value.product ++ numbers_octets 4 value.coordinates
