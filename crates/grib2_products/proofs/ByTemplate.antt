-- What is known of each template.
use Rattle.std.proofs.Common.{◌≡◌, ℕ, ◌+◌, ◌*◌, not, false, eqb, cond, List, length, refl, ap, ◌∙◌, arith}
use Rattle.std.proofs.lemmas.List.FromFn.{length-map-range_with_len}
use Rattle.grib_bits.specs.Octets.{octets}
use Rattle.grib2_sections.specs.Template.{least_length, is_template}
use Rattle.grib2_products.specs.Product.{product_templates, product_template, time_ranges}
use Rattle.grib2_products.specs.Spelled.{SpelledTemplate, SpelledInterval, spec_at, template_of, range_count}
use Rattle.grib2_products.specs.Writable.{CountsRanges}
use Rattle.grib2_products.specs.Written.{template_octets}
use Rattle.grib2_products.specs.declared.templates.Interval.{Interval as IntervalOf}
use Rattle.grib2_products.specs.declared.product.Product.{Product}
use Rattle.grib2_products.specs.declared.product.Product.TheVariants.{Instant, Ensemble, Interval, EnsembleInterval}
use Rattle.grib2_products.proofs.Ranges.{length-specs_octets}

-- the number of time ranges by the template
ranges_by : List ℕ → ℕ → ℕ
ranges_by s t = cond (eqb t 8) (octets s 42 42) (cond (eqb t 11) (octets s 45 45) 0)

-- the number of time ranges is that of the section
pub ranges_spelled : (p : Product) (s : List ℕ) → template_of p ≡ product_template s → SpelledTemplate p s → range_count p ≡ time_ranges s
unfolding ranges_by
ranges_spelled (Instant v) s is_template h = ap (ranges_by s) is_template
ranges_spelled (Ensemble v e) s is_template h = ap (ranges_by s) is_template
ranges_spelled (Interval v i) s is_template h = h.1.end.n ∙ ap (ranges_by s) is_template
ranges_spelled (EnsembleInterval v e i) s is_template h = h.2.end.n ∙ ap (ranges_by s) is_template

specs_count : (i : IntervalOf) (b : ℕ) (s : List ℕ) → SpelledInterval i b s → length i.specs ≡ i.n
specs_count i b s h = ap length h.specs ∙ length-map-range_with_len (λ (k : ℕ). spec_at s (b + 12 + 12 * k)) 0 i.n

pub ranges_counted : (p : Product) (s : List ℕ) → SpelledTemplate p s → CountsRanges p
ranges_counted (Instant v) s h = tt
ranges_counted (Ensemble v e) s h = tt
ranges_counted (Interval v i) s h = specs_count i 35 s h.1
ranges_counted (EnsembleInterval v e i) s h = specs_count i 38 s h.2

pub length-template_octets : (p : Product) → CountsRanges p → 9 + length (template_octets p) ≡ least_length product_templates (template_of p) + 12 * range_count p
length-template_octets (Instant v) h = refl
length-template_octets (Ensemble v e) h = refl
length-template_octets (Interval v i) h = omega (arith, length-specs_octets i.specs)
length-template_octets (EnsembleInterval v e i) h = omega (arith, length-specs_octets i.specs)

pub template_known : (p : Product) → not (is_template product_templates (template_of p)) ≡ false
template_known (Instant v) = refl
template_known (Ensemble v e) = refl
template_known (Interval v i) = refl
template_known (EnsembleInterval v e i) = refl
