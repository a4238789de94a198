-- A section has one value.
use Rattle.std.proofs.Common.{◌≡◌, ℕ, ◌+◌, List, sym, ap, ◌∙◌, arith}
use Rattle.grib2_products.specs.Spelled.{Spelled, SpelledTemplate, SpelledInstant, SpelledEnsemble, SpelledInterval, specs_at, template_of}
use Rattle.grib2_products.specs.declared.templates.Instant.{Instant}
use Rattle.grib2_products.specs.declared.templates.Ensemble.{Ensemble}
use Rattle.grib2_products.specs.declared.templates.Interval.{Interval}
use Rattle.grib2_products.specs.declared.product.Product.{Product}
use Rattle.grib2_products.specs.declared.product.Product.TheVariants as product
use Rattle.grib2_products.specs.declared.product.ProductSection.{ProductSection}

same_instant : (v w : Instant) (s : List ℕ) → SpelledInstant v s → SpelledInstant w s → v ≡ w
same_instant v w s h g = λ i. record {
  category = (h.category ∙ sym g.category) i;
  number = (h.number ∙ sym g.number) i;
  process = (h.process ∙ sym g.process) i;
  background = (h.background ∙ sym g.background) i;
  generator = (h.generator ∙ sym g.generator) i;
  cutoff_hours = (h.cutoff_hours ∙ sym g.cutoff_hours) i;
  cutoff_minutes = (h.cutoff_minutes ∙ sym g.cutoff_minutes) i;
  unit = (h.unit ∙ sym g.unit) i;
  time = (h.time ∙ sym g.time) i;
  surface1 = (h.surface1 ∙ sym g.surface1) i;
  scale1 = (h.scale1 ∙ sym g.scale1) i;
  value1 = (h.value1 ∙ sym g.value1) i;
  surface2 = (h.surface2 ∙ sym g.surface2) i;
  scale2 = (h.scale2 ∙ sym g.scale2) i;
  value2 = (h.value2 ∙ sym g.value2) i;
}

same_ensemble : (v w : Ensemble) (s : List ℕ) → SpelledEnsemble v s → SpelledEnsemble w s → v ≡ w
same_ensemble v w s h g = λ i. record {
  kind = (h.kind ∙ sym g.kind) i;
  perturbation = (h.perturbation ∙ sym g.perturbation) i;
  size = (h.size ∙ sym g.size) i;
}

same_interval : (v w : Interval) (b : ℕ) (s : List ℕ) → SpelledInterval v b s → SpelledInterval w b s → v ≡ w
same_interval v w b s h g =
    let count = h.end.n ∙ sym g.end.n in
    let specs = h.specs ∙ ap (specs_at s (b + 12)) count ∙ sym g.specs in
    λ i. record {
      year = (h.end.year ∙ sym g.end.year) i;
      month = (h.end.month ∙ sym g.end.month) i;
      day = (h.end.day ∙ sym g.end.day) i;
      hour = (h.end.hour ∙ sym g.end.hour) i;
      minute = (h.end.minute ∙ sym g.end.minute) i;
      second = (h.end.second ∙ sym g.end.second) i;
      n = (h.end.n ∙ sym g.end.n) i;
      missing = (h.end.missing ∙ sym g.end.missing) i;
      specs = specs i;
    }

-- products with templates of one number
same_product : (v w : Product) (s : List ℕ) → template_of v ≡ template_of w → SpelledTemplate v s → SpelledTemplate w s → v ≡ w
same_product (product.Instant v) (product.Instant w) s same h g = λ i. product.Instant (same_instant v w s h g i)
same_product (product.Ensemble v e) (product.Ensemble w f) s same h g = λ i. product.Ensemble (same_instant v w s h.0 g.0 i) (same_ensemble e f s h.1 g.1 i)
same_product (product.Interval v j) (product.Interval w k) s same h g = λ i. product.Interval (same_instant v w s h.0 g.0 i) (same_interval j k 35 s h.1 g.1 i)
same_product (product.EnsembleInterval v e j) (product.EnsembleInterval w f k) s same h g = λ i. product.EnsembleInterval (same_instant v w s h.0 g.0 i) (same_ensemble e f s h.1 g.1 i) (same_interval j k 38 s h.2 g.2 i)
same_product v w s e h g = absurd (omega arith)

pub same_section : (value other : ProductSection) (s : List ℕ) → Spelled value s → Spelled other s → value ≡ other
same_section value other s h g =
    let product = same_product value.product other.product s (h.template ∙ sym g.template) h.product g.product in
    λ i. record {
      coordinates = (h.coordinates ∙ sym g.coordinates) i;
      product = product i;
    }
