-- Which values of Section 4 can be written: those that a section has which no rule of the profile refuses.
use Rattle.std.specs.Prelude.{◌≡◌, ◌<◌, length}
use Rattle.grib2_products.specs.declared.product.Product.{Product}
use Rattle.grib2_products.specs.declared.product.Product.TheVariants as product
use Rattle.grib2_products.specs.declared.product.ProductSection.{ProductSection}

-- an interval has as many time ranges as it says
abbrev pub CountsRanges : Product → Type 0
CountsRanges (product.Instant v) = Unit {0}
CountsRanges (product.Ensemble v e) = Unit {0}
CountsRanges (product.Interval v i) = length i.specs ≡ i.n
CountsRanges (product.EnsembleInterval v e i) = length i.specs ≡ i.n

-- and the number of the coordinate values fits octets 6-7
pub record IsWritable (value : ProductSection) : Type 0 where
  pub ranges : CountsRanges value.product
  pub few : length value.coordinates < 65536
