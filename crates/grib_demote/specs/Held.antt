-- What the sections of a field hold, for private functions.
use Rattle.std.specs.Prelude.{◌≡◌, ◌≢◌, ◌≤◌, ◌<◌, true, false, Some, option_map, List, ℕ, length}
use Rattle.grib2_grids.specs.Opaque.{is_opaque_grid}
use Rattle.grib2_grids.specs.Whole.{IsWhole as IsWholeGrid}
use Rattle.grib2_products.specs.Opaque.{is_opaque_product}
use Rattle.grib2_products.specs.Whole.{IsWhole as IsWholeProduct}
use Rattle.grib_packing.specs.declared.written.Packed.{Packed}
use Rattle.grib_migrate.specs.declared.level.Surface.{Surface}
use Rattle.grib_migrate.specs.declared.level.Surfaces.{Surfaces}
use Rattle.grib_demote.specs.declared.field.Field.{Field}
use Rattle.grib_params.specs.declared.matching.TableMatch.{TableMatch}
use Rattle.grib_params.specs.Table.{Entries}
use Rattle.grib_demote.specs.declared.level.Level.{Level}
use Rattle.grib_demote.specs.Levels.{level_of}
use Rattle.grib_demote.specs.Dates.{reference_time, loses_date}
use Rattle.grib_demote.specs.Times.{unit_of, has_process, has_range, is_interval, loses_interval}
use Rattle.grib_demote.specs.Products.{centre, sub_centre, loses_centre, pair_in}
use Rattle.grib_demote.specs.Losses.{loses_product, loses_grid}

-- the sections of a field: a grid and a product that are not opaque stand there as a whole
pub record Holds (s1 s3 s4 s5 : List ℕ) : Type 0 where
  pub identification : 21 ≤ length s1
  pub grid_header : 14 ≤ length s3
  pub grid : is_opaque_grid s3 ≡ false → IsWholeGrid s3
  pub product_header : 9 ≤ length s4
  pub product : is_opaque_product s4 ≡ false → IsWholeProduct s4
  pub packing : 21 ≤ length s5

-- the version, the parameter and the level of a field, of which no template is lost
pub record IsParameter (table : Entries) (matching : TableMatch) (field : Field) (found : ℕ × ℕ × Level) : Type 0 where
  pub product : loses_product field.product.now ≡ false
  pub grid : loses_grid field.grid.now ≡ false
  pub pair : pair_in table matching field.discipline field.identification.now field.product.now ≡ Some (found.0, found.1)
  pub level : level_of field.product.now ≡ Some found.2
  pub centre_fits : loses_centre field.identification.now ≡ false

-- the times of Sections 1 and 4, with the code of their unit
pub record AreTimes (s1 s4 : List ℕ) (unit : ℕ) : Type 0 where
  pub unit_is : option_map (λ row. row.old) (unit_of s4) ≡ Some unit
  pub process : has_process s4 ≡ true
  pub date : loses_date s1 ≡ false
  pub interval : loses_interval s1 s4 ≡ false

-- the grid and the product are not opaque, and the numbers that Section 1 of edition 1 has fit their octets
pub record IsDemoted (field : Field) : Type 0 where
  pub identification : 21 ≤ length field.identification.now
  pub packing : 21 ≤ length field.packing.now
  pub grid_stated : is_opaque_grid field.grid.now ≡ false
  pub grid : IsWholeGrid field.grid.now
  pub product_stated : is_opaque_product field.product.now ≡ false
  pub product : IsWholeProduct field.product.now
  pub centre_fits : centre field.identification.now < 256
  pub sub_centre_fits : sub_centre field.identification.now < 256
  pub year : (reference_time field.identification.now).year ≤ 9999
  pub process : has_process field.product.now ≡ true
  pub range : is_interval field.product.now ≡ true → has_range field.product.now ≡ true

-- Sections 5, 6 and 7 in simple packing
pub record HoldsPacked (packed : Packed) : Type 0 where
  pub numbers : 21 ≤ length packed.section5
  pub bitmap : 6 ≤ length packed.section6
  pub values : 5 ≤ length packed.section7

-- the surface of the number 1 of a type of level: it has no value, or one from 1 to 1,000 at up to four decimal
-- places
pub record IsOne (one : Surface) : Type 0 where
  pub places : one.scale_factor ≤ 4
  pub some : 1 ≤ one.scaled_value
  pub few : one.scaled_value ≤ 1000

-- the surfaces of the number 1 of a type of level
pub record AreOnes (one : Surfaces) : Type 0 where
  pub first : one.first.scale_factor ≢ 255 → IsOne one.first
  pub second : one.second.kind ≢ 255 → IsOne one.second
