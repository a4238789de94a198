-- What is kept of a field for its points.
use Rattle.std.specs.Prelude.{◌≡◌, ℤ, pos, ◌-ℤ◌}
use Rattle.grib_dyadic.specs.Reference.{Binary}
use Rattle.grib_decimal.specs.Decimal.{or_0}
use Rattle.grib_nearest.specs.declared.format.Format.{Format}
use Rattle.grib_arrays.specs.declared.scale.ArrayScale.{ArrayScale}

-- of a field with the reference value R and the scale factors E and D
pub record IsScaleOf (scale : ArrayScale) (f : Format) (r : Binary) (e d : ℤ) : Type 0 where
  pub format : scale.format ≡ f
  pub mantissa : scale.mantissa ≡ r.mantissa
  pub exponent : scale.exponent ≡ r.exponent
  pub e_is : scale.e ≡ e
  pub up : scale.up ≡ or_0 (pos 0 -ℤ d)
  pub down : scale.down ≡ or_0 (d -ℤ pos 0)
