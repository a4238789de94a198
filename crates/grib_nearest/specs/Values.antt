-- The words of numbers below 0 too.
use Rattle.std.specs.Prelude.{ℕ, ◌+◌, ◌*◌, Bool, cond}
use Rattle.std.specs.Float.Ieee.{Format, emax}
use Rattle.grib_nearest.specs.Nearest.{field_unit}

-- with the sign bit, which stands above the exponent field
abbrev pub signed_word : Format → Bool → ℕ → ℕ
signed_word f negative word = cond negative ((2 * emax f + 2) * field_unit f) 0 + word
