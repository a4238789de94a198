-- What a divisor stands for.
use Rattle.std.specs.Prelude.{ℕ, ◌^◌}
use Rattle.grib_decimal.specs.declared.rounding.Divisor.{Divisor}
use Rattle.grib_decimal.specs.declared.rounding.Divisor.TheVariants.{PowerOfTwo, Other}

abbrev pub divisor_of : Divisor → ℕ
divisor_of (PowerOfTwo bits) = 2 ^ bits
divisor_of (Other number) = number
