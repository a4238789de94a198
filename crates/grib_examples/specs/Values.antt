-- Values that are written with decimals.
use Rattle.std.specs.Prelude.{ℕ, ℤ, pos}
use Rattle.grib_dyadic.specs.Value.{Exact}

-- n divided by 10 to the power of `decimals`
abbrev pub decimal_value : ℤ → ℕ → Exact
decimal_value n decimals = record { number = n; binary = pos 0; decimal = pos decimals }
