-- The bounds of the values of keys.
use Rattle.std.specs.Prelude.{◌<◌, ◌^◌, nat_abs}
use Rattle.grib_keys.specs.declared.condition.Value.{Value}
use Rattle.grib_keys.specs.declared.condition.Value.TheVariants.{Number, Missing}

-- a value that 64 bits with sign hold
abbrev pub IsWithin64 : Value → Type 0
IsWithin64 (Number x) = nat_abs x < 2 ^ 63
IsWithin64 Missing = Unit {0}
