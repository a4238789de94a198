-- Where reading stopped.
use Rattle.std.specs.Prelude.{◌≡◌, ℕ, ◌≤◌, List}
use Rattle.std.specs.declared.option.Option.{Option}
use Rattle.std.specs.Io.KnownBytes.{IsAtEnd}
use Rattle.grib_stream.specs.declared.gathering.Rest.{Rest}
use Rattle.grib_stream.specs.declared.gathering.Rest.TheVariants.{Open, Full, Ended}

-- what is wanted is there, or no more may be taken, or the input is at its end
abbrev pub Stands : Rest → ℕ → ℕ → ℕ → Option (List ℕ) → Type 0
Stands Open wanted size left now = wanted ≤ size
Stands Full wanted size left now = left ≡ 0
Stands Ended wanted size left now = IsAtEnd now
