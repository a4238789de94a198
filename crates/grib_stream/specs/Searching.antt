-- Octets in which no message begins.
use Rattle.std.specs.Prelude.{◌≡◌, ℕ, ◌+◌, ◌<◌, ◌≤◌, false, List, length, drop}
use Rattle.grib_stream.specs.Stream.{begins}

-- no message begins in the first n octets
pub record Markless (n : ℕ) (octets : List ℕ) : Type 0 where
  pub none : (k : ℕ) → k < n → begins (drop k octets) ≡ false

-- nor does one whatever follows, since four octets stand from each of them on
pub record Unmarked (n : ℕ) (octets : List ℕ) : Type 0 where
  pub there : (k : ℕ) → k < n → k + 4 ≤ length octets
  pub none : Markless n octets
