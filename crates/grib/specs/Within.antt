-- What holds of the octets that a reader has, and of its counts.
use Rattle.std.specs.Prelude.{◌≡◌, ◌≢◌, ℕ, ◌+◌, ◌-◌, ◌^◌, ◌<◌, ◌≤◌, Bool, true, false, List, length}
use Rattle.grib_stream.specs.Stream.{begins}

pub record IsWithin (octets : List ℕ) (size place quota : ℕ) (ended : Bool) : Type 0 where
  pub there : size ≤ length octets
  pub begun : size ≢ 0 → begins octets ≡ true
  pub few : place + length octets < 2 ^ 64
  pub counted : ended ≡ false → place + length octets + quota ≡ 2 ^ 64 - 1
