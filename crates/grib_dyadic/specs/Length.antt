-- How many bits a number has.
use Rattle.std.specs.Prelude.{ℕ, ◌+◌, ◌*◌, ◌^◌, ◌<◌, ◌≤◌}

-- the least number of bits that can hold the number
pub record IsLength (length number : ℕ) : Type 0 where
  pub holds : number < 2 ^ length
  pub least : 2 ^ length ≤ 2 * number + 1
