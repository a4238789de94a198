-- The first digits of a number, as its digits come one after another.
use Rattle.std.specs.Prelude.{◌≡◌, ℕ, ◌^◌, ◌<◌, false}
use Rattle.grib_long.specs.declared.leading.Leading.{Leading}
use Rattle.grib_long.specs.Floor.{IsFloor}

-- the first digits of the number so far: nothing of it was dropped while these are few
pub record IsBegun (number : ℕ) (leading : Leading) : Type 0 where
  pub floor : IsFloor number leading.steps (2 ^ leading.exponent) leading.more
  pub few : leading.steps < 2 ^ 126
  pub whole : leading.steps < 2 ^ 94 → leading.exponent ≡ 0
  pub none : leading.steps < 2 ^ 94 → leading.more ≡ false
