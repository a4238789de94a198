-- Quotients of whole numbers.
use Rattle.std.specs.Prelude.{◌≡◌, ℕ, ◌+◌, ◌*◌, ◌<◌, ◌≤◌, Bool, true, false}

-- The number is that many steps, and a part of a step more where there is more.
pub record IsFloor (number steps step : ℕ) (more : Bool) : Type 0 where
  pub from : steps * step ≤ number
  pub below : number < (steps + 1) * step
  pub exact : more ≡ false → number ≡ steps * step
  pub above : more ≡ true → steps * step < number
