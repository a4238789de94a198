-- How many fields are chosen before the first that is not.
use Rattle.std.specs.Prelude.{◌≡◌, ℕ, ◌+◌, ◌<◌, ◌≤◌, Bool, true, false, List}
use Rattle.grib2_message.specs.Fields.{field_count}

pub record IsFront (chosen : ℕ → Bool) (message : List ℕ) (front : ℕ) : Type 0 where
  pub within : front ≤ field_count message
  pub fulfil : (field : ℕ) → 1 ≤ field → field ≤ front → chosen field ≡ true
  pub next : front < field_count message → chosen (front + 1) ≡ false
