-- The first digits of a number.
use Rattle.std.specs.Prelude.{◌≡◌, ℕ, ◌*◌, ◌^◌, Bool, ℤ, pos, ◌-ℤ◌}
use Rattle.grib_long.specs.Floor.{IsFloor}

-- n / d is that many times 2 ^ exponent, and more where there is more. Each pair of powers of two with that quotient makes both sides whole.
abbrev pub IsLeading : ℕ → ℕ → ℕ → Bool → ℤ → Type 0
IsLeading n d steps more exponent = (a b : ℕ) → (pos a -ℤ pos b) ≡ exponent → IsFloor (n * 2 ^ b) steps (d * 2 ^ a) more
