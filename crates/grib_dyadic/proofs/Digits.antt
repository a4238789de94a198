-- When a number is a multiple of a power of two by less than 2 ^ 24.
use Rattle.std.proofs.Common.{ℕ, ◌*◌, ◌^◌, ◌<◌, ℤ, pos, ◌+ℤ◌, ◌-ℤ◌, ◌≤ℤ◌, nat_abs, arith}
use Rattle.std.proofs.lemmas.Int.{ints}
use Rattle.grib_dyadic.specs.Length.{IsLength}
use Rattle.grib_dyadic.specs.Reference.{two_to_difference}
use Rattle.grib_dyadic.proofs.Lengths.{shifted_below, shifted_room}

pub HasDigits-some : (m length : ℕ) (k place : ℤ) → IsLength length m → place ≤ℤ k → (k +ℤ pos length) ≤ℤ (place +ℤ pos 24) → m * two_to_difference k place < 2 ^ 24
HasDigits-some m length k place l whole room =
    shifted_below length m (nat_abs (k -ℤ place)) 24 l (omega (arith, ints))

pub HasDigits-room : (m length : ℕ) (k place : ℤ) → IsLength length m → 0 < m → place ≤ℤ k → m * two_to_difference k place < 2 ^ 24 → (k +ℤ pos length) ≤ℤ (place +ℤ pos 24)
HasDigits-room m length k place l some whole below =
    let room = shifted_room length m (nat_abs (k -ℤ place)) 24 l some below in
    omega (arith, ints)
