-- The next number where all first values were told, and what the one after it follows.
use Rattle.std.proofs.Common.{◌≡◌, ℕ, inl, inr, ℤ, pos, ◌+ℤ◌, refl}
use Rattle.grib_packing.specs.Differences.{Descriptors, next_number, last_after}
use Rattle.grib_complex_reading.specs.Running.{number_by}
use Rattle.grib_complex_reading.specs.Follows.{last_of}
use Rattle.grib_complex_reading.specs.Order.{IsOrder}

pub next_by : (d : Descriptors) (before last : ℤ) (code : ℕ) → IsOrder d.order
    → number_by d.order (pos code +ℤ d.minimum) before last ≡ next_number d (last_of d.order before last) code
next_by d before last code (inl one) = rw one refl
next_by d before last code (inr two) = rw two refl

pub after_by : (d : Descriptors) (before last number : ℤ) → IsOrder d.order
    → last_of d.order last number ≡ last_after d (last_of d.order before last) number
after_by d before last number (inl one) = rw one refl
after_by d before last number (inr two) = rw two refl
