-- Where all first values were told, numbers whose reach is within the range are steady.
use Rattle.std.proofs.Common.{ℕ, inl, inr, ◌+◌, ◌^◌, ◌≤◌, ℤ, nat_abs, refl}
use Rattle.grib_packing.specs.Differences.{Descriptors}
use Rattle.grib_complex_reading.specs.Follows.{last_of}
use Rattle.grib_complex_reading.specs.Reach.{reach_of, IsSteadyAfter}
use Rattle.grib_complex_reading.specs.Order.{IsOrder}

pub is_steady : (d : Descriptors) (before last : ℤ) (count limit : ℕ) → IsOrder d.order
    → reach_of d.order before last (limit + nat_abs d.minimum) count ≤ 2 ^ 60
    → IsSteadyAfter d (last_of d.order before last) count limit
is_steady d before last count limit (inl one) fits = rw one (refl, rw one at fits)
is_steady d before last count limit (inr two) fits = rw two (refl, rw two at fits)
