-- Numbers that come one after another.
use Rattle.std.specs.Prelude.{◌≡◌, ℕ, ◌-◌, ◌^◌, ◌<◌, ◌≤◌, cond, ◌==◌, List, map, get_or, ℤ, pos, nat_abs}
use Rattle.std.specs.List.{range_with_len}
use Rattle.grib_packing.specs.Differences.{difference_at, least}
use Rattle.grib_spatial.specs.declared.trail.Trail.{Trail}
use Rattle.grib_spatial.specs.declared.trail.FirstAndLeast.{FirstAndLeast}

-- these are the last two of the numbers that came, which are the first of these numbers
pub record IsTrail (trail : Trail) (numbers : List ℤ) : Type 0 where
  pub last : 1 ≤ trail.count → trail.last ≡ get_or numbers (trail.count - 1) (pos 0)
  pub before : 2 ≤ trail.count → trail.before ≡ get_or numbers (trail.count - 2) (pos 0)

-- they are within plus and minus 2 ^ 60
pub record IsNear (trail : Trail) : Type 0 where
  pub last : nat_abs trail.last ≤ 2 ^ 60
  pub before : nat_abs trail.before ≤ 2 ^ 60

-- the first values of the numbers that came, and the least of their differences: 0 for what does not exist
pub record IsToldBy (order : ℕ) (told : FirstAndLeast) (numbers : List ℤ) : Type 0 where
  pub trail : IsTrail told.trail numbers
  pub first : 1 ≤ told.trail.count → told.first ≡ get_or numbers 0 (pos 0)
  pub no_first : told.trail.count ≡ 0 → told.first ≡ pos 0
  pub second : 2 ≤ told.trail.count → told.second ≡ cond (order == 1) (pos 0) (get_or numbers 1 (pos 0))
  pub no_second : told.trail.count < 2 → told.second ≡ pos 0
  pub minimum : told.minimum ≡ least (map (difference_at order numbers) (range_with_len order (told.trail.count - order)))
