-- The numbers of a made field are small.
use Rattle.std.proofs.Common.{◌≡◌, ℕ, ◌+◌, ◌-◌, ◌*◌, ◌/◌, ◌%◌, ◌<◌, ◌≤◌, ◌||◌, ◌==◌, Bool, true, false, cond, All, pos, get_or, ap₂, refl, arith, le-ltb}
use Rattle.std.specs.List.{range_with_len}
use Rattle.std.proofs.lemmas.List.Elements.{All-map}
use Rattle.grib_packing.specs.declared.column.Point.{Point}
use Rattle.grib_packing.specs.declared.column.Point.TheVariants.{Scaled, Missing}
use Rattle.grib_packing.specs.Misfits.{is_missing2, is_outside, is_scaled_outside}
use Rattle.grib_synthetic.specs.Points.{random, slope, point_with, made_point, made_points}

-- a point that is not secondary missing, and whose number is not negative and has 14 bits at most
pub record IsSmall (point : Point) : Type 0 where
  pub told : is_missing2 point ≡ false
  pub inside : is_scaled_outside 16383 point ≡ false

-- a number from 0 to the greatest is not outside
pub inside_from : (m n : ℕ) → n ≤ m → is_outside m (pos n) ≡ false
inside_from m n few = ap₂ ◌||◌ (le-ltb n 0 (omega arith)) (le-ltb m n few)

pub slope_most : (i j : ℕ) → slope i j ≤ 255
slope_most i j = omega arith

small_either : (b : Bool) (n : ℕ) → n ≤ 16383 → IsSmall (cond b Missing (Scaled (pos n)))
small_either true n few = record { told = refl; inside = refl }
small_either false n few = record { told = refl; inside = inside_from 16383 n few }

pub small_point : (r i j : ℕ) → IsSmall (point_with r i j)
small_point r i j =
    let slope_few = slope_most i j in
    let noise : r % 64 < 64 = omega arith in
    small_either (r % 101 == 0) (64 * slope i j + r % 64) (omega arith)

pub small_made : (seed ni n : ℕ) → IsSmall (made_point seed ni n)
small_made seed ni n = small_point (random seed n / 65536) ((n - 1) % ni) ((n - 1) / ni)

pub small_points : (seed ni nj : ℕ) → All IsSmall (made_points seed ni nj)
small_points seed ni nj = All-map IsSmall (made_point seed ni) (range_with_len 1 (ni * nj)) (λ k d within. small_made seed ni (get_or (range_with_len 1 (ni * nj)) k d))
