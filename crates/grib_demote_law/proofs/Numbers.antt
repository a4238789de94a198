-- The numbers of Section 2 as they are written lose nothing when they are migrated.
use Rattle.std.proofs.Common.{◌≡◌, ℕ, ◌+◌, ◌/◌, ◌%◌, ◌^◌, ◌<◌, ◌≤◌, ◌&&◌, ◌||◌, ◌==◌, Bool, true, false, not, cond, None, List, [], ◌∷◌, ◌++◌, length, nat_lt, refl, ap, ◌∙◌, arith, ltb-true, lt-ltb, le-ltb}
use Rattle.grib_bits.proofs.Encoding.{num_on-octets_of}
use Rattle.grib_bits.proofs.OctetBits.{AreOctets}
use Rattle.grib_bits.proofs.OctetNumbers.{octets-lt}
use Rattle.grib_bits.specs.Encoding.{missing_4, all_octets}
use Rattle.grib_migrate.specs.Grids as migrate
use Rattle.grib_bits.specs.declared.adding.Number.{Number}
use Rattle.grib_bits.specs.declared.adding.Number.TheVariants.{One, Two, Four}
use Rattle.grib_demote.specs.Grids.{four, angle, longitude, distance, longitude_fits, is_thousands, mercator, polar, polar_end, lambert, old_flags, scanning, angle_at, longitude_at, increment_at}
use Rattle.grib_demote_law.proofs.Grids.{section_2}

-- ---- one number

-- a number of three octets that fits when it is migrated
pub record Fits (n : ℕ) (fits : ℕ → Bool) : Type 0 where
  pub small : n < 256 ^ 3
  pub fits_it : fits n ≡ true

plain_fits : (m : ℕ) → m ≤ 2147483 → migrate.angle_fits m ≡ true
plain_fits m few = ap not (le-ltb 2147483 (migrate.magnitude m) (omega (arith, few)))

pub angle_fits : (v : ℕ) → Fits (angle v) migrate.angle_fits
angle_fits v = by (nat_lt (2 ^ 31) v)
  where
    by : (b : Bool) → Fits (cond b (2 ^ 23 + v % 2 ^ 31 / 1000) (v % 2 ^ 31 / 1000)) migrate.angle_fits
    by true = record {
      small = omega arith;
      fits_it = ap not (le-ltb 2147483 (migrate.magnitude (2 ^ 23 + v % 2 ^ 31 / 1000)) (omega arith));
    }
    by false = record { small = omega arith; fits_it = plain_fits (v % 2 ^ 31 / 1000) (omega arith) }

pub longitude_fits_too : (v : ℕ) → longitude_fits v ≡ true → Fits (longitude v) migrate.longitude_fits
longitude_fits_too v fits =
    let low = ltb-true v (2 ^ 31) (first (nat_lt v (2 ^ 31)) (is_thousands v) fits) in
    record {
      small = omega arith;
      fits_it = ap (λ b. cond b (not (nat_lt 360000 (migrate.magnitude (v / 1000)))) (migrate.angle_fits (v / 1000))) (le-ltb (2 ^ 23) (v / 1000) (omega arith)) ∙ plain_fits (v / 1000) (omega arith);
    }
  where
    first : (a b : Bool) → (a && b) ≡ true → a ≡ true
    first true b e = refl
    first false b e = e

distance_fits : (v : ℕ) → v < 2 ^ 32 → Fits (distance v) migrate.distance_fits
distance_fits v few = by (v == missing_4)
  where
    by : (b : Bool) → Fits (cond b 16777215 (v / 1000)) migrate.distance_fits
    by true = record { small = omega arith; fits_it = refl }
    by false = record { small = omega arith; fits_it = ap (λ b. b || (v / 1000 == 16777215)) (lt-ltb (v / 1000) 4294968 (omega arith)) }

-- ---- the numbers of each type of grid

-- a number of three octets as it stands
read_fits : (fits : ℕ → Bool) (n m : ℕ) → Fits n fits → (n < 256 ^ 3 → m ≡ n) → fits m ≡ true
read_fits fits n m is there = ap fits (there is.small) ∙ is.fits_it

mercator_by : (s : List ℕ)
    → migrate.angle_fits (migrate.three s 11) ≡ true
    → migrate.longitude_fits (migrate.three s 14) ≡ true
    → migrate.angle_fits (migrate.three s 18) ≡ true
    → migrate.longitude_fits (migrate.three s 21) ≡ true
    → migrate.angle_fits (migrate.three s 24) ≡ true
    → migrate.distance_fits (migrate.three s 29) ≡ true
    → migrate.distance_fits (migrate.three s 32) ≡ true
    → migrate.loss_among s migrate.mercator_scaled ≡ None
mercator_by s e0 e1 e2 e3 e4 e5 e6 = rw (e0, e1, e2, e3, e4, e5, e6) refl

polar_by : (s : List ℕ)
    → migrate.angle_fits (migrate.three s 11) ≡ true
    → migrate.longitude_fits (migrate.three s 14) ≡ true
    → migrate.longitude_fits (migrate.three s 18) ≡ true
    → migrate.distance_fits (migrate.three s 21) ≡ true
    → migrate.distance_fits (migrate.three s 24) ≡ true
    → migrate.loss_among s migrate.polar_scaled ≡ None
polar_by s e0 e1 e2 e3 e4 = rw (e0, e1, e2, e3, e4) refl

lambert_by : (s : List ℕ)
    → migrate.angle_fits (migrate.three s 11) ≡ true
    → migrate.longitude_fits (migrate.three s 14) ≡ true
    → migrate.longitude_fits (migrate.three s 18) ≡ true
    → migrate.distance_fits (migrate.three s 21) ≡ true
    → migrate.distance_fits (migrate.three s 24) ≡ true
    → migrate.angle_fits (migrate.three s 29) ≡ true
    → migrate.angle_fits (migrate.three s 32) ≡ true
    → migrate.angle_fits (migrate.three s 35) ≡ true
    → migrate.longitude_fits (migrate.three s 38) ≡ true
    → migrate.loss_among s migrate.lambert_scaled ≡ None
lambert_by s e0 e1 e2 e3 e4 e5 e6 e7 e8 = rw (e0, e1, e2, e3, e4, e5, e6, e7, e8) refl

lat_lon_by : (s : List ℕ)
    → migrate.angle_fits (migrate.three s 11) ≡ true
    → migrate.longitude_fits (migrate.three s 14) ≡ true
    → migrate.angle_fits (migrate.three s 18) ≡ true
    → migrate.longitude_fits (migrate.three s 21) ≡ true
    → migrate.loss_among s migrate.lat_lon_scaled ≡ None
lat_lon_by s e0 e1 e2 e3 = rw (e0, e1, e2, e3) refl

-- template 3.0 or 3.40, with Dj or N
abbrev pub lat_lon_with : List ℕ → ℕ → List Number
lat_lon_with s last =
    angle_at s 47 ∷ longitude_at s 51 ∷ One (old_flags s) ∷ angle_at s 56 ∷ longitude_at s 60 ∷ increment_at s 64 ∷ Two last ∷ One (scanning s)
    ∷ Four 0 ∷ []

module _ (count place t columns rows : ℕ) (coordinates list s3 : List ℕ) (small : AreOctets s3) where
  abbrev with_numbers : List Number → List ℕ
  with_numbers numbers = section_2 count place t columns rows (all_octets numbers) coordinates list

  pub mercator_kept : 72 ≤ length s3 → longitude_fits (four s3 43) ≡ true → longitude_fits (four s3 56) ≡ true → migrate.loss_among (with_numbers (mercator s3)) migrate.mercator_scaled ≡ None
  mercator_kept long lo1 lo2 =
      let s = with_numbers (mercator s3) in
      let di : four s3 65 < 2 ^ 32 = octets-lt s3 65 68 4 small (omega arith) (omega arith) (omega arith) in
      let dj : four s3 69 < 2 ^ 32 = octets-lt s3 69 72 4 small (omega arith) (omega arith) (omega arith) in
      mercator_by s
      (read_fits migrate.angle_fits (angle (four s3 39)) (migrate.three s 11) (angle_fits (four s3 39)) (num_on-octets_of 3 (angle (four s3 39))))
      (read_fits migrate.longitude_fits (longitude (four s3 43)) (migrate.three s 14) (longitude_fits_too (four s3 43) lo1) (num_on-octets_of 3 (longitude (four s3 43))))
      (read_fits migrate.angle_fits (angle (four s3 52)) (migrate.three s 18) (angle_fits (four s3 52)) (num_on-octets_of 3 (angle (four s3 52))))
      (read_fits migrate.longitude_fits (longitude (four s3 56)) (migrate.three s 21) (longitude_fits_too (four s3 56) lo2) (num_on-octets_of 3 (longitude (four s3 56))))
      (read_fits migrate.angle_fits (angle (four s3 48)) (migrate.three s 24) (angle_fits (four s3 48)) (num_on-octets_of 3 (angle (four s3 48))))
      (read_fits migrate.distance_fits (distance (four s3 65)) (migrate.three s 29) (distance_fits (four s3 65) di) (num_on-octets_of 3 (distance (four s3 65))))
      (read_fits migrate.distance_fits (distance (four s3 69)) (migrate.three s 32) (distance_fits (four s3 69) dj) (num_on-octets_of 3 (distance (four s3 69))))

  pub polar_kept : 65 ≤ length s3 → longitude_fits (four s3 43) ≡ true → longitude_fits (four s3 52) ≡ true → migrate.loss_among (with_numbers (polar s3 ++ polar_end)) migrate.polar_scaled ≡ None
  polar_kept long lo1 lov =
      let s = with_numbers (polar s3 ++ polar_end) in
      let dx : four s3 56 < 2 ^ 32 = octets-lt s3 56 59 4 small (omega arith) (omega arith) (omega arith) in
      let dy : four s3 60 < 2 ^ 32 = octets-lt s3 60 63 4 small (omega arith) (omega arith) (omega arith) in
      polar_by s
      (read_fits migrate.angle_fits (angle (four s3 39)) (migrate.three s 11) (angle_fits (four s3 39)) (num_on-octets_of 3 (angle (four s3 39))))
      (read_fits migrate.longitude_fits (longitude (four s3 43)) (migrate.three s 14) (longitude_fits_too (four s3 43) lo1) (num_on-octets_of 3 (longitude (four s3 43))))
      (read_fits migrate.longitude_fits (longitude (four s3 52)) (migrate.three s 18) (longitude_fits_too (four s3 52) lov) (num_on-octets_of 3 (longitude (four s3 52))))
      (read_fits migrate.distance_fits (distance (four s3 56)) (migrate.three s 21) (distance_fits (four s3 56) dx) (num_on-octets_of 3 (distance (four s3 56))))
      (read_fits migrate.distance_fits (distance (four s3 60)) (migrate.three s 24) (distance_fits (four s3 60) dy) (num_on-octets_of 3 (distance (four s3 60))))

  pub lambert_kept : 81 ≤ length s3 → longitude_fits (four s3 43) ≡ true → longitude_fits (four s3 52) ≡ true → longitude_fits (four s3 78) ≡ true → migrate.loss_among (with_numbers (polar s3 ++ lambert s3)) migrate.lambert_scaled ≡ None
  lambert_kept long lo1 lov pole =
      let s = with_numbers (polar s3 ++ lambert s3) in
      let dx : four s3 56 < 2 ^ 32 = octets-lt s3 56 59 4 small (omega arith) (omega arith) (omega arith) in
      let dy : four s3 60 < 2 ^ 32 = octets-lt s3 60 63 4 small (omega arith) (omega arith) (omega arith) in
      lambert_by s
      (read_fits migrate.angle_fits (angle (four s3 39)) (migrate.three s 11) (angle_fits (four s3 39)) (num_on-octets_of 3 (angle (four s3 39))))
      (read_fits migrate.longitude_fits (longitude (four s3 43)) (migrate.three s 14) (longitude_fits_too (four s3 43) lo1) (num_on-octets_of 3 (longitude (four s3 43))))
      (read_fits migrate.longitude_fits (longitude (four s3 52)) (migrate.three s 18) (longitude_fits_too (four s3 52) lov) (num_on-octets_of 3 (longitude (four s3 52))))
      (read_fits migrate.distance_fits (distance (four s3 56)) (migrate.three s 21) (distance_fits (four s3 56) dx) (num_on-octets_of 3 (distance (four s3 56))))
      (read_fits migrate.distance_fits (distance (four s3 60)) (migrate.three s 24) (distance_fits (four s3 60) dy) (num_on-octets_of 3 (distance (four s3 60))))
      (read_fits migrate.angle_fits (angle (four s3 66)) (migrate.three s 29) (angle_fits (four s3 66)) (num_on-octets_of 3 (angle (four s3 66))))
      (read_fits migrate.angle_fits (angle (four s3 70)) (migrate.three s 32) (angle_fits (four s3 70)) (num_on-octets_of 3 (angle (four s3 70))))
      (read_fits migrate.angle_fits (angle (four s3 74)) (migrate.three s 35) (angle_fits (four s3 74)) (num_on-octets_of 3 (angle (four s3 74))))
      (read_fits migrate.longitude_fits (longitude (four s3 78)) (migrate.three s 38) (longitude_fits_too (four s3 78) pole) (num_on-octets_of 3 (longitude (four s3 78))))

  pub lat_lon_kept : (last : ℕ) → 72 ≤ length s3 → longitude_fits (four s3 51) ≡ true → longitude_fits (four s3 60) ≡ true → migrate.loss_among (with_numbers (lat_lon_with s3 last)) migrate.lat_lon_scaled ≡ None
  lat_lon_kept last long lo1 lo2 =
      let s = with_numbers (lat_lon_with s3 last) in
      lat_lon_by s
      (read_fits migrate.angle_fits (angle (four s3 47)) (migrate.three s 11) (angle_fits (four s3 47)) (num_on-octets_of 3 (angle (four s3 47))))
      (read_fits migrate.longitude_fits (longitude (four s3 51)) (migrate.three s 14) (longitude_fits_too (four s3 51) lo1) (num_on-octets_of 3 (longitude (four s3 51))))
      (read_fits migrate.angle_fits (angle (four s3 56)) (migrate.three s 18) (angle_fits (four s3 56)) (num_on-octets_of 3 (angle (four s3 56))))
      (read_fits migrate.longitude_fits (longitude (four s3 60)) (migrate.three s 21) (longitude_fits_too (four s3 60) lo2) (num_on-octets_of 3 (longitude (four s3 60))))
