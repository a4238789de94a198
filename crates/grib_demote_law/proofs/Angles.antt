-- Angles that are written in three octets come back.
use Rattle.std.proofs.Common.{◌≡◌, ◌≢◌, ◌⊎◌, ℕ, ◌+◌, ◌-◌, ◌*◌, ◌/◌, ◌%◌, ◌^◌, ◌<◌, ◌≤◌, Bool, true, false, cond, nat_lt, refl, sym, ap, ◌∙◌, subst, arith, inl, inr, eqb-true, ltb-true, lt-ltb, le-ltb}
use Rattle.std.proofs.lemmas.Bool.{cases_eq, ltb-false, and_parts}
use Rattle.grib_bits.specs.Bits.{bits_of, signed}
use Rattle.grib_migrate.specs.Grids as migrate
use Rattle.grib_demote.specs.Grids.{angle, longitude, angle_fits, longitude_fits, is_thousands}

-- ---- longitudes

plain : (m : ℕ) → m < 2 ^ 23 → (migrate.is_negative m ≡ false) × (migrate.magnitude m ≡ m)
plain m few = (le-ltb (2 ^ 23) m (omega (arith, few)), omega (arith, few))

pub longitude_back : (v : ℕ) → longitude_fits v ≡ true → (migrate.longitude (longitude v) ≡ v) × (v < 2 ^ 31)
longitude_back v fits =
    let parts = and_parts (nat_lt v (2 ^ 31)) (is_thousands v) fits in
    let low = ltb-true v (2 ^ 31) parts.0 in
    let whole = eqb-true (v % 1000) 0 parts.1 in
    let known = plain (v / 1000) (omega (arith, low)) in (
      ap (λ b. cond b (1000 * (360000 - migrate.magnitude (v / 1000))) (1000 * migrate.magnitude (v / 1000))) known.0
          ∙ ap (λ m. 1000 * m) known.1 ∙ (let e : 1000 * (v / 1000) ≡ v = omega (arith, whole) in e),
      low,
    )

-- ---- latitudes

-- the sign of 0 is left out
pub angle_back : (v : ℕ) → v < 2 ^ 32 → angle_fits v ≡ true → signed (bits_of 32 (migrate.angle (angle v))) ≡ signed (bits_of 32 v)
angle_back v small fits = by (nat_lt (2 ^ 31) v) refl
  where
    whole : v % 2 ^ 31 % 1000 ≡ 0
    whole = eqb-true (v % 2 ^ 31 % 1000) 0 fits

    negative : 2 ^ 31 < v → migrate.angle (2 ^ 23 + v % 2 ^ 31 / 1000) ≡ v
    negative high =
        let w = whole in
        let n = 2 ^ 23 + v % 2 ^ 31 / 1000 in
        let sign : migrate.is_negative n ≡ true = lt-ltb (2 ^ 23) n (omega (arith, high, w, small)) in
        ap (λ b. cond b (2 ^ 31 + 1000 * migrate.magnitude n) (1000 * migrate.magnitude n)) sign
        ∙ (let e : 2 ^ 31 + 1000 * (n % 2 ^ 23) ≡ v = omega (arith, high, w, small) in e)

    positive : v < 2 ^ 31 → migrate.angle (v % 2 ^ 31 / 1000) ≡ v
    positive low =
        let w = whole in
        let n = v % 2 ^ 31 / 1000 in
        let known = plain n (omega (arith, low)) in
        ap (λ b. cond b (2 ^ 31 + 1000 * migrate.magnitude n) (1000 * migrate.magnitude n)) known.0 ∙ ap (λ m. 1000 * m) known.1
        ∙ (let e : 1000 * n ≡ v = omega (arith, low, w) in e)

    zero : signed (bits_of 32 (migrate.angle (2 ^ 31 % 2 ^ 31 / 1000))) ≡ signed (bits_of 32 (2 ^ 31))
    zero = refl

    by : (b : Bool) → nat_lt (2 ^ 31) v ≡ b → signed (bits_of 32 (migrate.angle (cond b (2 ^ 23 + v % 2 ^ 31 / 1000) (v % 2 ^ 31 / 1000)))) ≡ signed (bits_of 32 v)
    by true lt = ap (λ n. signed (bits_of 32 n)) (negative (ltb-true (2 ^ 31) v lt))
    by false ge = or_zero (cases_eq v (2 ^ 31)) (ltb-false (2 ^ 31) v ge)
      where
        or_zero : (v ≡ 2 ^ 31) ⊎ (v ≢ 2 ^ 31) → v ≤ 2 ^ 31 → signed (bits_of 32 (migrate.angle (v % 2 ^ 31 / 1000))) ≡ signed (bits_of 32 v)
        or_zero (inl e) le = subst (λ n. signed (bits_of 32 (migrate.angle (n % 2 ^ 31 / 1000))) ≡ signed (bits_of 32 n)) (sym e) zero
        or_zero (inr e) le = ap (λ n. signed (bits_of 32 n)) (positive (omega (arith, e, le)))
