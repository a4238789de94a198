-- Section 3 of a made message passes its rules.
use Rattle.std.proofs.Common.{◌≡◌, ℕ, ◌*◌, ◌≤◌, ◌||◌, ◌==◌, false, not, nat_lt, refl, ap, ap₂, ◌∙◌, sym, arith, le-ltb, eq-eqb, ne_eqb}
use Rattle.std.specs.Prelude.{None}
use Rattle.std.proofs.lemmas.Nat.{mul-le}
use Rattle.grib_base.specs.Rules.{first_fault}
use Rattle.grib_base.specs.declared.limits.TheConstants.{MOST_POINTS}
use Rattle.grib_bits.proofs.Encoding.{num_on-octets_of}
use Rattle.grib2_grids.specs.Grid.{grid_rules, grid_points}
use Rattle.grib2_grids.specs.Grid as grid
use Rattle.grib2_message.proofs.Passed.{none_from_passes}
use Rattle.grib_synthetic.specs.Made.{MayBeMade, made_grid}
use Rattle.grib_synthetic.proofs.OneByOne.{few_points}

module _ (seed ni nj : ℕ) (may : MayBeMade seed ni nj) where
  pub points_bounds : (1 ≤ ni * nj) × (ni * nj ≤ 16777216)
  points_bounds =
      let some : 1 * 1 ≤ ni * nj = mul-le 1 1 ni nj may.some_columns may.some_rows in
      (omega (arith, some), few_points ni nj may.few_columns may.few_rows)

module _ (seed ni nj : ℕ) (may : MayBeMade seed ni nj) where
  pub points_stand : grid_points (made_grid ni nj) ≡ ni * nj
  points_stand = let bounds = points_bounds seed ni nj may in num_on-octets_of 4 (ni * nj) (omega (arith, bounds.1))

  columns_stand : grid.ni (made_grid ni nj) ≡ ni
  columns_stand = num_on-octets_of 4 ni (omega (arith, may.few_columns))

  rows_stand : grid.nj (made_grid ni nj) ≡ nj
  rows_stand = num_on-octets_of 4 nj (omega (arith, may.few_rows))

module _ (seed ni nj : ℕ) (may : MayBeMade seed ni nj) where
  counted : (grid_points (made_grid ni nj) == 0 || nat_lt MOST_POINTS (grid_points (made_grid ni nj))) ≡ false
  counted =
      let s = made_grid ni nj in
      let bounds = points_bounds seed ni nj may in
      let stand = points_stand seed ni nj may in
      ap₂ ◌||◌ (ne_eqb (grid_points s) 0 (λ none. omega (arith, bounds.0, stand, none))) (le-ltb MOST_POINTS (grid_points s) (omega (arith, bounds.1, stand)))

  agreed : not (grid.ni (made_grid ni nj) * grid.nj (made_grid ni nj) == grid_points (made_grid ni nj)) ≡ false
  agreed =
      let s = made_grid ni nj in
      let product : grid.ni s * grid.nj s ≡ grid_points s =
      ap₂ ◌*◌ (columns_stand seed ni nj may) (rows_stand seed ni nj may) ∙ sym (points_stand seed ni nj may) in
      ap not (eq-eqb (grid.ni s * grid.nj s) (grid_points s) product)

module _ (seed ni nj : ℕ) (may : MayBeMade seed ni nj) where
  pub grid_passes : first_fault (grid_rules (made_grid ni nj)) ≡ None
  grid_passes = none_from_passes (grid_rules (made_grid ni nj)) (
    refl,
    (
      refl,
      (
        refl,
        (refl, (counted seed ni nj may, (refl, (refl, (refl, (refl, (refl, (agreed seed ni nj may, tt)))))))),
      ),
    ),
  )
