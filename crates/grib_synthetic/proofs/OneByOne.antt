-- Lemmas on the points that are made one after another.
use Rattle.std.proofs.Common.{◌≡◌, ℕ, ◌+◌, ◌-◌, ◌*◌, ◌/◌, ◌%◌, ◌^◌, ◌≤◌, sym, ap, ◌∙◌, arith, add-one}
use Rattle.std.proofs.lemmas.Nat.{div-mul-add, mod-mul-add, mul-le}
use Rattle.grib_synthetic.specs.declared.points.Maker.{Maker}
use Rattle.grib_synthetic.specs.Maker.{HasMade}
use Rattle.grib_synthetic.specs.Points.{random, point_with, made_point}

-- the point after n points that are made
pub point-next : (maker : Maker) (seed n r : ℕ) → HasMade maker seed n → r ≡ (1103515245 * maker.random + 12345) % 2 ^ 31
    → point_with (r / 65536) maker.i maker.j ≡ made_point seed maker.ni (n + 1)
point-next maker seed n r made is =
    let next : r ≡ random seed (n + 1) =
    is ∙ ap (λ (s : ℕ). (1103515245 * s + 12345) % 2 ^ 31) made.random_stands ∙ ap (random seed) (sym (add-one n)) in
    let place : maker.j * maker.ni + maker.i ≡ n + 1 - 1 = omega (arith, made.place_stands) in
    let column : maker.i ≡ (n + 1 - 1) % maker.ni =
    sym (mod-mul-add maker.j maker.ni maker.i made.within) ∙ ap (λ (k : ℕ). k % maker.ni) place in
    let row : maker.j ≡ (n + 1 - 1) / maker.ni =
    sym (div-mul-add maker.j maker.ni maker.i made.within) ∙ ap (λ (k : ℕ). k / maker.ni) place in
    ap (λ (s : ℕ). point_with (s / 65536) maker.i maker.j) next
    ∙ ap (λ (i : ℕ). point_with (random seed (n + 1) / 65536) i maker.j) column
    ∙ ap (λ (j : ℕ). point_with (random seed (n + 1) / 65536) ((n + 1 - 1) % maker.ni) j) row

-- a field has few points
pub few_points : (ni nj : ℕ) → ni ≤ 4096 → nj ≤ 4096 → ni * nj ≤ 16777216
few_points ni nj few_columns few_rows = mul-le ni nj 4096 4096 few_columns few_rows
