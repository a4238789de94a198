-- Which numbers a grid has, by its template.
use Rattle.std.proofs.Common.{◌≡◌, ℕ, ◌==◌, cond, List, ◌++◌, ap, ◌∙◌, ne_eqb}
use Rattle.grib_bits.specs.Octets.{octets}
use Rattle.grib2_grids.specs.Grid.{grid_template}
use Rattle.grib_migrate.specs.Grids.{true_latitude}
use Rattle.grib_demote.specs.Grids.{four, lat_lon_tested, mercator_tested, polar_tested, lambert_tested, tested_numbers, lat_lon, mercator, polar, polar_end, lambert, template_numbers}

abbrev by_template : {A : Type 0} → ℕ → A → A → A → A → A
by_template t a b c d = cond (t == 10) a (cond (t == 20) b (cond (t == 30) c d))

of_other : {A : Type 0} (t : ℕ) (a b c d : A) → (t ≡ 10 → ⊥) → (t ≡ 20 → ⊥) → (t ≡ 30 → ⊥) → by_template t a b c d ≡ d
of_other t a b c d n10 n20 n30 =
    ap (λ x. cond x a (cond (t == 20) b (cond (t == 30) c d))) (ne_eqb t 10 n10) ∙ ap (λ x. cond x b (cond (t == 30) c d)) (ne_eqb t 20 n20)
    ∙ ap (λ x. cond x c d) (ne_eqb t 30 n30)

pub tested_30 : (s : List ℕ) → grid_template s ≡ 30 → tested_numbers s ≡ polar_tested s (four s 66) ++ lambert_tested s
tested_30 s e = ap (λ t. by_template t (mercator_tested s) (polar_tested s (true_latitude (octets s 64 64))) (polar_tested s (four s 66) ++ lambert_tested s) (lat_lon_tested s)) e

pub tested_other : (s : List ℕ) → (grid_template s ≡ 10 → ⊥) → (grid_template s ≡ 20 → ⊥) → (grid_template s ≡ 30 → ⊥) → tested_numbers s ≡ lat_lon_tested s
tested_other s n10 n20 n30 =
    of_other (grid_template s) (mercator_tested s) (polar_tested s (true_latitude (octets s 64 64))) (polar_tested s (four s 66) ++ lambert_tested s) (lat_lon_tested s) n10 n20 n30

pub template_10 : (s : List ℕ) → grid_template s ≡ 10 → template_numbers s ≡ mercator s
template_10 s e = ap (λ t. by_template t (mercator s) (polar s ++ polar_end) (polar s ++ lambert s) (lat_lon s)) e

pub template_20 : (s : List ℕ) → grid_template s ≡ 20 → template_numbers s ≡ polar s ++ polar_end
template_20 s e = ap (λ t. by_template t (mercator s) (polar s ++ polar_end) (polar s ++ lambert s) (lat_lon s)) e

pub template_30 : (s : List ℕ) → grid_template s ≡ 30 → template_numbers s ≡ polar s ++ lambert s
template_30 s e = ap (λ t. by_template t (mercator s) (polar s ++ polar_end) (polar s ++ lambert s) (lat_lon s)) e

pub template_other : (s : List ℕ) → (grid_template s ≡ 10 → ⊥) → (grid_template s ≡ 20 → ⊥) → (grid_template s ≡ 30 → ⊥) → template_numbers s ≡ lat_lon s
template_other s n10 n20 n30 = of_other (grid_template s) (mercator s) (polar s ++ polar_end) (polar s ++ lambert s) (lat_lon s) n10 n20 n30
