-- The place of a present point, run by run of a mask.
use Rattle.std.proofs.Common.{◌≡◌, ℕ, zero, suc, ◌+◌, ◌-◌, ◌<◌, ◌≤◌, Bool, true, false, List, ◌∷◌, ◌++◌, replicate, refl, ap, ◌∙◌, arith}
use Rattle.std.proofs.lemmas.Bool.{eq-eqb, ne_eqb}
use Rattle.grib_report.specs.Placed.{place_in}

-- the first present point, and the next ones
pub place_here : (mask : List Bool) (k : ℕ) → k ≡ 1 → place_in (true ∷ mask) k ≡ 1
place_here mask k one = rw (eq-eqb k 1 one) refl

pub place_past : (mask : List Bool) (k j : ℕ) → 1 ≤ j → k ≡ suc j → place_in (true ∷ mask) k ≡ suc (place_in mask j)
place_past mask k j some is =
    let less : k - 1 ≡ j = omega arith in
    rw (ne_eqb k 1 (λ one. omega arith)) (ap (λ (n : ℕ). suc (place_in mask n)) less)

-- behind points that are left out
pub behind_absent : (n : ℕ) (rest : List Bool) (k : ℕ) → place_in (replicate n false ++ rest) k ≡ n + place_in rest k
behind_absent zero rest k = let same : place_in (replicate 0 false ++ rest) k ≡ place_in rest k = refl in omega arith
behind_absent (suc n) rest k =
    let next : place_in (replicate (suc n) false ++ rest) k ≡ suc (place_in (replicate n false ++ rest) k) = refl in
    omega (arith, behind_absent n rest k)

-- among points that are present
pub among_present : (n : ℕ) (rest : List Bool) (k : ℕ) → 1 ≤ k → k ≤ n → place_in (replicate n true ++ rest) k ≡ k
among_present zero rest k some within = absurd (omega arith)
among_present (suc n) rest zero some within = absurd (omega arith)
among_present (suc n) rest (suc zero) some within = place_here (replicate n true ++ rest) 1 refl
among_present (suc n) rest (suc (suc k)) some within =
    place_past (replicate n true ++ rest) (suc (suc k)) (suc k) (omega arith) refl ∙ ap suc (among_present n rest (suc k) (omega arith) (omega arith))

-- and behind them
pub behind_present : (n : ℕ) (rest : List Bool) (k : ℕ) → n < k → place_in (replicate n true ++ rest) k ≡ n + place_in rest (k - n)
behind_present zero rest k past =
    let same : place_in (replicate 0 true ++ rest) k ≡ place_in rest k = refl in
    let all : k - 0 ≡ k = omega arith in
    omega (arith, ap (place_in rest) all)
behind_present (suc n) rest k past =
    let next : place_in (replicate (suc n) true ++ rest) k ≡ suc (place_in (replicate n true ++ rest) (k - 1)) =
    place_past (replicate n true ++ rest) k (k - 1) (omega arith) (omega arith) in
    let less : (k - 1) - n ≡ k - suc n = omega arith in
    omega (arith, next, behind_present n rest (k - 1) (omega arith), ap (place_in rest) less)
