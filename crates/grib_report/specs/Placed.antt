-- Where the present points of a mask stand.
use Rattle.std.specs.Prelude.{ℕ, suc, ◌-◌, Bool, true, false, cond, ◌==◌, List, [], ◌∷◌}

-- the place, from 1, of the k-th grid point that is present, where there are as many
abbrev pub place_in : List Bool → ℕ → ℕ
place_in [] k = 0
place_in (false ∷ mask) k = suc (place_in mask k)
place_in (true ∷ mask) k = cond (k == 1) 1 (suc (place_in mask (k - 1)))
