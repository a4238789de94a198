-- The chosen grouping of some codes, as a function. `Chosen` of grib_packing says what it is: of all groupings
-- one that costs least, and the first of several. Here it is found group by group; a law says that what is
-- found is that grouping.
use Rattle.std.specs.Prelude.{ℕ, zero, suc, ◌-◌, min, cond, List, [], ◌∷◌, length, drop, map, nat_lt}
use Rattle.std.specs.List.{range_with_len}
use Rattle.grib_base.specs.declared.code.Code.{Code}
use Rattle.grib_packing.specs.Groupings.{cost_of}

-- of two lists of lengths the one that costs less, the first where both cost the same
abbrev pub cheaper : ℕ → (List Code → ℕ) → List Code → List ℕ → List ℕ → List ℕ
cheaper header width codes a b = cond (nat_lt (cost_of header width b codes) (cost_of header width a codes)) b a

-- of this list of lengths and some others the one that costs least, the first of several
abbrev pub cheapest : ℕ → (List Code → ℕ) → List Code → List ℕ → List (List ℕ) → List ℕ
cheapest header width codes best [] = best
cheapest header width codes best (other ∷ others) = cheapest header width codes (cheaper header width codes best other) others

-- Of the first lengths from 1 to 64, each with the chosen lengths of the codes after it, the one that costs
-- least. `groups` bounds the number of groups; as many as there are codes are enough.
abbrev pub chosen_within : ℕ → ℕ → (List Code → ℕ) → List Code → List ℕ
chosen_within zero header width codes = []
chosen_within (suc groups) header width [] = []
chosen_within (suc groups) header width (code ∷ codes) =
    let all = code ∷ codes in
    let begun_with = λ (l : ℕ). l ∷ chosen_within groups header width (drop l all) in
    cheapest header width all (begun_with 1) (map begun_with (range_with_len 2 (min 64 (length all) - 1)))

abbrev pub chosen : ℕ → (List Code → ℕ) → List Code → List ℕ
chosen header width codes = chosen_within (length codes) header width codes
