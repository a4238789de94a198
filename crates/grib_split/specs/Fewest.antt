-- Groups of codes that take no bits beside the headers, as where all codes are the same.
use Rattle.std.specs.Prelude.{◌≡◌, ℕ, ◌+◌, ◌-◌, ◌/◌, ◌%◌, List, ◌∷◌, take, drop, replicate}
use Rattle.grib_base.specs.declared.code.Code.{Code}

-- no run of the codes takes a bit
abbrev pub TakesNone : (List Code → ℕ) → List Code → Type 0
TakesNone width codes = (from n : ℕ) → width (take n (drop from codes)) ≡ 0

-- as few groups of n codes as there can be: each but the first has 64
abbrev pub fewest : ℕ → List ℕ
fewest n = ((n - 1) % 64 + 1) ∷ replicate ((n - 1) / 64) 64
