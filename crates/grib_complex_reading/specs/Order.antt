-- The order of spatial differences.
use Rattle.std.specs.Prelude.{◌≡◌, ◌⊎◌, ℕ}

-- differences are of order 1 or 2 (code table 5.6)
abbrev pub IsOrder : ℕ → Type 0
IsOrder order = (order ≡ 1) ⊎ (order ≡ 2)
