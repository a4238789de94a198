-- The least cost of the groupings of some codes.
use Rattle.std.specs.Prelude.{◌≡◌, ℕ, ◌+◌, ◌*◌, ◌<◌, ◌≤◌, List, ◌∷◌, length, take, drop, sum, slice_index}
use Rattle.grib_base.specs.declared.code.Code.{Code}
use Rattle.grib_packing.specs.Groupings.{IsGrouping, cost_of, Chosen}

-- some grouping costs this, and none costs less
pub record IsLeast (header : ℕ) (width : List Code → ℕ) (codes : List Code) (cost : ℕ) : Type 0 where
  pub lengths : List ℕ
  pub grouping : IsGrouping (length codes) lengths
  pub reached : cost_of header width lengths codes ≡ cost
  pub least : (other : List ℕ) → IsGrouping (length codes) other → cost ≤ cost_of header width other codes

-- the cost of a first group of n codes and a rest of this cost
abbrev pub with_first : ℕ → (List Code → ℕ) → List Code → ℕ → ℕ → ℕ
with_first header width codes n rest = header + n * width (take n codes) + rest

-- of the first lengths that are allowed, each with the least cost of what follows, n is the best: none costs
-- less, and a smaller one costs more
pub record Best (header : ℕ) (width : List Code → ℕ) (codes : List Code) (after : ℕ → ℕ) (n : ℕ) : Type 0 where
  pub some : 1 ≤ n
  pub most : n ≤ 64
  pub fits : n ≤ length codes
  pub least : (l : ℕ) → 1 ≤ l → l ≤ 64 → l ≤ length codes
      → with_first header width codes n (after n) ≤ with_first header width codes l (after l)
  pub first : (l : ℕ) → 1 ≤ l → l < n
      → with_first header width codes n (after n) < with_first header width codes l (after l)

-- `after` gives the least cost of what follows each first group that is allowed
abbrev pub AreLeastAfter : ℕ → (List Code → ℕ) → List Code → (ℕ → ℕ) → Type 0
AreLeastAfter header width codes after =
    (l : ℕ) → 1 ≤ l → l ≤ 64 → l ≤ length codes → IsLeast header width (drop l codes) (after l)

-- the length is the first of a chosen grouping
abbrev pub IsHead : ℕ → (List Code → ℕ) → List Code → ℕ → Type 0
IsHead header width codes n = (rest : List ℕ) × Chosen header width codes (n ∷ rest)

-- The lengths follow the choices: each is the choice at the place after the lengths before it, and they end
-- with the choices.
pub record Follows (choices lengths : List ℕ) : Type 0 where
  pub total : sum lengths ≡ length choices
  pub within : (k : ℕ) → k < length lengths → sum (take k lengths) < length choices
  pub each : (k : ℕ) → k < length lengths → slice_index lengths k ≡ slice_index choices (sum (take k lengths))

-- each choice is the first length of a chosen grouping of the codes from its place on
abbrev pub AreHeads : ℕ → (List Code → ℕ) → List Code → List ℕ → Type 0
AreHeads header width codes choices = (i : ℕ) → i < length codes → IsHead header width (drop i codes) (slice_index choices i)

-- each choice is a length from 1 to 64 that ends with the choices at most
abbrev pub AreChoices : List ℕ → Type 0
AreChoices choices = (i : ℕ) → i < length choices
    → (1 ≤ slice_index choices i) × (slice_index choices i ≤ 64) × (i + slice_index choices i ≤ length choices)
