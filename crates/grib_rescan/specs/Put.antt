-- Points that are put in their places, in any order of them.
use Rattle.std.specs.Prelude.{◌≡◌, ℕ, List}
use Rattle.grib_packing.specs.declared.column.Point.{Point}
use Rattle.grib_rescan.specs.Points.{point}

-- the point at this place is the one that is wanted there
abbrev pub IsPut : List Point → List Point → ℕ → Type 0
IsPut wanted points k = point points k ≡ point wanted k

-- no place that has its point loses it
abbrev pub Keeps : List Point → List Point → List Point → Type 0
Keeps wanted before after = (k : ℕ) → IsPut wanted before k → IsPut wanted after k
