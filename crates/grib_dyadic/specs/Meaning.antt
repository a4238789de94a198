-- What the grid points of a field mean: exact values and missing values.
use Rattle.std.specs.Prelude.{List, [], ◌∷◌}
use Rattle.grib_dyadic.specs.Value.{Exact, Same}

-- a grid point: a value, missing (left out by the bitmap or marked as primary missing), or marked
-- as secondary missing
pub data Meant : Type 0 where
  valued : Exact → Meant
  missing : Meant
  missing2 : Meant

abbrev pub SamePoint : Meant → Meant → Type 0
SamePoint (valued v) (valued w) = Same v w
SamePoint missing missing = Unit {0}
SamePoint missing2 missing2 = Unit {0}
SamePoint _ _ = ⊥

-- as many points, and each the same
abbrev pub SameMeaning : List Meant → List Meant → Type 0
SameMeaning [] [] = Unit {0}
SameMeaning (p ∷ ps) (q ∷ qs) = SamePoint p q × SameMeaning ps qs
SameMeaning _ _ = ⊥
