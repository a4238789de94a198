-- What is said of differences that are undone whole.
use Rattle.std.specs.Prelude.{◌≡◌, ℕ, ◌≤◌, List, ℤ}
use Rattle.grib_base.specs.Rules.{first_place}
use Rattle.grib_packing.specs.Differences.{Descriptors, is_beyond}
use Rattle.grib_spatial.specs.declared.differences.Differences.{Differences}
use Rattle.grib_spatial.specs.declared.undoing.UndoFault.{UndoFault}
use Rattle.grib_spatial.specs.declared.undoing.UndoFault.TheVariants.{ScaledRange, Memory}

-- what the codes of differences of this order are read with
abbrev pub read_with : ℕ → Differences → Descriptors
read_with order d = record { order = order; first = d.first; second = d.second; minimum = d.minimum }

-- the place, from 1, of the first number outside plus and minus 2 ^ 60, 0 where there is none
abbrev pub first_beyond : List ℤ → ℕ
first_beyond numbers = first_place is_beyond numbers

-- the refusal names that place; that there is no memory says nothing
abbrev pub Names : UndoFault → ℕ → Type 0
Names (ScaledRange place) first = (place ≡ first) × (1 ≤ first)
Names Memory first = Unit {0}
