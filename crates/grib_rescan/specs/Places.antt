-- Runs of places, the nearest place, and what is kept of places that are looked at one after another.
use Rattle.std.specs.Prelude.{◌≡◌, ℕ, ◌+◌, ◌-◌, ◌<◌, ◌≤◌, Bool, true, List, length, slice_index_or}
use Rattle.grib_rescan.specs.declared.places.Held.{Held}
use Rattle.grib_rescan.specs.declared.places.Run.{Run}

-- the first, the last and how many
abbrev pub held_of : List ℕ → Held
held_of places = record { first = slice_index_or places 0 0; last = slice_index_or places (length places - 1) 0; count = length places }

-- all places of a run hold, and no others below n
pub record IsRun (holds : ℕ → Bool) (n : ℕ) (run : Run) : Type 0 where
  pub some : 1 ≤ run.count
  pub within : run.first + run.count ≤ n
  pub inside : (k : ℕ) → run.first ≤ k → k < run.first + run.count → holds k ≡ true
  pub all : (k : ℕ) → k < n → holds k ≡ true → (run.first ≤ k) × (k < run.first + run.count)

-- of the places below n, k is the first that is no farther than any of them
pub record IsNearest (distance : ℕ → ℕ) (n k : ℕ) : Type 0 where
  pub within : k < n
  pub least : (m : ℕ) → m < n → distance k ≤ distance m
  pub first : (m : ℕ) → m < k → distance k < distance m
