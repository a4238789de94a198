-- What no grouping of some codes goes below.
use Rattle.std.specs.Prelude.{ℕ, ◌≤◌, List, length}
use Rattle.grib_base.specs.declared.code.Code.{Code}
use Rattle.grib_packing.specs.Groupings.{IsGrouping, cost_of}

-- no grouping of the codes takes fewer bits than these
abbrev pub NoneTakesFewer : ℕ → (List Code → ℕ) → List Code → ℕ → Type 0
NoneTakesFewer header width codes bits =
    (lengths : List ℕ) → IsGrouping (length codes) lengths → bits ≤ cost_of header width lengths codes
