-- What a packing may answer when it writes sections only where they may have fewer octets than some number.
use Rattle.std.specs.Prelude.{◌≡◌, ℕ, ◌+◌, ◌≤◌, List, Option, Some, None, Result, MatchResult, length}
use Rattle.grib_packing.specs.declared.column.Column.{Column}
use Rattle.grib_packing.specs.declared.written.Packed.{Packed}
use Rattle.grib_packing.specs.declared.written.PackFault.{PackFault}
use Rattle.grib_packing.specs.Misfits.{Target, first_misfit}
use Rattle.grib_packing.specs.Packed.{Packed as HasPacked}
use Rattle.grib_packing.specs.Written.{IsPackFault}

-- no packing to the target has fewer octets than the bound, and there is one
abbrev pub IsNoFewer : Target → Column → ℕ → Option ℕ → Type 0
IsNoFewer target column kind None = ⊥
IsNoFewer target column kind (Some most) =
    (s5 s6 s7 : List ℕ) → HasPacked target column kind s5 s6 s7 → most ≤ length s5 + length s6 + length s7

-- the sections of a packing, or none where none that it may write has fewer octets
abbrev pub IsBelowOrNone : Target → Column → ℕ → Option ℕ → Option Packed → Type 0
IsBelowOrNone target column kind below (Some packed) = HasPacked target column kind packed.section5 packed.section6 packed.section7
IsBelowOrNone target column kind below None = IsNoFewer target column kind below

-- exactly where nothing of the column fails to fit, else the first misfit
abbrev pub IsPackedBelow : Target → Column → ℕ → Option ℕ → Result (Option Packed) PackFault → Type 0
IsPackedBelow target column kind below result =
    MatchResult result
    (λ found. (first_misfit target column.points ≡ None) × IsBelowOrNone target column kind below found)
    (IsPackFault (first_misfit target column.points))
