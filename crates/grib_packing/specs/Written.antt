-- What a packing may answer when it writes.
use Rattle.std.specs.Prelude.{◌≡◌, ◌⊎◌, ℕ, ◌≤◌, Bool, true, false, cond, refl, Option, Some, None, Result, MatchResult, length, ◌==◌}
use Rattle.std.proofs.Common.{inl, inr}
use Rattle.std.specs.List.{list_any}
use Rattle.grib_bits.specs.Binary32.{ieee_exponent}
use Rattle.grib_packing.specs.declared.column.Column.{Column}
use Rattle.grib_packing.specs.Entries.{is_out_of_range}
use Rattle.grib_packing.specs.Misfits.{Target, ToSimple, ToComplex, ToSpatial, ToCoded, Misfit, first_misfit, SecondaryMissing as SecondaryMisfit, OutOfRange as RangeMisfit, DifferenceRange as DifferenceMisfit}
use Rattle.grib_packing.specs.Packed.{Packed as HasPacked}
use Rattle.grib_packing.specs.declared.written.Packed.{Packed}
use Rattle.grib_packing.specs.declared.written.PackFault.{PackFault}
use Rattle.grib_packing.specs.declared.written.PackFault.TheVariants.{SecondaryMissing, OutOfRange, DifferenceRange, Memory}

-- The columns that a packing may be given: 1 to 33,554,432 points, scaled integers within plus and
-- minus 2 ^ 60, and a reference value that is finite.
pub record MayBePacked (column : Column) : Type 0 where
  pub some : 1 ≤ length column.points
  pub few : length column.points ≤ 33554432
  pub within : list_any is_out_of_range column.points ≡ false
  pub finite : (ieee_exponent column.reference == 255) ≡ false

-- a block has 8, 16, 32 or 64 values, and 1 to 4,096 blocks follow one another from one reference to the next
abbrev pub IsBlocks : ℕ → ℕ → Type 0
IsBlocks block interval = ((block ≡ 8) ⊎ ((block ≡ 16) ⊎ ((block ≡ 32) ⊎ (block ≡ 64)))) × (1 ≤ interval) × (interval ≤ 4096)

-- differences are of order 1 or 2
abbrev pub IsTarget : Target → Type 0
IsTarget ToSimple = Unit {0}
IsTarget ToComplex = Unit {0}
IsTarget (ToSpatial order) = (order ≡ 1) ⊎ (order ≡ 2)
IsTarget (ToCoded block interval) = IsBlocks block interval

-- order 2 or order 1 is one of them
pub order_known : (second : Bool) → IsTarget (ToSpatial (cond second 2 1))
order_known true = inr refl
order_known false = inl refl

-- the first misfit, or that there is no memory
abbrev pub IsPackFault : Option Misfit → PackFault → Type 0
IsPackFault expected (SecondaryMissing point) = expected ≡ Some (SecondaryMisfit point)
IsPackFault expected (OutOfRange point) = expected ≡ Some (RangeMisfit point)
IsPackFault expected DifferenceRange = expected ≡ Some DifferenceMisfit
IsPackFault expected Memory = Unit {0}

-- The sections of the packing exactly where nothing of the column fails to fit, else the first misfit.
abbrev pub IsPacked : Target → Column → ℕ → Result Packed PackFault → Type 0
IsPacked target column kind result =
    MatchResult result
    (λ packed. (first_misfit target column.points ≡ None) × HasPacked target column kind packed.section5 packed.section6 packed.section7)
    (IsPackFault (first_misfit target column.points))
