-- What was read of what stands on a shelf under a name, as records that are a table, for private functions.
use Rattle.std.specs.Prelude.{◌≡◌, ℕ, List, Option, Some, None, Ok, Err}
use Rattle.std.specs.declared.result.Result.{Result}
use Rattle.grib_reasons.specs.declared.table.TableRefusal.TheVariants as refusals
use Rattle.grib_io.specs.Shelves.{Held, Tells}
use Rattle.grib_io.specs.Reading.{IsFirst}
use Rattle.grib_params.specs.declared.fault.TableFault.{TableFault}
use Rattle.grib_params.specs.declared.fault.TableFault.TheVariants as faults
use Rattle.grib_table.specs.declared.stop.TableStop.{TableStop}
use Rattle.grib_table.specs.declared.stop.TableStop.TheVariants.{Refused, ShelfFault, Memory}
use Rattle.grib_table.specs.declared.reading.TheConstants.{MOST}

-- this is said of the octets that stand there, of no more than one more than a table may have
abbrev pub IsSaid : {V : Type 0} → (List ℕ → V) → (V → Type 0) → Option Held → List ℕ → Type 0
IsSaid verdict Is shelf name = (octets : List ℕ) × Tells shelf name (IsFirst (Some MOST) octets) × Is (verdict octets)

-- A table was read where a name is given, and else the one of no records. `verdict` is what is said of a text, `good`
-- that it is a table, and `IsFault` why it is none.
abbrev pub Takes : {T V : Type 0} → T → (T → V) → (V → TableFault → Type 0) → (List ℕ → V) → Result T TableStop → Option Held → Option (List ℕ) → Type 0
Takes none good IsFault verdict result shelf None = result ≡ Ok none
Takes none good IsFault verdict (Ok table) shelf (Some name) = IsSaid verdict (λ said. said ≡ good table) shelf name
Takes none good IsFault verdict (Err (Refused refusals.Absent)) shelf (Some name) = Tells shelf name (λ text. text ≡ None)
Takes none good IsFault verdict (Err (Refused refusals.TooLarge)) shelf (Some name) = IsSaid verdict (λ said. IsFault said faults.TooLarge) shelf name
Takes none good IsFault verdict (Err (Refused (refusals.Row number))) shelf (Some name) = IsSaid verdict (λ said. IsFault said (faults.Row number)) shelf name
Takes none good IsFault verdict (Err (Refused (refusals.Duplicate number))) shelf (Some name) =
    IsSaid verdict (λ said. IsFault said (faults.Duplicate number)) shelf name
Takes none good IsFault verdict (Err ShelfFault) shelf (Some name) = Unit {0}
Takes none good IsFault verdict (Err Memory) shelf (Some name) = Unit {0}
