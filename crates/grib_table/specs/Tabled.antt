-- What stands on a shelf under a name as a table: as a parameter table, a table of surfaces or a table of names.
use Rattle.std.specs.Prelude.{◌≡◌, ℕ, List, Option, Some, None, Ok, Err}
use Rattle.std.specs.declared.result.Result.{Result}
use Rattle.grib_reasons.specs.declared.table.TableRefusal.{TableRefusal}
use Rattle.grib_reasons.specs.declared.table.TableRefusal.TheVariants as refusals
use Rattle.grib_io.specs.declared.reading.ReadStop.{ReadStop}
use Rattle.grib_io.specs.declared.reading.ReadStop.TheVariants as reads
use Rattle.grib_io.specs.Outside.{Counted}
use Rattle.grib_io.specs.Shelves.{Held, Stood}
use Rattle.grib_params.specs.declared.fault.TableFault.{TableFault}
use Rattle.grib_params.specs.declared.fault.TableFault.TheVariants as faults
use Rattle.grib_params.specs.Table as verdicts
use Rattle.grib_params.specs.Table.{Entries, Verdict, table_verdict}
use Rattle.grib_params.specs.Surfaces as surfaces
use Rattle.grib_params.specs.Surfaces.{SurfaceEntries, SurfaceVerdict, surface_verdict}
use Rattle.grib_names.specs.Table as names
use Rattle.grib_names.specs.Table.{NameEntries, NameVerdict, names_verdict}
use Rattle.grib_table.specs.declared.stop.TableStop.{TableStop}
use Rattle.grib_table.specs.declared.stop.TableStop.TheVariants.{Refused as Refuses, ShelfFault, Memory}

-- a table, or why there is none
pub data Tabled (T : Type 0) : Type 0 where
  Good : T → Tabled T
  Refused : TableRefusal → Tabled T

-- what the verdict on a text makes of it
abbrev pub tabled_by : Verdict → Tabled Entries
tabled_by verdicts.TooLarge = Refused refusals.TooLarge
tabled_by (verdicts.Row number) = Refused (refusals.Row number)
tabled_by (verdicts.Duplicate number) = Refused (refusals.Duplicate number)
tabled_by (verdicts.Good table) = Good table

abbrev pub surfaces_by : SurfaceVerdict → Tabled SurfaceEntries
surfaces_by surfaces.TooLarge = Refused refusals.TooLarge
surfaces_by (surfaces.Row number) = Refused (refusals.Row number)
surfaces_by (surfaces.Duplicate number) = Refused (refusals.Duplicate number)
surfaces_by (surfaces.Good table) = Good table

abbrev pub names_by : NameVerdict → Tabled NameEntries
names_by names.TooLarge = Refused refusals.TooLarge
names_by (names.Row number) = Refused (refusals.Row number)
names_by (names.Duplicate number) = Refused (refusals.Duplicate number)
names_by (names.Good table) = Good table

-- a text as a parameter table, as a table of surfaces, and as a table of names
abbrev pub parameters_of : List ℕ → Tabled Entries
parameters_of text = tabled_by (table_verdict text)

abbrev pub surfaces_of : List ℕ → Tabled SurfaceEntries
surfaces_of text = surfaces_by (surface_verdict text)

abbrev pub names_of : List ℕ → Tabled NameEntries
names_of text = names_by (names_verdict text)

-- what stands under a name, None where the name is absent
abbrev pub tabled : {T : Type 0} → (List ℕ → Tabled T) → Option (List ℕ) → Tabled T
tabled table_of None = Refused refusals.Absent
tabled table_of (Some text) = table_of text

-- What was read as the table stands under the name, or was refused as what stands there.
abbrev pub ReadsTable : {T : Type 0} → (List ℕ → Tabled T) → Result T TableStop → Option Held → List ℕ → Type 0
ReadsTable table_of (Ok table) shelf name = (text : Option (List ℕ)) × Stood shelf name text × (tabled table_of text ≡ Good table)
ReadsTable table_of (Err (Refuses refusal)) shelf name = (text : Option (List ℕ)) × Stood shelf name text × (tabled table_of text ≡ Refused refusal)
ReadsTable table_of (Err ShelfFault) shelf name = Unit {0}
ReadsTable table_of (Err Memory) shelf name = Unit {0}

-- the count of the shelf's faults: one more where the shelf failed
abbrev pub CountsTableStop : TableStop → ℕ → ℕ → Type 0
CountsTableStop (Refuses refusal) before now = now ≡ before
CountsTableStop ShelfFault before now = Counted before now
CountsTableStop Memory before now = now ≡ before

abbrev pub CountsTable : {T : Type 0} → Result T TableStop → ℕ → ℕ → Type 0
CountsTable (Ok table) before now = now ≡ before
CountsTable (Err stop) before now = CountsTableStop stop before now

-- octets that are not read, and a text that is no table, as why no table is read
abbrev pub stop_of_read : ReadStop → TableStop
stop_of_read reads.Absent = Refuses refusals.Absent
stop_of_read reads.Failed = ShelfFault
stop_of_read reads.Memory = Memory

abbrev pub stop_of_fault : TableFault → TableStop
stop_of_fault faults.TooLarge = Refuses refusals.TooLarge
stop_of_fault (faults.Row number) = Refuses (refusals.Row number)
stop_of_fault (faults.Duplicate number) = Refuses (refusals.Duplicate number)
stop_of_fault faults.Memory = Memory
