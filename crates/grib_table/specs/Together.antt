-- What stands on a shelf under the names of the tables of a run: of a parameter table, of a table of surfaces and of a table
-- of names, each where one is asked for.
use Rattle.std.specs.Prelude.{◌≡◌, ℕ, List, [], Option, Some, None, Ok, Err}
use Rattle.std.specs.declared.result.Result.{Result}
use Rattle.grib_reasons.specs.declared.table.TableRefusal.{TableRefusal}
use Rattle.grib_io.specs.Outside.{Counted}
use Rattle.grib_io.specs.Shelves.{Held, Stood}
use Rattle.grib_params.specs.Table.{Entries}
use Rattle.grib_params.specs.Surfaces.{SurfaceEntries}
use Rattle.grib_names.specs.Table.{NameEntries}
use Rattle.grib_table.specs.declared.together.Tables.{Tables}
use Rattle.grib_table.specs.declared.stop.TableStop.{TableStop}
use Rattle.grib_table.specs.declared.stop.TableStop.TheVariants as stops
use Rattle.grib_table.specs.declared.stop.TablesStop.{TablesStop}
use Rattle.grib_table.specs.declared.stop.TablesStop.TheVariants.{Refused as Refuses, SurfacesRefused as RefusesSurfaces, ShelfFault, Memory}
use Rattle.grib_table.specs.Tabled.{Tabled, Good, Refused, ReadsTable, parameters_of, surfaces_of, names_of, tabled}

-- the names under which tables are asked for
pub record Asked : Type 0 where
  pub parameters : Option (List ℕ)
  pub surfaces : Option (List ℕ)
  pub names : Option (List ℕ)

abbrev pub asked : Option (List ℕ) → Option (List ℕ) → Option (List ℕ) → Asked
asked parameters surfaces names = record { parameters = parameters; surfaces = surfaces; names = names }

-- what stands under them, and, where an input is compared with a file, what stands under the name of that file
pub record Texts : Type 0 where
  pub parameters : Option (List ℕ)
  pub surfaces : Option (List ℕ)
  pub names : Option (List ℕ)
  pub file : Option (List ℕ)

abbrev pub no_texts : Texts
no_texts = record { parameters = None; surfaces = None; names = None; file = None }

-- the tables, or why there are none: the first of them that is refused
pub data Together : Type 0 where
  AllGood : Tables → Together
  TableRefused : TableRefusal → Together
  SurfacesRefused : TableRefusal → Together

abbrev pub together_by : Tabled Entries → Tabled SurfaceEntries → Tabled NameEntries → Together
together_by (Refused refusal) surfaces names = TableRefused refusal
together_by (Good parameters) (Refused refusal) names = SurfacesRefused refusal
together_by (Good parameters) (Good surfaces) (Refused refusal) = TableRefused refusal
together_by (Good parameters) (Good surfaces) (Good names) = AllGood (record { parameters = parameters; surfaces = surfaces; names = names })

-- the table under a name; one that has nothing where no name is given
abbrev pub tabled_where : {X : Type 0} → (List ℕ → Tabled (List X)) → Option (List ℕ) → Option (List ℕ) → Tabled (List X)
tabled_where table_of None text = Good []
tabled_where table_of (Some name) text = tabled table_of text

-- what stands under the names
abbrev pub together : Asked → Texts → Together
together asked texts =
    together_by (tabled_where parameters_of asked.parameters texts.parameters) (tabled_where surfaces_of asked.surfaces texts.surfaces)
    (tabled_where names_of asked.names texts.names)

-- what stands under the name, where there is one and the shelf tells it
abbrev pub StoodWhere : Option Held → Option (List ℕ) → Option (List ℕ) → Type 0
StoodWhere shelf None text = Unit {0}
StoodWhere shelf (Some name) text = Stood shelf name text

abbrev pub AllStood : Option Held → Asked → Texts → Type 0
AllStood shelf asked texts =
    StoodWhere shelf asked.parameters texts.parameters × (StoodWhere shelf asked.surfaces texts.surfaces × StoodWhere shelf asked.names texts.names)

-- what was read stands under the names as this
abbrev pub StandsAs : Option Held → Asked → Together → Type 0
StandsAs shelf asked what = (texts : Texts) × AllStood shelf asked texts × (together asked texts ≡ what)

-- What was read as the tables stands under the names, or was refused as what stands there.
abbrev pub ReadsTables : Result Tables TablesStop → Option Held → Asked → Type 0
ReadsTables (Ok tables) shelf asked = StandsAs shelf asked (AllGood tables)
ReadsTables (Err (Refuses refusal)) shelf asked = StandsAs shelf asked (TableRefused refusal)
ReadsTables (Err (RefusesSurfaces refusal)) shelf asked = StandsAs shelf asked (SurfacesRefused refusal)
ReadsTables (Err ShelfFault) shelf asked = Unit {0}
ReadsTables (Err Memory) shelf asked = Unit {0}

-- the same of one of them
abbrev pub ReadsWhere : {X : Type 0} → (List ℕ → Tabled (List X)) → Result (List X) TableStop → Option Held → Option (List ℕ) → Type 0
ReadsWhere table_of result shelf None = result ≡ Ok []
ReadsWhere table_of result shelf (Some name) = ReadsTable table_of result shelf name

-- the count of the shelf's faults: one more where the shelf failed
abbrev pub CountsTablesStop : TablesStop → ℕ → ℕ → Type 0
CountsTablesStop (Refuses refusal) before now = now ≡ before
CountsTablesStop (RefusesSurfaces refusal) before now = now ≡ before
CountsTablesStop ShelfFault before now = Counted before now
CountsTablesStop Memory before now = now ≡ before

abbrev pub CountsTables : {T : Type 0} → Result T TablesStop → ℕ → ℕ → Type 0
CountsTables (Ok tables) before now = now ≡ before
CountsTables (Err stop) before now = CountsTablesStop stop before now

-- why one table is not read as why all are not: a table of surfaces is told apart where it is refused
abbrev pub table_stop : TableStop → TablesStop
table_stop (stops.Refused refusal) = Refuses refusal
table_stop stops.ShelfFault = ShelfFault
table_stop stops.Memory = Memory

abbrev pub surfaces_stop : TableStop → TablesStop
surfaces_stop (stops.Refused refusal) = RefusesSurfaces refusal
surfaces_stop stops.ShelfFault = ShelfFault
surfaces_stop stops.Memory = Memory
