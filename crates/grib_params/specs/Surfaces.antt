-- A table of surfaces: what it has for a message, and which texts are one.
use Rattle.std.specs.Prelude.{ℕ, ◌≡◌, ◌+◌, if◌then◌else◌, nat_lt, length, Option, Some, None, List, [], ◌∷◌}
use Rattle.std.specs.declared.cmp.Ordering.{Ordering}
use Rattle.std.specs.Ordering.{is_eq, nat_cmp, ordering_then}
use Rattle.std.specs.Option.{option_cmp, option_or}
use Rattle.std.specs.Map.{lookup}
use Rattle.std.specs.BTreeMap.{insert_entry}
use Rattle.grib_params.specs.declared.surface_row.SurfaceTarget.{SurfaceTarget}
use Rattle.grib_params.specs.declared.fault.TableFault.{TableFault}
use Rattle.grib_params.specs.declared.fault.TableFault.TheVariants as faults
use Rattle.grib_params.specs.Fields.{Fields, Key, records_of}
use Rattle.grib_params.specs.Table.{key_cmp}
use Rattle.grib_params.specs.SurfaceRows.{SurfaceKey, surface_row_in}
use Rattle.grib_params.specs.declared.table.TheConstants.{MOST_OCTETS}

-- the order of keys: as in a parameter table, then by the type of level, then every level before each level
abbrev pub surface_key_cmp : SurfaceKey → SurfaceKey → Ordering
surface_key_cmp a b = ordering_then (ordering_then (key_cmp a.0 b.0) (nat_cmp a.1 b.1)) (option_cmp nat_cmp a.2 b.2)

-- a table: keys with their targets, in the order of the keys
abbrev pub SurfaceEntries : Type 0
SurfaceEntries = List (SurfaceKey × SurfaceTarget)

-- the target that is kept under a key
abbrev pub surface_at : SurfaceEntries → SurfaceKey → Option SurfaceTarget
surface_at table key = lookup (λ k. is_eq (surface_key_cmp key k)) table

-- the target of the record with this level, else of the one with `*` for it
abbrev pub surface_under : SurfaceEntries → Key → ℕ → ℕ → Option SurfaceTarget
surface_under table key level_type level =
    option_or (surface_at table (key, level_type, Some level)) (surface_at table (key, level_type, None))

-- The target of a message: of the record with its centre and level; else with its centre and `*` for the level; else
-- with `*` for the centre and its level; else with `*` for both; else none. Version, parameter and type of level are
-- those of the message in each.
abbrev pub surface_in : SurfaceEntries → ℕ → ℕ → ℕ → ℕ → ℕ → Option SurfaceTarget
surface_in table centre version parameter level_type level =
    option_or (surface_under table (Some centre, version, parameter) level_type level)
    (surface_under table (None, version, parameter) level_type level)

-- the verdict on a text. Records count from 1
pub data SurfaceVerdict : Type 0 where
  TooLarge : SurfaceVerdict
  Row : ℕ → SurfaceVerdict
  Duplicate : ℕ → SurfaceVerdict
  Good : SurfaceEntries → SurfaceVerdict

-- the table with a row more, unless an earlier record has the same first five fields
abbrev pub surface_unless_there : Option SurfaceTarget → ℕ → (Unit {0} → SurfaceVerdict) → SurfaceVerdict
surface_unless_there (Some earlier) number next = Duplicate number
surface_unless_there None number next = next tt

-- what record `number` makes of the table of the records before it
abbrev pub with_surface_row : Option (SurfaceKey × SurfaceTarget) → ℕ → SurfaceEntries → (SurfaceEntries → SurfaceVerdict) → SurfaceVerdict
with_surface_row None number table next = Row number
with_surface_row (Some row) number table next =
    surface_unless_there (surface_at table row.0) number (λ _. next (insert_entry surface_key_cmp table row.0 row.1))

-- the verdict on the records that follow the first `count`, of which the table is made
abbrev pub surface_verdict_from : ℕ → SurfaceEntries → List Fields → SurfaceVerdict
surface_verdict_from count table [] = Good table
surface_verdict_from count table (fields ∷ rest) =
    with_surface_row (surface_row_in fields) (count + 1) table (λ more. surface_verdict_from (count + 1) more rest)

-- the verdict on the text of a table
abbrev pub surface_verdict : List ℕ → SurfaceVerdict
surface_verdict text = if nat_lt MOST_OCTETS (length text) then TooLarge else surface_verdict_from 0 [] (records_of text)

-- a fault is the one of the verdict; that there is no memory says nothing of it
abbrev pub IsSurfaceFault : SurfaceVerdict → TableFault → Type 0
IsSurfaceFault verdict faults.TooLarge = verdict ≡ TooLarge
IsSurfaceFault verdict (faults.Row number) = verdict ≡ Row number
IsSurfaceFault verdict (faults.Duplicate number) = verdict ≡ Duplicate number
IsSurfaceFault verdict faults.Memory = Unit {0}
