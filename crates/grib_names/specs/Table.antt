-- A table of names: what it has for a parameter of edition 2, and which texts are one.
use Rattle.std.specs.Prelude.{ℕ, ◌≡◌, ◌+◌, Bool, false, ◌||◌, if◌then◌else◌, nat_lt, length, Option, Some, None, List, [], ◌∷◌, is_some}
use Rattle.std.specs.declared.cmp.Ordering.{Ordering}
use Rattle.std.specs.Ordering.{is_eq, nat_cmp, ordering_then}
use Rattle.std.specs.List.{list_any}
use Rattle.std.specs.Map.{lookup}
use Rattle.std.specs.Option.{option_map_or}
use Rattle.std.specs.Str.{bytes_eq}
use Rattle.std.specs.BTreeMap.{insert_entry}
use Rattle.grib_params.specs.declared.fault.TableFault.{TableFault}
use Rattle.grib_params.specs.declared.fault.TableFault.TheVariants as faults
use Rattle.grib_params.specs.declared.table.TheConstants.{MOST_OCTETS}
use Rattle.grib_params.specs.Fields.{Fields, records_of}
use Rattle.grib_names.specs.Rows.{Name, Numbers, name_row_in}

-- the order of records: by discipline, then category, then number
abbrev pub numbers_cmp : Numbers → Numbers → Ordering
numbers_cmp a b = ordering_then (ordering_then (nat_cmp a.0 b.0) (nat_cmp a.1 b.1)) (nat_cmp a.2 b.2)

-- a record: discipline, category and number, and the name
abbrev pub NameEntry : Type 0
NameEntry = Numbers × Name

-- a table: its records in the order of their numbers
abbrev pub NameEntries : Type 0
NameEntries = List NameEntry

-- the name of the record with these numbers
abbrev pub name_at : NameEntries → Numbers → Option Name
name_at table numbers = lookup (λ k. is_eq (numbers_cmp numbers k)) table

abbrev pub name_of : NameEntries → ℕ → ℕ → ℕ → Option Name
name_of table discipline category number = name_at table (discipline, category, number)

-- whether a record has this name
abbrev pub has_name : NameEntries → Name → Bool
has_name table name = list_any (λ (entry : NameEntry). bytes_eq entry.1 name) table

-- whether a record has these numbers, or this name
abbrev pub repeats : NameEntries → NameEntry → Bool
repeats table entry = is_some (name_at table entry.0) || has_name table entry.1

-- the verdict on a text. Records count from 1
pub data NameVerdict : Type 0 where
  TooLarge : NameVerdict
  Row : ℕ → NameVerdict
  Duplicate : ℕ → NameVerdict
  Good : NameEntries → NameVerdict

-- the verdict with a record more, unless an earlier one has its numbers or its name
abbrev pub unless_repeated : Bool → ℕ → (Unit {0} → NameVerdict) → NameVerdict
unless_repeated repeated number next = if repeated then Duplicate number else next tt

-- what record `number` makes of the table of the records before it
abbrev pub with_name : Option NameEntry → ℕ → NameEntries → (NameEntries → NameVerdict) → NameVerdict
with_name None number table next = Row number
with_name (Some entry) number table next =
    unless_repeated (repeats table entry) number (λ _. next (insert_entry numbers_cmp table entry.0 entry.1))

-- the verdict on the records that follow the first `count`, of which the table is made
abbrev pub names_verdict_from : ℕ → NameEntries → List Fields → NameVerdict
names_verdict_from count table [] = Good table
names_verdict_from count table (fields ∷ rest) =
    with_name (name_row_in fields) (count + 1) table (λ more. names_verdict_from (count + 1) more rest)

-- the verdict on the text of a table
abbrev pub names_verdict : List ℕ → NameVerdict
names_verdict text = if nat_lt MOST_OCTETS (length text) then TooLarge else names_verdict_from 0 [] (records_of text)

-- a fault is the one of the verdict; that there is no memory says nothing of it
abbrev pub IsNamesFault : NameVerdict → TableFault → Type 0
IsNamesFault verdict faults.TooLarge = verdict ≡ TooLarge
IsNamesFault verdict (faults.Row number) = verdict ≡ Row number
IsNamesFault verdict (faults.Duplicate number) = verdict ≡ Duplicate number
IsNamesFault verdict faults.Memory = Unit {0}
