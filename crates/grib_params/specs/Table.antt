-- A parameter table: what it has under which key, and which texts are one.
use Rattle.std.specs.Prelude.{ℕ, ◌≡◌, ◌+◌, if◌then◌else◌, nat_lt, length, Option, Some, None, List, [], ◌∷◌}
use Rattle.std.specs.declared.cmp.Ordering.{Ordering}
use Rattle.std.specs.Ordering.{is_eq, nat_cmp, ordering_then}
use Rattle.std.specs.Option.{option_cmp, option_or}
use Rattle.std.specs.Map.{lookup}
use Rattle.std.specs.BTreeMap.{insert_entry}
use Rattle.grib_params.specs.declared.row.Target.{Target}
use Rattle.grib_params.specs.declared.fault.TableFault.{TableFault}
use Rattle.grib_params.specs.declared.fault.TableFault.TheVariants as faults
use Rattle.grib_params.specs.Fields.{Fields, Key, records_of, row_in}
use Rattle.grib_params.specs.declared.table.TheConstants.{MOST_OCTETS}

-- the order of keys: every centre stands before each centre, then version, then parameter
abbrev pub key_cmp : Key → Key → Ordering
key_cmp a b = ordering_then (ordering_then (option_cmp nat_cmp a.0 b.0) (nat_cmp a.1 b.1)) (nat_cmp a.2 b.2)

-- a table: keys with their targets, in the order of the keys
abbrev pub Entries : Type 0
Entries = List (Key × Target)

-- the target that is kept under a key
abbrev pub target_at : Entries → Key → Option Target
target_at table key = lookup (λ k. is_eq (key_cmp key k)) table

-- the target of the record with these three, else of the one with `*` and the other two, else none
abbrev pub lookup_in : Entries → ℕ → ℕ → ℕ → Option Target
lookup_in table centre version parameter =
    option_or (target_at table (Some centre, version, parameter)) (target_at table (None, version, parameter))

-- the verdict on a text. Records count from 1
pub data Verdict : Type 0 where
  TooLarge : Verdict
  Row : ℕ → Verdict
  Duplicate : ℕ → Verdict
  Good : Entries → Verdict

-- the table with a row more, unless an earlier record has the same first three fields
abbrev pub unless_there : Option Target → ℕ → (Unit {0} → Verdict) → Verdict
unless_there (Some earlier) number next = Duplicate number
unless_there None number next = next tt

-- what record `number` makes of the table of the records before it
abbrev pub with_row : Option (Key × Target) → ℕ → Entries → (Entries → Verdict) → Verdict
with_row None number table next = Row number
with_row (Some row) number table next =
    unless_there (target_at table row.0) number (λ _. next (insert_entry key_cmp table row.0 row.1))

-- the verdict on the records that follow the first `count`, of which the table is made
abbrev pub verdict_from : ℕ → Entries → List Fields → Verdict
verdict_from count table [] = Good table
verdict_from count table (fields ∷ rest) =
    with_row (row_in fields) (count + 1) table (λ more. verdict_from (count + 1) more rest)

-- the verdict on the text of a table
abbrev pub table_verdict : List ℕ → Verdict
table_verdict text = if nat_lt MOST_OCTETS (length text) then TooLarge else verdict_from 0 [] (records_of text)

-- a fault is the one of the verdict; that there is no memory says nothing of it
abbrev pub IsFault : Verdict → TableFault → Type 0
IsFault verdict faults.TooLarge = verdict ≡ TooLarge
IsFault verdict (faults.Row number) = verdict ≡ Row number
IsFault verdict (faults.Duplicate number) = verdict ≡ Duplicate number
IsFault verdict faults.Memory = Unit {0}
