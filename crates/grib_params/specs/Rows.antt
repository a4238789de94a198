-- Texts of records that make a table: what a verdict on such a text says, whatever the records are.
use Rattle.std.specs.Prelude.{ℕ, ◌≡◌, ◌+◌, ◌<◌, ◌≤◌, length, Option, Some, None, Ok, Err, List, [], ◌∷◌}
use Rattle.std.specs.declared.result.Result.{Result}
use Rattle.std.specs.declared.cmp.Ordering.{Ordering}
use Rattle.std.specs.Ordering.{is_eq}
use Rattle.std.specs.Map.{lookup}
use Rattle.std.specs.Option.{IsSome}
use Rattle.std.specs.BTreeMap.{insert_entry}
use Rattle.grib_params.specs.declared.fault.TableFault.{TableFault}
use Rattle.grib_params.specs.declared.fault.TableFault.TheVariants as faults
use Rattle.grib_params.specs.declared.table.TheConstants.{MOST_OCTETS}
use Rattle.grib_params.specs.Fields.{Fields, records_of}

-- `from` is the verdict on the records that follow the first of some count, of which a table is made, `good` that the
-- table is the one of the text, and `IsFault` why a text is none.
pub record IsVerdict {T V : Type 0} (none : T) (good : T → V) (IsFault : V → TableFault → Type 0)
    (verdict : List ℕ → V) (from : ℕ → T → List Fields → V) : Type 0 where
  -- a text with too many octets, and any other
  pub large : (text : List ℕ) → MOST_OCTETS < length text → IsFault (verdict text) faults.TooLarge
  pub small : (text : List ℕ) → length text ≤ MOST_OCTETS → verdict text ≡ from 0 none (records_of text)
  -- no record more
  pub ends : (count : ℕ) (table : T) → from count table [] ≡ good table
  -- that there is no memory says nothing of a text
  pub unknown : (judged : V) → IsFault judged faults.Memory

-- The record with this number joins the table of those before it, or is at fault.
abbrev pub Adds : {T V : Type 0} → (V → TableFault → Type 0) → (ℕ → T → List Fields → V) → Result T TableFault → T → Fields → ℕ → Type 0
Adds IsFault from (Ok more) table fields number =
    (count : ℕ) (rest : List Fields) → number ≡ count + 1 → from count table (fields ∷ rest) ≡ from number more rest
Adds IsFault from (Err fault) table fields number =
    (count : ℕ) (rest : List Fields) → number ≡ count + 1 → IsFault (from count table (fields ∷ rest)) fault

-- Rows are kept in the order of their keys, `cmp`.
pub record IsKeyed {K T V : Type 0} (cmp : K → K → Ordering) (row_in : Fields → Option (K × T)) (IsFault : V → TableFault → Type 0)
    (from : ℕ → List (K × T) → List Fields → V) : Type 0 where
  -- a record that is no row
  pub refuses : (count : ℕ) (table : List (K × T)) (fields : Fields) (rest : List Fields) → None ≡ row_in fields
      → IsFault (from count table (fields ∷ rest)) (faults.Row (count + 1))
  -- a record whose key is there
  pub repeats : (count : ℕ) (table : List (K × T)) (fields : Fields) (rest : List Fields) (row : K × T) (earlier : T) → Some row ≡ row_in fields
      → Some earlier ≡ lookup (λ k. is_eq (cmp row.0 k)) table → IsFault (from count table (fields ∷ rest)) (faults.Duplicate (count + 1))
  -- a record that joins the table
  pub joins : (count : ℕ) (table : List (K × T)) (fields : Fields) (rest : List Fields) (row : K × T) → Some row ≡ row_in fields
      → None ≡ lookup (λ k. is_eq (cmp row.0 k)) table → from count table (fields ∷ rest) ≡ from (count + 1) (insert_entry cmp table row.0 row.1) rest
  -- that there is no memory says nothing of a text
  pub unknown : (judged : V) → IsFault judged faults.Memory

-- the row of the record with this number is put under its key
abbrev pub Puts : {K T : Type 0} → (K → K → Ordering) → Option (K × T) → List (K × T) → List (K × T) → Type 0
Puts cmp None old new = ⊥
Puts cmp (Some row) old new = (lookup (λ k. is_eq (cmp row.0 k)) old ≡ None) × (new ≡ insert_entry cmp old row.0 row.1)

-- or there is none, or its key is there
abbrev pub PutFault : {K T : Type 0} → (K → K → Ordering) → Option (K × T) → ℕ → List (K × T) → TableFault → Type 0
PutFault cmp row number old faults.Memory = Unit {0}
PutFault cmp row number old faults.TooLarge = ⊥
PutFault cmp row number old (faults.Row refused) = (row ≡ None) × (refused ≡ number)
PutFault cmp None number old (faults.Duplicate refused) = ⊥
PutFault cmp (Some row) number old (faults.Duplicate refused) =
    IsSome (lookup (λ k. is_eq (cmp row.0 k)) old) × (refused ≡ number)

abbrev pub IsPut : {K T : Type 0} → (K → K → Ordering) → Option (K × T) → ℕ → List (K × T) → List (K × T) → Result (Unit {0}) TableFault → Type 0
IsPut cmp row number old new (Ok put) = Puts cmp row old new
IsPut cmp row number old new (Err fault) = PutFault cmp row number old fault
