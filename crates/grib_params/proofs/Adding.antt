-- A record joins a table whose rows are kept under keys.
use Rattle.std.proofs.Common.{◌≡◌, ◌+◌, ◌∙◌, ℕ, List, ◌∷◌, Option, None, Some, refl, sym}
use Rattle.std.specs.Option.{IsSome}
use Rattle.std.specs.declared.cmp.Ordering.{Ordering}
use Rattle.std.specs.Ordering.{is_eq}
use Rattle.std.specs.Map.{lookup}
use Rattle.grib_params.specs.declared.fault.TableFault.{TableFault}
use Rattle.grib_params.specs.declared.fault.TableFault.TheVariants as faults
use Rattle.grib_params.specs.declared.row.Target.{Target}
use Rattle.grib_params.specs.declared.surface_row.SurfaceTarget.{SurfaceTarget}
use Rattle.grib_params.specs.Fields.{Fields, Key, row_in}
use Rattle.grib_params.specs.Rows.{IsKeyed, PutFault, Puts}
use Rattle.grib_params.specs.SurfaceRows.{SurfaceKey, surface_row_in}
use Rattle.grib_params.specs.Surfaces.{IsSurfaceFault, SurfaceEntries, surface_key_cmp, surface_verdict_from}
use Rattle.grib_params.specs.Table.{Entries, IsFault, key_cmp, verdict_from}

module _ {K T V : Type 0} (cmp : K → K → Ordering) (row_in : Fields → Option (K × T)) (IsFault : V → TableFault → Type 0)
    (from : ℕ → List (K × T) → List Fields → V) (keyed : IsKeyed cmp row_in IsFault from) where
  -- where its row is put, the verdict is on the table with it
  joined : (row : Option (K × T)) (fields : Fields) (number : ℕ) (old new : List (K × T)) → row ≡ row_in fields → Puts cmp row old new
      → (count : ℕ) (rest : List Fields) → number ≡ count + 1 → from count old (fields ∷ rest) ≡ from number new rest
  joined None fields number old new said put count rest e = absurd put
  joined (Some row) fields number old new said put count rest e = rw (put.1, e) (keyed.joins count old fields rest row said (sym put.0))

  there : (row : K × T) (fields : Fields) (old : List (K × T)) (found : Option T) → Some row ≡ row_in fields → lookup (λ k. is_eq (cmp row.0 k)) old ≡ found → IsSome found
      → (count : ℕ) (rest : List Fields) → IsFault (from count old (fields ∷ rest)) (faults.Duplicate (count + 1))
  there row fields old None said e some count rest = cc some
  there row fields old (Some earlier) said e some count rest = keyed.repeats count old fields rest row earlier said (sym e)

  -- and where it is not, it is why
  refused : (row : Option (K × T)) (fields : Fields) (number : ℕ) (old : List (K × T)) (fault : TableFault) → row ≡ row_in fields → PutFault cmp row number old fault
      → (count : ℕ) (rest : List Fields) → number ≡ count + 1 → IsFault (from count old (fields ∷ rest)) fault
  refused row fields number old faults.Memory said put count rest e = keyed.unknown _
  refused row fields number old faults.TooLarge said put count rest e = absurd put
  refused row fields number old (faults.Row given) said put count rest e =
      rw (put.1, e) (keyed.refuses count old fields rest (sym put.0 ∙ said))
  refused None fields number old (faults.Duplicate given) said put count rest e = absurd put
  refused (Some row) fields number old (faults.Duplicate given) said put count rest e =
      rw (put.1, e) (there row fields old (lookup (λ k. is_eq (cmp row.0 k)) old) said refl put.0 count rest)

table_keyed : IsKeyed key_cmp row_in IsFault verdict_from
table_keyed = record {
  refuses = λ count table fields rest none. rw (← none) refl;
  repeats = λ count table fields rest row earlier some there. rw (← some, ← there) refl;
  joins = λ count table fields rest row some new. rw (← some, ← new) refl;
  unknown = λ judged. tt;
}

surfaces_keyed : IsKeyed surface_key_cmp surface_row_in IsSurfaceFault surface_verdict_from
surfaces_keyed = record {
  refuses = λ count table fields rest none. rw (← none) refl;
  repeats = λ count table fields rest row earlier some there. rw (← some, ← there) refl;
  joins = λ count table fields rest row some new. rw (← some, ← new) refl;
  unknown = λ judged. tt;
}

pub table_joined : (row : Option (Key × Target)) (fields : Fields) (number : ℕ) (old new : Entries) → row ≡ row_in fields → Puts key_cmp row old new
    → (count : ℕ) (rest : List Fields) → number ≡ count + 1 → verdict_from count old (fields ∷ rest) ≡ verdict_from number new rest
table_joined = joined key_cmp row_in IsFault verdict_from table_keyed

pub table_refused : (row : Option (Key × Target)) (fields : Fields) (number : ℕ) (old : Entries) (fault : TableFault) → row ≡ row_in fields → PutFault key_cmp row number old fault
    → (count : ℕ) (rest : List Fields) → number ≡ count + 1 → IsFault (verdict_from count old (fields ∷ rest)) fault
table_refused = refused key_cmp row_in IsFault verdict_from table_keyed

pub surfaces_joined : (row : Option (SurfaceKey × SurfaceTarget)) (fields : Fields) (number : ℕ) (old new : SurfaceEntries) → row ≡ surface_row_in fields → Puts surface_key_cmp row old new
    → (count : ℕ) (rest : List Fields) → number ≡ count + 1 → surface_verdict_from count old (fields ∷ rest) ≡ surface_verdict_from number new rest
surfaces_joined = joined surface_key_cmp surface_row_in IsSurfaceFault surface_verdict_from surfaces_keyed

pub surfaces_refused : (row : Option (SurfaceKey × SurfaceTarget)) (fields : Fields) (number : ℕ) (old : SurfaceEntries) (fault : TableFault) → row ≡ surface_row_in fields → PutFault surface_key_cmp row number old fault
    → (count : ℕ) (rest : List Fields) → number ≡ count + 1 → IsSurfaceFault (surface_verdict_from count old (fields ∷ rest)) fault
surfaces_refused = refused surface_key_cmp surface_row_in IsSurfaceFault surface_verdict_from surfaces_keyed
