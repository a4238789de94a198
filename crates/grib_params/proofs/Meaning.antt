-- What a table has under a key is what its records say.
use Rattle.std.proofs.Common.{◌≡◌, ◌+◌, ◌∙◌, ℕ, Bool, true, false, List, [], ◌∷◌, Option, None, Some, refl, sym, ap}
use Rattle.std.specs.Prelude.{if◌then◌else◌, nat_lt, length}
use Rattle.std.specs.List.{cons_option, filter_map}
use Rattle.std.specs.Map.{lookup}
use Rattle.std.specs.Option.{option_or}
use Rattle.std.specs.declared.cmp.Ordering.{Ordering}
use Rattle.std.specs.declared.cmp.Ordering.TheVariants.{Less, Equal, Greater}
use Rattle.std.specs.Ordering.{is_eq, match_ordering}
use Rattle.std.specs.Cmp.{IsTotalOrder, nat_cmp_total, on_total, then_total}
use Rattle.std.specs.Cmp.Lexicographic.{options_total}
use Rattle.std.specs.BTreeMap.{insert_entry}
use Rattle.grib_params.specs.declared.row.Target.{Target}
use Rattle.grib_params.specs.declared.surface_row.SurfaceTarget.{SurfaceTarget}
use Rattle.grib_params.specs.Fields.{Fields, Key, records_of, row_in, rows_of}
use Rattle.grib_params.specs.SurfaceRows.{SurfaceKey, surface_row_in, surface_rows_of}
use Rattle.grib_params.specs.Surfaces as surfaces
use Rattle.grib_params.specs.Surfaces.{SurfaceEntries, surface_at, surface_key_cmp, surface_unless_there, surface_verdict, surface_verdict_from, with_surface_row}
use Rattle.grib_params.specs.Table.{Entries, Good, key_cmp, table_verdict, target_at, TooLarge, unless_there, verdict_from, with_row}
use Rattle.grib_params.specs.declared.table.TheConstants.{MOST_OCTETS}

-- ---- any table whose keys are in order

module _ {K V : Type 0} (cmp : K → K → Ordering) (total : IsTotalOrder cmp) where
  -- what is kept under a key
  abbrev pub at : List (K × V) → K → Option V
  at table key = lookup (λ k. is_eq (cmp key k)) table

  -- keys that are equal have the same target
  same_target : (table : List (K × V)) (q k : K) → cmp q k ≡ Equal → at table q ≡ at table k
  same_target [] q k e = refl
  same_target (entry ∷ rest) q k e = rw (total.congr q k entry.0 e, same_target rest q k e) refl

  -- keys that are put into a table that does not have them
  pub put : (table : List (K × V)) (k q : K) (target : V) → at table k ≡ None
      → at (insert_entry cmp table k target) q ≡ (if is_eq (cmp q k) then Some target else at table q)
  put [] k q target absent = refl
  put (entry ∷ rest) k q target absent = by (cmp k entry.0) refl (put rest k q target)
    where
      passed : (o p : Ordering) → cmp q entry.0 ≡ o → cmp q k ≡ p → cmp k entry.0 ≡ Greater → at (insert_entry cmp rest k target) q ≡ (if is_eq p then Some target else at rest q)
          → (if is_eq o then Some entry.1 else at (insert_entry cmp rest k target) q) ≡ (if is_eq p then Some target else if is_eq o then Some entry.1 else at rest q)
      passed Equal Equal e f g more = cc (total.congr q k entry.0 f)
      passed Equal Less e f g more = refl
      passed Equal Greater e f g more = refl
      passed Less p e f g more = more
      passed Greater p e f g more = more

      by : (o : Ordering) → cmp k entry.0 ≡ o
          → (at rest k ≡ None → at (insert_entry cmp rest k target) q ≡ (if is_eq (cmp q k) then Some target else at rest q))
          → at (match_ordering o ((k, target) ∷ entry ∷ rest) ((entry.0, target) ∷ rest) (entry ∷ insert_entry cmp rest k target)) q
          ≡ (if is_eq (cmp q k) then Some target else at (entry ∷ rest) q)
      by Less e more = refl
      by Equal e more = cc (rw e at absent)
      by Greater e more = passed (cmp q entry.0) (cmp q k) refl refl e (more (rw e at absent))

  -- a key's target in a table, or else in the rows that follow
  joined : (table : List (K × V)) (k q : K) (target : V) (later : Option V) → at table k ≡ None
      → option_or (if is_eq (cmp q k) then Some target else at table q) later ≡ option_or (at table q) (if is_eq (cmp q k) then Some target else later)
  joined table k q target later absent = by (cmp q k) refl
    where
      by : (o : Ordering) → cmp q k ≡ o
          → option_or (if is_eq o then Some target else at table q) later ≡ option_or (at table q) (if is_eq o then Some target else later)
      by Less e = refl
      by Equal e = rw (same_target table q k e ∙ absent) refl
      by Greater e = refl

  -- nothing comes behind nothing
  or_none : (o : Option V) → option_or o None ≡ o
  or_none None = refl
  or_none (Some x) = refl

  -- the first of some records has a row whose key is not in the table, and joins it
  pub record IsStep {W : Type 0} (row_of : Fields → Option (K × V)) (from : ℕ → List (K × V) → List Fields → W) (good : W) (count : ℕ) (table : List (K × V)) (fields : Fields) (rest : List Fields) : Type 0 where
    pub row : K × V
    pub said : row_of fields ≡ Some row
    pub new : at table row.0 ≡ None
    pub later : from (count + 1) (insert_entry cmp table row.0 row.1) rest ≡ good

  module _ {W : Type 0} (row_of : Fields → Option (K × V)) (from : ℕ → List (K × V) → List Fields → W) (good : List (K × V) → W)
      (done : (count : ℕ) (table made : List (K × V)) → from count table [] ≡ good made → table ≡ made)
      (step : (count : ℕ) (table made : List (K × V)) (fields : Fields) (rest : List Fields) → from count table (fields ∷ rest) ≡ good made → IsStep row_of from (good made) count table fields rest) where
    -- the table that records make of a table
    pub from_records : (count : ℕ) (table made : List (K × V)) (records : List Fields) (q : K) → from count table records ≡ good made
        → at made q ≡ option_or (at table q) (at (filter_map row_of records) q)
    from_records count table made [] q e =
        let same = done count table made e in
        rw (same, or_none (at made q)) refl
    from_records count table made (fields ∷ rest) q e =
        let s = step count table made fields rest e in
        let rows = filter_map row_of rest in
        from_records (count + 1) (insert_entry cmp table s.row.0 s.row.1) made rest q s.later
        ∙ ap (λ (o : Option V). option_or o (at rows q)) (put table s.row.0 q s.row.1 s.new)
        ∙ joined table s.row.0 q s.row.1 (at rows q) s.new
        ∙ ap (λ (o : Option (K × V)). option_or (at table q) (at (cons_option o rows) q)) (sym s.said)

-- ---- a parameter table

key_total : IsTotalOrder key_cmp
key_total = then_total (then_total (on_total (λ (k : Key). k.0) (options_total nat_cmp_total)) (on_total (λ (k : Key). k.1) nat_cmp_total)) (on_total (λ (k : Key). k.2) nat_cmp_total)

table_step : (count : ℕ) (table made : Entries) (fields : Fields) (rest : List Fields) → verdict_from count table (fields ∷ rest) ≡ Good made
    → IsStep key_cmp key_total row_in verdict_from (Good made) count table fields rest
table_step count table made fields rest e = by (row_in fields) refl e
  where
    new : (row : Key × Target) (there : Option Target) → row_in fields ≡ Some row → target_at table row.0 ≡ there
        → unless_there there (count + 1) (λ _. verdict_from (count + 1) (insert_entry key_cmp table row.0 row.1) rest) ≡ Good made
        → IsStep key_cmp key_total row_in verdict_from (Good made) count table fields rest
    new row (Some earlier) said there e = cc e
    new row None said there e = record { row = row; said = said; new = there; later = e }

    by : (row : Option (Key × Target)) → row_in fields ≡ row → with_row row (count + 1) table (λ more. verdict_from (count + 1) more rest) ≡ Good made
        → IsStep key_cmp key_total row_in verdict_from (Good made) count table fields rest
    by None said e = cc e
    by (Some row) said e = new row (target_at table row.0) said refl e

-- the table that a text makes has under each key what its rows have
pub of_text : (text : List ℕ) (table : Entries) (q : Key) → table_verdict text ≡ Good table → target_at table q ≡ target_at (rows_of text) q
of_text text table q e = by (nat_lt MOST_OCTETS (length text)) e
  where
    by : (b : Bool) → (if b then TooLarge else verdict_from 0 [] (records_of text)) ≡ Good table → target_at table q ≡ target_at (rows_of text) q
    by true e = cc e
    by false e = from_records key_cmp key_total row_in verdict_from Good (λ count table made e. (let same : table ≡ made = cc in same)) table_step 0 [] table (records_of text) q e

-- ---- a table of surfaces

surface_key_total : IsTotalOrder surface_key_cmp
surface_key_total = then_total (then_total (on_total (λ (k : SurfaceKey). k.0) key_total) (on_total (λ (k : SurfaceKey). k.1) nat_cmp_total)) (on_total (λ (k : SurfaceKey). k.2) (options_total nat_cmp_total))

surface_step : (count : ℕ) (table made : SurfaceEntries) (fields : Fields) (rest : List Fields) → surface_verdict_from count table (fields ∷ rest) ≡ surfaces.Good made
    → IsStep surface_key_cmp surface_key_total surface_row_in surface_verdict_from (surfaces.Good made) count table fields rest
surface_step count table made fields rest e = by (surface_row_in fields) refl e
  where
    new : (row : SurfaceKey × SurfaceTarget) (there : Option SurfaceTarget) → surface_row_in fields ≡ Some row → surface_at table row.0 ≡ there
        → surface_unless_there there (count + 1) (λ _. surface_verdict_from (count + 1) (insert_entry surface_key_cmp table row.0 row.1) rest) ≡ surfaces.Good made
        → IsStep surface_key_cmp surface_key_total surface_row_in surface_verdict_from (surfaces.Good made) count table fields rest
    new row (Some earlier) said there e = cc e
    new row None said there e = record { row = row; said = said; new = there; later = e }

    by : (row : Option (SurfaceKey × SurfaceTarget)) → surface_row_in fields ≡ row
        → with_surface_row row (count + 1) table (λ more. surface_verdict_from (count + 1) more rest) ≡ surfaces.Good made
        → IsStep surface_key_cmp surface_key_total surface_row_in surface_verdict_from (surfaces.Good made) count table fields rest
    by None said e = cc e
    by (Some row) said e = new row (surface_at table row.0) said refl e

pub of_surface_text : (text : List ℕ) (table : SurfaceEntries) (q : SurfaceKey) → surface_verdict text ≡ surfaces.Good table → surface_at table q ≡ surface_at (surface_rows_of text) q
of_surface_text text table q e = by (nat_lt MOST_OCTETS (length text)) e
  where
    by : (b : Bool) → (if b then surfaces.TooLarge else surface_verdict_from 0 [] (records_of text)) ≡ surfaces.Good table → surface_at table q ≡ surface_at (surface_rows_of text) q
    by true e = cc e
    by false e =
        from_records surface_key_cmp surface_key_total surface_row_in surface_verdict_from surfaces.Good (λ count table made e. (let same : table ≡ made = cc in same)) surface_step 0 [] table
        (records_of text) q e
