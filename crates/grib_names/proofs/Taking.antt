-- A record joins a table, and its name the names that the table has.
use Rattle.std.proofs.Common.{◌≡◌, ◌+◌, ◌∙◌, ℕ, Bool, true, false, List, [], ◌∷◌, Option, None, Some, refl, sym, ap, cond}
use Rattle.std.specs.Prelude.{◌||◌, is_some}
use Rattle.std.specs.List.{list_any}
use Rattle.std.specs.Str.{bytes_eq}
use Rattle.std.specs.Map.{lookup}
use Rattle.std.specs.declared.cmp.Ordering.{Ordering}
use Rattle.std.specs.declared.cmp.Ordering.TheVariants.{Less, Equal, Greater}
use Rattle.std.specs.Ordering.{is_eq, match_ordering}
use Rattle.std.specs.BTreeMap.{insert_entry}
use Rattle.grib_params.specs.Fields.{Fields}
use Rattle.grib_names.specs.Rows.{Name, Numbers, name_row_in}
use Rattle.grib_names.specs.Table.{NameEntries, NameEntry, has_name, name_at, names_verdict_from, numbers_cmp, repeats, unless_repeated, with_name}
use Rattle.grib_names.specs.Table as table

either_first : (a b c : Bool) → (a || (b || c)) ≡ (b || (a || c))
either_first true true c = refl
either_first true false c = refl
either_first false true c = refl
either_first false false c = refl

-- a test of some entry, where one joins whose numbers are not there
any_joined : (test : NameEntry → Bool) (entries : NameEntries) (numbers : Numbers) (name : Name) → name_at entries numbers ≡ None
    → list_any test (insert_entry numbers_cmp entries numbers name) ≡ (test (numbers, name) || list_any test entries)
any_joined test [] numbers name new = refl
any_joined test (entry ∷ rest) numbers name new = by (numbers_cmp numbers entry.0) refl (any_joined test rest numbers name)
  where
    by : (o : Ordering) → numbers_cmp numbers entry.0 ≡ o
        → (name_at rest numbers ≡ None → list_any test (insert_entry numbers_cmp rest numbers name) ≡ (test (numbers, name) || list_any test rest))
        → list_any test (match_ordering o ((numbers, name) ∷ entry ∷ rest) ((entry.0, name) ∷ rest) (entry ∷ insert_entry numbers_cmp rest numbers name))
        ≡ (test (numbers, name) || (test entry || list_any test rest))
    by Less e more = refl
    by Equal e more = cc (rw e at new)
    by Greater e more =
        ap (λ (b : Bool). test entry || b) (more (rw e at new)) ∙ either_first (test entry) (test (numbers, name)) (list_any test rest)

or_cond : (b c : Bool) → cond b true c ≡ (b || c)
or_cond true c = refl
or_cond false c = refl

-- the names that are there after a name is added to them
pub has_joined : (entries : NameEntries) (numbers : Numbers) (name q : Name) (old new : Bool) → name_at entries numbers ≡ None
    → old ≡ has_name entries q → new ≡ cond (bytes_eq name q) true old → new ≡ has_name (insert_entry numbers_cmp entries numbers name) q
has_joined entries numbers name q old new absent was is =
    is ∙ or_cond (bytes_eq name q) old ∙ ap (λ (b : Bool). bytes_eq name q || b) was
    ∙ sym (any_joined (λ (entry : NameEntry). bytes_eq entry.1 q) entries numbers name absent)

-- what does not repeat has new numbers and a new name
pub new_numbers : (entries : NameEntries) (entry : NameEntry) → repeats entries entry ≡ false → name_at entries entry.0 ≡ None
new_numbers entries entry e = by (name_at entries entry.0) refl e
  where
    by : (found : Option Name) → name_at entries entry.0 ≡ found → (is_some found || has_name entries entry.1) ≡ false → name_at entries entry.0 ≡ None
    by None at e = at
    by (Some name) at e = cc e

-- the verdict where a record joins, and where it is refused
pub joined : (entries more : NameEntries) (entry : NameEntry) (fields : Fields) (number : ℕ) → Some entry ≡ name_row_in fields → repeats entries entry ≡ false
    → more ≡ insert_entry numbers_cmp entries entry.0 entry.1
    → (count : ℕ) (rest : List Fields) → number ≡ count + 1 → names_verdict_from count entries (fields ∷ rest) ≡ names_verdict_from number more rest
joined entries more entry fields number said new is count rest e = rw (is, e, ← said, new) refl

pub repeated : (entries : NameEntries) (entry : NameEntry) (fields : Fields) (number : ℕ) → Some entry ≡ name_row_in fields → repeats entries entry ≡ true
    → (count : ℕ) (rest : List Fields) → number ≡ count + 1 → names_verdict_from count entries (fields ∷ rest) ≡ table.Duplicate number
repeated entries entry fields number said there count rest e = rw (e, ← said, there) refl

pub refused : (entries : NameEntries) (fields : Fields) (number : ℕ) → None ≡ name_row_in fields
    → (count : ℕ) (rest : List Fields) → number ≡ count + 1 → names_verdict_from count entries (fields ∷ rest) ≡ table.Row number
refused entries fields number said count rest e = rw (e, ← said) refl
