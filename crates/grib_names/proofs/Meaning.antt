-- What a table has under three numbers is what its records say, and each name is of one parameter.
use Rattle.std.proofs.Common.{◌≡◌, ◌+◌, ◌∙◌, ℕ, Bool, true, false, List, [], ◌∷◌, Option, None, Some, refl, sym, ap, subst}
use Rattle.std.proofs.lemmas.Bool.{false≢true}
use Rattle.std.specs.Prelude.{if◌then◌else◌, ◌||◌, nat_lt, length}
use Rattle.std.specs.Str.{bytes_eq}
use Rattle.std.specs.declared.cmp.Ordering.{Ordering}
use Rattle.std.specs.declared.cmp.Ordering.TheVariants.{Less, Equal, Greater}
use Rattle.std.specs.Ordering.{is_eq, nat_cmp, ordering_then}
use Rattle.std.specs.Cmp.{IsTotalOrder, nat_cmp_total, on_total, ranked, then_total}
use Rattle.std.specs.Cmp.Lexicographic.{bytes_decides}
use Rattle.std.specs.BTreeMap.{insert_entry}
use Rattle.std.proofs.Math.Bool.{or-true}
use Rattle.grib_params.specs.Fields.{Fields, records_of}
use Rattle.grib_params.specs.declared.table.TheConstants.{MOST_OCTETS}
use Rattle.grib_params.proofs.Meaning.{IsStep, from_records, put}
use Rattle.grib_names.specs.Rows.{Name, Numbers, name_row_in, name_rows_of}
use Rattle.grib_names.specs.Table.{Good, NameEntries, NameEntry, NameVerdict, TooLarge, has_name, name_at, names_verdict, names_verdict_from, numbers_cmp, repeats, unless_repeated, with_name}
use Rattle.grib_names.proofs.Taking.{new_numbers}

numbers_total : IsTotalOrder numbers_cmp
numbers_total = then_total (then_total (on_total (λ (k : Numbers). k.0) nat_cmp_total) (on_total (λ (k : Numbers). k.1) nat_cmp_total)) (on_total (λ (k : Numbers). k.2) nat_cmp_total)

-- numbers that compare equal are the same
equal : (a b : Numbers) → is_eq (numbers_cmp a b) ≡ true → a ≡ b
equal (a, b, c) (p, q, r) e = by (nat_cmp a p) (nat_cmp b q) (nat_cmp c r) refl refl refl e
  where
    by : (x y z : Ordering) → x ≡ nat_cmp a p → y ≡ nat_cmp b q → z ≡ nat_cmp c r → is_eq (ordering_then (ordering_then x y) z) ≡ true → ◌≡◌ {A = Numbers} (a, b, c) (p, q, r)
    by Equal Equal Equal f g h e = rw (ranked a p Equal f, ranked b q Equal g, ranked c r Equal h) refl
    by Less y z f g h e = cc e
    by Greater y z f g h e = cc e
    by Equal Less z f g h e = cc e
    by Equal Greater z f g h e = cc e
    by Equal Equal Less f g h e = cc e
    by Equal Equal Greater f g h e = cc e

-- the first of some records has new numbers and a new name, and joins the table
record Joins (good : NameVerdict) (count : ℕ) (entries : NameEntries) (fields : Fields) (rest : List Fields) : Type 0 where
  row : NameEntry
  said : name_row_in fields ≡ Some row
  new : repeats entries row ≡ false
  later : names_verdict_from (count + 1) (insert_entry numbers_cmp entries row.0 row.1) rest ≡ good

joins : (count : ℕ) (entries made : NameEntries) (fields : Fields) (rest : List Fields) → names_verdict_from count entries (fields ∷ rest) ≡ Good made
    → Joins (Good made) count entries fields rest
joins count entries made fields rest e = by (name_row_in fields) refl e
  where
    new : (row : NameEntry) (b : Bool) → name_row_in fields ≡ Some row → repeats entries row ≡ b
        → unless_repeated b (count + 1) (λ _. names_verdict_from (count + 1) (insert_entry numbers_cmp entries row.0 row.1) rest) ≡ Good made
        → Joins (Good made) count entries fields rest
    new row true said there e = cc e
    new row false said there e = record { row = row; said = said; new = there; later = e }

    by : (row : Option NameEntry) → name_row_in fields ≡ row → with_name row (count + 1) entries (λ more. names_verdict_from (count + 1) more rest) ≡ Good made
        → Joins (Good made) count entries fields rest
    by None said e = cc e
    by (Some row) said e = new row (repeats entries row) said refl e

step : (count : ℕ) (entries made : NameEntries) (fields : Fields) (rest : List Fields) → names_verdict_from count entries (fields ∷ rest) ≡ Good made
    → IsStep numbers_cmp numbers_total name_row_in names_verdict_from (Good made) count entries fields rest
step count entries made fields rest e =
    let s = joins count entries made fields rest e in
    record { row = s.row; said = s.said; new = new_numbers entries s.row s.new; later = s.later }

-- the table that a text makes has under each numbers what its records have
pub of_text : (text : List ℕ) (table : NameEntries) (q : Numbers) → names_verdict text ≡ Good table → name_at table q ≡ name_at (name_rows_of text) q
of_text text table q e = by (nat_lt MOST_OCTETS (length text)) e
  where
    by : (b : Bool) → (if b then TooLarge else names_verdict_from 0 [] (records_of text)) ≡ Good table → name_at table q ≡ name_at (name_rows_of text) q
    by true e = cc e
    by false e = from_records numbers_cmp numbers_total name_row_in names_verdict_from Good (λ count table made e. (let same : table ≡ made = cc in same)) step 0 [] table (records_of text) q e

-- ---- each name is of one parameter

abbrev IsUnique : NameEntries → Type 0
IsUnique entries = (a b : Numbers) (name : Name) → name_at entries a ≡ Some name → name_at entries b ≡ Some name → a ≡ b

found : (entries : NameEntries) (a : Numbers) (name : Name) → name_at entries a ≡ Some name → has_name entries name ≡ true
found [] a name e = cc e
found (entry ∷ rest) a name e = by (is_eq (numbers_cmp a entry.0)) e (found rest a name)
  where
    by : (b : Bool) → (if b then Some entry.1 else name_at rest a) ≡ Some name → (name_at rest a ≡ Some name → has_name rest name ≡ true)
        → (bytes_eq entry.1 name || has_name rest name) ≡ true
    by true e later =
        let same : entry.1 ≡ name = cc in
        ap (λ (b : Bool). b || has_name rest name) ((bytes_decides entry.1 name).1 same)
    by false e later = ap (λ (b : Bool). bytes_eq entry.1 name || b) (later e) ∙ or-true (bytes_eq entry.1 name)

new_name : (entries : NameEntries) (entry : NameEntry) → repeats entries entry ≡ false → has_name entries entry.1 ≡ false
new_name entries entry e = rw (new_numbers entries entry e) at e

-- a record with new numbers and a new name keeps that
unique_joined : (entries : NameEntries) (entry : NameEntry) → repeats entries entry ≡ false → IsUnique entries → IsUnique (insert_entry numbers_cmp entries entry.0 entry.1)
unique_joined entries entry new unique a b name p q =
    by (is_eq (numbers_cmp a entry.0)) (is_eq (numbers_cmp b entry.0)) refl refl
    (sym (put numbers_cmp numbers_total entries entry.0 a entry.1 (new_numbers entries entry new)) ∙ p)
    (sym (put numbers_cmp numbers_total entries entry.0 b entry.1 (new_numbers entries entry new)) ∙ q)
  where
    taken : (c : Numbers) → Some entry.1 ≡ Some name → name_at entries c ≡ Some name → ⊥
    taken c is at =
        let same : entry.1 ≡ name = cc in
        false≢true (sym (new_name entries entry new) ∙ ap (has_name entries) same ∙ found entries c name at)

    by : (x y : Bool) → is_eq (numbers_cmp a entry.0) ≡ x → is_eq (numbers_cmp b entry.0) ≡ y → (if x then Some entry.1 else name_at entries a) ≡ Some name
        → (if y then Some entry.1 else name_at entries b) ≡ Some name → a ≡ b
    by true true f g p q = equal a entry.0 f ∙ sym (equal b entry.0 g)
    by true false f g p q = absurd (taken b p q)
    by false true f g p q = absurd (taken a q p)
    by false false f g p q = unique a b name p q

unique_made : (count : ℕ) (entries made : NameEntries) (records : List Fields) → IsUnique entries → names_verdict_from count entries records ≡ Good made → IsUnique made
unique_made count entries made [] unique e = let same : entries ≡ made = cc in subst IsUnique same unique
unique_made count entries made (fields ∷ rest) unique e =
    let s = joins count entries made fields rest e in
    unique_made (count + 1) (insert_entry numbers_cmp entries s.row.0 s.row.1) made rest (unique_joined entries s.row s.new unique) s.later

pub of_one : (text : List ℕ) (table : NameEntries) → names_verdict text ≡ Good table → (a b : Numbers) (name : Name) → name_at table a ≡ Some name → name_at table b ≡ Some name → a ≡ b
of_one text table e = by (nat_lt MOST_OCTETS (length text)) e
  where
    by : (b : Bool) → (if b then TooLarge else names_verdict_from 0 [] (records_of text)) ≡ Good table → IsUnique table
    by true e = cc e
    by false e = unique_made 0 [] table (records_of text) (λ a b name p q. cc p) e
