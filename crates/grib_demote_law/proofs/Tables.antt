-- In a table that was read from a text each version and parameter, and each version of the master and the local
-- tables, is a number of one octet.
use Rattle.std.proofs.Common.{◌≡◌, ℕ, ◌+◌, ◌<◌, ◌&&◌, Bool, true, false, if◌then◌else◌, Option, Some, None, List, [], ◌∷◌, All, nat_lt, length, refl, subst, ◌∙◌, arith, ltb-true}
use Rattle.std.specs.Prelude.{fold}
use Rattle.std.specs.BTreeMap.{insert_entry}
use Rattle.std.specs.Option.{option_or}
use Rattle.std.specs.Map.{keys_of, values_of, lookup}
use Rattle.std.proofs.lemmas.List.Elements.{All-nil, All-head, All-tail}
use Rattle.std.proofs.lemmas.Map.Views.{All-keys-insert_entry, All-values-insert_entry}
use Rattle.grib_params.specs.declared.row.Target.{Target}
use Rattle.grib_params.specs.Fields.{Field, Fields, Key, is_number, decimal, number_in, centre_in, row_from, row_in, records_of}
use Rattle.grib_params.specs.declared.matching.TableMatch.{TableMatch}
use Rattle.grib_params.specs.Table.{Entries, Good, TooLarge, key_cmp, lookup_in, table_verdict, target_at, unless_there, verdict_from, with_row}
use Rattle.grib_params.specs.Pairs as pairs
use Rattle.grib_params.specs.Pairs.{Pair, is_before, pair_of, is_among, earlier, first_pair}

abbrev IsSmall : Key → Type 0
IsSmall key = (key.1 < 256) × (key.2 < 256)

abbrev HasSmall : Target → Type 0
HasSmall target = (target.master < 256) × (target.local < 256)

-- ---- what a record says

number_small : (field : Field) (n : ℕ) → number_in field ≡ Some n → n < 256
number_small field n e = by (is_number field) (nat_lt (decimal field) 256) refl e
  where
    by : (a b : Bool) → nat_lt (decimal field) 256 ≡ b → (if a && b then Some (decimal field) else None) ≡ Some n → n < 256
    by true true low e =
        let same : decimal field ≡ n = cc e in
        let lt = ltb-true (decimal field) 256 low in
        omega (arith, same, lt)
    by true false low e = let no : ⊥ = cc e in absurd no
    by false b low e = let no : ⊥ = cc e in absurd no

row_small : (centre : Option (Option ℕ)) (version parameter discipline category number master local : Option ℕ)
    → ((n : ℕ) → version ≡ Some n → n < 256) → ((n : ℕ) → parameter ≡ Some n → n < 256)
    → ((n : ℕ) → master ≡ Some n → n < 256) → ((n : ℕ) → local ≡ Some n → n < 256) → (row : Key × Target)
    → row_from centre version parameter discipline category number master local ≡ Some row → IsSmall row.0 × HasSmall row.1
row_small (Some c) (Some v) (Some p) (Some d) (Some k) (Some n) (Some m) (Some l) low_v low_p low_m low_l row e =
    subst (λ (o : Option (Key × Target)). small_in o) e ((low_v v refl, low_p p refl), (low_m m refl, low_l l refl))
  where
    small_in : Option (Key × Target) → Type 0
    small_in None = Unit {0}
    small_in (Some row) = IsSmall row.0 × HasSmall row.1
row_small None v p d k n m l low_v low_p low_m low_l row e = let no : ⊥ = cc e in absurd no
row_small (Some c) None p d k n m l low_v low_p low_m low_l row e = let no : ⊥ = cc e in absurd no
row_small (Some c) (Some v) None d k n m l low_v low_p low_m low_l row e = let no : ⊥ = cc e in absurd no
row_small (Some c) (Some v) (Some p) None k n m l low_v low_p low_m low_l row e = let no : ⊥ = cc e in absurd no
row_small (Some c) (Some v) (Some p) (Some d) None n m l low_v low_p low_m low_l row e = let no : ⊥ = cc e in absurd no
row_small (Some c) (Some v) (Some p) (Some d) (Some k) None m l low_v low_p low_m low_l row e = let no : ⊥ = cc e in absurd no
row_small (Some c) (Some v) (Some p) (Some d) (Some k) (Some n) None l low_v low_p low_m low_l row e = let no : ⊥ = cc e in absurd no
row_small (Some c) (Some v) (Some p) (Some d) (Some k) (Some n) (Some m) None low_v low_p low_m low_l row e = let no : ⊥ = cc e in absurd no

none_some : (row : Key × Target) → None ≡ Some row → ⊥
none_some row e = cc e

record_small : (fields : Fields) (row : Key × Target) → row_in fields ≡ Some row → IsSmall row.0 × HasSmall row.1
record_small (c ∷ v ∷ p ∷ d ∷ k ∷ n ∷ m ∷ l ∷ []) row e =
    row_small (centre_in c) (number_in v) (number_in p) (number_in d) (number_in k) (number_in n) (number_in m) (number_in l)
    (number_small v) (number_small p) (number_small m) (number_small l) row e
record_small [] row e = absurd (none_some row e)
record_small (c ∷ []) row e = absurd (none_some row e)
record_small (c ∷ v ∷ []) row e = absurd (none_some row e)
record_small (c ∷ v ∷ p ∷ []) row e = absurd (none_some row e)
record_small (c ∷ v ∷ p ∷ d ∷ []) row e = absurd (none_some row e)
record_small (c ∷ v ∷ p ∷ d ∷ k ∷ []) row e = absurd (none_some row e)
record_small (c ∷ v ∷ p ∷ d ∷ k ∷ n ∷ []) row e = absurd (none_some row e)
record_small (c ∷ v ∷ p ∷ d ∷ k ∷ n ∷ m ∷ []) row e = absurd (none_some row e)
record_small (c ∷ v ∷ p ∷ d ∷ k ∷ n ∷ m ∷ l ∷ x ∷ rest) row e = absurd (none_some row e)

-- ---- the table

AreSmall : Entries → Type 0
AreSmall table = All IsSmall (keys_of table) × All HasSmall (values_of table)

from_records : (count : ℕ) (table made : Entries) (records : List Fields) → AreSmall table → verdict_from count table records ≡ Good made → AreSmall made
unfolding AreSmall
from_records count table made [] small e = let same : table ≡ made = cc e in subst (λ (t : Entries). All IsSmall (keys_of t) × All HasSmall (values_of t)) same small
from_records count table made (fields ∷ rest) small e = by (row_in fields) refl e (λ more. from_records (count + 1) more made rest)
  where
    new : (key : Key) (target : Target) (there : Option Target) → IsSmall key × HasSmall target
        → unless_there there (count + 1) (λ _. verdict_from (count + 1) (insert_entry key_cmp table key target) rest) ≡ Good made
        → ((more : Entries) → All IsSmall (keys_of more) × All HasSmall (values_of more) → verdict_from (count + 1) more rest ≡ Good made → All IsSmall (keys_of made) × All HasSmall (values_of made))
        → All IsSmall (keys_of made) × All HasSmall (values_of made)
    new key target (Some earlier) low e later = let no : ⊥ = cc e in absurd no
    new key target None low e later = later (insert_entry key_cmp table key target)
        (All-keys-insert_entry key_cmp key target IsSmall table small.0 low.0, All-values-insert_entry key_cmp key target HasSmall table small.1 low.1) e

    by : (row : Option (Key × Target)) → row_in fields ≡ row → with_row row (count + 1) table (λ more. verdict_from (count + 1) more rest) ≡ Good made
        → ((more : Entries) → All IsSmall (keys_of more) × All HasSmall (values_of more) → verdict_from (count + 1) more rest ≡ Good made → All IsSmall (keys_of made) × All HasSmall (values_of made))
        → All IsSmall (keys_of made) × All HasSmall (values_of made)
    by None is e later = let no : ⊥ = cc e in absurd no
    by (Some row) is e later = new row.0 row.1 (target_at table row.0) (record_small fields row is) e later

of_text : (text : List ℕ) (table : Entries) → table_verdict text ≡ Good table → AreSmall table
unfolding AreSmall
of_text text table e = by (nat_lt 1048576 (length text)) e
  where
    by : (b : Bool) → (if b then TooLarge else verdict_from 0 [] (records_of text)) ≡ Good table → AreSmall table
    by true e = let no : ⊥ = cc e in absurd no
    by false e = from_records 0 [] table (records_of text) (All-nil IsSmall, All-nil HasSmall) e

-- ---- the first pair

module _ (whole : Entries) (matching : TableMatch) (centre : ℕ) (parameter : Target) where
  abbrev SmallPair : Option Pair → Type 0
  SmallPair None = Unit {0}
  SmallPair (Some pair) = (pair.0 < 256) × (pair.1 < 256)

  earlier_small : (first : Option Pair) (pair : Pair) → SmallPair first → SmallPair (Some pair) → SmallPair (Some (earlier first pair))
  earlier_small None pair small low = low
  earlier_small (Some first) pair small low = by (is_before pair first)
    where
      by : (b : Bool) → SmallPair (Some (if b then pair else first))
      by true = low
      by false = small

  row_in_small : (first : Option Pair) (row : Key × Target) → SmallPair first → IsSmall row.0 → SmallPair (pairs.with_row whole matching centre parameter first row)
  row_in_small first row small low = by (is_among whole matching centre parameter row)
    where
      by : (b : Bool) → SmallPair (if b then Some (earlier first (pair_of row.0)) else first)
      by true = earlier_small first (pair_of row.0) small low
      by false = small

  rows_small : (rows : Entries) (first : Option Pair) → SmallPair first → All IsSmall (keys_of rows) → SmallPair (fold (pairs.with_row whole matching centre parameter) first rows)
  rows_small [] first small low = small
  rows_small (row ∷ rows) first small low =
      rows_small rows (pairs.with_row whole matching centre parameter first row) (row_in_small first row small (All-head IsSmall row.0 (keys_of rows) low)) (All-tail IsSmall row.0 (keys_of rows) low)

-- the first version and parameter of a target
pub pair_small : (text : List ℕ) (table : Entries) → table_verdict text ≡ Good table → (matching : TableMatch) (centre : ℕ) (parameter : Target) (pair : Pair)
    → first_pair table matching centre parameter ≡ Some pair → (pair.0 < 256) × (pair.1 < 256)
unfolding AreSmall
pair_small text table read matching centre parameter pair is =
    subst (SmallPair table matching centre parameter) is (rows_small table matching centre parameter table None tt (of_text text table read).0)

-- ---- the target of a look-up

looked : (test : Key → Bool) (rows : Entries) → All HasSmall (values_of rows) → (target : Target) → lookup test rows ≡ Some target → HasSmall target
looked test [] low target e = let no : ⊥ = cc e in absurd no
looked test (row ∷ rows) low target e = by (test row.0) e (looked test rows (All-tail HasSmall row.1 (values_of rows) low) target)
  where
    by : (b : Bool) → (if b then Some row.1 else lookup test rows) ≡ Some target → (lookup test rows ≡ Some target → HasSmall target) → HasSmall target
    by true e later = let same : row.1 ≡ target = cc e in subst HasSmall same (All-head HasSmall row.1 (values_of rows) low)
    by false e later = later e

pub target_small : (text : List ℕ) (table : Entries) → table_verdict text ≡ Good table → (centre version parameter : ℕ) (target : Target)
    → lookup_in table centre version parameter ≡ Some target → (target.master < 256) × (target.local < 256)
unfolding AreSmall
target_small text table read centre version parameter target e =
    by (target_at table (Some centre, version, parameter)) refl e
  where
    values : All HasSmall (values_of table)
    values = (of_text text table read).1

    by : (own : Option Target) → target_at table (Some centre, version, parameter) ≡ own → option_or own (target_at table (None, version, parameter)) ≡ Some target
        → HasSmall target
    by (Some other) is e = looked _ table values target (is ∙ e)
    by None is e = looked _ table values target e
