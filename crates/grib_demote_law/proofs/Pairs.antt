-- The first version and parameter of a parameter of edition 2 have a target that stands for it.
use Rattle.std.proofs.Common.{◌≡◌, ℕ, Bool, true, false, not, ◌&&◌, ◌||◌, ◌==◌, if◌then◌else◌, Option, Some, None, [], ◌∷◌, refl, sym, ap, subst, ◌∙◌, eqb-true, eq-eqb}
use Rattle.std.specs.Prelude.{fold}
use Rattle.std.specs.Option.{option_map_or}
use Rattle.std.proofs.lemmas.Bool.{and_parts}
use Rattle.grib_bits.proofs.Logic.{if_so}
use Rattle.grib_params.specs.declared.row.Target.{Target}
use Rattle.grib_params.specs.declared.matching.TableMatch.{TableMatch}
use Rattle.grib_params.specs.declared.matching.TableMatch.TheVariants.{Same, Any}
use Rattle.grib_params.specs.Fields.{Key}
use Rattle.grib_params.specs.Table.{Entries, lookup_in}
use Rattle.grib_params.specs.Pairs.{Pair, is_before, same_target, same_parameter, is_local, matches, pair_of, has_target, is_among, earlier, with_row, first_pair}
use Rattle.grib_demote_law.specs.Records.{Finds}

and_3 : (a b c : Bool) → (a && b && c) ≡ true → (a ≡ true) × (b ≡ true) × (c ≡ true)
and_3 false b c h = let no : ⊥ = cc in absurd no
and_3 true false c h = let no : ⊥ = cc in absurd no
and_3 true true c h = (refl, refl, h)

and_5 : (a b c d e : Bool) → (a && b && c && d && e) ≡ true → (a ≡ true) × (b ≡ true) × (c ≡ true) × (d ≡ true) × (e ≡ true)
and_5 false b c d e h = let no : ⊥ = cc in absurd no
and_5 true false c d e h = let no : ⊥ = cc in absurd no
and_5 true true false d e h = let no : ⊥ = cc in absurd no
and_5 true true true false e h = let no : ⊥ = cc in absurd no
and_5 true true true true e h = (refl, refl, refl, refl, h)

-- all numbers of a target are told apart
pub target_is : (a b : Target) → same_target a b ≡ true → a ≡ b
target_is a b e =
    let p = and_5 (a.discipline == b.discipline) (a.category == b.category) (a.number == b.number) (a.master == b.master) (a.local == b.local) e in
    let d = eqb-true a.discipline b.discipline p.0 in
    let c = eqb-true a.category b.category p.1 in
    let n = eqb-true a.number b.number p.2 in
    let m = eqb-true a.master b.master p.3 in
    let l = eqb-true a.local b.local p.4 in
    λ i. record { discipline = d i; category = c i; number = n i; master = m i; local = l i }

five : (a b c d e : Bool) → a ≡ true → b ≡ true → c ≡ true → d ≡ true → e ≡ true → (a && b && c && d && e) ≡ true
five true true true true true p q r s t = refl
five true true true true false p q r s t = t
five true true true false e p q r s t = s
five true true false d e p q r s t = r
five true false c d e p q r s t = q
five false b c d e p q r s t = p

pub same_is : (a : Target) → same_target a a ≡ true
same_is a =
    five (a.discipline == a.discipline) (a.category == a.category) (a.number == a.number) (a.master == a.master) (a.local == a.local)
    (eq-eqb a.discipline a.discipline refl) (eq-eqb a.category a.category refl) (eq-eqb a.number a.number refl) (eq-eqb a.master a.master refl) (eq-eqb a.local a.local refl)

-- a parameter stands for itself
pub any_is : (a : Target) → matches Any a a ≡ true
any_is a =
    by (a.discipline == a.discipline) (a.category == a.category) (a.number == a.number) (is_local a) (a.local == a.local)
    (eq-eqb a.discipline a.discipline refl) (eq-eqb a.category a.category refl) (eq-eqb a.number a.number refl) (eq-eqb a.local a.local refl)
  where
    by : (d c n i l : Bool) → d ≡ true → c ≡ true → n ≡ true → l ≡ true → ((d && c && n) && (not i || l)) ≡ true
    by true true true true l p q r s = s
    by true true true false l p q r s = refl
    by true true false i l p q r s = r
    by true false n i l p q r s = q
    by false c n i l p q r s = p

-- ---- what a target has that stands for a parameter

-- the discipline, the category and the number
pub record HasNumbers (parameter target : Target) : Type 0 where
  pub discipline : target.discipline ≡ parameter.discipline
  pub category : target.category ≡ parameter.category
  pub number : target.number ≡ parameter.number

numbers_are : (a b : Target) → same_parameter a b ≡ true → HasNumbers a b
numbers_are a b e =
    let p = and_3 (a.discipline == b.discipline) (a.category == b.category) (a.number == b.number) e in
    record {
      discipline = sym (eqb-true a.discipline b.discipline p.0);
      category = sym (eqb-true a.category b.category p.1);
      number = sym (eqb-true a.number b.number p.2);
    }

pub has_numbers : (matching : TableMatch) (parameter target : Target) → matches matching parameter target ≡ true → HasNumbers parameter target
has_numbers Same parameter target e = subst (HasNumbers parameter) (target_is parameter target e) (record { discipline = refl; category = refl; number = refl })
has_numbers Any parameter target e = numbers_are parameter target (and_parts (same_parameter parameter target) (not (is_local parameter) || (parameter.local == target.local)) e).0

-- the local tables, where the parameter is for local use
pub has_local : (parameter target : Target) → matches Any parameter target ≡ true → is_local parameter ≡ true → target.local ≡ parameter.local
has_local parameter target e is =
    let tables = (and_parts (same_parameter parameter target) (not (is_local parameter) || (parameter.local == target.local)) e).1 in
    sym (eqb-true parameter.local target.local (if_so (is_local parameter) (parameter.local == target.local) tables is))

-- ---- the first pair

module _ (table : Entries) (matching : TableMatch) (centre : ℕ) (parameter : Target) where
  -- what was found so far has a target
  abbrev Has : Option Pair → Type 0
  Has None = Unit {0}
  Has (Some pair) = has_target table matching centre parameter pair ≡ true

  earlier_has : (first : Option Pair) (pair : Pair) → Has first → has_target table matching centre parameter pair ≡ true → has_target table matching centre parameter (earlier first pair) ≡ true
  earlier_has None pair has here = here
  earlier_has (Some first) pair has here = by (is_before pair first)
    where
      by : (b : Bool) → has_target table matching centre parameter (if b then pair else first) ≡ true
      by true = here
      by false = has

  row_has : (first : Option Pair) (row : Key × Target) → Has first → Has (with_row table matching centre parameter first row)
  row_has first row has = by (is_among table matching centre parameter row) refl
    where
      by : (b : Bool) → is_among table matching centre parameter row ≡ b → Has (if b then Some (earlier first (pair_of row.0)) else first)
      by true e = earlier_has first (pair_of row.0) has (and_parts (matches matching parameter row.1) (has_target table matching centre parameter (pair_of row.0)) e).1
      by false e = has

  rows_have : (rows : Entries) (first : Option Pair) → Has first → Has (fold (with_row table matching centre parameter) first rows)
  rows_have [] first has = has
  rows_have (row ∷ rows) first has = rows_have rows (with_row table matching centre parameter first row) (row_has first row has)

  found_stands : (pair : Pair) (found : Option Target) → lookup_in table centre pair.0 pair.1 ≡ found → option_map_or (matches matching parameter) found false ≡ true
      → Finds table matching centre parameter pair
  found_stands pair None is e = let no : ⊥ = cc e in absurd no
  found_stands pair (Some target) is e = record { target = target; found = is; stands = e }

  pub first_finds : (pair : Pair) → first_pair table matching centre parameter ≡ Some pair → Finds table matching centre parameter pair
  first_finds pair is = found_stands pair (lookup_in table centre pair.0 pair.1) refl (subst Has is (rows_have table None tt))

-- the same tables: the target is the parameter itself
pub first_has : (table : Entries) (centre : ℕ) (parameter : Target) (pair : Pair) → first_pair table Same centre parameter ≡ Some pair
    → lookup_in table centre pair.0 pair.1 ≡ Some parameter
first_has table centre parameter pair is =
    let finds = first_finds table Same centre parameter pair is in
    finds.found ∙ ap Some (sym (target_is parameter finds.target finds.stands))
