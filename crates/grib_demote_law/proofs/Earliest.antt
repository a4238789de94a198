-- The first version and parameter of a parameter by any tables are the first that have the record's own target.
use Rattle.std.proofs.Common.{◌≡◌, ◌≢◌, ◌⊎◌, ℕ, ◌<◌, ◌≤◌, Bool, true, false, not, cond, ◌&&◌, ◌||◌, ◌==◌, if◌then◌else◌, Option, Some, None, [], ◌∷◌, nat_lt, refl, sym, ap, ap₂, subst, ◌∙◌, arith, inl, inr, eqb-true, eq-eqb, ltb-true, ltb-false}
use Rattle.std.specs.Prelude.{fold, is_none}
use Rattle.std.specs.declared.cmp.Ordering.{Ordering}
use Rattle.std.specs.declared.cmp.Ordering.TheVariants.{Less, Equal, Greater}
use Rattle.std.specs.Ordering.{is_eq, nat_cmp, ordering_then}
use Rattle.std.specs.Option.{option_cmp, option_map_or, option_or}
use Rattle.std.specs.Map.{lookup}
use Rattle.std.proofs.lemmas.Bool.{and_parts}
use Rattle.grib_params.specs.declared.row.Target.{Target}
use Rattle.grib_params.specs.declared.matching.TableMatch.TheVariants.{Same, Any}
use Rattle.grib_params.specs.Fields.{Key}
use Rattle.grib_params.specs.Table.{Entries, key_cmp, lookup_in, target_at}
use Rattle.grib_params.specs.Pairs.{Pair, is_before, same_target, matches, pair_of, has_target, is_among, earlier, first_pair}
use Rattle.grib_demote_law.proofs.Pairs.{target_is, same_is, any_is, first_finds}

-- ---- the order of pairs

abbrev AtMost : Pair → Pair → Type 0
AtMost a b = (a.0 < b.0) ⊎ ((a.0 ≡ b.0) × (a.1 ≤ b.1))

unequal : (x y : ℕ) → (x == y) ≡ false → x ≢ y
unequal x y e same = let no : ⊥ = cc (sym (eq-eqb x y same) ∙ e) in no

before : (a b : Pair) → is_before a b ≡ true → AtMost a b
before a b e = by (nat_lt a.0 b.0) (a.0 == b.0) (nat_lt a.1 b.1) refl refl refl e
  where
    by : (x y z : Bool) → nat_lt a.0 b.0 ≡ x → (a.0 == b.0) ≡ y → nat_lt a.1 b.1 ≡ z → (x || (y && z)) ≡ true → AtMost a b
    by true y z p q r e = inl (ltb-true a.0 b.0 p)
    by false true true p q r e = let lt = ltb-true a.1 b.1 r in inr (eqb-true a.0 b.0 q, omega (arith, lt))
    by false true false p q r e = let no : ⊥ = cc e in absurd no
    by false false z p q r e = let no : ⊥ = cc e in absurd no

not_before : (a b : Pair) → is_before a b ≡ false → AtMost b a
not_before a b e = by (nat_lt a.0 b.0) (a.0 == b.0) (nat_lt a.1 b.1) refl refl refl e
  where
    by : (x y z : Bool) → nat_lt a.0 b.0 ≡ x → (a.0 == b.0) ≡ y → nat_lt a.1 b.1 ≡ z → (x || (y && z)) ≡ false → AtMost b a
    by true y z p q r e = let no : ⊥ = cc e in absurd no
    by false true true p q r e = let no : ⊥ = cc e in absurd no
    by false true false p q r e = inr (sym (eqb-true a.0 b.0 q), ltb-false a.1 b.1 r)
    by false false z p q r e =
        let le = ltb-false a.0 b.0 p in
        let ne = unequal a.0 b.0 q in
        inl (omega (arith, le, ne))

at_most : (a : Pair) → AtMost a a
at_most a = inr (refl, omega arith)

through : (a b c : Pair) → AtMost a b → AtMost b c → AtMost a c
through a b c (inl x) (inl y) = inl (omega (arith, x, y))
through a b c (inl x) (inr y) = let same = y.0 in inl (omega (arith, x, same))
through a b c (inr x) (inl y) = let same = x.0 in inl (omega (arith, y, same))
through a b c (inr x) (inr y) = let low = x.1 in let high = y.1 in inr (x.0 ∙ y.0, omega (arith, low, high))

as_one : (a b : Pair) → AtMost a b → AtMost b a → a ≡ b
as_one a b (inl x) (inl y) = absurd (omega (arith, x, y))
as_one a b (inl x) (inr y) = let same = y.0 in absurd (omega (arith, x, same))
as_one a b (inr x) (inl y) = let same = x.0 in absurd (omega (arith, y, same))
as_one a b (inr x) (inr y) =
    let low = x.1 in
    let high = y.1 in
    let second : a.1 ≡ b.1 = omega (arith, low, high) in
    ap₂ (λ (v p : ℕ). (v, p)) x.0 second

earlier_first : (first pair : Pair) → AtMost (earlier (Some first) pair) first
earlier_first first pair = by (is_before pair first) refl
  where
    by : (b : Bool) → is_before pair first ≡ b → AtMost (if b then pair else first) first
    by true e = before pair first e
    by false e = at_most first

earlier_pair : (first pair : Pair) → AtMost (earlier (Some first) pair) pair
earlier_pair first pair = by (is_before pair first) refl
  where
    by : (b : Bool) → is_before pair first ≡ b → AtMost (if b then pair else first) pair
    by true e = at_most pair
    by false e = not_before pair first e

-- what is no later than and_parts is no later than the earlier of them
to_earlier : (a first pair : Pair) → AtMost a first → AtMost a pair → AtMost a (earlier (Some first) pair)
to_earlier a first pair x y = by (is_before pair first)
  where
    by : (b : Bool) → AtMost a (if b then pair else first)
    by true = y
    by false = x

-- ---- the first pair of the rules that pass a test

abbrev with : (Key × Target → Bool) → Option Pair → Key × Target → Option Pair
with test first row = if test row then Some (earlier first (pair_of row.0)) else first

-- there is a pair, and it is no later than another, where there is that
abbrev Reaches : Option Pair → Option Pair → Type 0
Reaches a None = Unit {0}
Reaches None (Some b) = ⊥
Reaches (Some a) (Some b) = AtMost a b

reaches : (a : Option Pair) (b c : Pair) → Reaches a (Some b) → AtMost b c → Reaches a (Some c)
reaches None b c r le = absurd r
reaches (Some a) b c r le = through a b c r le

joined : (a : Option Pair) (pair : Pair) → Reaches (Some (earlier a pair)) (Some pair)
joined None pair = at_most pair
joined (Some a) pair = earlier_pair a pair

more : (a b : Option Pair) (pair : Pair) → Reaches a b → Reaches (Some (earlier a pair)) b
more a None pair r = tt
more None (Some b) pair r = absurd r
more (Some a) (Some b) pair r = through (earlier (Some a) pair) a b (earlier_first a pair) r

both_more : (a b : Option Pair) (pair : Pair) → Reaches a b → Reaches (Some (earlier a pair)) (Some (earlier b pair))
both_more a None pair r = joined a pair
both_more None (Some b) pair r = absurd r
both_more (Some a) (Some b) pair r = to_earlier (earlier (Some a) pair) b pair (more (Some a) (Some b) pair r) (earlier_pair a pair)

still : (test : Key × Target → Bool) (a b : Option Pair) (row : Key × Target) → Reaches a b → Reaches (with test a row) b
still test a b row r = by (test row)
  where
    by : (x : Bool) → Reaches (if x then Some (earlier a (pair_of row.0)) else a) b
    by true = more a b (pair_of row.0) r
    by false = r

all_still : (test : Key × Target → Bool) (rows : Entries) (a b : Option Pair) → Reaches a b → Reaches (fold (with test) a rows) b
all_still test [] a b r = r
all_still test (row ∷ rows) a b r = all_still test rows (with test a row) b (still test a b row r)

-- more rows pass one test than another
module _ (wide narrow : Key × Target → Bool) (within : (row : Key × Target) → narrow row ≡ true → wide row ≡ true) where
  step : (a b : Option Pair) (row : Key × Target) → Reaches a b → Reaches (with wide a row) (with narrow b row)
  step a b row r = by (wide row) (narrow row) refl refl
    where
      by : (x y : Bool) → wide row ≡ x → narrow row ≡ y
          → Reaches (if x then Some (earlier a (pair_of row.0)) else a) (if y then Some (earlier b (pair_of row.0)) else b)
      by true true p q = both_more a b (pair_of row.0) r
      by true false p q = more a b (pair_of row.0) r
      by false true p q = let no : ⊥ = cc (sym p ∙ within row q) in absurd no
      by false false p q = r

  steps : (rows : Entries) (a b : Option Pair) → Reaches a b → Reaches (fold (with wide) a rows) (fold (with narrow) b rows)
  steps [] a b r = r
  steps (row ∷ rows) a b r = steps rows (with wide a row) (with narrow b row) (step a b row r)

-- ---- a look-up finds a row

numbers_same : (a b : ℕ) → is_eq (nat_cmp a b) ≡ true → a ≡ b
numbers_same a b e = by (nat_lt a b) (a == b) refl e
  where
    by : (x y : Bool) → (a == b) ≡ y → is_eq (cond x Less (cond y Equal Greater)) ≡ true → a ≡ b
    by true y q e = let no : ⊥ = cc e in absurd no
    by false true q e = eqb-true a b q
    by false false q e = let no : ⊥ = cc e in absurd no

then_both : (a b : Ordering) → is_eq (ordering_then a b) ≡ true → (is_eq a ≡ true) × (is_eq b ≡ true)
then_both Less b e = let no : ⊥ = cc e in absurd no
then_both Equal b e = (refl, e)
then_both Greater b e = let no : ⊥ = cc e in absurd no

pair_same : (a b : Key) → is_eq (key_cmp a b) ≡ true → pair_of a ≡ pair_of b
pair_same a b e =
    let last = then_both (ordering_then (option_cmp nat_cmp a.0 b.0) (nat_cmp a.1 b.1)) (nat_cmp a.2 b.2) e in
    let middle = then_both (option_cmp nat_cmp a.0 b.0) (nat_cmp a.1 b.1) last.0 in
    ap₂ (λ (v p : ℕ). (v, p)) (numbers_same a.1 b.1 middle.1) (numbers_same a.2 b.2 last.1)

-- where the rows with a target pass the test, the first pair is no later than that of a key that has it
reached : (test : Key × Target → Bool) (key : Key) (target : Target)
    → ((row : Key × Target) → pair_of key ≡ pair_of row.0 → row.1 ≡ target → test row ≡ true)
    → (rows : Entries) (first : Option Pair) → lookup (λ k. is_eq (key_cmp key k)) rows ≡ Some target
    → Reaches (fold (with test) first rows) (Some (pair_of key))
reached test key target passes [] first e = let no : ⊥ = cc e in absurd no
reached test key target passes (row ∷ rows) first e = by (is_eq (key_cmp key row.0)) refl e (reached test key target passes rows (with test first row))
  where
    by : (b : Bool) → is_eq (key_cmp key row.0) ≡ b → (if b then Some row.1 else lookup (λ k. is_eq (key_cmp key k)) rows) ≡ Some target
        → (lookup (λ k. is_eq (key_cmp key k)) rows ≡ Some target → Reaches (fold (with test) (with test first row) rows) (Some (pair_of key)))
        → Reaches (fold (with test) (with test first row) rows) (Some (pair_of key))
    by true q e later =
        let is : row.1 ≡ target = cc e in
        let same = pair_same key row.0 q in
        let taken : with test first row ≡ Some (earlier first (pair_of row.0)) =
        ap (λ b. if b then Some (earlier first (pair_of row.0)) else first) (passes row same is) in
        all_still test rows (with test first row) (Some (pair_of key))
        (subst (λ (o : Option Pair). Reaches o (Some (pair_of key))) (sym taken)
        (subst (λ (p : Pair). Reaches (Some (earlier first (pair_of row.0))) (Some p)) (sym same) (joined first (pair_of row.0))))
    by false q e later = later e

-- ---- the record's own target

-- what stands for the target of a record stands for the parameter
module _ (table : Entries) (centre : ℕ) (parameter target : Target) (stands : matches Any parameter target ≡ true) where
  own_stands : (other : Target) → matches Same target other ≡ true → matches Any parameter other ≡ true
  own_stands other e = subst (λ (t : Target). matches Any parameter t ≡ true) (target_is target other e) stands

  own_has : (found : Option Target) → option_map_or (matches Same target) found false ≡ true → option_map_or (matches Any parameter) found false ≡ true
  own_has None e = e
  own_has (Some other) e = own_stands other e

  among : (row : Key × Target) → is_among table Same centre target row ≡ true → is_among table Any centre parameter row ≡ true
  among row e =
      let pair = pair_of row.0 in
      let parts = and_parts (matches Same target row.1) (has_target table Same centre target pair) e in
      ap₂ (λ (x y : Bool). x && y) (own_stands row.1 parts.0) (own_has (lookup_in table centre pair.0 pair.1) parts.1)

  own_row : (pair : Pair) → lookup_in table centre pair.0 pair.1 ≡ Some target → (row : Key × Target) → pair ≡ pair_of row.0 → row.1 ≡ target
      → is_among table Same centre target row ≡ true
  own_row pair found row same is =
      let first : matches Same target row.1 ≡ true = subst (λ (t : Target). same_target target t ≡ true) (sym is) (same_is target) in
      let looked : lookup_in table centre (pair_of row.0).0 (pair_of row.0).1 ≡ Some target = subst (λ (p : Pair). lookup_in table centre p.0 p.1 ≡ Some target) same found in
      let second : has_target table Same centre target (pair_of row.0) ≡ true = ap (λ (o : Option Target). option_map_or (matches Same target) o false) looked ∙ same_is target in
      ap₂ (λ (x y : Bool). x && y) first second

  own_reaches : (pair : Pair) → lookup_in table centre pair.0 pair.1 ≡ Some target → Reaches (first_pair table Same centre target) (Some pair)
  own_reaches pair found = by (target_at table (Some centre, pair.0, pair.1)) refl found
    where
      by : (own : Option Target) → target_at table (Some centre, pair.0, pair.1) ≡ own → option_or own (target_at table (None, pair.0, pair.1)) ≡ Some target
          → Reaches (first_pair table Same centre target) (Some pair)
      by (Some other) is e = reached (is_among table Same centre target) (Some centre, pair.0, pair.1) target (own_row pair found) table None (is ∙ e)
      by None is e = reached (is_among table Same centre target) (None, pair.0, pair.1) target (own_row pair found) table None e

  one_pair : (pair : Pair) (other : Option Pair) → Reaches (Some pair) other → Reaches other (Some pair) → other ≡ Some pair
  one_pair pair None x y = absurd y
  one_pair pair (Some other) x y = ap Some (as_one other pair y x)

  own_pair : (pair : Pair) → first_pair table Any centre parameter ≡ Some pair → lookup_in table centre pair.0 pair.1 ≡ Some target
      → first_pair table Same centre target ≡ Some pair
  own_pair pair is found =
      let low = steps (is_among table Any centre parameter) (is_among table Same centre target) among table None None tt in
      one_pair pair (first_pair table Same centre target) (subst (λ (o : Option Pair). Reaches o (first_pair table Same centre target)) is low) (own_reaches pair found)

-- the target that the look-up finds stands for the parameter
pub record_pair : (table : Entries) (centre : ℕ) (parameter target : Target) (pair : Pair) → first_pair table Any centre parameter ≡ Some pair
    → lookup_in table centre pair.0 pair.1 ≡ Some target → first_pair table Same centre target ≡ Some pair
record_pair table centre parameter target pair is found =
    let finds = first_finds table Any centre parameter pair is in
    let both_found : Some finds.target ≡ Some target = sym finds.found ∙ found in
    let same : finds.target ≡ target = cc both_found in
    own_pair table centre parameter target (subst (λ (t : Target). matches Any parameter t ≡ true) same finds.stands) pair is found

-- a parameter that has a pair by the same tables has one by any
pub any_pair : (table : Entries) (centre : ℕ) (parameter : Target) (pair : Pair) → first_pair table Same centre parameter ≡ Some pair
    → is_none (first_pair table Any centre parameter) ≡ false
any_pair table centre parameter pair is =
    let low = steps (is_among table Any centre parameter) (is_among table Same centre parameter) (among table centre parameter parameter (any_is parameter)) table None None tt in
    some (first_pair table Any centre parameter) (subst (Reaches (first_pair table Any centre parameter)) is low)
  where
    some : (first : Option Pair) → Reaches first (Some pair) → is_none first ≡ false
    some None r = absurd r
    some (Some first) r = refl
