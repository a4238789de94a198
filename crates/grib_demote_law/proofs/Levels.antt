-- The level of a Section 4 is one that has surfaces.
use Rattle.std.proofs.Common.{◌≡◌, ℕ, ◌+◌, ◌*◌, ◌<◌, ◌||◌, ◌==◌, Bool, true, false, not, cond, Option, Some, None, List, [], ◌∷◌, nat_lt, refl, sym, ap, ◌∙◌, subst, arith, eqb-true, ltb-true}
use Rattle.std.specs.Prelude.{is_none, option_map, find}
use Rattle.std.specs.Option.{option_and_then, option_or}
use Rattle.std.proofs.lemmas.Bool.{and_parts}
use Rattle.std.proofs.lemmas.Option.{none-some, same_Some}
use Rattle.grib_migrate.specs.declared.level.Surface.{Surface}
use Rattle.grib_migrate.specs.declared.level.Surfaces.{Surfaces}
use Rattle.grib_migrate.specs.Levels.{LevelRow, level_rows, surfaces_at, is_shared, lacks_number, one_surface, bare}
use Rattle.grib_bits.specs.Encoding.{missing_1}
use Rattle.grib_demote.specs.declared.level.Level.{Level}
use Rattle.grib_demote.specs.Levels.{is_bare, number_in, below, number_below, layer, number_by, level, level_with, level_among, level_types, level_of, surface_at}

-- ---- the rows of the table are told apart by their types alone

abbrev AllSmall : List LevelRow → Type 0
AllSmall [] = Unit {0}
AllSmall (r ∷ rows) = (r.level_type < 256) × AllSmall rows

abbrev SameTypes : List LevelRow → List LevelRow → Type 0
SameTypes [] [] = Unit {0}
SameTypes (r ∷ rows) (q ∷ others) = (r.level_type ≡ q.level_type) × SameTypes rows others
SameTypes [] (q ∷ others) = ⊥
SameTypes (r ∷ rows) [] = ⊥

found_too : (t : ℕ) (rows others : List LevelRow) → SameTypes rows others → is_none (find (λ r. r.level_type == t) rows) ≡ false
    → is_none (find (λ r. r.level_type == t) others) ≡ false
found_too t [] [] same e = e
found_too t [] (q ∷ others) same e = absurd same
found_too t (r ∷ rows) [] same e = absurd same
found_too t (r ∷ rows) (q ∷ others) same e = by (r.level_type == t) refl e (found_too t rows others same.1)
  where
    by : (b : Bool) → (r.level_type == t) ≡ b → is_none (cond b (Some r) (find (λ r. r.level_type == t) rows)) ≡ false
        → (is_none (find (λ r. r.level_type == t) rows) ≡ false → is_none (find (λ r. r.level_type == t) others) ≡ false)
        → is_none (cond (q.level_type == t) (Some q) (find (λ r. r.level_type == t) others)) ≡ false
    by true here e later = ap (λ b. is_none (cond b (Some q) (find (λ r. r.level_type == t) others))) (ap (λ n. n == t) (sym same.0) ∙ here)
    by false other e later =
        ap (λ b. is_none (cond b (Some q) (find (λ r. r.level_type == t) others))) (ap (λ n. n == t) (sym same.0) ∙ other)
        ∙ later e

found_small : (t : ℕ) (rows : List LevelRow) → AllSmall rows → is_none (find (λ r. r.level_type == t) rows) ≡ false → t < 256
found_small t [] small e = let no : ⊥ = cc in absurd no
found_small t (r ∷ rows) small e = by (r.level_type == t) refl e (found_small t rows small.1)
  where
    by : (b : Bool) → (r.level_type == t) ≡ b → is_none (cond b (Some r) (find (λ r. r.level_type == t) rows)) ≡ false
        → (is_none (find (λ r. r.level_type == t) rows) ≡ false → t < 256) → t < 256
    by true here e later = let is = eqb-true r.level_type t here in let low = small.0 in omega (arith, is, low)
    by false other e later = later e

mapped : {A B : Type 0} (f : A → B) (o : Option A) → is_none (option_map f o) ≡ is_none o
mapped f None = refl
mapped f (Some a) = refl

is_some : {A : Type 0} (o : Option A) (a : A) → o ≡ Some a → is_none o ≡ false
is_some o a e = ap is_none e

-- what is known of a type that has surfaces
record IsType (t : ℕ) (one : Surfaces) : Type 0 where
  small : t < 256
  all : (l a b : ℕ) → is_none (surfaces_at t l a b) ≡ false
  bare_one : lacks_number t ≡ true → one.first.scale_factor ≡ 255

lone : (t : ℕ) (one : Surfaces) → surfaces_at t 1 1 1 ≡ Some one → lacks_number t ≡ true → is_shared t ≡ false → one.first.scale_factor ≡ 255
lone t one is lacks plain =
    let here : (t == 102) ≡ true = sym (ap (λ b. b || (t == 102)) plain) ∙ lacks in
    let at : t ≡ 102 = eqb-true t 102 here in
    let same : surfaces_at 102 1 1 1 ≡ Some one = ap (λ n. surfaces_at n 1 1 1) (sym at) ∙ is in
    ap (λ (s : Surfaces). s.first.scale_factor) (sym (same_Some (one_surface (bare 101)) one same))

known_type : (t : ℕ) (one : Surfaces) → surfaces_at t 1 1 1 ≡ Some one → IsType t one
known_type t one is = by (is_shared t) refl
  where
    by : (b : Bool) → is_shared t ≡ b → IsType t one
    by true e =
        let parts = and_parts (nat_lt 0 t) (nat_lt t 10) e in
        let low = ltb-true t 10 parts.1 in
        let here : Some (one_surface (bare t)) ≡ Some one =
        sym (ap (λ b. cond b (Some (one_surface (bare t))) (option_map (λ r. r.surfaces_are) (find (λ r. r.level_type == t) (level_rows 1 1 1)))) e) ∙ is in
        record {
          small = omega arith;
          all = λ l a b. ap (λ s. is_none (cond s (Some (one_surface (bare t))) (option_map (λ r. r.surfaces_are) (find (λ r. r.level_type == t) (level_rows l a b))))) e;
          bare_one = λ _. ap (λ (s : Surfaces). s.first.scale_factor) (sym (same_Some (one_surface (bare t)) one here));
        }
    by false e =
        let rest : option_map (λ r. r.surfaces_are) (find (λ r. r.level_type == t) (level_rows 1 1 1)) ≡ Some one =
        sym (ap (λ b. cond b (Some (one_surface (bare t))) (option_map (λ r. r.surfaces_are) (find (λ r. r.level_type == t) (level_rows 1 1 1)))) e) ∙ is in
        let some : is_none (find (λ r. r.level_type == t) (level_rows 1 1 1)) ≡ false =
        sym (mapped (λ r. r.surfaces_are) (find (λ r. r.level_type == t) (level_rows 1 1 1))) ∙ is_some _ one rest in
        record {
          small = found_small t (level_rows 1 1 1) (omega arith, (omega arith, (omega arith, (omega arith, (omega arith, (omega arith, (omega arith, (omega arith, (omega arith, (omega arith, (omega arith, (omega arith, (omega arith, (omega arith, tt)))))))))))))) some;
          all = λ l a b.
              ap (λ s. is_none (cond s (Some (one_surface (bare t))) (option_map (λ r. r.surfaces_are) (find (λ r. r.level_type == t) (level_rows l a b))))) e
              ∙ mapped (λ r. r.surfaces_are) (find (λ r. r.level_type == t) (level_rows l a b))
              ∙ found_too t (level_rows 1 1 1) (level_rows l a b)
              (refl, (refl, (refl, (refl, (refl, (refl, (refl, (refl, (refl, (refl, (refl, (refl, (refl, (refl, tt)))))))))))))) some;
          bare_one = λ lacks. lone t one is lacks e;
        }

-- ---- the number

below_limit : (limit : ℕ) (o : Option ℕ) (n : ℕ) → option_and_then (below limit) o ≡ Some n → n < limit
below_limit limit None n e = absurd (none-some n e)
below_limit limit (Some m) n e = by (nat_lt m limit) refl e
  where
    by : (b : Bool) → nat_lt m limit ≡ b → cond b (Some m) None ≡ Some n → n < limit
    by true low e = let same = same_Some m n e in let lt = ltb-true m limit low in omega (arith, same, lt)
    by false high e = absurd (none-some n e)

layer_limit : (top bottom : Option ℕ) (n : ℕ) → ((m : ℕ) → top ≡ Some m → m < 256) → ((m : ℕ) → bottom ≡ Some m → m < 256) → layer top bottom ≡ Some n → n < 65536
layer_limit (Some a) (Some b) n one two e =
    let same = same_Some (256 * a + b) n e in let la = one a refl in let lb = two b refl in omega (arith, same, la, lb)
layer_limit None bottom n one two e = absurd (none-some n e)
layer_limit (Some a) None n one two e = absurd (none-some n e)

-- a number that is found fits two octets, and is 0 where the row has no value
record IsNumber (one : Surfaces) (n : ℕ) : Type 0 where
  few : n < 65536
  none : one.first.scale_factor ≡ 255 → n ≡ 0

number_known : (first second : Surface) (one : Surfaces) (n : ℕ) → number_by first second one ≡ Some n → IsNumber one n
number_known first second one n e =
    by (not (one.first.kind == first.kind) || not (one.second.kind == second.kind)) (one.first.scale_factor == missing_1) (is_bare first) (one.second.kind == missing_1) refl e
  where
    by : (other lacks bare single : Bool) → (one.first.scale_factor == missing_1) ≡ lacks
        → cond other None
        (cond lacks (cond bare (Some 0) None)
        (cond single (number_below 65536 one.first first) (layer (number_below 256 one.first first) (number_below 256 one.second second)))) ≡ Some n
        → IsNumber one n
    by true lacks bare single is e = absurd (none-some n e)
    by false true true single is e = let same = same_Some 0 n e in record { few = omega (arith, same); none = λ _. sym same }
    by false true false single is e = absurd (none-some n e)
    by false false bare true is e = record {
      few = below_limit 65536 (number_in one.first first) n e;
      none = λ here. (let no : ⊥ = cc (sym is ∙ ap (λ m. m == missing_1) here) in absurd no);
    }
    by false false bare false is e = record {
      few = layer_limit (number_below 256 one.first first) (number_below 256 one.second second) n (λ m. below_limit 256 (number_in one.first first) m)
          (λ m. below_limit 256 (number_in one.second second) m) e;
      none = λ here. (let no : ⊥ = cc (sym is ∙ ap (λ m. m == missing_1) here) in absurd no);
    }

-- ---- the level

-- what is known of a level that is found
pub record IsFound (found : Level) : Type 0 where
  pub type_small : found.level_type < 256
  pub number_few : found.number < 65536
  pub surfaces_there : (l a b : ℕ) → is_none (surfaces_at found.level_type l a b) ≡ false
  pub none_lacking : lacks_number found.level_type ≡ true → found.number ≡ 0

with_known : (first second : Surface) (t : ℕ) (found : Level) → level_with first second t ≡ Some found → IsFound found
with_known first second t found e = by (surfaces_at t 1 1 1) refl e
  where
    numbered : (one : Surfaces) → surfaces_at t 1 1 1 ≡ Some one → (o : Option ℕ) → number_by first second one ≡ o → option_map (level t) o ≡ Some found → IsFound found
    numbered one is None at e = absurd (none-some found e)
    numbered one is (Some n) at e =
        let same : level t n ≡ found = same_Some (level t n) found e in
        let known = known_type t one is in
        let number = number_known first second one n at in
        subst IsFound same (record { type_small = known.small; number_few = number.few; surfaces_there = known.all; none_lacking = λ lacks. number.none (known.bare_one lacks) })

    by : (o : Option Surfaces) → surfaces_at t 1 1 1 ≡ o → option_map (level t) (option_and_then (number_by first second) o) ≡ Some found → IsFound found
    by None is e = absurd (none-some found e)
    by (Some one) is e = numbered one is (number_by first second one) refl e

among_known : (first second : Surface) (types : List ℕ) (found : Level) → level_among first second types ≡ Some found → IsFound found
among_known first second [] found e = absurd (none-some found e)
among_known first second (t ∷ types) found e = by (level_with first second t) refl e (among_known first second types found)
  where
    by : (o : Option Level) → level_with first second t ≡ o → option_or o (level_among first second types) ≡ Some found
        → (level_among first second types ≡ Some found → IsFound found) → IsFound found
    by (Some l) is e later = subst IsFound (same_Some l found e) (with_known first second t l is)
    by None is e later = later e

pub level_known : (s4 : List ℕ) (found : Level) → level_of s4 ≡ Some found → IsFound found
level_known s4 found e = among_known (surface_at s4 23) (surface_at s4 29) level_types found e
