-- The first fixed surface of a level is that of the field.
use Rattle.std.proofs.Common.{◌≡◌, ℕ, ◌||◌, ◌==◌, Bool, true, false, not, cond, Option, Some, None, List, [], ◌∷◌, refl, sym, ap, ◌∙◌, eqb-true}
use Rattle.std.specs.Prelude.{option_map, find}
use Rattle.std.specs.Option.{option_and_then, option_or, option_map_or}
use Rattle.std.proofs.lemmas.Bool.{or_parts, not-false}
use Rattle.std.proofs.lemmas.Option.{none-some, same_Some}
use Rattle.grib_bits.specs.Octets.{octets}
use Rattle.grib_migrate.specs.declared.level.Surface.{Surface}
use Rattle.grib_migrate.specs.declared.level.Surfaces.{Surfaces}
use Rattle.grib_migrate.specs.Levels.{LevelRow, level_rows, surfaces_at, is_shared, one_surface, bare}
use Rattle.grib_bits.specs.Encoding.{missing_1}
use Rattle.grib_demote.specs.declared.level.Level.{Level}
use Rattle.grib_demote.specs.Levels.{is_bare, number_below, layer, number_by, level, level_with, level_among, level_types, level_of, surface_at}

-- the kind of the first surface
abbrev pub kind_of : Option Surfaces → ℕ
kind_of surfaces = option_map_or (λ s. s.first.kind) surfaces 0

-- ---- it does not rest on the number of the level

abbrev SameKinds : List LevelRow → List LevelRow → Type 0
SameKinds [] [] = Unit {0}
SameKinds (r ∷ rows) (q ∷ others) = (r.level_type ≡ q.level_type) × (r.surfaces_are.first.kind ≡ q.surfaces_are.first.kind) × SameKinds rows others
SameKinds [] (q ∷ others) = ⊥
SameKinds (r ∷ rows) [] = ⊥

found_kind : (t : ℕ) (rows others : List LevelRow) → SameKinds rows others
    → kind_of (option_map (λ r. r.surfaces_are) (find (λ r. r.level_type == t) rows)) ≡ kind_of (option_map (λ r. r.surfaces_are) (find (λ r. r.level_type == t) others))
found_kind t [] [] same = refl
found_kind t [] (q ∷ others) same = absurd same
found_kind t (r ∷ rows) [] same = absurd same
found_kind t (r ∷ rows) (q ∷ others) same =
    ap (λ (n : ℕ). kind_of (option_map (λ x. x.surfaces_are) (cond (n == t) (Some r) (find (λ x. x.level_type == t) rows)))) same.0
    ∙ by (q.level_type == t) (found_kind t rows others same.2)
  where
    by : (b : Bool) → kind_of (option_map (λ x. x.surfaces_are) (find (λ x. x.level_type == t) rows)) ≡ kind_of (option_map (λ x. x.surfaces_are) (find (λ x. x.level_type == t) others))
        → kind_of (option_map (λ x. x.surfaces_are) (cond b (Some r) (find (λ x. x.level_type == t) rows))) ≡ kind_of (option_map (λ x. x.surfaces_are) (cond b (Some q) (find (λ x. x.level_type == t) others)))
    by true later = same.1
    by false later = later

kind_at : (t l a b : ℕ) → kind_of (surfaces_at t l a b) ≡ kind_of (surfaces_at t 1 1 1)
kind_at t l a b = by (is_shared t)
  where
    by : (c : Bool) → kind_of (cond c (Some (one_surface (bare t))) (option_map (λ r. r.surfaces_are) (find (λ r. r.level_type == t) (level_rows l a b))))
        ≡ kind_of (cond c (Some (one_surface (bare t))) (option_map (λ r. r.surfaces_are) (find (λ r. r.level_type == t) (level_rows 1 1 1))))
    by true = refl
    by false =
        found_kind t (level_rows l a b) (level_rows 1 1 1)
        (refl, refl, (refl, refl, (refl, refl, (refl, refl, (refl, refl, (refl, refl, (refl, refl, (refl, refl, (refl, refl, (refl, refl, (refl, refl, (refl, refl, (refl, refl, (refl, refl, tt))))))))))))))

-- ---- the level that is found

first_kind : (first second : Surface) (one : Surfaces) (n : ℕ) → number_by first second one ≡ Some n → one.first.kind ≡ first.kind
first_kind first second one n e = by (not (one.first.kind == first.kind) || not (one.second.kind == second.kind)) refl e
  where
    by : (b : Bool) → (not (one.first.kind == first.kind) || not (one.second.kind == second.kind)) ≡ b
        → cond b None
        (cond (one.first.scale_factor == missing_1) (cond (is_bare first) (Some 0) None)
        (cond (one.second.kind == missing_1) (number_below 65536 one.first first) (layer (number_below 256 one.first first) (number_below 256 one.second second)))) ≡ Some n
        → one.first.kind ≡ first.kind
    by true is e = absurd (none-some n e)
    by false is e =
        eqb-true one.first.kind first.kind (not-false (one.first.kind == first.kind) (or_parts (not (one.first.kind == first.kind)) (not (one.second.kind == second.kind)) is).0)

with_kind : (first second : Surface) (t : ℕ) (found : Level) → level_with first second t ≡ Some found → kind_of (surfaces_at found.level_type 1 1 1) ≡ first.kind
with_kind first second t found e = by (surfaces_at t 1 1 1) refl e
  where
    numbered : (one : Surfaces) → surfaces_at t 1 1 1 ≡ Some one → (o : Option ℕ) → number_by first second one ≡ o → option_map (level t) o ≡ Some found
        → kind_of (surfaces_at found.level_type 1 1 1) ≡ first.kind
    numbered one is None at e = absurd (none-some found e)
    numbered one is (Some n) at e =
        ap (λ (l : Level). kind_of (surfaces_at l.level_type 1 1 1)) (sym (same_Some (level t n) found e)) ∙ ap kind_of is ∙ first_kind first second one n at

    by : (o : Option Surfaces) → surfaces_at t 1 1 1 ≡ o → option_map (level t) (option_and_then (number_by first second) o) ≡ Some found
        → kind_of (surfaces_at found.level_type 1 1 1) ≡ first.kind
    by None is e = absurd (none-some found e)
    by (Some one) is e = numbered one is (number_by first second one) refl e

among_kind : (first second : Surface) (types : List ℕ) (found : Level) → level_among first second types ≡ Some found → kind_of (surfaces_at found.level_type 1 1 1) ≡ first.kind
among_kind first second [] found e = absurd (none-some found e)
among_kind first second (t ∷ types) found e = by (level_with first second t) refl e (among_kind first second types found)
  where
    by : (o : Option Level) → level_with first second t ≡ o → option_or o (level_among first second types) ≡ Some found
        → (level_among first second types ≡ Some found → kind_of (surfaces_at found.level_type 1 1 1) ≡ first.kind) → kind_of (surfaces_at found.level_type 1 1 1) ≡ first.kind
    by (Some l) is e later = with_kind first second t found (is ∙ e)
    by None is e later = later e

pub level_kind : (s4 : List ℕ) (found : Level) → level_of s4 ≡ Some found → (l a b : ℕ) → kind_of (surfaces_at found.level_type l a b) ≡ octets s4 23 23
level_kind s4 found e l a b = kind_at found.level_type l a b ∙ among_kind (surface_at s4 23) (surface_at s4 29) level_types found e
