-- The surfaces of the number 1 of each type of level.
use Rattle.std.proofs.Common.{◌≡◌, ℕ, ◌≤◌, ◌==◌, Bool, true, false, cond, Some, find, List, [], ◌∷◌, refl, sym, ap, ◌∙◌, subst, arith}
use Rattle.std.specs.Prelude.{option_map}
use Rattle.grib_migrate.specs.Levels.{LevelRow, level_rows, surface, surfaces, bare, one_surface, is_shared, surfaces_at}
use Rattle.grib_migrate.specs.declared.level.Surfaces.{Surfaces}
use Rattle.grib_demote.specs.Held.{AreOnes}

Each : List LevelRow → Type 0
Each [] = Unit {0}
Each (r ∷ rows) = AreOnes r.surfaces_are × Each rows

ones_here : (test : LevelRow → Bool) (r : LevelRow) (rows : List LevelRow) (one : Surfaces) (b : Bool) → test r ≡ b → AreOnes r.surfaces_are
    → (option_map (λ q. q.surfaces_are) (find test rows) ≡ Some one → AreOnes one)
    → option_map (λ q. q.surfaces_are) (cond (test r) (Some r) (find test rows)) ≡ Some one → AreOnes one
ones_here test r rows one true e here later is =
    let is_true = sym (ap (λ x. option_map (λ q. q.surfaces_are) (cond x (Some r) (find test rows))) e) ∙ is in
    let same : r.surfaces_are ≡ one = cc is_true in
    subst AreOnes same here
ones_here test r rows one false e here later is =
    later (sym (ap (λ x. option_map (λ q. q.surfaces_are) (cond x (Some r) (find test rows))) e) ∙ is)

ones_found : (test : LevelRow → Bool) (rows : List LevelRow) (one : Surfaces) → Each rows → option_map (λ r. r.surfaces_are) (find test rows) ≡ Some one → AreOnes one
unfolding Each
ones_found test [] one each is = cc is
ones_found test (r ∷ rows) one each is = ones_here test r rows one (test r) refl each.0 (ones_found test rows one each.1) is

of_one : (kind places value : ℕ) → places ≤ 4 → 1 ≤ value → value ≤ 1000 → AreOnes (one_surface (surface kind places value))
of_one kind places value low some few = record {
  first = λ ne. record { places = low; some = some; few = few };
  second = λ ne. absurd (ne refl);
}

of_layer : (kind places value : ℕ) → places ≤ 4 → 1 ≤ value → value ≤ 1000 → AreOnes (surfaces (surface kind places value) (surface kind places value))
of_layer kind places value low some few = record {
  first = λ ne. record { places = low; some = some; few = few };
  second = λ ne. record { places = low; some = some; few = few };
}

of_bare : (kind : ℕ) → AreOnes (one_surface (bare kind))
of_bare kind = record { first = λ ne. absurd (ne refl); second = λ ne. absurd (ne refl) }

each_row : Each (level_rows 1 1 1)
unfolding Each
each_row = (
  of_one 100 0 100 (omega arith) (omega arith) (omega arith),
  (
    of_layer 100 0 1000 (omega arith) (omega arith) (omega arith),
    (
      of_bare 101,
      (
        of_one 102 0 1 (omega arith) (omega arith) (omega arith),
        (
          of_layer 102 0 100 (omega arith) (omega arith) (omega arith),
          (
            of_one 103 0 1 (omega arith) (omega arith) (omega arith),
            (
              of_layer 103 0 100 (omega arith) (omega arith) (omega arith),
              (
                of_one 104 4 1 (omega arith) (omega arith) (omega arith),
                (
                  of_layer 104 2 1 (omega arith) (omega arith) (omega arith),
                  (
                    of_one 105 0 1 (omega arith) (omega arith) (omega arith),
                    (
                      of_layer 105 0 1 (omega arith) (omega arith) (omega arith),
                      (
                        of_one 106 2 1 (omega arith) (omega arith) (omega arith),
                        (of_layer 106 2 1 (omega arith) (omega arith) (omega arith), (of_one 107 0 1 (omega arith) (omega arith) (omega arith), tt)),
                      ),
                    ),
                  ),
                ),
              ),
            ),
          ),
        ),
      ),
    ),
  ),
)

pub are_ones : (level_type : ℕ) (one : Surfaces) → surfaces_at level_type 1 1 1 ≡ Some one → AreOnes one
are_ones level_type one is = by (is_shared level_type) refl
  where
    by : (b : Bool) → is_shared level_type ≡ b → AreOnes one
    by true e =
        let same : one_surface (bare level_type) ≡ one = cc (sym (ap (λ x. cond x (Some (one_surface (bare level_type))) (option_map (λ r. r.surfaces_are) (find (λ r. r.level_type == level_type) (level_rows 1 1 1)))) e) ∙ is) in
        subst AreOnes same (of_bare level_type)
    by false e =
        ones_found (λ r. r.level_type == level_type) (level_rows 1 1 1) one each_row
        (sym (ap (λ x. cond x (Some (one_surface (bare level_type))) (option_map (λ r. r.surfaces_are) (find (λ r. r.level_type == level_type) (level_rows 1 1 1)))) e) ∙ is)
