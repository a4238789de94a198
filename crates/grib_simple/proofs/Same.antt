-- Points that are all the same.
use Rattle.std.proofs.Common.{◌≡◌, ℕ, zero, suc, ◌+◌, ◌*◌, ◌≤◌, ◌||◌, ◌==◌, max, Bool, true, false, cond, ℤ, nat_abs, List, [], ◌∷◌, length, replicate, refl, sym, ap, ap₂, ◌∙◌, arith, ne_eqb}
use Rattle.std.specs.List.{list_any}
use Rattle.std.proofs.lemmas.List.{length-replicate}
use Rattle.grib_base.specs.Rules.{first_place}
use Rattle.grib_packing.specs.declared.column.Point.{Point}
use Rattle.grib_packing.specs.declared.column.Point.TheVariants.{Scaled, Missing, Missing2}
use Rattle.grib_packing.specs.Groupings.{greatest}
use Rattle.grib_packing.specs.Misfits.{is_missing, is_missing2, is_scaled_outside}
use Rattle.grib_packing.specs.Packed.{simple_numbers}
use Rattle.grib_simple.specs.declared.survey.Survey.{Survey}
use Rattle.grib_simple.specs.Survey.{IsSurvey, Surveys, place_after}
use Rattle.grib_simple.proofs.Seen.{first-here, first-later}

-- ---- tests of elements that are all the same

pub any_same : {A : Type 0} (test : A → Bool) (x : A) (b : Bool) (n : ℕ) → test x ≡ b → list_any test (replicate (suc n) x) ≡ b
any_same test x true n e = rw e refl
any_same test x false zero e = rw e refl
any_same test x false (suc n) e = any_later (replicate (suc n) x) ∙ any_same test x false n e where
  any_later : (xs : List _) → list_any test (x ∷ xs) ≡ list_any test xs
  any_later xs = rw e refl

nowhere : {A : Type 0} (test : A → Bool) (x : A) (n : ℕ) → test x ≡ false → first_place test (replicate n x) ≡ 0
nowhere test x zero e = refl
nowhere test x (suc n) e = first-later test x (replicate n x) e ∙ ap (λ (k : ℕ). cond (k == 0) 0 (1 + k)) (nowhere test x n e)

place_same : {A : Type 0} (test : A → Bool) (x : A) (n : ℕ) → first_place test (replicate (suc n) x) ≡ first_place test (x ∷ [])
place_same test x n = go (test x) refl where
  go : (b : Bool) → test x ≡ b → first_place test (replicate (suc n) x) ≡ first_place test (x ∷ [])
  go true e = first-here test x (replicate n x) e ∙ sym (first-here test x [] e)
  go false e = nowhere test x (suc n) e ∙ sym (nowhere test x 1 e)

-- ---- their numbers

greatest_same : (x n : ℕ) → greatest (replicate (suc n) x) ≡ x
greatest_same x zero = omega arith
greatest_same x (suc n) = omega (arith, greatest_same x n)

numbers_scaled : (x : ℤ) (n : ℕ) → simple_numbers (replicate n (Scaled x)) ≡ replicate n (nat_abs x)
numbers_scaled x zero = refl
numbers_scaled x (suc n) = ap (λ (ns : List ℕ). nat_abs x ∷ ns) (numbers_scaled x n)

numbers_missing : (n : ℕ) → simple_numbers (replicate n Missing) ≡ []
numbers_missing zero = refl
numbers_missing (suc n) = numbers_missing n

numbers_missing2 : (n : ℕ) → simple_numbers (replicate n Missing2) ≡ []
numbers_missing2 zero = refl
numbers_missing2 (suc n) = numbers_missing2 n

-- as many times those of one point
numbers_same : (point : Point) (n : ℕ)
    → simple_numbers (replicate n point) ≡ replicate (length (simple_numbers (point ∷ [])) * n) (greatest (simple_numbers (point ∷ [])))
numbers_same (Scaled x) n =
    let count : n ≡ 1 * n = omega arith in
    let most : nat_abs x ≡ max (nat_abs x) 0 = omega arith in
    numbers_scaled x n ∙ ap₂ (λ (k m : ℕ). replicate k m) count most
numbers_same Missing n =
    let none : 0 ≡ 0 * n = omega arith in
    numbers_missing n ∙ ap (λ (k : ℕ). replicate k 0) none
numbers_same Missing2 n =
    let none : 0 ≡ 0 * n = omega arith in
    numbers_missing2 n ∙ ap (λ (k : ℕ). replicate k 0) none

most_same : (point : Point) (n : ℕ) → greatest (simple_numbers (replicate (suc n) point)) ≡ greatest (simple_numbers (point ∷ []))
most_same (Scaled x) n = omega (arith, ap greatest (numbers_scaled x (suc n)), greatest_same (nat_abs x) n)
most_same Missing n = ap greatest (numbers_missing (suc n))
most_same Missing2 n = ap greatest (numbers_missing2 (suc n))

-- ---- the survey of one point is that of many

place_end : (found seen : ℕ) (test : Point → Bool) → place_after found seen test [] ≡ found
place_end zero seen test = refl
place_end (suc found) seen test = rw (ne_eqb (suc found) 0 (λ z. omega arith)) refl

or_false : (b : Bool) → (b || false) ≡ b
or_false true = refl
or_false false = refl

same_survey : (most : ℕ) (one now : Survey) (point : Point) (n : ℕ) → now.secondary ≡ one.secondary → now.too_wide ≡ one.too_wide → now.greatest ≡ one.greatest
    → now.missing ≡ one.missing → now.present ≡ one.present * suc n → Surveys most one 1 [] (point ∷ []) → IsSurvey most now (replicate (suc n) point)
same_survey most one now point n secondary wide greatest_is missing present h =
    let few : one.present ≡ length (simple_numbers (point ∷ [])) = omega (arith, h.present) in
    let all : now.present ≡ length (simple_numbers (point ∷ [])) * suc n = present ∙ ap (λ (k : ℕ). k * suc n) few in
    let greatest_one : now.greatest ≡ greatest (simple_numbers (point ∷ [])) = omega (arith, greatest_is, h.greatest_is) in
    record {
      secondary = secondary ∙ sym (place_end one.secondary 1 is_missing2) ∙ h.secondary ∙ sym (place_same is_missing2 point n);
      too_wide = wide ∙ sym (place_end one.too_wide 1 (is_scaled_outside most)) ∙ h.too_wide ∙ sym (place_same (is_scaled_outside most) point n);
      greatest_is = greatest_one ∙ sym (most_same point n);
      present = all ∙ sym (ap length (numbers_same point (suc n)) ∙ length-replicate _ _);
      missing = missing ∙ sym (or_false one.missing) ∙ h.missing ∙ or_false (is_missing point) ∙ sym (any_same is_missing point (is_missing point) n refl);
      same = λ _. numbers_same point (suc n) ∙ ap₂ (λ (k m : ℕ). replicate k m) (sym all) (sym greatest_one);
    }

-- the same by a number that is not 0
pub is_survey_same : (most : ℕ) (one now : Survey) (point : Point) (count : ℕ) → 1 ≤ count → now.secondary ≡ one.secondary → now.too_wide ≡ one.too_wide
    → now.greatest ≡ one.greatest → now.missing ≡ one.missing → now.present ≡ one.present * count → Surveys most one 1 [] (point ∷ [])
    → IsSurvey most now (replicate count point)
is_survey_same most one now point zero some secondary wide greatest_is missing present h = absurd (omega arith)
is_survey_same most one now point (suc n) some secondary wide greatest_is missing present h = same_survey most one now point n secondary wide greatest_is missing present h
