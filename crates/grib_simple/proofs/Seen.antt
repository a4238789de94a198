-- Lemmas on what was seen of points, one after another.
use Rattle.std.proofs.Common.{◌≡◌, ℕ, zero, suc, ◌+◌, ◌<◌, ◌≤◌, ◌||◌, ◌==◌, inl, inr, max, Bool, true, false, cond, Option, Some, None, ℤ, nat_abs, List, [], ◌∷◌, length, refl, sym, ap, ◌∙◌, arith, nat_lt, lt-ltb, le-ltb, eq-eqb, ne_eqb, drop, get_or, drop-cons, subst}
use Rattle.std.specs.List.{position_or_len, list_any}
use Rattle.std.proofs.lemmas.Bool.{cases_lt}
use Rattle.grib_base.specs.Rules.{first_place}
use Rattle.grib_packing.specs.declared.column.Point.{Point}
use Rattle.grib_packing.specs.declared.column.Point.TheVariants.{Scaled}
use Rattle.grib_packing.specs.Misfits.{Misfit, SecondaryMissing, OutOfRange, first_of, misfit_at, plain_misfit, is_missing, is_missing2, is_scaled_outside}
use Rattle.grib_simple.specs.declared.survey.Survey.{Survey}
use Rattle.grib_simple.specs.Survey.{place_after, Surveys}

-- ---- the place of the first element that passes a test

pub first_place-some : {A : Type 0} (test : A → Bool) (xs : List A) → position_or_len test xs < length xs → first_place test xs ≡ position_or_len test xs + 1
first_place-some test xs h = rw (lt-ltb (position_or_len test xs) (length xs) h) refl

pub first-here : {A : Type 0} (test : A → Bool) (x : A) (xs : List A) → test x ≡ true → first_place test (x ∷ xs) ≡ 1
first-here test x xs e =
    let first : position_or_len test (x ∷ xs) ≡ 0 = rw e refl in
    first_place-some test (x ∷ xs) (omega arith) ∙ ap (λ (n : ℕ). n + 1) first

pub first_place-not : {A : Type 0} (test : A → Bool) (xs : List A) → length xs ≤ position_or_len test xs → first_place test xs ≡ 0
first_place-not test xs h = rw (le-ltb (position_or_len test xs) (length xs) h) refl

further : {A : Type 0} (test : A → Bool) (x : A) (xs : List A) → test x ≡ false → position_or_len test (x ∷ xs) ≡ 1 + position_or_len test xs
further test x xs e = rw e refl

-- an element that does not pass moves it by one
pub first-later : {A : Type 0} (test : A → Bool) (x : A) (xs : List A) → test x ≡ false
    → first_place test (x ∷ xs) ≡ cond (first_place test xs == 0) 0 (1 + first_place test xs)
first-later test x xs e = elim (cases_lt (position_or_len test xs) (length xs)) [
  | inl some ↦
      let here : first_place test xs ≡ position_or_len test xs + 1 = first_place-some test xs some in
      let there : first_place test (x ∷ xs) ≡ position_or_len test (x ∷ xs) + 1 = first_place-some test (x ∷ xs) (omega (arith, further test x xs e)) in
      rw (ne_eqb (first_place test xs) 0 (λ z. omega arith)) (omega (arith, further test x xs e))
  | inr none ↦
      let here : first_place test xs ≡ 0 = first_place-not test xs none in
      rw (eq-eqb (first_place test xs) 0 here) (first_place-not test (x ∷ xs) (omega (arith, further test x xs e)))
]

-- whether there is one
pub first_place-any : {A : Type 0} (test : A → Bool) (xs : List A) → list_any test xs ≡ nat_lt 0 (first_place test xs)
first_place-any test [] = refl
first_place-any test (x ∷ xs) = go (test x) refl (first_place-any test xs) where
  some_or_none : (n : ℕ) → nat_lt 0 n ≡ nat_lt 0 (cond (n == 0) 0 (1 + n))
  some_or_none zero = refl
  some_or_none (suc n) = rw (ne_eqb (suc n) 0 (λ z. omega arith)) (lt-ltb 0 (suc n) (omega arith) ∙ sym (lt-ltb 0 (1 + suc n) (omega arith)))

  any-here : test x ≡ true → list_any test (x ∷ xs) ≡ true
  any-here e = rw e refl

  any-later : test x ≡ false → list_any test (x ∷ xs) ≡ list_any test xs
  any-later e = rw e refl

  go : (b : Bool) → test x ≡ b → list_any test xs ≡ nat_lt 0 (first_place test xs) → list_any test (x ∷ xs) ≡ nat_lt 0 (first_place test (x ∷ xs))
  go true e rest = any-here e ∙ sym (ap (nat_lt 0) (first-here test x xs e))
  go false e rest =
      let there = ap (nat_lt 0) (first-later test x xs e) in
      let same : nat_lt 0 (first_place test xs) ≡ nat_lt 0 (cond (first_place test xs == 0) 0 (1 + first_place test xs)) = some_or_none (first_place test xs) in
      any-later e ∙ rest ∙ same ∙ sym there

module _ (misfit : ℕ → Misfit) (test : Point → Bool) (points : List Point) where
  pub misfit-some : (place : ℕ) → place ≡ first_place test points → 1 ≤ place → misfit_at misfit test points ≡ Some (misfit place)
  misfit-some place is some =
      let any : list_any test points ≡ true = first_place-any test points ∙ lt-ltb 0 (first_place test points) (omega arith) in
      rw any (ap (λ (n : ℕ). Some (misfit n)) (sym is))

  pub misfit-none : (place : ℕ) → place ≡ first_place test points → place ≡ 0 → misfit_at misfit test points ≡ None
  misfit-none place is none =
      let any : list_any test points ≡ false = first_place-any test points ∙ le-ltb 0 (first_place test points) (omega arith) in
      rw any refl

-- ---- one point more

module _ (test : Point → Bool) (x : Point) (rest : List Point) (found seen now place : ℕ) (next : place ≡ seen + 1) where
  -- one that passes the test
  pub place-here : test x ≡ true → (1 ≤ found → now ≡ found) → (found ≡ 0 → now ≡ place) → place_after now place test rest ≡ place_after found seen test (x ∷ rest)
  place-here e kept here = elim (cases_lt 0 found) [
    | inl some ↦ rw (ne_eqb found 0 (λ z. omega arith), ne_eqb now 0 (λ z. omega (arith, kept some))) (kept some)
    | inr none ↦
        let zero_found : found ≡ 0 = omega arith in
        let is : now ≡ place = here zero_found in
        rw (eq-eqb found 0 zero_found, ne_eqb now 0 (λ z. omega arith), first-here test x rest e) (omega arith)
  ]

  -- one that does not
  pub place-later : test x ≡ false → now ≡ found → place_after now place test rest ≡ place_after found seen test (x ∷ rest)
  place-later e same = elim (cases_lt 0 found) [
    | inl some ↦ rw (ne_eqb found 0 (λ z. omega arith), ne_eqb now 0 (λ z. omega arith)) same
    | inr none ↦
        let zero_found : found ≡ 0 = omega arith in
        let zero_now : now ≡ 0 = omega arith in
        rw (eq-eqb found 0 zero_found, eq-eqb now 0 zero_now, first-later test x rest e) (shifted (first_place test rest) seen place next)
  ] where
    shifted : (n seen place : ℕ) → place ≡ seen + 1
        → cond (n == 0) 0 (place + n) ≡ cond (cond (n == 0) 0 (1 + n) == 0) 0 (seen + cond (n == 0) 0 (1 + n))
    shifted zero seen place e = refl
    shifted (suc n) seen place e =
        let later : (1 + suc n == 0) ≡ false = ne_eqb (1 + suc n) 0 (λ z. omega arith) in
        let inner : cond (1 + suc n == 0) 0 (seen + (1 + suc n)) ≡ seen + (1 + suc n) = ap (λ (b : Bool). cond b 0 (seen + (1 + suc n))) later in
        let whole : place + suc n ≡ seen + (1 + suc n) = omega arith in
        rw (ne_eqb (suc n) 0 (λ z. omega arith)) (whole ∙ sym inner)

-- ---- a scaled integer more

pub number_more : (most : ℕ) (before now : Survey) (seen place : ℕ) (x : ℤ) (rest points : List Point) → place ≡ seen + 1
    → now.secondary ≡ before.secondary → now.missing ≡ before.missing → now.same ≡ before.same → now.present ≡ before.present + 1 → now.greatest ≡ max before.greatest (nat_abs x)
    → place_after now.too_wide place (is_scaled_outside most) rest ≡ place_after before.too_wide seen (is_scaled_outside most) (Scaled x ∷ rest)
    → Surveys most before seen (Scaled x ∷ rest) points → Surveys most now place rest points
number_more most before now seen place x rest points next secondary missing same present greatest_is wide h = record {
  secondary = place-later is_missing2 (Scaled x) rest before.secondary seen now.secondary place next refl secondary ∙ h.secondary;
  too_wide = wide ∙ h.too_wide;
  greatest_is = omega (arith, h.greatest_is, greatest_is);
  present = omega (arith, h.present, present);
  missing = ap (λ (b : Bool). b || list_any is_missing rest) missing ∙ h.missing;
  same = same ∙ h.same;
}

-- ---- the first misfit

module _ (most : ℕ) (points : List Point) where
  pub secondary_first : (place : ℕ) → place ≡ first_place is_missing2 points → 1 ≤ place → plain_misfit most points ≡ Some (SecondaryMissing place)
  secondary_first place is some =
      ap (λ (m : Option Misfit). first_of m (misfit_at OutOfRange (is_scaled_outside most) points)) (misfit-some SecondaryMissing is_missing2 points place is some)

  pub too_wide_first : (none place : ℕ) → none ≡ first_place is_missing2 points → place ≡ first_place (is_scaled_outside most) points → none ≡ 0 → 1 ≤ place
      → plain_misfit most points ≡ Some (OutOfRange place)
  too_wide_first none place is_none is nothing some =
      ap (λ (m : Option Misfit). first_of m (misfit_at OutOfRange (is_scaled_outside most) points)) (misfit-none SecondaryMissing is_missing2 points none is_none nothing)
      ∙ misfit-some OutOfRange (is_scaled_outside most) points place is some

  pub all_fit : (none place : ℕ) → none ≡ first_place is_missing2 points → place ≡ first_place (is_scaled_outside most) points → none ≡ 0 → place ≡ 0
      → plain_misfit most points ≡ None
  all_fit none place is_none is nothing none_wide =
      ap (λ (m : Option Misfit). first_of m (misfit_at OutOfRange (is_scaled_outside most) points)) (misfit-none SecondaryMissing is_missing2 points none is_none nothing)
      ∙ misfit-none OutOfRange (is_scaled_outside most) points place is none_wide

-- ---- point by point

pub next_point : (most : ℕ) (survey : Survey) (points : List Point) (i : ℕ) (d : Point) → i < length points
    → Surveys most survey i (drop i points) points → Surveys most survey i (get_or points i d ∷ drop (i + 1) points) points
next_point most survey points i d within h =
    let next : suc i ≡ i + 1 = omega arith in
    let both : drop i points ≡ get_or points i d ∷ drop (i + 1) points =
    drop-cons points i d within ∙ ap (λ (k : ℕ). get_or points i d ∷ drop k points) next in
    subst (λ (ps : List Point). Surveys most survey i ps points) both h
