-- The place of the first element that passes a test, from the front.
use Rattle.std.proofs.Common.{◌≡◌, suc, ◌+◌, ◌<◌, ◌≤◌, inl, inr, Bool, true, false, List, ◌∷◌, length, refl, arith, lt-ltb, le-ltb}
use Rattle.std.specs.List.{position_or_len}
use Rattle.std.proofs.lemmas.Bool.{cases_lt}
use Rattle.grib_base.specs.Rules.{first_place}

module _ {A : Type 0} (test : A → Bool) (x : A) (xs : List A) where
  at_first : test x ≡ true → position_or_len test (x ∷ xs) ≡ 0
  at_first e = rw e refl

  after_first : test x ≡ false → position_or_len test (x ∷ xs) ≡ 1 + position_or_len test xs
  after_first e = rw e refl

there : {A : Type 0} (test : A → Bool) (xs : List A) → position_or_len test xs < length xs → first_place test xs ≡ position_or_len test xs + 1
there test xs within = rw (lt-ltb (position_or_len test xs) (length xs) within) refl

nowhere : {A : Type 0} (test : A → Bool) (xs : List A) → length xs ≤ position_or_len test xs → first_place test xs ≡ 0
nowhere test xs past = rw (le-ltb (position_or_len test xs) (length xs) past) refl

module _ {A : Type 0} (test : A → Bool) (x : A) (xs : List A) where
  pub place_first : test x ≡ true → first_place test (x ∷ xs) ≡ 1
  place_first e = omega (arith, at_first test x xs e, there test (x ∷ xs) (omega (arith, at_first test x xs e)))

  pub place_later : test x ≡ false → 1 ≤ first_place test xs → first_place test (x ∷ xs) ≡ suc (first_place test xs)
  place_later e some = elim (cases_lt (position_or_len test xs) (length xs)) [
    | inl within ↦
        let on = after_first test x xs e in
        omega (arith, on, there test xs within, there test (x ∷ xs) (omega (arith, on)))
    | inr past ↦ absurd (omega (arith, nowhere test xs past))
  ]

  pub place_passed : test x ≡ false → 1 ≤ first_place test (x ∷ xs) → 1 ≤ first_place test xs
  place_passed e some = elim (cases_lt (position_or_len test xs) (length xs)) [
    | inl within ↦ omega (arith, there test xs within)
    | inr past ↦
        let on = after_first test x xs e in
        absurd (omega (arith, nowhere test (x ∷ xs) (omega (arith, on))))
  ]
