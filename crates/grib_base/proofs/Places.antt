-- The place of the first element that passes a test.
use Rattle.std.proofs.Common.{◌≡◌, ◌+◌, Bool, true, false, List, [], ◌∷◌, ◌++◌, length, refl, ap, arith, lt-ltb, le-ltb, length-append}
use Rattle.std.proofs.lemmas.Bool.{or_parts, or_from}
use Rattle.std.specs.List.{list_any, position_or_len}
use Rattle.grib_base.specs.Rules.{first_place}

-- no element passes
abbrev pub NoneOf : {A : Type 0} → (A → Bool) → List A → Type 0
NoneOf test [] = Unit {0}
NoneOf test (x ∷ xs) = (test x ≡ false) × NoneOf test xs

pub none-append : {A : Type 0} (test : A → Bool) (xs ys : List A) → NoneOf test xs → NoneOf test ys → NoneOf test (xs ++ ys)
none-append test [] ys a b = b
none-append test (x ∷ xs) ys a b = (a.0, none-append test xs ys a.1 b)

-- the same, said by the test that finds one
pub none_of_any : {A : Type 0} (test : A → Bool) (xs : List A) → list_any test xs ≡ false → NoneOf test xs
none_of_any test [] e = tt
none_of_any test (x ∷ xs) e =
    let both = or_parts (test x) (list_any test xs) e in
    (both.0, none_of_any test xs both.1)

pub any_of_none : {A : Type 0} (test : A → Bool) (xs : List A) → NoneOf test xs → list_any test xs ≡ false
any_of_none test [] none = refl
any_of_none test (x ∷ xs) none = or_from (test x) (list_any test xs) none.0 (any_of_none test xs none.1)

-- passing by one that does not pass, and stopping at one that does
on : {A : Type 0} (test : A → Bool) (x : A) (xs : List A) → test x ≡ false → position_or_len test (x ∷ xs) ≡ 1 + position_or_len test xs
on test x xs e = rw e refl

here : {A : Type 0} (test : A → Bool) (x : A) (xs : List A) → test x ≡ true → position_or_len test (x ∷ xs) ≡ 0
here test x xs e = rw e refl

past : {A : Type 0} (test : A → Bool) (xs : List A) → NoneOf test xs → position_or_len test xs ≡ length xs
past test [] a = refl
past test (x ∷ xs) a = omega (arith, on test x xs a.0, past test xs a.1)

at : {A : Type 0} (test : A → Bool) (xs : List A) (y : A) (ys : List A) → NoneOf test xs → test y ≡ true
    → position_or_len test (xs ++ y ∷ ys) ≡ length xs
at test [] y ys a e = here test y ys e
at test (x ∷ xs) y ys a e = omega (arith, on test x (xs ++ y ∷ ys) a.0, at test xs y ys a.1 e)

-- where no element passes, the place is 0
pub first_place-none : {A : Type 0} (test : A → Bool) (xs : List A) → NoneOf test xs → first_place test xs ≡ 0
first_place-none test xs a = rw (le-ltb (position_or_len test xs) (length xs) (omega (arith, past test xs a))) refl

-- and where one passes after some that do not, it is one more than their number
pub first_place-at : {A : Type 0} (test : A → Bool) (xs : List A) (y : A) (ys : List A) → NoneOf test xs → test y ≡ true
    → first_place test (xs ++ y ∷ ys) ≡ length xs + 1
first_place-at test xs y ys a e =
    let n = at test xs y ys a e in
    rw (lt-ltb (position_or_len test (xs ++ y ∷ ys)) (length (xs ++ y ∷ ys)) (omega (arith, n, length-append xs (y ∷ ys)))) (ap (λ k. k + 1) n)
