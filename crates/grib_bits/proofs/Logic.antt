-- Plain logic that std lacks: tests, options and the first that is found.
use Rattle.std.proofs.Common.{◌≡◌, Bool, true, false, cond, not, ◌&&◌, ◌||◌, ℕ, List, [], ◌∷◌, Option, Some, None, is_none, find, bytes_eq, refl, sym, ap, ◌∙◌}
use Rattle.std.specs.Option.{option_or}
use Rattle.std.proofs.lemmas.Bool.{and_parts, or_parts}
use Rattle.std.proofs.lemmas.Slice.Eq.{bytes_eq-Decides}

-- ---- where two tests both hold, or neither does

pub left_true : (a b : Bool) → (a && b) ≡ true → a ≡ true
left_true a b e = (and_parts a b e).0

pub right_true : (a b : Bool) → (a && b) ≡ true → b ≡ true
right_true a b e = (and_parts a b e).1

pub left_false : (a b : Bool) → (a || b) ≡ false → a ≡ false
left_false a b e = (or_parts a b e).0

pub right_false : (a b : Bool) → (a || b) ≡ false → b ≡ false
right_false a b e = (or_parts a b e).1

-- where two tests do not both hold and the first does, the second does not
pub second_fails : (a b : Bool) → (a && b) ≡ false → a ≡ true → b ≡ false
second_fails true b e on = e
second_fails false b e on = cc

-- where a test holds or another does not, the first holds wherever the other does
pub if_so : (a b : Bool) → (not a || b) ≡ true → a ≡ true → b ≡ true
if_so true b e on = e
if_so false b e on = cc

pub or_false : (b : Bool) → (b || false) ≡ true → b ≡ true
or_false true e = refl
or_false false e = e

-- ---- none of some options

-- where nothing comes of a test, it does not hold
pub test_fails : {A : Type 0} (b : Bool) (x : A) → cond b (Some x) None ≡ None → b ≡ false
test_fails true x e = cc
test_fails false x e = refl

-- where nothing comes of a test or of what is later, the test does not hold and nothing comes of the later
pub none_of_two : {A : Type 0} (b : Bool) (x : A) (later : Option A) → cond b (Some x) later ≡ None → (b ≡ false) × (later ≡ None)
none_of_two true x later e = cc
none_of_two false x later e = (refl, e)

pub none_from_two : {A : Type 0} (b : Bool) (x : A) (later : Option A) → b ≡ false → later ≡ None → cond b (Some x) later ≡ None
none_from_two true x later off e = cc
none_from_two false x later off e = e

pub none_or : {A : Type 0} (a b : Option A) → option_or a b ≡ None → (a ≡ None) × (b ≡ None)
none_or None b e = (refl, e)
none_or (Some x) b e = let no : ⊥ = cc in absurd no

pub none_from_test : {A : Type 0} (o : Option A) → is_none o ≡ true → o ≡ None
none_from_test None e = refl
none_from_test (Some x) e = let no : ⊥ = cc in absurd no

-- what is nothing that could be there is not there
pub none_else : {A : Type 0} (o : Option A) → ((x : A) → o ≡ Some x → ⊥) → o ≡ None
none_else None other = refl
none_else (Some x) other = absurd (other x refl)

-- ---- what is found

-- what is found passes the test
pub found_passes : {A : Type 0} (test : A → Bool) (xs : List A) (x : A) → find test xs ≡ Some x → test x ≡ true
found_passes test [] x e = let no : ⊥ = cc e in absurd no
found_passes test (y ∷ ys) x e = by (test y) refl e (found_passes test ys x)
  where
    by : (b : Bool) → test y ≡ b → cond b (Some y) (find test ys) ≡ Some x → (find test ys ≡ Some x → test x ≡ true) → test x ≡ true
    by true is e later = let same : y ≡ x = cc e in ap test (sym same) ∙ is
    by false is e later = later e

-- a text is itself
pub same_text : (text : List ℕ) → bytes_eq text text ≡ true
same_text text = (bytes_eq-Decides text text).1 refl
