-- Degrees with a sign.
use Rattle.std.proofs.Common.{◌≡◌, ◌≢◌, ℕ, ℤ, pos, neg_ℤ, true, false, ◌==◌, int_le, Option, Some, None, option_map, List, [], ◌∷◌, get_or, refl, ap, ⊎_elim, eqb-true}
use Rattle.std.proofs.lemmas.Bool.{cases_Bool}
use Rattle.grib_numbers.specs.Degrees.{magnitude_of, degrees_of, are_degrees}

-- a text that does not begin with `-`
unsigned : (text : List ℕ) → ((rest : List ℕ) → text ≢ 45 ∷ rest) → (get_or text 0 0 == 45) ≡ false
unsigned [] other = refl
unsigned (c ∷ cs) other =
    ⊎_elim (λ (minus : (c == 45) ≡ true). absurd (other cs (ap (λ o. o ∷ cs) (eqb-true c 45 minus)))) (λ (not_minus : (c == 45) ≡ false). not_minus) (cases_Bool (c == 45))

pub without_sign : (text : List ℕ) (found : Option ℕ) → ((rest : List ℕ) → text ≢ 45 ∷ rest) → magnitude_of text ≡ found → option_map (λ m. pos m) found ≡ degrees_of text
without_sign text found other is = rw (unsigned text other, is) refl

pub with_sign : (text rest : List ℕ) (found : Option ℕ) → text ≡ 45 ∷ rest → magnitude_of rest ≡ found → option_map (λ m. neg_ℤ (pos m)) found ≡ degrees_of text
with_sign text rest found begins is = rw (begins, is) refl

-- the value lies from the least on
pub reaches : (least most degrees : ℤ) (text : List ℕ) → degrees_of text ≡ Some degrees → int_le least degrees ≡ true → int_le degrees most ≡ are_degrees least most text
reaches least most degrees text is from = rw (is, from) refl

-- or not
pub falls_short : (least most degrees : ℤ) (text : List ℕ) → degrees_of text ≡ Some degrees → int_le least degrees ≡ false → false ≡ are_degrees least most text
falls_short least most degrees text is below = rw (is, below) refl

pub unvalued : (least most : ℤ) (text : List ℕ) → degrees_of text ≡ None → false ≡ are_degrees least most text
unvalued least most text none = rw none refl
