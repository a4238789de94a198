-- A number has one spelling.
use Rattle.std.proofs.Common.{◌≡◌, ◌+◌, ◌-◌, ◌*◌, ◌<◌, ◌≤◌, ℕ, Bool, true, false, not, List, [], ◌∷◌, None, Some, length, refl, arith}
use Rattle.std.specs.Prelude.{nat_le, nat_lt, ◌==◌, ◌&&◌, ◌||◌, if◌then◌else◌}
use Rattle.std.specs.List.{list_all}
use Rattle.std.specs.Char.{is_ascii_digit}
use Rattle.std.proofs.lemmas.Bool.{and_parts, eq-eqb, leb-true, ltb-true, ne_eqb}
use Rattle.grib_params.specs.Fields.{Field, decimal, is_number, number_in, with_digit}
use Rattle.grib_params.proofs.Numbers.{grows}

-- a field spells this number
record Spells (field : Field) (number : ℕ) : Type 0 where
  well : is_number field ≡ true
  small : number < 256
  value : decimal field ≡ number

spells : (field : Field) (number : ℕ) → number_in field ≡ Some number → Spells field number
spells field number e = by (is_number field) (nat_lt (decimal field) 256) refl refl e
  where
    by : (a b : Bool) → is_number field ≡ a → nat_lt (decimal field) 256 ≡ b → (if a && b then Some (decimal field) else None) ≡ Some number → Spells field number
    by true true p q e =
        let value : decimal field ≡ number = cc in
        record { well = p; small = rw value at (ltb-true (decimal field) 256 q); value = value }
    by true false p q e = cc e
    by false b p q e = cc e

-- the digits of a number
digits_in : (field : Field) → is_number field ≡ true → list_all is_ascii_digit field ≡ true
digits_in field e = (and_parts _ _ (and_parts (not (length field == 0) && list_all is_ascii_digit field) _ e).0).1

digit : (c : ℕ) (rest : List ℕ) → list_all is_ascii_digit (c ∷ rest) ≡ true → (48 ≤ c) × (c ≤ 57) × (list_all is_ascii_digit rest ≡ true)
digit c rest e =
    let (here, later) = and_parts (is_ascii_digit c) (list_all is_ascii_digit rest) e in
    let (low, high) = and_parts (nat_le 48 c) (nat_le c 57) here in
    (leb-true 48 c low, leb-true c 57 high, later)

-- a first digit of several is not 0
leads : (a b : ℕ) (rest : List ℕ) → is_number (a ∷ b ∷ rest) ≡ true → 49 ≤ a
leads a b rest e =
    let (low, high, later) = digit a (b ∷ rest) (digits_in (a ∷ b ∷ rest) e) in
    let front : (not (a == 48) || (length (a ∷ b ∷ rest) == 1)) ≡ true = (and_parts (not (length (a ∷ b ∷ rest) == 0) && list_all is_ascii_digit (a ∷ b ∷ rest)) _ e).1 in
    let other : a ≡ 48 → ⊥ = λ zero. cc (rw (eq-eqb a 48 zero, ne_eqb (length (a ∷ b ∷ rest)) 1 (λ p. absurd (omega arith))) at front) in
    omega (arith, other)

-- what one digit, two and three spell, and at least what more spell
one : (a number : ℕ) → Spells (a ∷ []) number → (48 ≤ a) × (a ≤ 57) × (number ≡ a - 48)
one a number s = let (low, high, later) = digit a [] (digits_in (a ∷ []) s.well) in (low, high, omega (arith, s.value))

two : (a b number : ℕ) → Spells (a ∷ b ∷ []) number → (49 ≤ a) × (a ≤ 57) × (48 ≤ b) × (b ≤ 57) × (number ≡ (a - 48) * 10 + (b - 48))
two a b number s =
    let (low, high, later) = digit a (b ∷ []) (digits_in (a ∷ b ∷ []) s.well) in
    let (low2, high2, none) = digit b [] later in
    (leads a b [] s.well, high, low2, high2, omega (arith, s.value))

three : (a b c number : ℕ) → Spells (a ∷ b ∷ c ∷ []) number → (49 ≤ a) × (a ≤ 57) × (48 ≤ b) × (b ≤ 57) × (48 ≤ c) × (c ≤ 57) × (number ≡ ((a - 48) * 10 + (b - 48)) * 10 + (c - 48))
three a b c number s =
    let (low, high, later) = digit a (b ∷ c ∷ []) (digits_in (a ∷ b ∷ c ∷ []) s.well) in
    let (low2, high2, last) = digit b (c ∷ []) later in
    let (low3, high3, none) = digit c [] last in
    (leads a b (c ∷ []) s.well, high, low2, high2, low3, high3, omega (arith, s.value))

from_two : (a b number : ℕ) (rest : List ℕ) → Spells (a ∷ b ∷ rest) number → 10 ≤ number
from_two a b number rest s = omega (arith, leads a b rest s.well, grows (with_digit (with_digit 0 a) b) rest, s.value)

from_three : (a b c number : ℕ) (rest : List ℕ) → Spells (a ∷ b ∷ c ∷ rest) number → 100 ≤ number
from_three a b c number rest s = omega (arith, leads a b (c ∷ rest) s.well, grows (with_digit (with_digit (with_digit 0 a) b) c) rest, s.value)

from_four : (a b c d number : ℕ) (rest : List ℕ) → Spells (a ∷ b ∷ c ∷ d ∷ rest) number → ⊥
from_four a b c d number rest s = absurd (omega (arith, leads a b (c ∷ d ∷ rest) s.well, grows (with_digit (with_digit (with_digit (with_digit 0 a) b) c) d) rest, s.value, s.small))

none : (number : ℕ) → Spells [] number → ⊥
none number s = cc s.well

-- two fields with one number are the same
pub one_spelling : (f g : Field) (number : ℕ) → number_in f ≡ Some number → number_in g ≡ Some number → f ≡ g
one_spelling f g number p q = same f g (spells f number p) (spells g number q)
  where
    same : (f g : Field) → Spells f number → Spells g number → f ≡ g
    same [] g s t = absurd (none number s)
    same (a ∷ []) [] s t = absurd (none number t)
    same (a ∷ []) (x ∷ []) s t =
        let first : a ≡ x = omega (arith, one a number s, one x number t) in
        rw first refl
    same (a ∷ []) (x ∷ y ∷ rest) s t = absurd (omega (arith, one a number s, from_two x y number rest t))
    same (a ∷ b ∷ []) [] s t = absurd (none number t)
    same (a ∷ b ∷ []) (x ∷ []) s t = absurd (omega (arith, from_two a b number [] s, one x number t))
    same (a ∷ b ∷ []) (x ∷ y ∷ []) s t =
        let first : a ≡ x = omega (arith, two a b number s, two x y number t) in
        let second : b ≡ y = omega (arith, two a b number s, two x y number t) in
        rw (first, second) refl
    same (a ∷ b ∷ []) (x ∷ y ∷ z ∷ rest) s t = absurd (omega (arith, two a b number s, from_three x y z number rest t))
    same (a ∷ b ∷ c ∷ []) [] s t = absurd (none number t)
    same (a ∷ b ∷ c ∷ []) (x ∷ []) s t = absurd (omega (arith, from_three a b c number [] s, one x number t))
    same (a ∷ b ∷ c ∷ []) (x ∷ y ∷ []) s t = absurd (omega (arith, from_three a b c number [] s, two x y number t))
    same (a ∷ b ∷ c ∷ []) (x ∷ y ∷ z ∷ []) s t =
        let first : a ≡ x = omega (arith, three a b c number s, three x y z number t) in
        let second : b ≡ y = omega (arith, three a b c number s, three x y z number t) in
        let third : c ≡ z = omega (arith, three a b c number s, three x y z number t) in
        rw (first, second, third) refl
    same (a ∷ b ∷ c ∷ []) (x ∷ y ∷ z ∷ w ∷ rest) s t = absurd (from_four x y z w number rest t)
    same (a ∷ b ∷ c ∷ d ∷ rest) g s t = absurd (from_four a b c d number rest s)
