-- The numbers that codes tell, one after another.
use Rattle.std.proofs.Common.{◌≡◌, ℕ, zero, suc, ◌<◌, List, [], ◌∷◌, length, get_or, ℤ, pos, ◌+ℤ◌, ◌-ℤ◌, ◌*ℤ◌, refl, ap, arith}
use Rattle.std.proofs.lemmas.Int.{ints}
use Rattle.grib_packing.specs.Differences.{Descriptors, One, Two, undone, undone_from}

-- the numbers after x by first differences, and after x and y by second ones
abbrev pub after_one : ℤ → ℤ → List ℕ → List ℤ
after_one m x [] = []
after_one m x (code ∷ codes) = let next = (pos code +ℤ m) +ℤ x in next ∷ after_one m next codes

abbrev pub after_two : ℤ → ℤ → ℤ → List ℕ → List ℤ
after_two m x y [] = []
after_two m x y (code ∷ codes) = let next = ((pos code +ℤ m) +ℤ (pos 2 *ℤ y)) -ℤ x in next ∷ after_two m y next codes

-- and with the first values before them
abbrev pub undone_1 : ℤ → ℤ → List ℕ → List ℤ
undone_1 f1 m [] = []
undone_1 f1 m (code ∷ codes) = f1 ∷ after_one m f1 codes

abbrev pub undone_2 : ℤ → ℤ → ℤ → List ℕ → List ℤ
undone_2 f1 f2 m [] = []
undone_2 f1 f2 m (code ∷ []) = f1 ∷ []
undone_2 f1 f2 m (code ∷ second ∷ codes) = f1 ∷ f2 ∷ after_two m f1 f2 codes

-- they are the numbers of the definition
from_one : (d : Descriptors) (x : ℤ) (codes : List ℕ) → d.order ≡ 1 → undone_from d (One x) codes ≡ after_one d.minimum x codes
from_one d x [] e = refl
from_one d x (code ∷ codes) e =
    let next = (pos code +ℤ d.minimum) +ℤ x in
    rw e (ap (λ xs. next ∷ xs) (from_one d next codes e))

from_two : (d : Descriptors) (x y : ℤ) (codes : List ℕ) → undone_from d (Two x y) codes ≡ after_two d.minimum x y codes
from_two d x y [] = refl
from_two d x y (code ∷ codes) =
    let next = ((pos code +ℤ d.minimum) +ℤ (pos 2 *ℤ y)) -ℤ x in
    ap (λ xs. next ∷ xs) (from_two d y next codes)

pub undone-first : (d : Descriptors) (codes : List ℕ) → d.order ≡ 1 → undone d codes ≡ undone_1 d.first d.minimum codes
undone-first d [] e = refl
undone-first d (code ∷ codes) e = ap (λ xs. d.first ∷ xs) (from_one d d.first codes e)

pub undone-second : (d : Descriptors) (codes : List ℕ) → d.order ≡ 2 → undone d codes ≡ undone_2 d.first d.second d.minimum codes
undone-second d [] e = refl
undone-second d (code ∷ []) e = refl
undone-second d (code ∷ second ∷ codes) e = rw e (ap (λ xs. d.first ∷ d.second ∷ xs) (from_two d d.first d.second codes))

pub length-after_one : (m x : ℤ) (codes : List ℕ) → length (after_one m x codes) ≡ length codes
length-after_one m x [] = refl
length-after_one m x (code ∷ codes) = ap suc (length-after_one m ((pos code +ℤ m) +ℤ x) codes)

pub length-after_two : (m x y : ℤ) (codes : List ℕ) → length (after_two m x y codes) ≡ length codes
length-after_two m x y [] = refl
length-after_two m x y (code ∷ codes) = ap suc (length-after_two m y (((pos code +ℤ m) +ℤ (pos 2 *ℤ y)) -ℤ x) codes)

-- a number that was added, and two that were added and taken away
plus_minus : (a b : ℤ) → ((a +ℤ b) -ℤ b) ≡ a
plus_minus a b = omega (arith, ints)

second_difference : (a x y : ℤ) → (((((a +ℤ (pos 2 *ℤ y)) -ℤ x) -ℤ (pos 2 *ℤ y)) +ℤ x)) ≡ a
second_difference a x y = omega (arith, ints)

solved_one : (a x y : ℤ) → (y -ℤ x) ≡ a → y ≡ (a +ℤ x)
solved_one a x y e = omega (arith, ints)

solved_two : (a x y z : ℤ) → ((z -ℤ (pos 2 *ℤ y)) +ℤ x) ≡ a → z ≡ ((a +ℤ (pos 2 *ℤ y)) -ℤ x)
solved_two a x y z e = omega (arith, ints)

-- the difference of two neighbours, and the second difference of three
pub difference_one : (m x : ℤ) (codes : List ℕ) (k : ℕ) → k < length codes
    → (get_or (after_one m x codes) k (pos 0) -ℤ get_or (x ∷ after_one m x codes) k (pos 0)) ≡ (pos (get_or codes k 0) +ℤ m)
difference_one m x [] k h = absurd (omega arith)
difference_one m x (code ∷ codes) zero h = plus_minus (pos code +ℤ m) x
difference_one m x (code ∷ codes) (suc k) h = difference_one m ((pos code +ℤ m) +ℤ x) codes k (omega arith)

pub difference_two : (m x y : ℤ) (codes : List ℕ) (k : ℕ) → k < length codes
    → ((get_or (after_two m x y codes) k (pos 0) -ℤ (pos 2 *ℤ get_or (y ∷ after_two m x y codes) k (pos 0))) +ℤ get_or (x ∷ y ∷ after_two m x y codes) k (pos 0)) ≡ (pos (get_or codes k 0) +ℤ m)
difference_two m x y [] k h = absurd (omega arith)
difference_two m x y (code ∷ codes) zero h = second_difference (pos code +ℤ m) x y
difference_two m x y (code ∷ codes) (suc k) h = difference_two m y (((pos code +ℤ m) +ℤ (pos 2 *ℤ y)) -ℤ x) codes k (omega arith)

-- numbers with these differences are the ones that the codes tell
pub only_after_one : (m x : ℤ) (codes : List ℕ) (xs : List ℤ) → length xs ≡ length codes
    → ((k : ℕ) → k < length xs → (get_or xs k (pos 0) -ℤ get_or (x ∷ xs) k (pos 0)) ≡ (pos (get_or codes k 0) +ℤ m))
    → xs ≡ after_one m x codes
only_after_one m x [] [] e h = refl
only_after_one m x [] (y ∷ xs) e h = absurd (omega arith)
only_after_one m x (code ∷ codes) [] e h = absurd (omega arith)
only_after_one m x (code ∷ codes) (y ∷ xs) e h =
    let here : y ≡ ((pos code +ℤ m) +ℤ x) = solved_one (pos code +ℤ m) x y (h 0 (omega arith)) in
    let rest : xs ≡ after_one m y codes = only_after_one m y codes xs (omega arith) (λ k within. h (suc k) (omega arith)) in
    rw rest (rw here refl)

pub only_after_two : (m x y : ℤ) (codes : List ℕ) (xs : List ℤ) → length xs ≡ length codes
    → ((k : ℕ) → k < length xs
    → ((get_or xs k (pos 0) -ℤ (pos 2 *ℤ get_or (y ∷ xs) k (pos 0))) +ℤ get_or (x ∷ y ∷ xs) k (pos 0)) ≡ (pos (get_or codes k 0) +ℤ m))
    → xs ≡ after_two m x y codes
only_after_two m x y [] [] e h = refl
only_after_two m x y [] (z ∷ xs) e h = absurd (omega arith)
only_after_two m x y (code ∷ codes) [] e h = absurd (omega arith)
only_after_two m x y (code ∷ codes) (z ∷ xs) e h =
    let here : z ≡ (((pos code +ℤ m) +ℤ (pos 2 *ℤ y)) -ℤ x) = solved_two (pos code +ℤ m) x y z (h 0 (omega arith)) in
    let rest : xs ≡ after_two m y z codes = only_after_two m y z codes xs (omega arith) (λ k within. h (suc k) (omega arith)) in
    rw rest (rw here refl)
