-- The line of a message of edition 1 that is printed piece by piece is the line.
use Rattle.std.proofs.Common.{◌≡◌, ℕ, suc, ◌+◌, ◌-◌, ◌^◌, Bool, true, false, IsTrue, ◌↔◌, List, [], ◌∷◌, ◌++◌, ℤ, pos, negsuc, ◌<ℤ◌, codes, length, replicate, unsigned_abs, refl, ap, ◌∙◌, arith, append_assoc, append-nil}
use Rattle.std.proofs.lemmas.Int.{ints}
use Rattle.std.specs.Int.{is_negative}
use Rattle.std.specs.Fmt.{decimal, padded_integral, format_spec, char_count}
use Rattle.grib_dyadic.proofs.Signs.{is_negative_iff}
use Rattle.grib_text.specs.Words.{filled_decimal, filled_signed_decimal}
use Rattle.grib_text.specs.Lines1.{time1_of, product1_of, origin1_text, grid1_text, product1_text, packing1_text, list_text1}
use Rattle.grib_text.proofs.Pieces.{padded-filled_decimal}

-- what `{:04}` and the like print of a number with sign
padded-by_sign : (width : ℕ) (negative : Bool) (z : ℤ) → IsTrue negative ↔ (z <ℤ pos 0) → padded_integral (format_spec 32 0 4 width (2 ^ 64 - 1)) negative [] (decimal (unsigned_abs z)) ≡ filled_signed_decimal width z
unfolding padded_integral char_count
padded-by_sign width true (pos n) h = let l = h.0 refl in absurd (omega (arith, ints))
padded-by_sign width true (negsuc n) h =
    let digits = decimal (suc n) in
    let e : width - length digits - 1 - 0 ≡ width - 1 - length digits = omega arith in
    let one : suc n ≡ n + 1 = omega arith in
    ap (λ k. 45 ∷ (replicate k 48 ++ (digits ++ []))) e ∙ ap (λ t. 45 ∷ (replicate (width - 1 - length digits) 48 ++ t)) (append-nil digits)
    ∙ ap (λ k. 45 ∷ filled_decimal (width - 1) k) one
padded-by_sign width false (pos n) h = padded-filled_decimal width n
padded-by_sign width false (negsuc n) h = let e : false ≡ true = h.1 (omega (arith, ints)) in cc

pub padded-filled_signed_decimal : (width : ℕ) (z : ℤ) → padded_integral (format_spec 32 0 4 width (2 ^ 64 - 1)) (is_negative z) [] (decimal (unsigned_abs z)) ≡ filled_signed_decimal width z
padded-filled_signed_decimal width z = padded-by_sign width (is_negative z) z (is_negative_iff z)

time1_of-regroup : (y m d h i : List ℕ) → y ++ (codes "-" ++ (m ++ (codes "-" ++ (d ++ (codes "T" ++ (h ++ (codes ":" ++ i))))))) ≡ y ++ codes "-" ++ m ++ codes "-" ++ d ++ codes "T" ++ h ++ codes ":" ++ i
time1_of-regroup y m d h i = simp append_assoc

-- a time is printed number by number
pub record IsTime1 (y : ℤ) (m d h i : ℕ) (ys ms ds hs is : List ℕ) : Type 0 where
  pub year : ys ≡ filled_signed_decimal 4 y
  pub month : ms ≡ filled_decimal 2 m
  pub day : ds ≡ filled_decimal 2 d
  pub hour : hs ≡ filled_decimal 2 h
  pub minute : is ≡ filled_decimal 2 i

pub time1_of-pieces : (y : ℤ) (m d h i : ℕ) (ys ms ds hs is : List ℕ) → IsTime1 y m d h i ys ms ds hs is → ys ++ (codes "-" ++ (ms ++ (codes "-" ++ (ds ++ (codes "T" ++ (hs ++ (codes ":" ++ is))))))) ≡ time1_of y m d h i
time1_of-pieces y m d h i ys ms ds hs is t =
    rw (t.year, t.month, t.day, t.hour, t.minute) (time1_of-regroup (filled_signed_decimal 4 y) (filled_decimal 2 m) (filled_decimal 2 d) (filled_decimal 2 h) (filled_decimal 2 i))

list_text1-regroup : (m o g p k : List ℕ) → m ++ (codes ".1 ed=1 " ++ (o ++ (codes " " ++ (g ++ (codes " " ++ (p ++ (codes " " ++ k))))))) ≡ m ++ codes ".1 ed=1 " ++ o ++ codes " " ++ g ++ codes " " ++ p ++ codes " " ++ k
list_text1-regroup m o g p k = simp append_assoc

pub list_text1-pieces : (message : List ℕ) (m : ℕ) (o g p k : List ℕ) → o ≡ origin1_text message → g ≡ grid1_text message → p ≡ product1_text message → k ≡ packing1_text message → decimal m ++ (codes ".1 ed=1 " ++ (o ++ (codes " " ++ (g ++ (codes " " ++ (p ++ (codes " " ++ k))))))) ≡ list_text1 message m
list_text1-pieces message m o g p k e f h j =
    rw (e, f, h, j) (list_text1-regroup (decimal m) (origin1_text message) (grid1_text message) (product1_text message) (packing1_text message))

product1_of-regroup : (v p u r a b t l : List ℕ) → (codes "param=" ++ (v ++ (codes "." ++ (p ++ (codes " unit=" ++ (u ++ (codes " range=" ++ (r ++ (codes " p1=" ++ (a ++ (codes " p2=" ++ b))))))))))) ++ (codes " level=" ++ (t ++ (codes ":" ++ l))) ≡ codes "param=" ++ v ++ codes "." ++ p ++ codes " unit=" ++ u ++ codes " range=" ++ r ++ codes " p1=" ++ a ++ codes " p2=" ++ b ++ codes " level=" ++ t ++ codes ":" ++ l
product1_of-regroup v p u r a b t l = simp append_assoc

-- the first twelve pieces are printed as one
pub product1_of-pieces : (v p u r a b t l : ℕ) → (codes "param=" ++ (decimal v ++ (codes "." ++ (decimal p ++ (codes " unit=" ++ (decimal u ++ (codes " range=" ++ (decimal r ++ (codes " p1=" ++ (decimal a ++ (codes " p2=" ++ decimal b))))))))))) ++ (codes " level=" ++ (decimal t ++ (codes ":" ++ decimal l))) ≡ product1_of v p u r a b t l
product1_of-pieces v p u r a b t l = product1_of-regroup (decimal v) (decimal p) (decimal u) (decimal r) (decimal a) (decimal b) (decimal t) (decimal l)
