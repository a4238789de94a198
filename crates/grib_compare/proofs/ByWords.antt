-- Points side by side by their words.
use Rattle.std.proofs.Common.{◌≡◌, ℕ, ◌+◌, ◌-◌, ◌^◌, ◌<◌, ◌≤◌, ◌==◌, Bool, true, false, cond, Option, Some, List, [], ◌∷◌, length, map, ℤ, pos, negsuc, neg_ℤ, ◌+ℤ◌, ◌-ℤ◌, ◌*ℤ◌, nat_abs, nat_lt, refl, sym, ap, ap₂, ◌∙◌, arith, subst, eq-eqb, eqb-true, ltb-false, le-ltb}
use Rattle.std.proofs.Math.Nat.{one-le-pow}
use Rattle.std.proofs.lemmas.Nat.{pow_pos}
use Rattle.std.proofs.lemmas.Int.{ints}
use Rattle.std.proofs.lemmas.List.{length-map}
use Rattle.std.specs.Int.{int_min, int_max}
use Rattle.std.specs.List.{list_any}
use Rattle.grib_base.specs.Rules.{choose}
use Rattle.grib_bits.specs.Bits.{bits_of, signed}
use Rattle.grib_dyadic.specs.Reference.{Binary, ieee, two_to_difference}
use Rattle.grib_dyadic.specs.Value.{value_of, Same}
use Rattle.grib_dyadic.specs.Meaning.{SamePoint}
use Rattle.grib_dyadic.proofs.Numbers.{times_cancel}
use Rattle.grib_packing.specs.declared.column.Column.{Column}
use Rattle.grib_packing.specs.declared.column.Point.{Point}
use Rattle.grib_packing.specs.declared.column.Point.TheVariants.{Scaled, Missing, Missing2}
use Rattle.grib_packing.specs.Misfits.{is_outside, is_scaled_outside}
use Rattle.grib_simple.proofs.Fitting.{parts_false}
use Rattle.grib_codes.specs.KeptWords.{word_for}
use Rattle.grib2_message.specs.Fields.{meaning_at}
use Rattle.grib_same.specs.Sameness.{is_same_point, difference_from, first_difference}
use Rattle.grib_same.proofs.Differences.{points_decide}
use Rattle.grib_same.proofs.Decisions.{same_tests}
use Rattle.grib_compare.specs.declared.comparison.Comparison.TheVariants.{Same as same, Shape}
use Rattle.grib_compare.specs.Fields.{octet_from, on_point, by_points}
use Rattle.grib_compare.specs.Words.{by_words}

-- ---- the words of points of which none is negative or above the greatest number

abbrev pub greatest : ℕ
greatest = 2 ^ 32 - 3

-- the word of a number is that number
number_word : (n : ℕ) → is_outside greatest (pos n) ≡ false → word_for (Scaled (pos n)) ≡ n
number_word n inside =
    let both = parts_false (nat_lt n 0) (nat_lt greatest n) inside in
    let few : n ≤ greatest = ltb-false greatest n both.1 in
    let fits : nat_lt (2 ^ 32 - 1) n ≡ false = le-ltb (2 ^ 32 - 1) n (omega (arith, few)) in
    let never : nat_lt n 0 ≡ false = both.0 in
    rw (never, fits) refl

number_few : (n : ℕ) → is_outside greatest (pos n) ≡ false → n ≤ greatest
number_few n inside = ltb-false greatest n (parts_false (nat_lt n 0) (nat_lt greatest n) inside).1

-- no number has the word of a missing point
number_marked : (n mark : ℕ) → is_outside greatest (pos n) ≡ false → greatest < mark → word_for (Scaled (pos n)) ≡ mark → ⊥
number_marked n mark inside above e = omega (arith, number_few n inside, above, sym (number_word n inside) ∙ e)

-- so a word is that of one point
pub one_point : (p q : Point) → is_scaled_outside greatest p ≡ false → is_scaled_outside greatest q ≡ false → word_for p ≡ word_for q → p ≡ q
one_point (Scaled (negsuc n)) q inside inside' e = absurd (cc)
one_point p (Scaled (negsuc n)) inside inside' e = absurd (cc)
one_point (Scaled (pos n)) (Scaled (pos m)) inside inside' e =
    ap (λ (k : ℕ). Scaled (pos k)) (sym (number_word n inside) ∙ e ∙ number_word m inside')
one_point (Scaled (pos n)) Missing inside inside' e = absurd (number_marked n (2 ^ 32 - 1) inside (omega arith) e)
one_point (Scaled (pos n)) Missing2 inside inside' e = absurd (number_marked n (2 ^ 32 - 2) inside (omega arith) e)
one_point Missing (Scaled (pos m)) inside inside' e = absurd (number_marked m (2 ^ 32 - 1) inside' (omega arith) (sym e))
one_point Missing Missing inside inside' e = refl
one_point Missing Missing2 inside inside' e = absurd (omega (arith, e))
one_point Missing2 (Scaled (pos m)) inside inside' e = absurd (number_marked m (2 ^ 32 - 2) inside' (omega arith) (sym e))
one_point Missing2 Missing inside inside' e = absurd (omega (arith, e))
one_point Missing2 Missing2 inside inside' e = refl

-- ---- what points mean by the same R, E and D

-- values that are the same have the same scaled number
one_number : (r : Binary) (e d x y : ℤ) → Same (value_of r e d x) (value_of r e d y) → x ≡ y
one_number r e d x y is =
    let t = int_min r.exponent e in
    let s = int_max (pos 0) (int_max (neg_ℤ t) (neg_ℤ t)) in
    let z = int_max (pos 0) (int_max d d) in
    let v = (value_of r e d x).number in
    let w = (value_of r e d y).number in
    let twos = 2 ^ nat_abs (t +ℤ s) in
    let tens = 10 ^ nat_abs (z -ℤ d) in
    let step = two_to_difference e t in
    let same_twos : v *ℤ pos twos ≡ w *ℤ pos twos =
    times_cancel (v *ℤ pos twos) (w *ℤ pos twos) tens (one-le-pow (nat_abs (z -ℤ d)) 10 (omega arith)) is in
    let same_sum : v ≡ w = times_cancel v w twos (pow_pos (nat_abs (t +ℤ s))) same_twos in
    times_cancel x y step (pow_pos (nat_abs (e -ℤ t))) (omega (arith, ints, same_sum))

one_meaning : (column : Column) (p q : Point) → SamePoint (meaning_at column p) (meaning_at column q) → p ≡ q
one_meaning column (Scaled x) (Scaled y) is = ap (λ (n : ℤ). Scaled n) (one_number (ieee column.reference) (signed (bits_of 16 column.e)) (signed (bits_of 16 column.d)) x y is)
one_meaning column (Scaled x) Missing is = absurd is
one_meaning column (Scaled x) Missing2 is = absurd is
one_meaning column Missing (Scaled y) is = absurd is
one_meaning column Missing Missing is = refl
one_meaning column Missing Missing2 is = absurd is
one_meaning column Missing2 (Scaled y) is = absurd is
one_meaning column Missing2 Missing is = absurd is
one_meaning column Missing2 Missing2 is = refl

meaning_itself : (column : Column) (p : Point) → SamePoint (meaning_at column p) (meaning_at column p)
meaning_itself column (Scaled x) = refl
meaning_itself column Missing = tt
meaning_itself column Missing2 = tt

-- what a point means by the same numbers
module _ (left right : Column) (reference : left.reference ≡ right.reference) (e_is : left.e ≡ right.e) (d_is : left.d ≡ right.d) where
  same_meaning : (q : Point) → meaning_at right q ≡ meaning_at left q
  same_meaning (Scaled x) = rw (reference, e_is, d_is) refl
  same_meaning Missing = refl
  same_meaning Missing2 = refl

  -- two points mean the same exactly where their words are the same
  point_test : (p q : Point) → is_scaled_outside greatest p ≡ false → is_scaled_outside greatest q ≡ false
      → is_same_point (meaning_at left p) (meaning_at right q) ≡ (word_for p == word_for q)
  point_test p q inside inside' =
      let means = points_decide (meaning_at left p) (meaning_at left q) in
      ap (is_same_point (meaning_at left p)) (same_meaning q)
      ∙ same_tests (p ≡ q) (is_same_point (meaning_at left p) (meaning_at left q)) (word_for p == word_for q)
      (λ is. one_meaning left p q (means.0 is), λ e. means.1 (subst (λ (o : Point). SamePoint (meaning_at left p) (meaning_at left o)) e (meaning_itself left p)))
      (λ is. one_point p q inside inside' (eqb-true (word_for p) (word_for q) is), λ e. eq-eqb (word_for p) (word_for q) (ap word_for e))

  first_word : (n : ℕ) (ps qs : List Point) → length ps ≡ length qs → list_any (is_scaled_outside greatest) ps ≡ false → list_any (is_scaled_outside greatest) qs ≡ false
      → difference_from n (map (meaning_at left) ps) (map (meaning_at right) qs) ≡ octet_from n (map word_for ps) (map word_for qs)
  first_word n [] [] long inside inside' = refl
  first_word n [] (q ∷ qs) long inside inside' = absurd (omega arith)
  first_word n (p ∷ ps) [] long inside inside' = absurd (omega arith)
  first_word n (p ∷ ps) (q ∷ qs) long inside inside' =
      let here = parts_false (is_scaled_outside greatest p) (list_any (is_scaled_outside greatest) ps) inside in
      let there = parts_false (is_scaled_outside greatest q) (list_any (is_scaled_outside greatest) qs) inside' in
      ap₂ (λ (t : Bool) (o : Option ℕ). cond t o (Some n)) (point_test p q here.0 there.0) (first_word (n + 1) ps qs (omega arith) here.1 there.1)

  -- so the words tell what is said of the points
  pub words_tell : (ps qs : List Point) → list_any (is_scaled_outside greatest) ps ≡ false → list_any (is_scaled_outside greatest) qs ≡ false
      → by_points (map (meaning_at left) ps) (map (meaning_at right) qs) same ≡ by_words (map word_for ps) (map word_for qs)
  words_tell ps qs inside inside' =
      ap₂ (λ (n k : ℕ). choose (n == k) (λ _. on_point (first_difference (map (meaning_at left) ps) (map (meaning_at right) qs)) same) (λ _. Shape n k))
      (length-map ps (meaning_at left)) (length-map qs (meaning_at right))
      ∙ go (length ps == length qs) refl
      ∙ sym
      (ap₂ (λ (n k : ℕ). choose (n == k) (λ _. on_point (octet_from 1 (map word_for ps) (map word_for qs)) same) (λ _. Shape n k))
      (length-map ps word_for) (length-map qs word_for))
    where
      go : (b : Bool) → (length ps == length qs) ≡ b
          → choose b (λ _. on_point (first_difference (map (meaning_at left) ps) (map (meaning_at right) qs)) same) (λ _. Shape (length ps) (length qs))
          ≡ choose b (λ _. on_point (octet_from 1 (map word_for ps) (map word_for qs)) same) (λ _. Shape (length ps) (length qs))
      go true is = ap (λ o. on_point o same) (first_word 1 ps qs (eqb-true (length ps) (length qs) is) inside inside')
      go false is = refl
