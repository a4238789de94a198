-- Lemmas on points that are written one after another.
use Rattle.std.proofs.Common.{◌≡◌, ℕ, zero, suc, ◌+◌, ◌*◌, ◌%◌, ◌^◌, ◌<◌, ◌≤◌, Bool, true, false, not, ℤ, nat_abs, List, [], ◌∷◌, ◌++◌, length, take, drop, get_or, replicate, bit_or, All, refl, sym, ap, ap₂, ◌∙◌, arith, append_assoc, subst, drop-cons}
use Rattle.std.specs.List.{list_any}
use Rattle.std.proofs.lemmas.List.{take_more, map-append}
use Rattle.std.proofs.lemmas.List.Elements.{All-head, All-tail}
use Rattle.grib_bits.specs.Bits.{bits, bits_of, digit}
use Rattle.grib_bits.specs.Written.{Written, padding}
use Rattle.grib_bits.proofs.Numbers.{length-bits_of, bits_of-shl_or, shl_or-lt}
use Rattle.grib_packing.specs.declared.column.Point.{Point}
use Rattle.grib_packing.specs.declared.column.Point.TheVariants.{Scaled, Missing, Missing2}
use Rattle.grib_packing.specs.Misfits.{is_missing, is_missing2}
use Rattle.grib_packing.specs.Packed.{fields, padded, present_bits, simple_numbers}
use Rattle.grib_packing.proofs.Left.{Left, left_more, left_room, padding-behind}

-- ---- bits of points in a word

one_bit : (b : Bool) → bits_of 1 (digit b) ≡ b ∷ []
one_bit true = refl
one_bit false = refl

module _ (points : List Point) (i word bit : ℕ) (d : Point) (within : i < length points) (few : i < 64) (is : bit ≡ digit (not (is_missing (get_or points i d)))) (small : bit < 2) where
  pub word_bits : bits_of i word ≡ present_bits (take i points)
      → bits_of (i + 1) (bit_or (word * 2 ^ 1 % 2 ^ 64) bit) ≡ present_bits (take (i + 1) points)
  word_bits before =
      bits_of-shl_or i 1 word bit (omega arith) small
      ∙ ap₂ ◌++◌ before (ap (bits_of 1) is ∙ one_bit (not (is_missing (get_or points i d))))
      ∙ sym (map-append (λ point. not (is_missing point)) (take i points) (get_or points i d ∷ []))
      ∙ ap present_bits (sym (take_more points i d within))

  pub word_lt : word < 2 ^ i → bit_or (word * 2 ^ 1 % 2 ^ 64) bit < 2 ^ (i + 1)
  word_lt before = shl_or-lt i 1 word bit (omega arith) before small

-- ---- no scaled integers

pub all_missing : (points : List Point) → list_any is_missing2 points ≡ false → length (simple_numbers points) ≡ 0
    → present_bits points ≡ replicate (length points) false
all_missing [] one_kind none = refl
all_missing (Scaled x ∷ points) one_kind none = absurd (cc)
all_missing (Missing ∷ points) one_kind none = ap (λ (bs : List Bool). false ∷ bs) (all_missing points one_kind none)
all_missing (Missing2 ∷ points) one_kind none = absurd (cc)

-- ---- scaled integers

module _ (points : List Point) (i : ℕ) (d : Point) (within : i < length points) where
  rest_is : (point : Point) → get_or points i d ≡ point → drop i points ≡ point ∷ drop (i + 1) points
  rest_is point is =
      let next : suc i ≡ i + 1 = omega arith in
      drop-cons points i d within ∙ ap₂ (λ (p : Point) (k : ℕ). p ∷ drop k points) is next

  pub numbers_here : (x : ℤ) → get_or points i d ≡ Scaled x → simple_numbers (drop i points) ≡ nat_abs x ∷ simple_numbers (drop (i + 1) points)
  numbers_here x is = ap simple_numbers (rest_is (Scaled x) is)

  pub numbers_later : ((x : ℤ) → get_or points i d ≡ Scaled x → ⊥) → simple_numbers (drop i points) ≡ simple_numbers (drop (i + 1) points)
  numbers_later none = go (get_or points i d) refl where
    go : (point : Point) → get_or points i d ≡ point → simple_numbers (drop i points) ≡ simple_numbers (drop (i + 1) points)
    go (Scaled x) is = absurd (none x is)
    go Missing is = ap simple_numbers (rest_is Missing is)
    go Missing2 is = ap simple_numbers (rest_is Missing2 is)

pub number_more : (w : ℕ) (start now after : Written) (whole : List Bool) (number : ℕ) (left left_now : List ℕ) → left_now ≡ number ∷ left
    → Left start now whole (fields w left_now) → after.bits ≡ now.bits ++ bits_of w number → after.spare + w ≡ now.spare
    → Left start after whole (fields w left)
number_more w start now after whole number left left_now is so_far bits spare =
    left_more start now after whole (bits_of w number) (fields w left) (fields w left_now) (ap (fields w) is) so_far bits (omega (arith, spare, length-bits_of w number))

pub number_room : (w : ℕ) (start now : Written) (whole : List Bool) (number : ℕ) (left left_now : List ℕ) → left_now ≡ number ∷ left
    → Left start now whole (fields w left_now) → length whole ≤ start.spare → w ≤ now.spare
number_room w start now whole number left left_now is so_far room =
    omega (arith, left_room start now whole (bits_of w number) (fields w left) (fields w left_now) (ap (fields w) is) so_far room, length-bits_of w number)

-- what holds of all numbers holds of those of the points that are left
tail_numbers : (P : ℕ → Type 0) (point : Point) (points : List Point) → All P (simple_numbers (point ∷ points)) → All P (simple_numbers points)
tail_numbers P (Scaled x) points each = All-tail P (nat_abs x) (simple_numbers points) each
tail_numbers P Missing points each = each
tail_numbers P Missing2 points each = each

pub left_numbers : (P : ℕ → Type 0) (i : ℕ) (points : List Point) → All P (simple_numbers points) → All P (simple_numbers (drop i points))
left_numbers P zero points each = each
left_numbers P (suc i) [] each = each
left_numbers P (suc i) (point ∷ points) each = left_numbers P i points (tail_numbers P point points each)

pub number_fits : (w number : ℕ) (left left_now : List ℕ) → left_now ≡ number ∷ left → All (λ n. n < 2 ^ w) left_now → number < 2 ^ w
number_fits w number left left_now is each = All-head (λ n. n < 2 ^ w) number left (subst (All (λ n. n < 2 ^ w)) is each)

-- ---- a section with its contents

pub contents_padded : (before contents now after : List Bool) → length before % 8 ≡ 0 → now ≡ before ++ contents → after ≡ now ++ replicate (padding now) false
    → after ≡ before ++ padded contents
contents_padded before contents now after even is_now is_after =
    is_after
    ∙ ap₂ (λ (xs : List Bool) (n : ℕ). xs ++ replicate n false) is_now (ap padding is_now ∙ padding-behind before contents even)
    ∙ append_assoc before contents (replicate (padding contents) false)
