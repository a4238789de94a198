-- Spatial differences (WMO-No. 306, Volume I.2, FM 92 GRIB edition 2, data template 7.3, code table 5.6):
-- numbers, told by the first ones, the overall minimum of their differences, and a code for each.
use Rattle.std.specs.Prelude.{◌≡◌, ℕ, ◌+◌, ◌-◌, ◌<◌, List, [], ◌∷◌, length, get_or, map, cond, Bool, nat_lt, int_lt, ◌==◌, ◌^◌, ℤ, pos, nat_abs, ◌+ℤ◌, ◌-ℤ◌, ◌*ℤ◌}
use Rattle.std.specs.List.{range_with_len}

-- The numbers xs have these codes: the first `order` of them are the first values, whatever their
-- codes are, and each further code and the minimum m make the difference of that order.
pub record Differenced (order : ℕ) (f1 f2 m : ℤ) (codes : List ℕ) (xs : List ℤ) : Type 0 where
  pub as_long : length xs ≡ length codes
  pub first : 0 < length xs → get_or xs 0 (pos 0) ≡ f1
  pub second : order ≡ 2 → 1 < length xs → get_or xs 1 (pos 0) ≡ f2
  pub order_1 : order ≡ 1 → (k : ℕ) → k + 1 < length xs
      → (get_or xs (k + 1) (pos 0) -ℤ get_or xs k (pos 0)) ≡ (pos (get_or codes (k + 1) 0) +ℤ m)
  pub order_2 : order ≡ 2 → (k : ℕ) → k + 2 < length xs
      → ((get_or xs (k + 2) (pos 0) -ℤ (pos 2 *ℤ get_or xs (k + 1) (pos 0))) +ℤ get_or xs k (pos 0)) ≡ (pos (get_or codes (k + 2) 0) +ℤ m)

-- what the codes are read with: the order, 1 or 2, the first values and the overall minimum
pub record Descriptors : Type 0 where
  pub order : ℕ
  pub first : ℤ
  pub second : ℤ
  pub minimum : ℤ

-- the numbers that the next one follows: none yet, one, or the last two
pub data Last : Type 0 where
  NoNumber : Last
  One : ℤ → Last
  Two : ℤ → ℤ → Last

-- the next number by its code
abbrev pub next_number : Descriptors → Last → ℕ → ℤ
next_number d NoNumber code = d.first
next_number d (One x) code = cond (d.order == 1) ((pos code +ℤ d.minimum) +ℤ x) d.second
next_number d (Two x y) code = ((pos code +ℤ d.minimum) +ℤ (pos 2 *ℤ y)) -ℤ x

-- and what the one after it follows
abbrev pub last_after : Descriptors → Last → ℤ → Last
last_after d NoNumber number = One number
last_after d (One x) number = cond (d.order == 1) (One number) (Two x number)
last_after d (Two x y) number = Two y number

-- The one list that has these codes, so that columns compute: a number for each code, after the last ones.
abbrev pub undone_from : Descriptors → Last → List ℕ → List ℤ
undone_from d last [] = []
undone_from d last (code ∷ codes) =
    let number = next_number d last code in
    number ∷ undone_from d (last_after d last number) codes

abbrev pub undone : Descriptors → List ℕ → List ℤ
undone d codes = undone_from d NoNumber codes

-- whether a number is outside plus and minus 2 ^ 60, which no scaled integer may be
abbrev pub is_beyond : ℤ → Bool
is_beyond x = nat_lt (2 ^ 60) (nat_abs x)

-- The way back: the difference of the number at place k, from 0, with those before it,
abbrev pub difference_at : ℕ → List ℤ → ℕ → ℤ
difference_at order xs k =
    cond (order == 1) (get_or xs k (pos 0) -ℤ get_or xs (k - 1) (pos 0))
    ((get_or xs k (pos 0) -ℤ (pos 2 *ℤ get_or xs (k - 1) (pos 0))) +ℤ get_or xs (k - 2) (pos 0))

-- the differences of all numbers but the first `order`,
abbrev pub differences : ℕ → List ℤ → List ℤ
differences order xs = map (difference_at order xs) (range_with_len order (length xs - order))

-- the least of some numbers, 0 for none,
abbrev pub lesser : ℤ → ℤ → ℤ
lesser x y = cond (int_lt y x) y x

abbrev pub least_of : ℤ → List ℤ → ℤ
least_of x [] = x
least_of x (y ∷ ys) = least_of (lesser x y) ys

abbrev pub least : List ℤ → ℤ
least [] = pos 0
least (x ∷ xs) = least_of x xs

-- what the numbers are told with, where a first value that does not exist is 0,
abbrev pub descriptors_of : ℕ → List ℤ → Descriptors
descriptors_of order xs = record {
  order = order;
  first = get_or xs 0 (pos 0);
  second = cond (order == 1) (pos 0) (get_or xs 1 (pos 0));
  minimum = least (differences order xs);
}

-- and a code for each of them: 0 for the first `order`
abbrev pub code_at : ℕ → List ℤ → ℕ → ℕ
code_at order xs k = cond (nat_lt k order) 0 (nat_abs (difference_at order xs k -ℤ least (differences order xs)))

abbrev pub difference_codes : ℕ → List ℤ → List ℕ
difference_codes order xs = map (code_at order xs) (range_with_len 0 (length xs))
