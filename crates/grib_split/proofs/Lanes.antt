-- Lanes of numbers, one place at a time.
use Rattle.std.proofs.Common.{◌≡◌, ℕ, ◌+◌, ◌-◌, ◌*◌, ◌%◌, ◌^◌, ◌<◌, ◌≤◌, ◌≢◌, ◌⊎◌, inl, inr, List, min, max, length, Bool, true, false, cond, refl, sym, ap, ap₂, ◌∙◌, subst, arith, get_or, map, nat_lt, nat_le, nat_eq}
use Rattle.std.specs.Prelude.{replicate, slice_index}
use Rattle.std.specs.Int.{bit_at}
use Rattle.std.specs.Simd.Lanes.{zip2, sel_l, mask_l, top, chunk, put_chunk}
use Rattle.std.proofs.lemmas.Simd.{tops_compared, get_or-sel_l, get_or-zip2, get_or-replicate, get_or-chunk, get_or-put_chunk_below, get_or-put_chunk_at, get_or-put_chunk_above, length-zip2, length-replicate, length-chunk, length-sel_l, bit_mask_l, mask_l-mod, mask_l-lt}
use Rattle.std.proofs.lemmas.Nat.{shl_whole, pow_pos, leading_length, leading_le}
use Rattle.std.proofs.lemmas.List.{get_or-map, length-map}
use Rattle.std.proofs.lemmas.Nat.Bits.{bit_at_cat_high}
use Rattle.std.proofs.lemmas.Bool.{leb-false, eqb-true, eqb-false}
use Rattle.grib_packing.specs.Groupings.{digits}
use Rattle.grib_packing.proofs.Digits.{highest}
use Rattle.grib_packing.proofs.Digits.{digits-is}
use lib.Count.{count_leading_zeros}
use mir.Syntax.{Width, w32}
use mir.Val.{bits, hbits}

-- the place of a test of two lists
test_at : (n : ℕ) (t : ℕ → ℕ → Bool) (xs ys : List ℕ) (place : ℕ) → length xs ≡ n → length ys ≡ n → place < n
    → get_or (zip2 t xs ys) place false ≡ t (get_or xs place 0) (get_or ys place 0)
test_at n t xs ys place a b within = get_or-zip2 t xs ys place 0 0 false (omega arith) (omega arith)

-- the bit of a test
pub bit_of_test : (n : ℕ) (w : Width) (t : ℕ → ℕ → Bool) (xs ys : List ℕ) (place : ℕ) → n ≤ 64 → length xs ≡ n → length ys ≡ n → place < n
    → bit_at (mask_l (map (top (hbits w)) (zip2 (λ a b. cond (t a b) (2 ^ bits w - 1) 0) xs ys)) % 2 ^ 64) place
    ≡ cond (t (get_or xs place 0) (get_or ys place 0)) 1 0
bit_of_test n w t xs ys place most a b within =
    let tests = zip2 t xs ys in
    let long : length tests ≡ n = length-zip2 t xs ys (omega arith) ∙ a in
    ap (λ ms. bit_at (mask_l ms % 2 ^ 64) place) (tops_compared w t xs ys)
    ∙ (ap (λ m. bit_at m place) (mask_l-mod tests 64 (omega arith))
    ∙ (bit_mask_l tests place ∙ ap (λ m. cond m 1 0) (test_at n t xs ys place a b within)))

-- the place of a selection by a test
sel_at : (n : ℕ) (t : ℕ → ℕ → Bool) (xs ys us vs : List ℕ) (place : ℕ) → length xs ≡ n → length ys ≡ n → length us ≡ n → length vs ≡ n → place < n
    → get_or (sel_l (map (top (hbits w32)) (zip2 (λ a b. cond (t a b) (2 ^ bits w32 - 1) 0) xs ys)) us vs) place 0
    ≡ cond (t (get_or xs place 0) (get_or ys place 0)) (get_or us place 0) (get_or vs place 0)
sel_at n t xs ys us vs place a b d e within =
    let tests = zip2 t xs ys in
    let long : length tests ≡ n = length-zip2 t xs ys (omega arith) ∙ a in
    ap (λ ms. get_or (sel_l ms us vs) place 0) (tops_compared w32 t xs ys)
    ∙ (get_or-sel_l tests us vs place 0 (omega arith) (omega arith) (omega arith)
    ∙ ap (λ m. cond m (get_or us place 0) (get_or vs place 0)) (test_at n t xs ys place a b within))

lesser : (x y : ℕ) → cond (nat_lt x y) x y ≡ min x y
lesser x y = grind arith

greater : (x y : ℕ) → cond (nat_lt x y) y x ≡ max x y
greater x y = grind arith

lesser_lane : (n : ℕ) (xs : List ℕ) (x place : ℕ) → length xs ≡ n → place < n
    → get_or (sel_l (map (top (hbits w32)) (zip2 (λ a b. cond (nat_lt a b) (2 ^ bits w32 - 1) 0) xs (replicate n x))) xs (replicate n x)) place 0
    ≡ min (get_or xs place 0) x
lesser_lane n xs x place a within =
    let m = length-replicate n x in
    sel_at n nat_lt xs (replicate n x) xs (replicate n x) place a m a m within
    ∙ (ap (λ y. cond (nat_lt (get_or xs place 0) y) (get_or xs place 0) y) (get_or-replicate n place x 0 within) ∙ lesser (get_or xs place 0) x)

greater_lane : (n : ℕ) (xs : List ℕ) (x place : ℕ) → length xs ≡ n → place < n
    → get_or (sel_l (map (top (hbits w32)) (zip2 (λ a b. cond (nat_lt a b) (2 ^ bits w32 - 1) 0) xs (replicate n x))) (replicate n x) xs) place 0
    ≡ max (get_or xs place 0) x
greater_lane n xs x place a within =
    let m = length-replicate n x in
    sel_at n nat_lt xs (replicate n x) (replicate n x) xs place a m m a within
    ∙ (ap (λ y. cond (nat_lt (get_or xs place 0) y) y (get_or xs place 0)) (get_or-replicate n place x 0 within) ∙ greater (get_or xs place 0) x)

-- how many lanes a selection has
long_sel : (n : ℕ) (t : ℕ → ℕ → Bool) (xs ys us vs : List ℕ) → length xs ≡ n → length ys ≡ n → length us ≡ n → length vs ≡ n
    → length (sel_l (map (top (hbits w32)) (zip2 (λ a b. cond (t a b) (2 ^ bits w32 - 1) 0) xs ys)) us vs) ≡ n
long_sel n t xs ys us vs a b d e =
    let tests = zip2 t xs ys in
    let long : length tests ≡ n = length-zip2 t xs ys (omega arith) ∙ a in
    ap (λ ms. length (sel_l ms us vs)) (tops_compared w32 t xs ys) ∙ (length-sel_l tests us vs (omega arith) (omega arith) ∙ long)

-- ---- 16 lanes among more numbers

-- a place among them
loaded : (xs : List ℕ) (i place : ℕ) → i ≤ place → place < i + 16 → get_or (chunk i 16 xs) (place - i) 0 ≡ get_or xs place 0
loaded xs i place from to =
    let here : i + (place - i) ≡ place = omega arith in
    get_or-chunk i 16 xs (place - i) 0 (omega arith) ∙ ap (λ k. get_or xs k 0) here

stored : (xs ys : List ℕ) (i place : ℕ) → length ys ≡ 16 → i + 16 ≤ length xs → i ≤ place → place < i + 16
    → get_or (put_chunk i xs ys) place 0 ≡ get_or ys (place - i) 0
stored xs ys i place long fits from to =
    let here : place ≡ i + (place - i) = omega arith in
    ap (λ k. get_or (put_chunk i xs ys) k 0) here ∙ get_or-put_chunk_at i xs ys (place - i) 0 (omega arith) (omega arith)

-- a place that is not among them
not_stored : (xs ys : List ℕ) (i place : ℕ) → length ys ≡ 16 → (place < i) ⊎ (i + 16 ≤ place)
    → get_or (put_chunk i xs ys) place 0 ≡ get_or xs place 0
not_stored xs ys i place long (inl before) = get_or-put_chunk_below i xs ys place 0 before
not_stored xs ys i place long (inr behind) = get_or-put_chunk_above i xs ys place 0 (omega arith)

abbrev pub lesser_lanes : List ℕ → ℕ → List ℕ
lesser_lanes xs x = sel_l (map (top (hbits w32)) (zip2 (λ a b. cond (nat_lt a b) (2 ^ bits w32 - 1) 0) xs (replicate 16 x))) xs (replicate 16 x)

abbrev pub greater_lanes : List ℕ → ℕ → List ℕ
greater_lanes xs x = sel_l (map (top (hbits w32)) (zip2 (λ a b. cond (nat_lt a b) (2 ^ bits w32 - 1) 0) xs (replicate 16 x))) (replicate 16 x) xs

pub lesser_here : (xs : List ℕ) (x i place : ℕ) → i + 16 ≤ length xs → i ≤ place → place < i + 16
    → slice_index (put_chunk i xs (lesser_lanes (chunk i 16 xs) x)) place ≡ min (slice_index xs place) x
lesser_here xs x i place fits from to =
    let part = chunk i 16 xs in
    let long = length-chunk i 16 xs fits in
    let m = length-replicate 16 x in
    stored xs (lesser_lanes part x) i place (long_sel 16 nat_lt part (replicate 16 x) part (replicate 16 x) long m long m) fits from to
    ∙ (lesser_lane 16 part x (place - i) long (omega arith) ∙ ap (λ y. min y x) (loaded xs i place from to))

pub lesser_others : (xs : List ℕ) (x i place : ℕ) → i + 16 ≤ length xs → (place < i) ⊎ (i + 16 ≤ place)
    → slice_index (put_chunk i xs (lesser_lanes (chunk i 16 xs) x)) place ≡ slice_index xs place
lesser_others xs x i place fits out =
    let part = chunk i 16 xs in
    let long = length-chunk i 16 xs fits in
    let m = length-replicate 16 x in
    not_stored xs (lesser_lanes part x) i place (long_sel 16 nat_lt part (replicate 16 x) part (replicate 16 x) long m long m) out

pub greater_here : (xs : List ℕ) (x i place : ℕ) → i + 16 ≤ length xs → i ≤ place → place < i + 16
    → slice_index (put_chunk i xs (greater_lanes (chunk i 16 xs) x)) place ≡ max (slice_index xs place) x
greater_here xs x i place fits from to =
    let part = chunk i 16 xs in
    let long = length-chunk i 16 xs fits in
    let m = length-replicate 16 x in
    stored xs (greater_lanes part x) i place (long_sel 16 nat_lt part (replicate 16 x) (replicate 16 x) part long m m long) fits from to
    ∙ (greater_lane 16 part x (place - i) long (omega arith) ∙ ap (λ y. max y x) (loaded xs i place from to))

pub greater_others : (xs : List ℕ) (x i place : ℕ) → i + 16 ≤ length xs → (place < i) ⊎ (i + 16 ≤ place)
    → slice_index (put_chunk i xs (greater_lanes (chunk i 16 xs) x)) place ≡ slice_index xs place
greater_others xs x i place fits out =
    let part = chunk i 16 xs in
    let long = length-chunk i 16 xs fits in
    let m = length-replicate 16 x in
    not_stored xs (greater_lanes part x) i place (long_sel 16 nat_lt part (replicate 16 x) (replicate 16 x) part long m m long) out

pub eq_bit : (w : Width) (xs : List ℕ) (x place : ℕ) → length xs ≡ 64 → place < 64
    → bit_at (mask_l (map (top (hbits w)) (zip2 (λ a b. cond (nat_eq a b) (2 ^ bits w - 1) 0) xs (replicate 64 x))) % 2 ^ 64) place
    ≡ cond (nat_eq (get_or xs place 0) x) 1 0
eq_bit w xs x place a within =
    bit_of_test 64 w nat_eq xs (replicate 64 x) place (omega arith) a (length-replicate 64 x) within
    ∙ ap (λ y. cond (nat_eq (get_or xs place 0) y) 1 0) (get_or-replicate 64 place x 0 within)

abbrev bit : Bool → ℕ
bit b = cond b 1 0

set_true : (b : Bool) → bit b ≡ 1 → b ≡ true
set_true true e = refl
set_true false e = absurd (omega (arith, e))

unset_false : (b : Bool) → bit b ≡ 0 → b ≡ false
unset_false true e = absurd (omega (arith, e))
unset_false false e = refl

pub eq_set : (w : Width) (xs : List ℕ) (x place : ℕ) → length xs ≡ 64 → place < 64
    → bit_at (mask_l (map (top (hbits w)) (zip2 (λ a b. cond (nat_eq a b) (2 ^ bits w - 1) 0) xs (replicate 64 x))) % 2 ^ 64) place ≡ 1
    → slice_index xs place ≡ x
eq_set w xs x place a within set = eqb-true (get_or xs place 0) x (set_true (nat_eq (get_or xs place 0) x) (sym (eq_bit w xs x place a within) ∙ set))

pub eq_unset : (w : Width) (xs : List ℕ) (x place : ℕ) → length xs ≡ 64 → place < 64
    → bit_at (mask_l (map (top (hbits w)) (zip2 (λ a b. cond (nat_eq a b) (2 ^ bits w - 1) 0) xs (replicate 64 x))) % 2 ^ 64) place ≡ 0
    → slice_index xs place ≢ x
eq_unset w xs x place a within unset = eqb-false (get_or xs place 0) x (unset_false (nat_eq (get_or xs place 0) x) (sym (eq_bit w xs x place a within) ∙ unset))

-- ---- the places where a difference is not below the limit

-- a bit of 16, moved up
moved : (m i place : ℕ) → m < 2 ^ 16 → i + 16 ≤ 64 → i ≤ place → bit_at (m * 2 ^ i % 2 ^ 64) place ≡ bit_at m (place - i)
moved m i place small fits from =
    ap (λ n. bit_at n place) (shl_whole m 16 i 64 small (omega arith) ∙ plus_none (m * 2 ^ i)) ∙ bit_at_cat_high m i 0 place (pow_pos i) from
  where
    plus_none : (n : ℕ) → n ≡ n + 0
    plus_none n = omega arith

-- the bits of 16 tests
small_mask : (t : ℕ → ℕ → Bool) (xs ys : List ℕ) → length xs ≡ 16 → length ys ≡ 16
    → mask_l (map (top (hbits w32)) (zip2 (λ a b. cond (t a b) (2 ^ bits w32 - 1) 0) xs ys)) % 2 ^ 64 < 2 ^ 16
small_mask t xs ys a b =
    let tests = zip2 t xs ys in
    let long : length tests ≡ 16 = length-zip2 t xs ys (omega arith) ∙ a in
    let is = ap (λ ms. mask_l ms % 2 ^ 64) (tops_compared w32 t xs ys) ∙ mask_l-mod tests 64 (omega arith) in
    let P : ℕ → Type 0 = λ n. mask_l tests < 2 ^ n in
    let below : mask_l tests < 2 ^ 16 = subst P long (mask_l-lt tests) in
    omega (arith, is, below)

-- each bit that is not set has a difference below the limit
pub apart_lane : (f : ℕ → ℕ → ℕ) (gs ls ms : List ℕ) (i place : ℕ) → i + 16 ≤ 64
    → i + 16 ≤ length gs → i + 16 ≤ length ls → i + 16 ≤ length ms → i ≤ place → place < i + 16
    → f (get_or gs place 0) (get_or ls place 0) ≡ get_or gs place 0 - get_or ls place 0
    → bit_at (mask_l (map (top (hbits w32)) (zip2 (λ a b. cond (nat_le a b) (2 ^ bits w32 - 1) 0) (chunk i 16 ms) (zip2 f (chunk i 16 gs) (chunk i 16 ls)))) % 2 ^ 64 * 2 ^ i % 2 ^ 64) place ≡ 0
    → slice_index gs place - slice_index ls place < slice_index ms place
apart_lane f gs ls ms i place fits a b d from to same unset =
    let long_g = length-chunk i 16 gs a in
    let long_l = length-chunk i 16 ls b in
    let long_m = length-chunk i 16 ms d in
    let spread = zip2 f (chunk i 16 gs) (chunk i 16 ls) in
    let long : length spread ≡ 16 = length-zip2 f (chunk i 16 gs) (chunk i 16 ls) (omega arith) ∙ long_g in
    let mask = mask_l (map (top (hbits w32)) (zip2 (λ a b. cond (nat_le a b) (2 ^ bits w32 - 1) 0) (chunk i 16 ms) spread)) % 2 ^ 64 in
    let k = place - i in
    let bit_is : bit_at mask k ≡ cond (nat_le (get_or (chunk i 16 ms) k 0) (get_or spread k 0)) 1 0 = bit_of_test 16 w32 nat_le (chunk i 16 ms) spread k (omega arith) long_m long (omega arith) in
    let small : mask < 2 ^ 16 = small_mask nat_le (chunk i 16 ms) spread long_m long in
    let is = unset_false (nat_le (get_or (chunk i 16 ms) k 0) (get_or spread k 0)) (sym bit_is ∙ (sym (moved mask i place small fits from) ∙ unset)) in
    let less = leb-false (get_or (chunk i 16 ms) k 0) (get_or spread k 0) is in
    let here : get_or spread k 0 ≡ f (get_or gs place 0) (get_or ls place 0) =
    get_or-zip2 f (chunk i 16 gs) (chunk i 16 ls) k 0 0 0 (omega arith) (omega arith) ∙ ap₂ f (loaded gs i place from to) (loaded ls i place from to) in
    omega (arith, less, here, same, loaded ms i place from to)

-- ---- the bits of numbers of 16 bits

zeros_digits : (a : ℕ) → a < 2 ^ 16 → 16 - count_leading_zeros 16 a ≡ digits a
zeros_digits a small =
    let found = leading_length 16 a small in
    let m = found.0 in
    let fits = found.1 in
    let below = found.2 in
    let least = found.3 in
    omega (arith, fits, digits-is a m (omega (arith, fits)) below (λ some. highest a m least some))

-- lanes go round
abbrev pub minus_32 : ℕ → ℕ → ℕ
minus_32 x y = (x + (4294967296 - y)) % 4294967296

abbrev pub minus_16 : ℕ → ℕ → ℕ
minus_16 x y = (x + (65536 - y)) % 65536

-- a number that fits is cast as it is
abbrev pub as_it_is : ℕ → ℕ
as_it_is x = x

-- the bits of a difference
pub digits_in_lane : (high low : ℕ) → low ≤ high → high < 65536 → minus_16 16 (count_leading_zeros 16 (minus_32 high low)) ≡ digits (high - low)
digits_in_lane high low order small =
    let inner : minus_32 high low ≡ high - low = omega (arith, order, small) in
    ap (λ n. minus_16 16 (count_leading_zeros 16 n)) inner
    ∙ omega (arith, leading_le 16 (high - low), zeros_digits (high - low) (omega (arith, order, small)))

-- differences that 16 bits hold
pub narrow_lane : (gs ls : List ℕ) (i p : ℕ) → i + 16 ≤ length gs → i + 16 ≤ length ls
    → ((place : ℕ) → i ≤ place → place < i + 16 → slice_index ls place ≤ slice_index gs place)
    → ((place : ℕ) → i ≤ place → place < i + 16 → slice_index gs place < 65536)
    → p < length (zip2 minus_32 (chunk i 16 gs) (chunk i 16 ls)) → get_or (zip2 minus_32 (chunk i 16 gs) (chunk i 16 ls)) p 0 < 65536
narrow_lane gs ls i p a b order small within =
    let long_g = length-chunk i 16 gs a in
    let long_l = length-chunk i 16 ls b in
    let long = length-zip2 minus_32 (chunk i 16 gs) (chunk i 16 ls) (omega (arith, long_g, long_l)) in
    let here = get_or-zip2 minus_32 (chunk i 16 gs) (chunk i 16 ls) p 0 0 0 (omega (arith, within, long)) (omega (arith, within, long, long_g, long_l)) in
    let at_g : get_or (chunk i 16 gs) p 0 ≡ slice_index gs (i + p) = get_or-chunk i 16 gs p 0 (omega (arith, within, long, long_g)) in
    let at_l : get_or (chunk i 16 ls) p 0 ≡ slice_index ls (i + p) = get_or-chunk i 16 ls p 0 (omega (arith, within, long, long_g)) in
    omega (arith, here, at_g, at_l, order (i + p) (omega arith) (omega (arith, within, long, long_g)), small (i + p) (omega arith) (omega (arith, within, long, long_g)))

pub zeros_lane : (xs : List ℕ) (p : ℕ) → p < length (map (count_leading_zeros 16) xs) → get_or (map (count_leading_zeros 16) xs) p 0 < 65536
zeros_lane xs p within =
    let at_p = get_or-map (count_leading_zeros 16) xs p 0 0 (omega (arith, within, length-map xs (count_leading_zeros 16))) in
    omega (arith, at_p, leading_le 16 (get_or xs p 0))

-- what is made of 16 lanes of two lists
abbrev made_lanes : (ℕ → ℕ → ℕ) → (ℕ → ℕ) → (ℕ → ℕ) → (ℕ → ℕ) → (ℕ → ℕ → ℕ) → List ℕ → List ℕ → List ℕ
made_lanes f g h j sub gs ls = zip2 sub (replicate 16 16) (map j (map h (map g (zip2 f gs ls))))

-- how many they are
long_inner : (f : ℕ → ℕ → ℕ) (g h j : ℕ → ℕ) (gs ls : List ℕ) → length gs ≡ 16 → length ls ≡ 16 → length (map j (map h (map g (zip2 f gs ls)))) ≡ 16
long_inner f g h j gs ls a b =
    let spread = zip2 f gs ls in
    length-map (map h (map g spread)) j ∙ (length-map (map g spread) h ∙ (length-map spread g ∙ (length-zip2 f gs ls (omega (arith, a, b)) ∙ a)))

long_made : (f : ℕ → ℕ → ℕ) (g h j : ℕ → ℕ) (sub : ℕ → ℕ → ℕ) (gs ls : List ℕ) → length gs ≡ 16 → length ls ≡ 16
    → length (made_lanes f g h j sub gs ls) ≡ 16
long_made f g h j sub gs ls a b =
    length-zip2 sub (replicate 16 16) (map j (map h (map g (zip2 f gs ls)))) (omega (arith, long_inner f g h j gs ls a b, length-replicate {A = ℕ} 16 16)) ∙ length-replicate {A = ℕ} 16 16

made_lane : (f : ℕ → ℕ → ℕ) (g h j : ℕ → ℕ) (sub : ℕ → ℕ → ℕ) (gs ls : List ℕ) (p : ℕ) → length gs ≡ 16 → length ls ≡ 16 → p < 16
    → get_or (made_lanes f g h j sub gs ls) p 0 ≡ sub 16 (j (h (g (f (get_or gs p 0) (get_or ls p 0)))))
made_lane f g h j sub gs ls p a b within =
    let spread = zip2 f gs ls in
    let long_spread : length spread ≡ 16 = length-zip2 f gs ls (omega (arith, a, b)) ∙ a in
    let long_g : length (map g spread) ≡ 16 = length-map spread g ∙ long_spread in
    let long_h : length (map h (map g spread)) ≡ 16 = length-map (map g spread) h ∙ long_g in
    let at_spread : get_or spread p 0 ≡ f (get_or gs p 0) (get_or ls p 0) = get_or-zip2 f gs ls p 0 0 0 (omega (arith, a, within)) (omega (arith, b, within)) in
    let at_g : get_or (map g spread) p 0 ≡ g (get_or spread p 0) = get_or-map g spread p 0 0 (omega (arith, long_spread, within)) in
    let at_h : get_or (map h (map g spread)) p 0 ≡ h (get_or (map g spread) p 0) = get_or-map h (map g spread) p 0 0 (omega (arith, long_g, within)) in
    let at_j : get_or (map j (map h (map g spread))) p 0 ≡ j (get_or (map h (map g spread)) p 0) = get_or-map j (map h (map g spread)) p 0 0 (omega (arith, long_h, within)) in
    get_or-zip2 sub (replicate 16 16) (map j (map h (map g spread))) p 0 0 0 (omega (arith, length-replicate {A = ℕ} 16 16, within)) (omega (arith, long_inner f g h j gs ls a b, within))
    ∙ ap₂ sub (get_or-replicate 16 p 16 0 within) (at_j ∙ ap j (at_h ∙ ap h (at_g ∙ ap g at_spread)))

pub made_here : (f : ℕ → ℕ → ℕ) (g h j : ℕ → ℕ) (sub : ℕ → ℕ → ℕ) (gs ls ws : List ℕ) (i place : ℕ) → i + 16 ≤ length gs → i + 16 ≤ length ls → i + 16 ≤ length ws
    → i ≤ place → place < i + 16
    → slice_index (put_chunk i ws (made_lanes f g h j sub (chunk i 16 gs) (chunk i 16 ls))) place ≡ sub 16 (j (h (g (f (slice_index gs place) (slice_index ls place)))))
made_here f g h j sub gs ls ws i place a b d from to =
    let long_g = length-chunk i 16 gs a in
    let long_l = length-chunk i 16 ls b in
    stored ws (made_lanes f g h j sub (chunk i 16 gs) (chunk i 16 ls)) i place (long_made f g h j sub (chunk i 16 gs) (chunk i 16 ls) long_g long_l) d from to
    ∙ (made_lane f g h j sub (chunk i 16 gs) (chunk i 16 ls) (place - i) long_g long_l (omega (arith, from, to))
    ∙ ap₂ (λ x y. sub 16 (j (h (g (f x y))))) (loaded gs i place from to) (loaded ls i place from to))

pub made_others : (f : ℕ → ℕ → ℕ) (g h j : ℕ → ℕ) (sub : ℕ → ℕ → ℕ) (gs ls ws : List ℕ) (i place : ℕ) → i + 16 ≤ length gs → i + 16 ≤ length ls
    → (place < i) ⊎ (i + 16 ≤ place) → slice_index (put_chunk i ws (made_lanes f g h j sub (chunk i 16 gs) (chunk i 16 ls))) place ≡ slice_index ws place
made_others f g h j sub gs ls ws i place a b out =
    not_stored ws (made_lanes f g h j sub (chunk i 16 gs) (chunk i 16 ls)) i place
    (long_made f g h j sub (chunk i 16 gs) (chunk i 16 ls) (length-chunk i 16 gs a) (length-chunk i 16 ls b)) out
