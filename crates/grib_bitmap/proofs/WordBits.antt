-- Lemmas on the bits of words of 64.
use Rattle.std.proofs.Common.{◌≡◌, ℕ, zero, suc, ◌+◌, ◌-◌, ◌*◌, ◌/◌, ◌%◌, ◌^◌, ◌<◌, ◌≤◌, min, Bool, true, false, not, cond, eqb, List, [], ◌∷◌, ◌++◌, map, length, take, drop, get_or, replicate, Some, option_map, slice_get, ◌≢◌, bit_and, refl, sym, ap, ap₂, ◌∙◌, subst, inl, inr, arith, mod-eq_of_lt, one-add, zero-add, pow-suc, append_assoc}
use Rattle.std.proofs.lemmas.List.{length-append, append-nil, length-take-le, length-drop, length-map, length-replicate, take-append-drop, take_at, take_all, length-take, take-append-le, take-replicate, drop_at, drop-drop, drop-map, map-append, drop_more, take_more, get_or-take, get_or_append_left, get_or-append_right, get_or-drop}
use Rattle.std.proofs.lemmas.List.Sums.{sum_by-cons, count_by-le-length}
use Rattle.std.proofs.lemmas.Nat.{shr_below, shl_whole, leading_length, ones-le, ones_cat, div-add-mod', mod_below, pow_pos, le-div}
use Rattle.std.proofs.lemmas.Nat.Bits.{shr_and_one}
use Rattle.std.proofs.lemmas.Option.{slice_get-get_or, slice_get-map, get_or_from_slice_get, slice_get_within}
use Rattle.std.proofs.lemmas.Bool.{cases_lt, false≢true}
use lib.Count.{ones, ones_step, count_leading_zeros}
use Rattle.grib_bits.specs.Bits.{bits_of, num, digit}
use Rattle.grib_bits.proofs.Numbers.{length-bits_of, num-bits_of, bits_of-num, bits_of-mod, bits_of-add, bits_of-join, bits_of-zero, drop-bits_of}
use Rattle.grib_bitmap.specs.Mask.{present_count}
use Rattle.grib_bitmap.specs.Words.{word_bits, bits_of_words, word_padding, HoldBits}
use Rattle.grib_bitmap.proofs.Runs.{present_count-append, present_count-replicate}

-- ---- lengths and parts

pub word_bits-is : (k word : ℕ) → k ≡ 64 → word_bits word ≡ bits_of k word
unfolding word_bits
word_bits-is k word e = ap (λ (j : ℕ). bits_of j word) (sym e)

length-word_bits_at : (k word : ℕ) → k ≡ 64 → length (word_bits word) ≡ 64
length-word_bits_at k word e = ap length (word_bits-is k word e) ∙ length-bits_of k word ∙ e

pub length-word_bits : (word : ℕ) → length (word_bits word) ≡ 64
length-word_bits word = length-word_bits_at 64 word refl

pub bits_of_words-append : (xs ys : List ℕ) → bits_of_words (xs ++ ys) ≡ bits_of_words xs ++ bits_of_words ys
bits_of_words-append [] ys = refl
bits_of_words-append (x ∷ xs) ys =
    ap (λ (r : List Bool). word_bits x ++ r) (bits_of_words-append xs ys) ∙ sym (append_assoc (word_bits x) (bits_of_words xs) (bits_of_words ys))

pub bits_of_words_push : (xs : List ℕ) (word : ℕ) → bits_of_words (xs ++ word ∷ []) ≡ bits_of_words xs ++ word_bits word
bits_of_words_push xs word = bits_of_words-append xs (word ∷ []) ∙ ap (λ (r : List Bool). bits_of_words xs ++ r) (append-nil (word_bits word))

pub length-bits_of_words : (xs : List ℕ) → length (bits_of_words xs) ≡ 64 * length xs
length-bits_of_words [] = refl
length-bits_of_words (x ∷ xs) = omega (arith, length-append (word_bits x) (bits_of_words xs), length-word_bits x, length-bits_of_words xs)

pub take-bits_of_words : (k : ℕ) (xs : List ℕ) → k ≤ length xs → take (64 * k) (bits_of_words xs) ≡ bits_of_words (take k xs)
take-bits_of_words k xs h =
    let parts : bits_of_words xs ≡ bits_of_words (take k xs) ++ bits_of_words (drop k xs) = ap bits_of_words (sym (take-append-drop k xs)) ∙ bits_of_words-append (take k xs) (drop k xs) in
    ap (take (64 * k)) parts ∙ take_at _ _ (64 * k) (length-bits_of_words (take k xs) ∙ ap (λ (n : ℕ). 64 * n) (length-take-le k xs h))

pub drop-bits_of_words : (k : ℕ) (xs : List ℕ) → k ≤ length xs → drop (64 * k) (bits_of_words xs) ≡ bits_of_words (drop k xs)
drop-bits_of_words k xs h =
    let parts : bits_of_words xs ≡ bits_of_words (take k xs) ++ bits_of_words (drop k xs) = ap bits_of_words (sym (take-append-drop k xs)) ∙ bits_of_words-append (take k xs) (drop k xs) in
    ap (drop (64 * k)) parts ∙ drop_at _ _ (64 * k) (length-bits_of_words (take k xs) ∙ ap (λ (n : ℕ). 64 * n) (length-take-le k xs h))

-- from the word at index k on
pub drop_word : (k : ℕ) (xs : List ℕ) → k < length xs → drop (64 * k) (bits_of_words xs) ≡ word_bits (get_or xs k 0) ++ bits_of_words (drop (k + 1) xs)
drop_word k xs h = drop-bits_of_words k xs (omega arith) ∙ ap bits_of_words (drop_more xs k 0 h)

-- ---- words that were made of bits and zeros

module _ (words : List ℕ) (bits : List Bool) (count : ℕ) (made : bits_of_words words ≡ bits ++ replicate (word_padding count) false) (long : length bits ≡ count) where
  pub HoldBits-made : count < 2 ^ 32 → HoldBits words count
  HoldBits-made few = record {
    few = few;
    long = omega (arith, length-bits_of_words words, ap length made, length-append bits (replicate (word_padding count) false), length-replicate {A = Bool} (word_padding count) false);
    zeros = ap (drop count) made ∙ drop_at bits (replicate (word_padding count) false) count long;
  }

  pub bits_made : take count (bits_of_words words) ≡ bits
  bits_made = ap (take count) made ∙ take_at bits (replicate (word_padding count) false) count long

-- a word that begins with the last `count` bits of a number
word_bits-shl_at : (k count number : ℕ) → k ≡ 64 → 0 < count → count < 64 → number < 2 ^ count
    → word_bits (number * 2 ^ (64 - count) % 2 ^ 64) ≡ bits_of count number ++ replicate ((64 - count) % 64) false
word_bits-shl_at k count number e some short fits =
    let rest = 64 - count in
    let whole : count + rest ≡ k = omega arith in
    let word = number * 2 ^ rest % 2 ^ 64 in
    let value : word ≡ number * 2 ^ rest + 0 = omega (arith, shl_whole number count rest 64 fits (omega arith)) in
    let zeros : bits_of rest 0 ≡ replicate (rest % 64) false = bits_of-zero rest ∙ ap (λ (n : ℕ). replicate n false) (sym (mod-eq_of_lt (omega arith))) in
    word_bits-is k word e ∙ ap (λ (j : ℕ). bits_of j word) (sym whole) ∙ ap (bits_of (count + rest)) value
    ∙ bits_of-join count rest number 0 (pow_pos rest)
    ∙ ap (λ (xs : List Bool). bits_of count number ++ xs) zeros

pub word_bits-shl : (count number : ℕ) → 0 < count → count < 64 → number < 2 ^ count
    → word_bits (number * 2 ^ (64 - count) % 2 ^ 64) ≡ bits_of count number ++ replicate ((64 - count) % 64) false
word_bits-shl count number some short fits = word_bits-shl_at 64 count number refl some short fits

-- ---- one bit

pub get_or-bits_of : (k n i : ℕ) (d : Bool) → i < k → get_or (bits_of k n) i d ≡ eqb (n / 2 ^ (k - 1 - i) % 2) 1
get_or-bits_of zero n i d h = absurd (omega arith)
get_or-bits_of (suc k) n zero d h =
    let same : suc k - 1 - 0 ≡ k = omega arith in
    ap (λ (j : ℕ). eqb (n / 2 ^ j % 2) 1) (sym same)
get_or-bits_of (suc k) n (suc i) d h =
    let same : k - 1 - i ≡ suc k - 1 - suc i = omega arith in
    get_or-bits_of k n i d (omega arith) ∙ ap (λ (j : ℕ). eqb (n / 2 ^ j % 2) 1) same

get_or-word_bits_at : (k word i : ℕ) (d : Bool) → k ≡ 64 → i < 64 → get_or (word_bits word) i d ≡ eqb (word / 2 ^ (63 - i) % 2) 1
get_or-word_bits_at k word i d e h =
    let same : k - 1 - i ≡ 63 - i = omega arith in
    ap (λ (xs : List Bool). get_or xs i d) (word_bits-is k word e) ∙ get_or-bits_of k word i d (omega arith)
    ∙ ap (λ (j : ℕ). eqb (word / 2 ^ j % 2) 1) same

-- the bit at a place
pub get_or-bits_of_words : (xs : List ℕ) (place : ℕ) (d : Bool) → place / 64 < length xs
    → get_or (bits_of_words xs) place d ≡ eqb (get_or xs (place / 64) 0 / 2 ^ (63 - place % 64) % 2) 1
get_or-bits_of_words xs place d h =
    let k = place / 64 in
    let word = get_or xs k 0 in
    let whole : 64 * k + place % 64 ≡ place = omega arith in
    ap (λ (n : ℕ). get_or (bits_of_words xs) n d) (sym whole)
    ∙ sym (get_or-drop (64 * k) (bits_of_words xs) (place % 64) d)
    ∙ ap (λ (ys : List Bool). get_or ys (place % 64) d) (drop_word k xs h)
    ∙ get_or_append_left (word_bits word) (bits_of_words (drop (k + 1) xs)) d (place % 64) (omega (arith, length-word_bits word))
    ∙ get_or-word_bits_at 64 word (place % 64) d refl (omega arith)

-- ---- ones

ones-digit : (a : ℕ) → a < 2 → cond (eqb (a % 2) 1) 1 0 ≡ ones a
ones-digit zero h = omega (arith, ones-le 0 0 (omega arith))
ones-digit (suc zero) h = omega (arith, ones_step 1, ones-le 0 0 (omega arith))
ones-digit (suc (suc a)) h = absurd (omega arith)

present_count-bits_of : (k n : ℕ) → n < 2 ^ k → present_count (bits_of k n) ≡ ones n
present_count-bits_of zero n h = omega (arith, ones-le 0 n h)
present_count-bits_of (suc k) n h =
    let top = n / 2 ^ k in
    let low = n % 2 ^ k in
    let below : top < 2 ^ 1 = shr_below n 1 k (rw one-add h) in
    let first = ones-digit top below in
    let rest = ap present_count (sym (bits_of-mod k n)) ∙ present_count-bits_of k low (mod_below n (2 ^ k) (pow_pos k)) in
    let both = ap ones (sym (div-add-mod' n (2 ^ k))) ∙ ones_cat k top low (mod_below n (2 ^ k) (pow_pos k)) in
    sum_by-cons (λ (b : Bool). cond b 1 0) (eqb (top % 2) 1) (bits_of k n) ∙ ap₂ ◌+◌ first rest ∙ sym both

present_count-word_at : (k word : ℕ) → k ≡ 64 → word < 2 ^ 64 → present_count (word_bits word) ≡ ones word
present_count-word_at k word e h = ap present_count (word_bits-is k word e) ∙ present_count-bits_of k word (subst (λ (j : ℕ). word < 2 ^ j) (sym e) h)

pub present_count-word : (word : ℕ) → word < 2 ^ 64 → present_count (word_bits word) ≡ ones word
present_count-word word h = present_count-word_at 64 word refl h

-- ---- complements and leading zeros

num-not : (xs : List Bool) → num (map not xs) + num xs + 1 ≡ 2 ^ length xs
num-not [] = refl
num-not (x ∷ xs) =
    let power = 2 ^ length xs in
    let first : digit (not x) * power + digit x * power ≡ power = elim x as (λ b. digit (not b) * power + digit b * power ≡ power) [ true ↦ omega arith | false ↦ omega arith ] in
    rw (length-map xs not) (omega (arith, num-not xs, first, pow-suc 2 (length xs)))

pub bits_of-not : (k n : ℕ) → n < 2 ^ k → bits_of k (2 ^ k - 1 - n) ≡ map not (bits_of k n)
bits_of-not k n h =
    let xs = bits_of k n in
    let long : length xs ≡ k = length-bits_of k n in
    let value : num xs ≡ n = num-bits_of k n ∙ mod-eq_of_lt h in
    let power : 2 ^ length xs ≡ 2 ^ k = ap (λ (j : ℕ). 2 ^ j) long in
    let other : 2 ^ k - 1 - n ≡ num (map not xs) = omega (arith, num-not xs) in
    let same : k ≡ length (map not xs) = sym (length-map xs not ∙ long) in
    ap₂ bits_of same other ∙ bits_of-num (map not xs)

-- a number shifted to the left within k bits
pub bits_of-shl : (k skip n : ℕ) → skip ≤ k → bits_of k (n * 2 ^ skip % 2 ^ k) ≡ drop skip (bits_of k n) ++ replicate skip false
bits_of-shl k skip n h =
    let rest = k - skip in
    let whole : rest + skip ≡ k = omega arith in
    let value : n * 2 ^ skip ≡ n * 2 ^ skip + 0 = omega arith in
    bits_of-mod k (n * 2 ^ skip) ∙ ap (λ (j : ℕ). bits_of j (n * 2 ^ skip)) (sym whole) ∙ ap (bits_of (rest + skip)) value
    ∙ bits_of-join rest skip n 0 (pow_pos skip)
    ∙ ap₂ ◌++◌ (sym (drop-bits_of skip k n h)) (bits_of-zero skip)

-- what stands behind the leading zeros of a number: nothing, or a one
LeadsWithOne : List Bool → Type 0
LeadsWithOne xs = 0 < length xs → get_or xs 0 false ≡ true

top_is_one : (m n : ℕ) → n < 2 ^ m → 2 ^ m ≤ 2 * n + 1 → LeadsWithOne (bits_of m n)
unfolding LeadsWithOne
top_is_one zero n below above = λ h. absurd (omega arith)
top_is_one (suc j) n below above = λ h.
    let power = pow-suc 2 j in
    let least : 1 * 2 ^ j ≤ n = omega arith in
    let one : n / 2 ^ j ≡ 1 = omega (arith, shr_below n 1 j (rw one-add below), le-div 1 n (2 ^ j) (pow_pos j) least) in
    ap (λ (a : ℕ). eqb (a % 2) 1) one

leading : (k n : ℕ) → n < 2 ^ k → (tail : List Bool) × (bits_of k n ≡ replicate (count_leading_zeros k n) false ++ tail) × LeadsWithOne tail
leading k n h =
    let found = leading_length k n h in
    let zeros = count_leading_zeros k n in
    let m = found.0 in
    let none : n / 2 ^ m ≡ 0 = omega (arith, shr_below n 0 m (rw zero-add found.2)) in (
      bits_of m n,
      ap (λ (j : ℕ). bits_of j n) (sym found.1) ∙ bits_of-add zeros m n
          ∙ ap (λ (xs : List Bool). xs ++ bits_of m n) (ap (bits_of zeros) none ∙ bits_of-zero zeros),
      top_is_one m n found.2 found.3,
    )

-- ---- masks

pub length-mask : (words : List ℕ) (count : ℕ) → HoldBits words count → length (take count (bits_of_words words)) ≡ count
length-mask words count held = length-take-le count (bits_of_words words) (omega (arith, length-bits_of_words words, held.long))

-- the bits are those of the mask, and then zeros
pub with_zeros : (words : List ℕ) (count : ℕ) → HoldBits words count → bits_of_words words ≡ take count (bits_of_words words) ++ replicate (word_padding count) false
with_zeros words count held = sym (take-append-drop count (bits_of_words words)) ∙ ap (λ (xs : List Bool). take count (bits_of_words words) ++ xs) held.zeros

-- the test of one bit
pub bit-mask : (words : List ℕ) (count place word : ℕ) → HoldBits words count → place < count → word ≡ get_or words (place / 64) 0
    → slice_get (take count (bits_of_words words)) place ≡ Some (eqb (bit_and (word / 2 ^ (63 - place % 64)) 1) 1)
bit-mask words count place word held within is_word =
    let bits = bits_of_words words in
    slice_get-get_or (take count bits) place false (omega (arith, length-mask words count held))
    ∙ ap Some (get_or-take count bits place false within
    ∙ get_or-bits_of_words words place false (omega (arith, held.long))
    ∙ ap (λ (n : ℕ). eqb n 1) (ap (λ (w : ℕ). w / 2 ^ (63 - place % 64) % 2) (sym is_word) ∙ sym (shr_and_one word (63 - place % 64))))

-- ---- the count of ones, word by word

pub counted_more : (words : List ℕ) (index word sum : ℕ) → index < length words → word ≡ get_or words index 0 → word < 2 ^ 64
    → sum ≡ present_count (bits_of_words (take index words)) → sum + ones word ≡ present_count (bits_of_words (take (index + 1) words))
counted_more words index word sum within is_word fits before =
    let more = ap bits_of_words (take_more words index 0 within) ∙ bits_of_words_push (take index words) (get_or words index 0) in
    ap₂ ◌+◌ before (sym (present_count-word word fits) ∙ ap (λ (w : ℕ). present_count (word_bits w)) is_word)
    ∙ sym (present_count-append (bits_of_words (take index words)) (word_bits (get_or words index 0)))
    ∙ ap present_count (sym more)

pub counted_all : (words : List ℕ) (count : ℕ) → HoldBits words count → present_count (bits_of_words words) ≡ present_count (take count (bits_of_words words))
counted_all words count held =
    let mask = take count (bits_of_words words) in
    ap present_count (with_zeros words count held)
    ∙ present_count-append mask (replicate (word_padding count) false)
    ∙ omega (arith, present_count-replicate (word_padding count) false)

counted-le : (words : List ℕ) (count : ℕ) → present_count (bits_of_words (take count words)) ≤ 64 * count
counted-le words count =
    omega (arith, count_by-le-length (λ (b : Bool). b) (bits_of_words (take count words)), length-bits_of_words (take count words), length-take count words)

-- no sum of ones is too large
pub counted_fits : (words : List ℕ) (count index word sum : ℕ) → HoldBits words count → index < length words → word < 2 ^ 64
    → sum ≡ present_count (bits_of_words (take index words)) → sum + ones word < 2 ^ 64
counted_fits words count index word sum held within fits before =
    omega (arith, counted-le words index, ones-le 64 word fits, held.long, held.few)

pub counted_whole : (words : List ℕ) (count index sum : ℕ) → HoldBits words count → length words ≤ index
    → sum ≡ present_count (bits_of_words (take index words)) → sum ≡ present_count (take count (bits_of_words words))
counted_whole words count index sum held end before =
    before ∙ ap (λ (ws : List ℕ). present_count (bits_of_words ws)) (take_all index words end) ∙ counted_all words count held

pub present_count-lt : (words : List ℕ) (count : ℕ) → HoldBits words count → present_count (take count (bits_of_words words)) < 2 ^ 32
present_count-lt words count held =
    omega (arith, count_by-le-length (λ (b : Bool). b) (take count (bits_of_words words)), length-mask words count held, held.few)

-- ---- the bits of a word that are the same from one on

-- the bits of `(number << skip).leading_zeros()`, as many as stand in the word
pub zeros_behind : (k skip number zeros : ℕ) → skip < k → number < 2 ^ k → zeros ≡ min (count_leading_zeros k (number * 2 ^ skip % 2 ^ k)) (k - skip)
    → (drop skip (bits_of k number) ≡ replicate zeros false ++ drop (skip + zeros) (bits_of k number)) × (skip + zeros < k → get_or (bits_of k number) (skip + zeros) false ≡ true)
unfolding LeadsWithOne
zeros_behind k skip number zeros within fits is_zeros =
    let xs = bits_of k number in
    let rest = drop skip xs in
    let shifted = number * 2 ^ skip % 2 ^ k in
    let all = count_leading_zeros k shifted in
    let long : length rest ≡ k - skip = omega (arith, length-drop skip xs, length-bits_of k number) in
    let found = leading k shifted (mod_below (number * 2 ^ skip) (2 ^ k) (pow_pos k)) in
    let tail = found.0 in
    let same : rest ++ replicate skip false ≡ replicate all false ++ tail = sym (bits_of-shl k skip number (omega arith)) ∙ found.1 in
    let front : take zeros rest ≡ replicate zeros false =
    sym (take-append-le zeros rest (replicate skip false) (omega arith)) ∙ ap (take zeros) same
    ∙ take-append-le zeros (replicate all false) tail (omega (arith, length-replicate {A = Bool} all false))
    ∙ take-replicate zeros all false (omega arith) in (
      sym (take-append-drop zeros rest) ∙ ap₂ ◌++◌ front (drop-drop zeros skip xs),
      λ short.
          let whole : zeros ≡ all = omega arith in
          let some : 0 < length tail = omega (arith, ap length same, length-append rest (replicate skip false), length-append (replicate all false) tail, length-replicate {A = Bool} all false, length-replicate {A = Bool} skip false) in
          sym (get_or-drop skip xs zeros false)
          ∙ sym (get_or_append_left rest (replicate skip false) false zeros (omega arith))
          ∙ ap (λ (ys : List Bool). get_or ys zeros false) same
          ∙ get_or-append_right (replicate all false) tail all zeros false (length-replicate all false) (omega arith)
          ∙ ap (λ (i : ℕ). get_or tail i false) (let none : zeros - all ≡ 0 = omega arith in none)
          ∙ found.2 some,
    )

module _ (word skip zeros : ℕ) (within : skip < 64) (fits : word < 2 ^ 64) (is_zeros : zeros ≡ min (count_leading_zeros 64 (word * 2 ^ skip % 2 ^ 64)) (64 - skip)) where
  behind_at : (k : ℕ) → k ≡ 64 → (drop skip (word_bits word) ≡ replicate zeros false ++ drop (skip + zeros) (word_bits word)) × (skip + zeros < 64 → get_or (word_bits word) (skip + zeros) false ≡ true)
  behind_at k e =
      subst (λ (xs : List Bool). (drop skip xs ≡ replicate zeros false ++ drop (skip + zeros) xs) × (skip + zeros < 64 → get_or xs (skip + zeros) false ≡ true)) (sym (word_bits-is k word e))
      (subst (λ (j : ℕ). (drop skip (bits_of k word) ≡ replicate zeros false ++ drop (skip + zeros) (bits_of k word)) × (skip + zeros < j → get_or (bits_of k word) (skip + zeros) false ≡ true)) e
      (zeros_behind k skip word zeros (omega arith) (subst (λ (j : ℕ). word < 2 ^ j) (sym e) fits) (subst (λ (j : ℕ). zeros ≡ min (count_leading_zeros j (word * 2 ^ skip % 2 ^ j)) (j - skip)) (sym e) is_zeros)))

  pub zeros_in_word : drop skip (word_bits word) ≡ replicate zeros false ++ drop (skip + zeros) (word_bits word)
  zeros_in_word = (behind_at 64 refl).0

  pub one_after : slice_get (word_bits word) (skip + zeros) ≢ Some false
  one_after = λ is. elim (cases_lt (skip + zeros) 64) [
    | inl inside ↦ false≢true (sym (get_or_from_slice_get (word_bits word) (skip + zeros) false false is) ∙ (behind_at 64 refl).1 inside)
    | inr past ↦ absurd (omega (arith, slice_get_within (word_bits word) (skip + zeros) false is, length-word_bits word))
  ]

-- the same for a run of ones, by the complement of the word
module _ (word other skip same : ℕ) (within : skip < 64) (fits : word < 2 ^ 64) (is_other : other ≡ 2 ^ 64 - 1 - word) (is_same : same ≡ min (count_leading_zeros 64 (other * 2 ^ skip % 2 ^ 64)) (64 - skip)) where
  word_bits-not : (k : ℕ) → k ≡ 64 → word_bits other ≡ map not (word_bits word)
  word_bits-not k e =
      word_bits-is k other e
      ∙ ap (bits_of k) (is_other ∙ ap (λ (j : ℕ). 2 ^ j - 1 - word) (sym e))
      ∙ bits_of-not k word (subst (λ (j : ℕ). word < 2 ^ j) (sym e) fits)
      ∙ ap (map not) (sym (word_bits-is k word e))

  not-not : (xs : List Bool) → map not (map not xs) ≡ xs
  not-not [] = refl
  not-not (true ∷ xs) = ap (λ (ys : List Bool). true ∷ ys) (not-not xs)
  not-not (false ∷ xs) = ap (λ (ys : List Bool). false ∷ ys) (not-not xs)

  map-replicate : (n : ℕ) → map not (replicate n false) ≡ replicate n true
  map-replicate zero = refl
  map-replicate (suc n) = ap (λ (ys : List Bool). true ∷ ys) (map-replicate n)

  pub ones_in_word : drop skip (word_bits word) ≡ replicate same true ++ drop (skip + same) (word_bits word)
  ones_in_word =
      let xs = word_bits word in
      let flipped = word_bits-not 64 refl in
      let zeros = zeros_in_word other skip same within (omega arith) is_same in
      sym (not-not (drop skip xs))
      ∙ ap (map not) (sym (drop-map not skip xs) ∙ ap (drop skip) (sym flipped) ∙ zeros ∙ ap (λ (ys : List Bool). replicate same false ++ ys) (ap (drop (skip + same)) flipped ∙ drop-map not (skip + same) xs))
      ∙ map-append not (replicate same false) (map not (drop (skip + same) xs))
      ∙ ap₂ ◌++◌ (map-replicate same) (not-not (drop (skip + same) xs))

  pub zero_after : slice_get (word_bits word) (skip + same) ≢ Some true
  zero_after = λ is.
      one_after other skip same within (omega arith) is_same
      (ap (λ (xs : List Bool). slice_get xs (skip + same)) (word_bits-not 64 refl) ∙ slice_get-map not (word_bits word) (skip + same) ∙ ap (option_map not) is)
