-- Places of bits, and what is found there.
use Rattle.std.proofs.Common.{◌≡◌, inl, inr, ℕ, zero, suc, ◌+◌, ◌-◌, ◌*◌, ◌/◌, ◌%◌, ◌^◌, ◌<◌, ◌≤◌, Bool, true, false, cond, bit_and, List, [], ◌∷◌, ◌++◌, length, take, drop, replicate, refl, sym, ap, ap₂, subst, ◌∙◌, arith, mod-eq_of_lt, nat_le, zero-add, pow_mono}
use Rattle.std.proofs.lemmas.Bool.{le-leb, cases_lt}
use Rattle.std.proofs.lemmas.Bool.Decides.{nat_tests}
use Rattle.std.proofs.lemmas.List.{length-drop, length-take-le, take-append-drop, drop-drop, drop-append-le, take-take, drop-take, drop_all}
use Rattle.std.proofs.lemmas.Nat.{leading_top, shr_below}
use Rattle.std.specs.Int.Count.{count_leading_zeros}
use Rattle.grib_bits.specs.Bits.{bits, bits_of, num}
use Rattle.grib_bits.proofs.Numbers.{bits_of-num, bits_of-zero, num-take, num-drop, num-lt, and_ones}
use Rattle.grib_coding.specs.Reading.{Front, Ended, Found, and_then, front_number, front_sequence}

-- ---- numbers

pub number_found : (width at : ℕ) (xs : List Bool) → at + width ≤ length xs
    → front_number width (drop at xs) ≡ Found (num (take width (drop at xs))) (drop (at + width) xs)
number_found width at xs within =
    let enough : nat_le width (length (drop at xs)) ≡ true = le-leb width (length (drop at xs)) (omega (arith, length-drop at xs)) in
    ap (λ t. cond t (Found (num (take width (drop at xs))) (drop width (drop at xs))) Ended) enough
    ∙ ap (λ ys. Found (num (take width (drop at xs))) ys) (drop-drop width at xs)

not_le : (a b : ℕ) → b < a → nat_le a b ≡ false
not_le a b less = grind (arith, nat_tests)

pub number_ended : (width at : ℕ) (xs : List Bool) → at ≤ length xs → length xs < at + width → front_number width (drop at xs) ≡ Ended
number_ended width at xs place less =
    let short : nat_le width (length (drop at xs)) ≡ false = not_le width (length (drop at xs)) (omega (arith, length-drop at xs)) in
    ap (λ t. cond t (Found (num (take width (drop at xs))) (drop width (drop at xs))) Ended) short

-- ---- zeros

all_false : (xs : List Bool) → num xs ≡ 0 → xs ≡ replicate (length xs) false
all_false xs none = sym (bits_of-num xs) ∙ (ap (bits_of (length xs)) none ∙ bits_of-zero (length xs))

-- so many zeros before what stands at the front
abbrev pub behind_zeros : ℕ → Front ℕ → Front ℕ
behind_zeros more Ended = Ended
behind_zeros more (Found n rest) = Found (more + n) rest

one_more : (more : ℕ) (front : Front ℕ) → and_then (behind_zeros more front) (λ n rest. Found (suc n) rest) ≡ behind_zeros (suc more) front
one_more more Ended = refl
one_more more (Found n rest) = let e : suc (more + n) ≡ suc more + n = omega arith in ap (λ m. Found m rest) e

pub no_zeros : (front : Front ℕ) → front ≡ behind_zeros 0 front
no_zeros Ended = refl
no_zeros (Found n rest) = let e : n ≡ 0 + n = omega arith in ap (λ m. Found m rest) e

zeros_zeros : (one more : ℕ) (front : Front ℕ) → behind_zeros one (behind_zeros more front) ≡ behind_zeros (one + more) front
zeros_zeros one more Ended = refl
zeros_zeros one more (Found n rest) = let e : one + (more + n) ≡ one + more + n = omega arith in ap (λ m. Found m rest) e

sequence_behind : (more : ℕ) (bits : List Bool) → front_sequence (replicate more false ++ bits) ≡ behind_zeros more (front_sequence bits)
sequence_behind zero bits = no_zeros (front_sequence bits)
sequence_behind (suc more) bits =
    ap (λ f. and_then f (λ n rest. Found (suc n) rest)) (sequence_behind more bits) ∙ one_more more (front_sequence bits)

-- zeros up to a place
pub passed_zeros : (xs : List Bool) (at place width word : ℕ) → at ≤ place → place + width ≤ length xs → word ≡ num (take width (drop place xs)) → word ≡ 0
    → front_sequence (drop at xs) ≡ behind_zeros (place - at) (front_sequence (drop place xs))
    → front_sequence (drop at xs) ≡ behind_zeros (place + width - at) (front_sequence (drop (place + width) xs))
passed_zeros xs at place width word behind within is none so =
    let here = drop place xs in
    let long : length (take width here) ≡ width = length-take-le width here (omega (arith, length-drop place xs)) in
    let zeros : take width here ≡ replicate width false = all_false (take width here) (sym is ∙ none) ∙ ap (λ n. replicate n false) long in
    let parts : here ≡ replicate width false ++ drop (place + width) xs =
    sym (take-append-drop width here) ∙ ap₂ (λ a b. a ++ b) zeros (drop-drop width place xs) in
    let sum : place - at + width ≡ place + width - at = omega arith in
    so ∙ (ap (λ ys. behind_zeros (place - at) (front_sequence ys)) parts
    ∙ (ap (behind_zeros (place - at)) (sequence_behind width (drop (place + width) xs))
    ∙ (zeros_zeros (place - at) width (front_sequence (drop (place + width) xs))
    ∙ ap (λ n. behind_zeros n (front_sequence (drop (place + width) xs))) sum)))

-- bits whose number has as many digits as they are begin with a one
begins_with_one : (j : ℕ) (xs : List Bool) → length xs ≡ suc j → 2 ^ j ≤ num xs → (rest : List Bool) × (xs ≡ true ∷ rest)
begins_with_one j [] long high = absurd (omega (arith, long))
begins_with_one j (false ∷ xs) long high =
    let same : length xs ≡ j = omega (arith, long) in
    let power : 2 ^ length xs ≡ 2 ^ j = ap (λ n. 2 ^ n) same in
    absurd (omega (arith, num-lt xs, high, power))
begins_with_one j (true ∷ xs) long high = (xs, refl)

-- a one behind so many zeros
one_behind : (zeros : ℕ) (xs rest : List Bool) → zeros ≤ length xs → take zeros xs ≡ replicate zeros false → drop zeros xs ≡ true ∷ rest
    → front_sequence xs ≡ Found zeros rest
one_behind zeros xs rest within are one =
    let parts : xs ≡ replicate zeros false ++ true ∷ rest = sym (take-append-drop zeros xs) ∙ ap₂ (λ a b. a ++ b) are one in
    let none : zeros + 0 ≡ zeros = omega arith in
    ap front_sequence parts ∙ (sequence_behind zeros (true ∷ rest) ∙ ap (λ n. Found n rest) none)

drop_front : (n k : ℕ) (xs : List Bool) → n ≤ k → k ≤ length xs → drop n xs ≡ drop n (take k xs) ++ drop k xs
drop_front n k xs less within =
    ap (drop n) (sym (take-append-drop k xs)) ∙ drop-append-le n (take k xs) (drop k xs) (omega (arith, length-take-le k xs within))

digits_within : (j word width : ℕ) → 2 ^ j ≤ word → word < 2 ^ width → j < width
digits_within j word width low high = elim (cases_lt j width) [
  | inl less ↦ less
  | inr more ↦ let power : 2 ^ width ≤ 2 ^ j = pow_mono more in absurd (omega (arith, power))
]

div-eq_zero : (word j : ℕ) → word < 2 ^ j → word / 2 ^ j ≡ 0
div-eq_zero word j less =
    let whole : word < 2 ^ (0 + j) = subst (λ (n : ℕ). word < 2 ^ n) (sym (zero-add j)) less in
    omega (arith, shr_below word 0 j whole)

-- the first one bit, from the leading zeros of a word of some bits
pub one_found : (xs : List Bool) (width word lead : ℕ) → width ≤ length xs → width ≤ 64 → word ≡ num (take width xs) → 0 < word
    → lead ≡ count_leading_zeros 64 word
    → (64 ≤ lead + width) × (lead + width - 64 + 1 ≤ width) × (front_sequence xs ≡ Found (lead + width - 64) (drop (lead + width - 64 + 1) xs))
one_found xs width word lead within small is some is_lead =
    let front = take width xs in
    let long : length front ≡ width = length-take-le width xs within in
    let less : length front ≤ 64 = omega (arith, long) in
    let power : 2 ^ length front ≤ 2 ^ 64 = pow_mono less in
    let below : word < 2 ^ length front = subst (λ (n : ℕ). n < 2 ^ length front) (sym is) (num-lt front) in
    let (j, leads, low, high) = leading_top 64 word some (omega (arith, below, power)) in
    let fits : j < width = digits_within j word width low (subst (λ (n : ℕ). word < 2 ^ n) long below) in
    let zeros = lead + width - 64 in
    let sum : zeros + suc j ≡ width = omega (arith, leads, is_lead, fits) in
    let rest : width - zeros ≡ suc j = omega (arith, sum) in
    let rest_front : length front - zeros ≡ suc j = omega (arith, sum, long) in
    let zeros_in : zeros ≤ length front = omega (arith, sum, long) in
    let none : num (take zeros front) ≡ 0 =
    num-take zeros front zeros_in ∙ (ap (λ n. num front / 2 ^ n) rest_front ∙ (ap (λ n. n / 2 ^ suc j) (sym is) ∙ div-eq_zero word (suc j) high)) in
    let long_take : length (take zeros front) ≡ zeros = length-take-le zeros front zeros_in in
    let are : take zeros front ≡ replicate zeros false = all_false (take zeros front) none ∙ ap (λ n. replicate n false) long_take in
    let are_here : take zeros xs ≡ replicate zeros false = sym (take-take zeros width xs (omega (arith, sum))) ∙ are in
    let tail_number : num (drop zeros front) ≡ word =
    num-drop zeros front zeros_in ∙ (ap (λ n. num front % 2 ^ n) rest_front ∙ (ap (λ n. n % 2 ^ suc j) (sym is) ∙ mod-eq_of_lt high)) in
    let tail_long : length (drop zeros front) ≡ suc j = omega (arith, length-drop zeros front, sum, long) in
    let (more, tail) = begins_with_one j (drop zeros front) tail_long (omega (arith, tail_number, low)) in
    let one : drop zeros xs ≡ true ∷ (more ++ drop width xs) = drop_front zeros width xs (omega (arith, sum)) within ∙ ap (λ ys. ys ++ drop width xs) tail in
    let after : drop (zeros + 1) xs ≡ more ++ drop width xs = sym (drop-drop 1 zeros xs) ∙ ap (drop 1) one in (
      omega (arith, leads, is_lead, fits),
      omega (arith, sum),
      one_behind zeros xs (more ++ drop width xs) (omega (arith, sum, within)) are_here one ∙ ap (Found zeros) (sym after),
    )

-- what is left of a word behind its first bits
pub word_behind : (xs : List Bool) (width skip word left : ℕ) → width ≤ length xs → width ≤ 64 → word ≡ num (take width xs) → 0 < skip → skip + left ≡ width
    → bit_and word (1 * 2 ^ left % 2 ^ 64 - 1) ≡ num (take left (drop skip xs))
word_behind xs width skip word left within small is some sum =
    let front = take width xs in
    let long : length front ≡ width = length-take-le width xs within in
    let rest : length front - skip ≡ left = omega (arith, long, sum) in
    let cut : drop skip front ≡ take left (drop skip xs) = ap (λ n. drop skip (take n xs)) (sym sum) ∙ drop-take skip left xs in
    and_ones word left (omega (arith, sum, some, small))
    ∙ (ap (λ n. n % 2 ^ left) is
    ∙ (ap (λ n. num front % 2 ^ n) (sym rest)
    ∙ (sym (num-drop skip front (omega (arith, long, sum)))
    ∙ ap num cut)))

-- what is found behind zeros up to a place
pub found_behind : (xs : List Bool) (at place zeros : ℕ) → at ≤ place → front_sequence (drop at xs) ≡ behind_zeros (place - at) (front_sequence (drop place xs))
    → front_sequence (drop place xs) ≡ Found zeros (drop (zeros + 1) (drop place xs))
    → front_sequence (drop at xs) ≡ Found (place - at + zeros) (drop (at + (place - at + zeros) + 1) xs)
found_behind xs at place zeros behind so is =
    let sum : place + (zeros + 1) ≡ at + (place - at + zeros) + 1 = omega arith in
    so ∙ (ap (behind_zeros (place - at)) is ∙ ap (Found (place - at + zeros)) (drop-drop (zeros + 1) place xs ∙ ap (λ n. drop n xs) sum))

pub ended_behind : (xs : List Bool) (at place : ℕ) → length xs ≤ place → front_sequence (drop at xs) ≡ behind_zeros (place - at) (front_sequence (drop place xs))
    → front_sequence (drop at xs) ≡ Ended
ended_behind xs at place past so = so ∙ ap (λ ys. behind_zeros (place - at) (front_sequence ys)) (drop_all place xs past)

-- the next place at which an octet begins
pub to_octet : (xs : List Bool) (octets at next : ℕ) → length xs ≡ 8 * octets → at ≤ 8 * octets → next ≡ (at + 7) / 8 → drop (next * 8) xs ≡ drop (length (drop at xs) % 8) (drop at xs)
to_octet xs octets at next long within is =
    let left : length (drop at xs) ≡ 8 * octets - at = omega (arith, length-drop at xs, long) in
    let same : (8 * octets - at) % 8 ≡ next * 8 - at = omega (arith, is) in
    let sum : at + length (drop at xs) % 8 ≡ next * 8 = omega (arith, ap (λ n. n % 8) left, same, is) in
    ap (λ n. drop n xs) (sym sum) ∙ sym (drop-drop (length (drop at xs) % 8) at xs)
