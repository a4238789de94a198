-- Codes that are nowhere more than others, and the sums over them.
use Rattle.std.proofs.Common.{◌≡◌, ℕ, zero, suc, ◌+◌, ◌*◌, ◌/◌, ◌^◌, ◌<◌, ◌≤◌, List, [], ◌∷◌, ◌++◌, take, drop, replicate, length, sum, refl, ap, ◌∙◌, arith}
use Rattle.std.specs.List.{All}
use Rattle.std.proofs.Math.Nat.{mul-le-mul, div-mul-le_self}
use Rattle.std.proofs.lemmas.Nat.{le-div, pow_pos, div-mul-add}
use Rattle.std.proofs.lemmas.List.Elements.{All-nil, All-cons, All-head, All-tail}
use Rattle.std.proofs.lemmas.List.Sums.{sum_by-cons}
use Rattle.grib_coding.specs.Items.{next_pair, pair_of, pair_number, codes_of_pairs, joined}
use Rattle.grib_coding.specs.Numbers.{Told, Reference, Code}
use Rattle.grib_coding.specs.Choices.{high_sum, pair_sum}
use Rattle.grib_coding.specs.Blocks.{code_of, codes_of, reference_of}

-- each of the first is told by a code no more than that of the second at its place
abbrev pub IsBelow : List Told → List Told → Type 0
IsBelow [] others = Unit {0}
IsBelow (one ∷ ones) [] = ⊥
IsBelow (one ∷ ones) (other ∷ others) = (code_of one ≤ code_of other) × IsBelow ones others

zeros_below : (others : List Told) (count : ℕ) → IsBelow (take (length others) (replicate count (Code 0))) others
zeros_below [] count = tt
zeros_below (other ∷ others) zero = tt
zeros_below (other ∷ others) (suc count) = (omega arith, zeros_below others count)

-- a front of a list that zeros follow is below the list
pub front_below : (others rest : List Told) (n count : ℕ)
    → IsBelow (take (length others) (take n (others ++ rest) ++ replicate count (Code 0))) others
front_below [] rest n count = tt
front_below (other ∷ others) rest zero count = zeros_below (other ∷ others) count
front_below (other ∷ others) rest (suc n) count = (omega arith, front_below others rest n count)

-- and begins with the same reference
pub front_reference : (others rest : List Told) (n count m : ℕ) → 1 ≤ length others → 1 ≤ n → 1 ≤ m
    → reference_of (take m (take n (others ++ rest) ++ replicate count (Code 0))) ≡ reference_of others
front_reference [] rest n count m some more one = absurd (omega arith)
front_reference (other ∷ others) rest zero count m some more one = absurd (omega arith)
front_reference (other ∷ others) rest (suc n) count zero some more one = absurd (omega arith)
front_reference (Reference number ∷ others) rest (suc n) count (suc m) some more one = refl
front_reference (Code code ∷ others) rest (suc n) count (suc m) some more one = refl

-- what is below codes of 0 is 0
pub below_zeros : (ones others : List Told) → IsBelow ones others → All (λ e. code_of e ≡ 0) others → All (λ e. code_of e ≡ 0) ones
below_zeros [] others below all = All-nil (λ e. code_of e ≡ 0)
below_zeros (one ∷ ones) [] below all = absurd below
below_zeros (one ∷ ones) (other ∷ others) below all =
    let here : code_of other ≡ 0 = All-head (λ e. code_of e ≡ 0) other others all in
    All-cons (λ e. code_of e ≡ 0) one ones (omega (arith, here, below.0))
    (below_zeros ones others below.1 (All-tail (λ e. code_of e ≡ 0) other others all))

-- ---- sums

quotient-le : (a b k : ℕ) → a ≤ b → a / 2 ^ k ≤ b / 2 ^ k
quotient-le a b k less = le-div (a / 2 ^ k) b (2 ^ k) (pow_pos k) (omega (arith, div-mul-le_self a (2 ^ k), less))

pub high-le : (k : ℕ) (ones others : List Told) → IsBelow ones others → high_sum k (codes_of ones) ≤ high_sum k (codes_of others)
high-le k [] others below = omega arith
high-le k (one ∷ ones) [] below = absurd below
high-le k (one ∷ ones) (other ∷ others) below =
    omega (
      arith,
      sum_by-cons (λ c. c / 2 ^ k) (code_of one) (codes_of ones),
      sum_by-cons (λ c. c / 2 ^ k) (code_of other) (codes_of others),
      quotient-le (code_of one) (code_of other) k below.0,
      high-le k ones others below.1,
    )

pair-le : (a b c d : ℕ) → a ≤ c → b ≤ d → pair_number a b ≤ pair_number c d
pair-le a b c d one two =
    let sums : a + b ≤ c + d = omega (arith, one, two) in
    let more : a + b + 1 ≤ c + d + 1 = omega (arith, one, two) in
    let products : (a + b) * (a + b + 1) ≤ (c + d) * (c + d + 1) = mul-le-mul sums more in
    omega (arith, products, two)

pub pairs-le : (ones others : List Told) → IsBelow ones others → pair_sum (codes_of ones) ≤ pair_sum (codes_of others)
pairs-le [] others below = omega arith
pairs-le (one ∷ []) others below = omega arith
pairs-le (one ∷ two ∷ ones) [] below = absurd below
pairs-le (one ∷ two ∷ ones) (other ∷ []) below = absurd below.1
pairs-le (one ∷ two ∷ ones) (other ∷ another ∷ others) below =
    omega (
      arith,
      pair-le (code_of one) (code_of two) (code_of other) (code_of another) below.0 below.1.0,
      pairs-le ones others below.1.1,
    )

-- ---- the sums of an item's own numbers

next_number : (first second : ℕ) → pair_number (next_pair first second).first (next_pair first second).second ≡ suc (pair_number first second)
next_number zero second = omega arith
next_number (suc first) second =
    let same : first + (second + 1) ≡ suc first + second = omega arith in
    let whole : pair_number first (second + 1) ≡ (suc first + second) * (suc first + second + 1) / 2 + (second + 1) =
    ap (λ (n : ℕ). n * (n + 1) / 2 + (second + 1)) same in
    omega (arith, whole)

pub number_back : (number : ℕ) → pair_number (pair_of number).first (pair_of number).second ≡ number
number_back zero = refl
number_back (suc number) = next_number (pair_of number).first (pair_of number).second ∙ ap suc (number_back number)

pub pairs-sum : (pairs : List ℕ) → pair_sum (codes_of_pairs pairs) ≡ sum pairs
pairs-sum [] = refl
pairs-sum (number ∷ pairs) = omega (arith, number_back number, pairs-sum pairs, sum_by-cons (λ m. m) number pairs)

-- the first code may be 0 in place of what it is
pub first-less : (pairs : List ℕ) → pair_sum (0 ∷ drop 1 (codes_of_pairs pairs)) ≤ sum pairs
first-less [] = omega arith
first-less (number ∷ pairs) =
    let pair = pair_of number in
    omega (
      arith,
      pair-le 0 pair.second pair.first pair.second (omega arith) (omega arith),
      number_back number,
      pairs-sum pairs,
      sum_by-cons (λ m. m) number pairs,
    )

pub highs-sum : (k : ℕ) (high low : List ℕ) → length high ≡ length low → All (λ l. l < 2 ^ k) low → high_sum k (joined k high low) ≡ sum high
highs-sum k [] low same all = refl
highs-sum k (h ∷ high) [] same all = absurd (omega arith)
highs-sum k (h ∷ high) (l ∷ low) same all =
    omega (
      arith,
      sum_by-cons (λ c. c / 2 ^ k) (h * 2 ^ k + l) (joined k high low),
      div-mul-add h (2 ^ k) l (All-head (λ n. n < 2 ^ k) l low all),
      highs-sum k high low (omega (arith, same)) (All-tail (λ n. n < 2 ^ k) l low all),
      sum_by-cons (λ m. m) h high,
    )

pub length-joined : (k : ℕ) (high low : List ℕ) → length high ≡ length low → length (joined k high low) ≡ length high
length-joined k [] low same = refl
length-joined k (h ∷ high) [] same = absurd (omega arith)
length-joined k (h ∷ high) (l ∷ low) same = ap suc (length-joined k high low (omega (arith, same)))

pub length-pairs : (pairs : List ℕ) → length (codes_of_pairs pairs) ≡ 2 * length pairs
length-pairs [] = refl
length-pairs (number ∷ pairs) = omega (arith, length-pairs pairs)
