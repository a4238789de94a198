-- Lists of numbers that are read number by number.
use Rattle.std.proofs.Common.{◌≡◌, inl, inr, ℕ, zero, suc, ◌+◌, ◌*◌, ◌%◌, ◌^◌, ◌<◌, ◌≤◌, min, Bool, List, [], ◌∷◌, ◌++◌, length, map, take, set, replicate, refl, sym, ap, ap₂, ◌∙◌, arith, append_assoc, add-one}
use Rattle.std.specs.List.{All}
use Rattle.std.proofs.Math.Nat.{mul-le-mul_right, mul-le-mul_left}
use Rattle.std.proofs.Math.Seq.{take-suc-set}
use Rattle.std.proofs.lemmas.Nat.{pow_pos, one_shl}
use Rattle.std.proofs.lemmas.Bool.{cases_lt}
use Rattle.std.proofs.lemmas.List.Elements.{All-head, All-tail}
use Rattle.grib_coding.specs.Items.{joined}
use Rattle.grib_coding.specs.Reading.{Front, Ended, Found, Coded, and_then, front_number, front_sequence, front_list}
use Rattle.grib_block_feeding.specs.Pending.{front_pending, saturated}
use Rattle.grib_block_feeding.specs.declared.pending.Pending.TheVariants.{Bits, Sequence}
use Rattle.grib_block_feeding.specs.Half.{capped}
use Rattle.grib_block_feeding.proofs.Bitwise.{number_found}

-- ---- a number from its first bit on

fresh : (width : ℕ) (front : Front ℕ) → and_then front (λ n r. Found (0 * 2 ^ width + n) r) ≡ front
fresh width Ended = refl
fresh width (Found n r) = let e : 0 * 2 ^ width + n ≡ n = omega arith in ap (λ m. Found m r) e

pub fresh_bits : (width : ℕ) (bits : List Bool) → front_pending (Bits 0 width) bits ≡ front_number width bits
fresh_bits width bits = fresh width (front_number width bits)

fresh_zeros : (front : Front ℕ) → and_then front (λ n r. Found (saturated (0 + n)) r) ≡ and_then front (λ n r. Found (saturated n) r)
fresh_zeros Ended = refl
fresh_zeros (Found n r) = let e : 0 + n ≡ n = omega arith in ap (λ m. Found (saturated m) r) e

pub fresh_sequence : (bits : List Bool) → front_pending (Sequence 0) bits ≡ and_then (front_sequence bits) (λ n r. Found (saturated n) r)
fresh_sequence bits = fresh_zeros (front_sequence bits)

pub capped_then : {A : Type 0} (front : Front A) (next : A → List Bool → Front Coded) → capped (and_then front next) ≡ and_then front (λ x r. capped (next x r))
capped_then Ended next = refl
capped_then (Found x r) next = refl

pub starts_number : (width : ℕ) (next : ℕ → List Bool → Front Coded) (bits : List Bool)
    → capped (and_then (front_number width bits) next) ≡ and_then (front_pending (Bits 0 width) bits) (λ n r. capped (next n r))
starts_number width next bits =
    capped_then (front_number width bits) next ∙ ap (λ f. and_then f (λ n r. capped (next n r))) (sym (fresh_bits width bits))

-- ---- a list from its next number on

same_lists : (front : Front (List ℕ)) (make next : List ℕ → List Bool → Front Coded) → ((xs : List ℕ) (r : List Bool) → make xs r ≡ next xs r)
    → and_then front make ≡ and_then front next
same_lists Ended make next same = refl
same_lists (Found xs r) make next same = same xs r

pub same_then : (front : Front (List ℕ)) (make next : List ℕ → List Bool → Front Coded) → ((xs : List ℕ) (r : List Bool) → make xs r ≡ next xs r)
    → and_then front make ≡ and_then front next
same_then front make next same = same_lists front make next same

one_on : (x : ℕ) (front : Front (List ℕ)) (make next : List ℕ → List Bool → Front Coded) → ((xs : List ℕ) (r : List Bool) → make (x ∷ xs) r ≡ next xs r)
    → and_then (and_then front (λ xs r. Found (x ∷ xs) r)) make ≡ and_then front next
one_on x Ended make next same = refl
one_on x (Found xs r) make next same = same xs r

sequences_by : (front : Front ℕ) (left : ℕ) (make : List ℕ → List Bool → Front Coded) (next : ℕ → List ℕ → List Bool → Front Coded)
    → ((x : ℕ) (xs : List ℕ) (r : List Bool) → make (x ∷ xs) r ≡ next (saturated x) xs r)
    → and_then (and_then front (λ x r. and_then (front_list front_sequence left r) (λ xs r'. Found (x ∷ xs) r'))) make
    ≡ and_then (and_then front (λ n r. Found (saturated n) r)) (λ n r. and_then (front_list front_sequence left r) (next n))
sequences_by Ended left make next same = refl
sequences_by (Found x r) left make next same = one_on x (front_list front_sequence left r) make (next (saturated x)) (same x)

pub sequences_on : (count left : ℕ) (make : List ℕ → List Bool → Front Coded) (next : ℕ → List ℕ → List Bool → Front Coded) (bits : List Bool) → count ≡ suc left
    → ((x : ℕ) (xs : List ℕ) (r : List Bool) → make (x ∷ xs) r ≡ next (saturated x) xs r)
    → and_then (front_list front_sequence count bits) make ≡ and_then (front_pending (Sequence 0) bits) (λ n r. and_then (front_list front_sequence left r) (next n))
sequences_on count left make next bits is same =
    ap (λ n. and_then (front_list front_sequence n bits) make) is
    ∙ (sequences_by (front_sequence bits) left make next same
    ∙ ap (λ f. and_then f (λ n r. and_then (front_list front_sequence left r) (next n))) (sym (fresh_sequence bits)))

numbers_by : (width : ℕ) (front : Front ℕ) (left : ℕ) (make : List ℕ → List Bool → Front Coded) (next : ℕ → List ℕ → List Bool → Front Coded)
    → ((x : ℕ) (xs : List ℕ) (r : List Bool) → make (x ∷ xs) r ≡ next x xs r)
    → and_then (and_then front (λ x r. and_then (front_list (front_number width) left r) (λ xs r'. Found (x ∷ xs) r'))) make
    ≡ and_then front (λ n r. and_then (front_list (front_number width) left r) (next n))
numbers_by width Ended left make next same = refl
numbers_by width (Found x r) left make next same = one_on x (front_list (front_number width) left r) make (next x) (same x)

pub numbers_on : (width count left : ℕ) (make : List ℕ → List Bool → Front Coded) (next : ℕ → List ℕ → List Bool → Front Coded) (bits : List Bool) → count ≡ suc left
    → ((x : ℕ) (xs : List ℕ) (r : List Bool) → make (x ∷ xs) r ≡ next x xs r)
    → and_then (front_list (front_number width) count bits) make ≡ and_then (front_pending (Bits 0 width) bits) (λ n r. and_then (front_list (front_number width) left r) (next n))
numbers_on width count left make next bits is same =
    ap (λ n. and_then (front_list (front_number width) n bits) make) is
    ∙ (numbers_by width (front_number width bits) left make next same
    ∙ ap (λ f. and_then f (λ n r. and_then (front_list (front_number width) left r) (next n))) (sym (fresh_bits width bits)))

-- ---- numbers that are kept

pub taken_more : (numbers : List ℕ) (place number : ℕ) → place < length numbers → take (place + 1) (set numbers place number) ≡ take place numbers ++ number ∷ []
taken_more numbers place number within = rw add-one (take-suc-set numbers place number within)

pub one_behind : (xs ys : List ℕ) (x y : ℕ) (all : List ℕ) → all ≡ xs ++ x ∷ [] → xs ++ x ∷ y ∷ ys ≡ all ++ y ∷ ys
one_behind xs ys x y all is = sym (append_assoc xs (x ∷ []) (y ∷ ys)) ∙ ap (λ zs. zs ++ y ∷ ys) (sym is)

-- ---- codes that are put together

pub joined_none : (k : ℕ) (high : List ℕ) → joined k high [] ≡ []
joined_none k [] = refl
joined_none k (h ∷ high) = refl

saturated_twice : (h p l : ℕ) → 1 ≤ p → saturated (saturated h * p + l) ≡ saturated (h * p + l)
saturated_twice h p l some = elim (cases_lt 18446744073709551615 h) [
  | inl more ↦
      let one : 18446744073709551615 * 1 ≤ 18446744073709551615 * p = mul-le-mul_left 18446744073709551615 some in
      let same : saturated h ≡ 18446744073709551615 = omega (arith, more) in
      let product : saturated h * p ≡ 18446744073709551615 * p = ap (λ n. n * p) same in
      let less : 18446744073709551615 * p ≤ h * p = mul-le-mul_right p (omega (arith, more)) in
      omega (arith, one, product, less)
  | inr less ↦
      let same : saturated h ≡ h = omega (arith, less) in
      ap (λ n. saturated (n * p + l)) same
]

-- codes from what was counted at most
pub joined_saturated : (k : ℕ) (high low : List ℕ) → map saturated (joined k (map saturated high) low) ≡ map saturated (joined k high low)
joined_saturated k [] low = refl
joined_saturated k (h ∷ high) [] = refl
joined_saturated k (h ∷ high) (l ∷ low) = ap₂ (λ (x : ℕ) (xs : List ℕ). x ∷ xs) (saturated_twice h (2 ^ k) l (pow_pos k)) (joined_saturated k high low)

pub code_saturated : (h p l : ℕ) → saturated (saturated (h * p) + l) ≡ saturated (h * p + l)
code_saturated h p l = elim (cases_lt 18446744073709551615 (h * p)) [
  | inl more ↦ omega (arith, more)
  | inr less ↦ omega (arith, less)
]

pub code_is : (sum product h k n : ℕ) → k ≤ 29 → product ≡ min (h * (1 * 2 ^ k % 2 ^ 64)) 18446744073709551615 → sum ≡ min (product + n) 18446744073709551615
    → sum ≡ saturated (h * 2 ^ k + n)
code_is sum product h k n small product_is sum_is =
    let power : 1 * 2 ^ k % 2 ^ 64 ≡ 2 ^ k = one_shl k 64 (omega (arith, small)) in
    let whole : product ≡ saturated (h * 2 ^ k) = product_is ∙ ap (λ p. saturated (h * p)) power in
    sum_is ∙ (ap (λ p. saturated (p + n)) whole ∙ code_saturated h (2 ^ k) n)

-- ---- numbers of no bits

no_bits : (bits : List Bool) → front_number 0 bits ≡ Found 0 bits
no_bits bits = number_found 0 bits (omega arith)

no_numbers : (count : ℕ) (bits : List Bool) → front_list (front_number 0) count bits ≡ Found (replicate count 0) bits
no_numbers zero bits = refl
no_numbers (suc count) bits =
    ap (λ f. and_then f (λ x r. and_then (front_list (front_number 0) count r) (λ xs r'. Found (x ∷ xs) r'))) (no_bits bits)
    ∙ ap (λ f. and_then f (λ xs r'. Found (0 ∷ xs) r')) (no_numbers count bits)

joined_zeros : (high : List ℕ) → All (λ n. n ≤ 18446744073709551615) high → map saturated (joined 0 high (replicate (length high) 0)) ≡ high
joined_zeros [] small = refl
joined_zeros (h ∷ high) small =
    let P : ℕ → Type 0 = λ n. n ≤ 18446744073709551615 in
    let one : h ≤ 18446744073709551615 = All-head P h high small in
    let same : saturated (h * 2 ^ 0 + 0) ≡ h = omega (arith, one) in
    ap₂ (λ (x : ℕ) (xs : List ℕ). x ∷ xs) same (joined_zeros high (All-tail P h high small))

pub no_low : (count : ℕ) (high : List ℕ) (make : List ℕ → List Bool → Front Coded) (bits : List Bool) → length high ≡ count → All (λ n. n ≤ 18446744073709551615) high
    → and_then (front_list (front_number 0) count bits) (λ low r. make (map saturated (joined 0 high low)) r) ≡ make high bits
no_low count high make bits long small =
    ap (λ f. and_then f (λ low r. make (map saturated (joined 0 high low)) r)) (no_numbers count bits)
    ∙ (ap (λ n. make (map saturated (joined 0 high (replicate n 0))) bits) (sym long)
    ∙ ap (λ xs. make xs bits) (joined_zeros high small))
