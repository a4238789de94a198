-- What the blocks of numbers tell.
use Rattle.std.proofs.Common.{min, lit<, inl, inr, ◌≡◌, ℕ, zero, suc, ◌+◌, ◌-◌, ◌*◌, ◌/◌, ◌%◌, ◌^◌, ◌<◌, ◌≤◌, Bool, true, false, cond, ◌&&◌, ◌==◌, nat_le, List, [], ◌∷◌, ◌++◌, map, get_or, take, drop, replicate, length, Option, Some, None, refl, sym, ap, ap₂, ◌∙◌, subst, arith, length-append, length-drop, length-take, append_assoc, append-nil}
use Rattle.std.specs.List.{All, list_all}
use Rattle.std.proofs.Math.Nat.{mul-le-mul_right, mul-div-le}
use Rattle.std.proofs.Math.Seq.{take-append-add}
use Rattle.std.proofs.lemmas.Nat.{mod-mul-add, mul-add-lt, div-add-mod'}
use Rattle.std.proofs.lemmas.Bool.{cases_lt, cases_eq, cases_Bool, eq-eqb, ne_eqb}
use Rattle.std.proofs.lemmas.Bool.Decides.{nat_tests}
use Rattle.std.proofs.lemmas.List.{drop_more, drop-drop, take_all, take-append-le, drop-append-le, take-replicate, length-replicate, map-append, length-map}
use Rattle.grib_coding.specs.Mapped.{mapped, codes_after}
use Rattle.grib_coding.specs.declared.coding.Coding.{Coding}
use Rattle.grib_coding.specs.Coding.{block_count, is_mapped, greatest}
use Rattle.grib_coding.specs.Numbers.{Told, Reference, Code, is_reference, told, told_after}
use Rattle.grib_coding.specs.Blocks.{all_told, pieces, blocks_of, code_of, codes_of, reference_of, is_zero}
use Rattle.grib_block_writing.specs.Steps.{block_at, numbers_of, base_of}

-- ---- pieces of a list

pub length-pieces : (size count : ℕ) (xs : List Told) → length (pieces size count xs) ≡ count
length-pieces size zero xs = refl
length-pieces size (suc count) xs = ap suc (length-pieces size count (drop size xs))

pub piece_at : (size count : ℕ) (xs : List Told) (q : ℕ) → q < count → get_or (pieces size count xs) q [] ≡ take size (drop (q * size) xs)
piece_at size zero xs q within = absurd (omega arith)
piece_at size (suc count) xs zero within =
    let none : 0 * size ≡ 0 = omega arith in
    ap (λ (n : ℕ). take size (drop n xs)) (sym none)
piece_at size (suc count) xs (suc q) within =
    let more : size + q * size ≡ suc q * size = omega arith in
    piece_at size count (drop size xs) q (omega arith)
    ∙ ap (take size) (drop-drop (q * size) size xs ∙ ap (λ (n : ℕ). drop n xs) more)

-- the next block
pub next_block : (c : Coding) (numbers : List ℕ) (q : ℕ) → q < block_count c (length numbers)
    → drop q (blocks_of c numbers) ≡ block_at c numbers q ∷ drop (q + 1) (blocks_of c numbers)
next_block c numbers q within =
    let count = block_count c (length numbers) in
    let all = blocks_of c numbers in
    drop_more all q [] (omega (arith, length-pieces c.block count (all_told c numbers)))
    ∙ ap (λ (b : List Told). b ∷ drop (q + 1) all) (piece_at c.block count (all_told c numbers) q within)

-- ---- what tells some of the numbers

pub length-told : (c : Coding) (place last : ℕ) (numbers : List ℕ) → length (told_after c place last numbers) ≡ length numbers
length-told c place last [] = refl
length-told c place last (n ∷ numbers) = ap suc (length-told c (place + 1) n numbers)

pub take-told : (c : Coding) (k place last : ℕ) (numbers : List ℕ)
    → take k (told_after c place last numbers) ≡ told_after c place last (take k numbers)
take-told c zero place last numbers = refl
take-told c (suc k) place last [] = refl
take-told c (suc k) place last (n ∷ numbers) = ap (λ (xs : List Told). told c place last n ∷ xs) (take-told c k (place + 1) n numbers)

pub drop-told : (c : Coding) (k place last : ℕ) (numbers : List ℕ) → k ≤ length numbers
    → drop k (told_after c place last numbers) ≡ told_after c (place + k) (get_or (last ∷ numbers) k 0) (drop k numbers)
drop-told c zero place last numbers within =
    let same : place ≡ place + 0 = omega arith in
    ap (λ (p : ℕ). told_after c p last numbers) same
drop-told c (suc k) place last [] within = absurd (omega arith)
drop-told c (suc k) place last (n ∷ numbers) within =
    let same : place + 1 + k ≡ place + suc k = omega arith in
    drop-told c k (place + 1) n numbers (omega arith)
    ∙ ap (λ (p : ℕ). told_after c p (get_or (n ∷ numbers) k 0) (drop k numbers)) same

-- the front of a list that zeros follow
front : (size : ℕ) (xs : List Told) (zeros : ℕ) (x : Told) → size ≤ length xs + zeros
    → take size (xs ++ replicate zeros x) ≡ take size xs ++ replicate (size - length xs) x
front size xs zeros x enough = elim (cases_lt (length xs) size) [
  | inl less ↦
      let whole : size ≡ length xs + (size - length xs) = omega arith in
      let all : take size xs ≡ xs = take_all size xs (omega arith) in
      ap (λ (n : ℕ). take n (xs ++ replicate zeros x)) whole
      ∙ (take-append-add xs (replicate zeros x) (size - length xs)
      ∙ ap₂ ◌++◌ (sym all) (take-replicate (size - length xs) zeros x (omega arith)))
  | inr more ↦
      let none : 0 ≡ size - length xs = omega arith in
      take-append-le size xs (replicate zeros x) more
      ∙ (sym (append-nil (take size xs)) ∙ ap (λ (n : ℕ). take size xs ++ replicate n x) none)
]

-- the numbers that a block has a place for
pub within_blocks : (c : Coding) (count q : ℕ) → 1 ≤ c.block → q < block_count c count
    → (q * c.block < count) × (q * c.block + c.block ≤ c.block * block_count c count)
within_blocks c count q some within =
    let B = block_count c count in
    let most : c.block * B ≤ count + c.block - 1 = mul-div-le (count + c.block - 1) c.block in
    let next : (q + 1) * c.block ≤ B * c.block = mul-le-mul_right c.block (omega arith) in
    (omega (arith, most, next), omega (arith, next))

-- a block is what tells its numbers, and then zeros
pub block_told : (c : Coding) (numbers : List ℕ) (q : ℕ) → 1 ≤ c.block → q < block_count c (length numbers)
    → block_at c numbers q
    ≡ told_after c (q * c.block) (get_or (0 ∷ numbers) (q * c.block) 0) (numbers_of c numbers q)
    ++ replicate (c.block - length (numbers_of c numbers q)) (Code 0)
block_told c numbers q some within =
    let start = q * c.block in
    let all = told_after c 0 0 numbers in
    let zeros = c.block * block_count c (length numbers) - length numbers in
    let fits = within_blocks c (length numbers) q some within in
    let long = length-told c 0 0 numbers in
    let left = drop start all in
    let rest = told_after c start (get_or (0 ∷ numbers) start 0) (drop start numbers) in
    let begins : 0 + start ≡ start = omega arith in
    let is : left ≡ rest =
    drop-told c start 0 0 numbers (omega (arith, fits.0))
    ∙ ap (λ (p : ℕ). told_after c p (get_or (0 ∷ numbers) start 0) (drop start numbers)) begins in
    let left_long : length left ≡ length numbers - start = length-drop start all ∙ omega (arith, long) in
    let numbers_long : length (numbers_of c numbers q) ≡ min c.block (length numbers - start) =
    length-take c.block (drop start numbers) ∙ ap (min c.block) (length-drop start numbers) in
    let same : c.block - length left ≡ c.block - length (numbers_of c numbers q) = omega (arith, left_long, numbers_long) in
    ap (take c.block) (drop-append-le start all (replicate zeros (Code 0)) (omega (arith, fits.0, long)))
    ∙ (front c.block left zeros (Code 0) (omega (arith, left_long, fits.0, fits.1))
    ∙ ap₂ (λ (xs : List Told) (n : ℕ). xs ++ replicate n (Code 0))
    (ap (take c.block) is ∙ take-told c c.block start (get_or (0 ∷ numbers) start 0) (drop start numbers)) same)

-- ---- references

place-mod : (c : Coding) (q i : ℕ) → i < c.block → 1 ≤ c.interval → (q * c.block + i) % (c.block * c.interval) ≡ q % c.interval * c.block + i
place-mod c q i within some =
    let a = q / c.interval in
    let b = q % c.interval in
    let cut : a * c.interval + b ≡ q = div-add-mod' q c.interval in
    let small : b < c.interval = omega (arith, some) in
    let both : (a * c.interval + b) * c.block + i ≡ a * (c.block * c.interval) + (b * c.block + i) = omega arith in
    ap (λ (n : ℕ). (n * c.block + i) % (c.block * c.interval)) (sym cut)
    ∙ (ap (λ (n : ℕ). n % (c.block * c.interval)) both
    ∙ mod-mul-add a (c.block * c.interval) (b * c.block + i) (mul-add-lt b c.block i c.interval small within))

pub and-false : (b : Bool) → (b && false) ≡ false
and-false true = refl
and-false false = refl

no_reference : (c : Coding) (q i : ℕ) → i < c.block → 1 ≤ c.interval → 1 ≤ q % c.interval + i → is_reference c (q * c.block + i) ≡ false
no_reference c q i within some more =
    let b = q % c.interval in
    let other : b * c.block + i ≡ 0 → ⊥ = λ (e : b * c.block + i ≡ 0). elim (cases_lt b 1) [
      | inl none ↦ omega (arith, none, more, e)
      | inr one ↦ let least : 1 * c.block ≤ b * c.block = mul-le-mul_right c.block one in omega (arith, least, within, e)
    ] in
    ap (λ (n : ℕ). is_mapped c && (n == 0)) (place-mod c q i within some)
    ∙ (ap (λ (t : Bool). is_mapped c && t) (ne_eqb (b * c.block + i) 0 other) ∙ and-false (is_mapped c))

some_reference : (c : Coding) (q : ℕ) → 1 ≤ c.block → 1 ≤ c.interval → is_mapped c ≡ true → q % c.interval ≡ 0 → is_reference c (q * c.block) ≡ true
some_reference c q block some mapped first =
    let same : q * c.block ≡ q * c.block + 0 = omega arith in
    let none : q % c.interval * c.block + 0 ≡ 0 = omega (arith, ap (λ (n : ℕ). n * c.block) first) in
    ap (λ (n : ℕ). is_mapped c && (n % (c.block * c.interval) == 0)) same
    ∙ (ap (λ (n : ℕ). is_mapped c && (n == 0)) (place-mod c q 0 block some)
    ∙ ap₂ (λ (m : Bool) (n : ℕ). m && (n == 0)) mapped none)

-- ---- codes

told_code : (c : Coding) (place last n : ℕ) → is_reference c place ≡ false
    → told c place last n ≡ Code (cond (is_mapped c) (mapped (greatest c) last n) n)
told_code c place last n is = ap (λ (r : Bool). cond r (Reference n) (Code (cond (is_mapped c) (mapped (greatest c) last n) n))) is

told_mapped : (c : Coding) (place last : ℕ) (numbers : List ℕ) → is_mapped c ≡ true
    → ((i : ℕ) → i < length numbers → is_reference c (place + i) ≡ false)
    → told_after c place last numbers ≡ map Code (codes_after (greatest c) last numbers)
told_mapped c place last [] is none = refl
told_mapped c place last (n ∷ numbers) is none =
    let here : place + 0 ≡ place = omega arith in
    let first : told c place last n ≡ Code (mapped (greatest c) last n) =
    told_code c place last n (ap (is_reference c) (sym here) ∙ none 0 (omega arith))
    ∙ ap (λ (m : Bool). Code (cond m (mapped (greatest c) last n) n)) is in
    ap₂ (λ (t : Told) (ts : List Told). t ∷ ts) first
    (told_mapped c (place + 1) n numbers is (λ i within.
    let more : place + 1 + i ≡ place + suc i = omega arith in
    ap (is_reference c) more ∙ none (suc i) (omega (arith, within))))

told_plain : (c : Coding) (place last : ℕ) (numbers : List ℕ) → is_mapped c ≡ false → told_after c place last numbers ≡ map Code numbers
told_plain c place last [] is = refl
told_plain c place last (n ∷ numbers) is =
    let none : is_reference c place ≡ false = ap (λ (m : Bool). m && (place % (c.block * c.interval) == 0)) is in
    ap₂ (λ (t : Told) (ts : List Told). t ∷ ts)
    (told_code c place last n none ∙ ap (λ (m : Bool). Code (cond m (mapped (greatest c) last n) n)) is)
    (told_plain c (place + 1) n numbers is)

-- what a block of these codes tells
unfoldable pub told_block : Option ℕ → List ℕ → List Told
told_block None codes = map Code codes
told_block (Some number) codes = Reference number ∷ map Code (drop 1 codes)

unfoldable pub reference_at : Coding → List ℕ → ℕ → Option ℕ
reference_at c numbers q = cond (is_mapped c && (q % c.interval == 0)) (Some (get_or numbers (q * c.block) 0)) None

unfoldable pub codes_at : Coding → List ℕ → ℕ → List ℕ
codes_at c numbers q =
    let these = numbers_of c numbers q in
    cond (is_mapped c) (codes_after (greatest c) (base_of c numbers q) these) these ++ replicate (c.block - length these) 0

codes_back : (codes : List ℕ) → codes_of (map Code codes) ≡ codes
codes_back [] = refl
codes_back (code ∷ codes) = ap (λ (cs : List ℕ). code ∷ cs) (codes_back codes)

none_first : (codes : List ℕ) → reference_of (map Code codes) ≡ None
none_first [] = refl
none_first (code ∷ codes) = refl

zeros_too : (n : ℕ) → replicate n (Code 0) ≡ map Code (replicate n 0)
zeros_too zero = refl
zeros_too (suc n) = ap (λ (ts : List Told). Code 0 ∷ ts) (zeros_too n)

with_zeros : (codes : List ℕ) (n : ℕ) → map Code codes ++ replicate n (Code 0) ≡ map Code (codes ++ replicate n 0)
with_zeros codes n = ap (λ (ts : List Told). map Code codes ++ ts) (zeros_too n) ∙ sym (map-append Code codes (replicate n 0))

-- the block with number q tells its reference and its codes
pub record Shape (c : Coding) (numbers : List ℕ) (q : ℕ) : Type 0 where
  pub tells : block_at c numbers q ≡ told_block (reference_at c numbers q) (codes_at c numbers q)
  pub reference : reference_of (block_at c numbers q) ≡ reference_at c numbers q
  pub codes : codes_of (block_at c numbers q) ≡ codes_at c numbers q

without : (c : Coding) (numbers : List ℕ) (q : ℕ) (codes : List ℕ) → reference_at c numbers q ≡ None → codes_at c numbers q ≡ codes
    → block_at c numbers q ≡ map Code codes → Shape c numbers q
unfolding told_block
without c numbers q codes none are is = record {
  tells = is ∙ (ap (told_block None) (sym are) ∙ ap (λ (r : Option ℕ). told_block r (codes_at c numbers q)) (sym none));
  reference = ap reference_of is ∙ (none_first codes ∙ sym none);
  codes = ap codes_of is ∙ (codes_back codes ∙ sym are);
}

with_one : (c : Coding) (numbers : List ℕ) (q number : ℕ) (codes : List ℕ) → reference_at c numbers q ≡ Some number
    → codes_at c numbers q ≡ 0 ∷ codes → block_at c numbers q ≡ Reference number ∷ map Code codes → Shape c numbers q
unfolding told_block
with_one c numbers q number codes one are is = record {
  tells = is ∙ (ap (told_block (Some number)) (sym are) ∙ ap (λ (r : Option ℕ). told_block r (codes_at c numbers q)) (sym one));
  reference = ap reference_of is ∙ sym one;
  codes = ap codes_of is ∙ (ap (λ (cs : List ℕ). 0 ∷ cs) (codes_back codes) ∙ sym are);
}

-- ---- the three kinds of blocks

some_numbers : (c : Coding) (numbers : List ℕ) (q : ℕ) → 1 ≤ c.block → q * c.block < length numbers
    → numbers_of c numbers q ≡ get_or numbers (q * c.block) 0 ∷ take (c.block - 1) (drop (q * c.block + 1) numbers)
some_numbers c numbers q some within =
    let start = q * c.block in
    let whole : c.block ≡ suc (c.block - 1) = omega (arith, some) in
    ap (take c.block) (drop_more numbers start 0 within)
    ∙ ap (λ (n : ℕ). take n (get_or numbers start 0 ∷ drop (start + 1) numbers)) whole

few_numbers : (c : Coding) (numbers : List ℕ) (q : ℕ) → length (numbers_of c numbers q) ≤ c.block
few_numbers c numbers q = omega (arith, length-take c.block (drop (q * c.block) numbers))

pub same-mapped : (most n : ℕ) → mapped most n n ≡ 0
same-mapped most n = grind (arith, nat_tests)

shape_plain : (c : Coding) (numbers : List ℕ) (q : ℕ) → 1 ≤ c.block → q < block_count c (length numbers) → is_mapped c ≡ false
    → Shape c numbers q
unfolding reference_at codes_at
shape_plain c numbers q some within is =
    let these = numbers_of c numbers q in
    let k = c.block - length these in
    without c numbers q (these ++ replicate k 0)
    (ap (λ (m : Bool). cond (m && (q % c.interval == 0)) (Some (get_or numbers (q * c.block) 0)) None) is)
    (ap (λ (m : Bool). cond m (codes_after (greatest c) (base_of c numbers q) these) these ++ replicate k 0) is)
    (block_told c numbers q some within
    ∙ (ap (λ (ts : List Told). ts ++ replicate k (Code 0)) (told_plain c (q * c.block) (get_or (0 ∷ numbers) (q * c.block) 0) these is)
    ∙ with_zeros these k))

shape_later : (c : Coding) (numbers : List ℕ) (q : ℕ) → 1 ≤ c.block → 1 ≤ c.interval → q < block_count c (length numbers) → is_mapped c ≡ true
    → (q % c.interval ≡ 0 → ⊥) → Shape c numbers q
unfolding reference_at codes_at
shape_later c numbers q some interval within is other =
    let these = numbers_of c numbers q in
    let start = q * c.block in
    let k = c.block - length these in
    let last = get_or (0 ∷ numbers) start 0 in
    let no : (q % c.interval == 0) ≡ false = ne_eqb (q % c.interval) 0 other in
    let more : 1 ≤ q % c.interval = omega (arith, other) in
    let one : 1 ≤ q = elim (cases_lt 0 q) [
      | inl less ↦ less
      | inr none ↦
          let zero_q : q ≡ 0 = omega (arith, none) in
          let rest : q % c.interval ≡ 0 % c.interval = ap (λ (n : ℕ). n % c.interval) zero_q in
          absurd (omega (arith, rest, more, interval))
    ] in
    let least : 1 * c.block ≤ q * c.block = mul-le-mul_right c.block one in
    let before : start ≡ suc (start - 1) = omega (arith, least, some) in
    let last_is : last ≡ get_or numbers (start - 1) 0 = ap (λ (n : ℕ). get_or (0 ∷ numbers) n 0) before in
    let base : base_of c numbers q ≡ last =
    ap₂ (λ (m t : Bool). cond m (cond t (get_or numbers start 0) (get_or numbers (start - 1) 0)) 0) is no ∙ sym last_is in
    without c numbers q (codes_after (greatest c) last these ++ replicate k 0)
    (ap₂ (λ (m t : Bool). cond (m && t) (Some (get_or numbers start 0)) None) is no)
    (ap₂ (λ (m : Bool) (b : ℕ). cond m (codes_after (greatest c) b these) these ++ replicate k 0) is base)
    (block_told c numbers q some within
    ∙ (ap (λ (ts : List Told). ts ++ replicate k (Code 0)) (told_mapped c start last these is
    (λ i below. no_reference c q i (omega (arith, below, few_numbers c numbers q)) interval (omega (arith, more))))
    ∙ with_zeros (codes_after (greatest c) last these) k))

shape_first : (c : Coding) (numbers : List ℕ) (q : ℕ) → 1 ≤ c.block → 1 ≤ c.interval → q < block_count c (length numbers) → is_mapped c ≡ true
    → q % c.interval ≡ 0 → Shape c numbers q
unfolding reference_at codes_at
shape_first c numbers q some interval within is first =
    let these = numbers_of c numbers q in
    let start = q * c.block in
    let k = c.block - length these in
    let last = get_or (0 ∷ numbers) start 0 in
    let n = get_or numbers start 0 in
    let ns = take (c.block - 1) (drop (start + 1) numbers) in
    let yes : (q % c.interval == 0) ≡ true = eq-eqb (q % c.interval) 0 first in
    let cut : these ≡ n ∷ ns = some_numbers c numbers q some ((within_blocks c (length numbers) q some within).0) in
    let base : base_of c numbers q ≡ n =
    ap₂ (λ (m t : Bool). cond m (cond t (get_or numbers start 0) (get_or numbers (start - 1) 0)) 0) is yes in
    let reference : told c start last n ≡ Reference n =
    ap (λ (r : Bool). cond r (Reference n) (Code (cond (is_mapped c) (mapped (greatest c) last n) n)))
    (some_reference c q some interval is first) in
    let rest : told_after c (start + 1) n ns ≡ map Code (codes_after (greatest c) n ns) =
    told_mapped c (start + 1) n ns is (λ i below.
    let place : start + 1 + i ≡ start + (1 + i) = omega arith in
    ap (is_reference c) place
    ∙ no_reference c q (1 + i) (omega (arith, below, few_numbers c numbers q, ap length cut)) interval (omega arith)) in
    let zero_first : codes_after (greatest c) n (n ∷ ns) ≡ 0 ∷ codes_after (greatest c) n ns =
    ap (λ (m : ℕ). m ∷ codes_after (greatest c) n ns) (same-mapped (greatest c) n) in
    with_one c numbers q n (codes_after (greatest c) n ns ++ replicate k 0)
    (ap₂ (λ (m t : Bool). cond (m && t) (Some (get_or numbers start 0)) None) is yes)
    (ap₂ (λ (m : Bool) (b : ℕ). cond m (codes_after (greatest c) b these) these ++ replicate k 0) is base
    ∙ ap (λ (xs : List ℕ). xs ++ replicate k 0) (ap (codes_after (greatest c) n) cut ∙ zero_first))
    (block_told c numbers q some within
    ∙ (ap (λ (xs : List ℕ). told_after c start last xs ++ replicate k (Code 0)) cut
    ∙ (ap₂ (λ (t : Told) (ts : List Told). (t ∷ ts) ++ replicate k (Code 0)) reference rest
    ∙ ap (λ (ts : List Told). Reference n ∷ ts) (with_zeros (codes_after (greatest c) n ns) k))))

pub shape : (c : Coding) (numbers : List ℕ) (q : ℕ) → 1 ≤ c.block → 1 ≤ c.interval → q < block_count c (length numbers) → Shape c numbers q
shape c numbers q some interval within = elim (cases_Bool (is_mapped c)) [
  | inl mapped ↦ elim (cases_eq (q % c.interval) 0) [
    | inl first ↦ shape_first c numbers q some interval within mapped first
    | inr other ↦ shape_later c numbers q some interval within mapped other
  ]
  | inr plain ↦ shape_plain c numbers q some within plain
]

pub reference_as : (c : Coding) (numbers : List ℕ) (q : ℕ) (t : Bool) → 1 ≤ c.block → 1 ≤ c.interval → q < block_count c (length numbers)
    → t ≡ (is_mapped c && (q % c.interval == 0))
    → cond t (Some (get_or numbers (q * c.block) 0)) None ≡ reference_of (block_at c numbers q)
unfolding reference_at
reference_as c numbers q t some interval within is =
    ap (λ (b : Bool). cond b (Some (get_or numbers (q * c.block) 0)) None) is ∙ sym ((shape c numbers q some interval within).reference)
