-- Zero blocks by their numbers, and runs of them.
use Rattle.std.proofs.Common.{lit<, inl, inr, min, ◌≡◌, ℕ, zero, suc, ◌+◌, ◌-◌, ◌*◌, ◌/◌, ◌%◌, ◌<◌, ◌≤◌, Bool, true, false, cond, ◌&&◌, ◌==◌, List, [], ◌∷◌, ◌++◌, map, get_or, take, drop, replicate, length, refl, sym, ap, ap₂, ◌∙◌, subst, arith}
use Rattle.std.specs.List.{All, list_all}
use Rattle.std.proofs.lemmas.Bool.{cases_lt, cases_eq, cases_Bool, eq-eqb, ne_eqb}
use Rattle.std.proofs.lemmas.Bool.Decides.{nat_tests}
use Rattle.std.proofs.lemmas.List.{drop_all, drop-replicate}
use Rattle.std.proofs.lemmas.List.Elements.{All-head, All-tail, All-take, All-drop, All-get_or, All-append, All-replicate}
use Rattle.std.proofs.lemmas.List.Folds.{list_all-append}
use Rattle.grib_coding.specs.Mapped.{mapped, codes_after}
use Rattle.grib_coding.proofs.Folds.{once}
use Rattle.grib_coding.specs.declared.coding.Coding.{Coding}
use Rattle.grib_coding.specs.Coding.{Fits, block_count, is_mapped, greatest}
use Rattle.grib_coding.specs.Numbers.{Told}
use Rattle.grib_coding.specs.Runs.{run_room}
use Rattle.grib_coding.specs.Blocks.{all_told, blocks_of, codes_of, is_zero, zero_blocks}
use Rattle.grib_block_writing.specs.Steps.{block_at, numbers_of, base_of}
use Rattle.grib_coding.specs.Written.{run_length}
use Rattle.grib_block_writing.proofs.Shapes.{shape, same-mapped, codes_at, within_blocks, next_block, length-pieces}

pub fits_block : (c : Coding) → Fits c → (1 ≤ c.block) × (c.block ≤ 64) × (c.block % 2 ≡ 0)
fits_block c fits = elim fits.block [
  | inl a ↦ (omega (arith, a), omega (arith, a), omega (arith, a))
  | inr b ↦ elim b [
    | inl a ↦ (omega (arith, a), omega (arith, a), omega (arith, a))
    | inr d ↦ elim d [
      | inl a ↦ (omega (arith, a), omega (arith, a), omega (arith, a))
      | inr a ↦ (omega (arith, a), omega (arith, a), omega (arith, a))
    ]
  ]
]

-- ---- zero blocks

all_zeros : (n : ℕ) → list_all (λ code. code == 0) (replicate n 0) ≡ true
all_zeros zero = refl
all_zeros (suc n) = all_zeros n

and-true : (b : Bool) → (b && true) ≡ b
and-true true = refl
and-true false = refl

-- codes are all 0 where the numbers are all the one before them
pub mapped_zeros : (most before : ℕ) (numbers : List ℕ) → before ≤ most → All (λ n. n ≤ most) numbers
    → list_all (λ code. code == 0) (codes_after most before numbers) ≡ list_all (λ n. n == before) numbers
mapped_zeros most before [] b all = refl
mapped_zeros most before (n ∷ numbers) b all =
    let here : n ≤ most = All-head (λ x. x ≤ most) n numbers all in
    let rest = All-tail (λ x. x ≤ most) n numbers all in
    let F : ℕ → Bool = λ (x : ℕ). list_all (λ y. y == x) numbers in
    let G : ℕ → Bool = λ (x : ℕ). list_all (λ code. code == 0) (codes_after most x numbers) in
    elim (cases_eq n before) [
      | inl same ↦
          let none : mapped most before n ≡ 0 = ap (mapped most before) same ∙ same-mapped most before in
          ap (λ (m : ℕ). (m == 0) && G n) none
          ∙ (ap G same ∙ (mapped_zeros most before numbers b (subst (λ (x : ℕ). All (λ y. y ≤ most) numbers) same rest)
          ∙ ap (λ (t : Bool). t && F before) (sym (eq-eqb n before same))))
      | inr other ↦
          let some : mapped most before n ≡ 0 → ⊥ =
          λ (e : mapped most before n ≡ 0). other (once most before n before b here b (e ∙ sym (same-mapped most before))) in
          ap (λ (t : Bool). t && G n) (ne_eqb (mapped most before n) 0 some)
          ∙ ap (λ (t : Bool). t && F before) (sym (ne_eqb n before other))
    ]

pub base-within : (c : Coding) (numbers : List ℕ) (q : ℕ) → 1 ≤ c.block → q < block_count c (length numbers)
    → All (λ n. n ≤ greatest c) numbers → base_of c numbers q ≤ greatest c
base-within c numbers q some within all =
    let start = q * c.block in
    let fits = within_blocks c (length numbers) q some within in
    let first : get_or numbers start 0 ≤ greatest c = All-get_or (λ n. n ≤ greatest c) numbers start 0 (fits.0) all in
    let before : get_or numbers (start - 1) 0 ≤ greatest c = All-get_or (λ n. n ≤ greatest c) numbers (start - 1) 0 (omega (arith, fits.0)) all in
    elim (cases_Bool (is_mapped c)) [
      | inl is ↦ elim (cases_Bool (q % c.interval == 0)) [
        | inl at_first ↦ let e : base_of c numbers q ≡ get_or numbers start 0 =
            ap₂ (λ (m t : Bool). cond m (cond t (get_or numbers start 0) (get_or numbers (start - 1) 0)) 0) is at_first in omega (arith, e, first)
        | inr later ↦ let e : base_of c numbers q ≡ get_or numbers (start - 1) 0 =
            ap₂ (λ (m t : Bool). cond m (cond t (get_or numbers start 0) (get_or numbers (start - 1) 0)) 0) is later in omega (arith, e, before)
      ]
      | inr is ↦ let e : base_of c numbers q ≡ 0 =
          ap (λ (m : Bool). cond m (cond (q % c.interval == 0) (get_or numbers start 0) (get_or numbers (start - 1) 0)) 0) is in omega (arith, e)
    ]

-- a zero block by its numbers
pub zero_block : (c : Coding) (numbers : List ℕ) (q : ℕ) → 1 ≤ c.block → 1 ≤ c.interval → q < block_count c (length numbers)
    → All (λ n. n ≤ greatest c) numbers
    → is_zero (block_at c numbers q) ≡ list_all (λ n. n == base_of c numbers q) (numbers_of c numbers q)
unfolding codes_at
zero_block c numbers q some interval within all =
    let these = numbers_of c numbers q in
    let base = base_of c numbers q in
    let k = c.block - length these in
    let codes = cond (is_mapped c) (codes_after (greatest c) base these) these in
    let Z : List ℕ → Bool = λ (xs : List ℕ). list_all (λ code. code == 0) xs in
    let these_within : All (λ n. n ≤ greatest c) these =
    All-take (λ n. n ≤ greatest c) c.block (drop (q * c.block) numbers) (All-drop (λ n. n ≤ greatest c) (q * c.block) numbers all) in
    let tail : Z (codes ++ replicate k 0) ≡ Z codes =
    list_all-append (λ code. code == 0) codes (replicate k 0)
    ∙ (ap (λ (t : Bool). Z codes && t) (all_zeros k) ∙ and-true (Z codes)) in
    let front : Z codes ≡ list_all (λ n. n == base) these = elim (cases_Bool (is_mapped c)) [
      | inl is ↦
          ap (λ (m : Bool). Z (cond m (codes_after (greatest c) base these) these)) is
          ∙ mapped_zeros (greatest c) base these (base-within c numbers q some within all) these_within
      | inr is ↦
          let none : base ≡ 0 = ap (λ (m : Bool). cond m (cond (q % c.interval == 0) (get_or numbers (q * c.block) 0) (get_or numbers (q * c.block - 1) 0)) 0) is in
          ap (λ (m : Bool). Z (cond m (codes_after (greatest c) base these) these)) is
          ∙ ap (λ (b : ℕ). list_all (λ n. n == b) these) (sym none)
    ] in
    ap Z ((shape c numbers q some interval within).codes) ∙ (tail ∙ front)

-- ---- runs

-- the zero blocks of a run, by how many of the first of them are known
pub record Zeros (c : Coding) (numbers : List ℕ) (q zeros : ℕ) : Type 0 where
  pub some : zeros ≤ run_room c (q % c.interval)
  pub is : run_length c (q % c.interval) (drop q (blocks_of c numbers))
      ≡ zeros + zero_blocks (take (run_room c (q % c.interval) - zeros) (drop (q + zeros) (blocks_of c numbers)))

pub no_zeros : (c : Coding) (numbers : List ℕ) (q : ℕ) → Zeros c numbers q 0
no_zeros c numbers q = record {
  some = omega arith;
  is =
      let room = run_room c (q % c.interval) in
      let same : q ≡ q + 0 = omega arith in
      let less : room ≡ room - 0 = omega arith in
      let all : zero_blocks (take room (drop q (blocks_of c numbers))) ≡ zero_blocks (take (room - 0) (drop (q + 0) (blocks_of c numbers))) =
      ap₂ (λ (r p : ℕ). zero_blocks (take r (drop p (blocks_of c numbers)))) less same in
      omega (arith, all);
}

-- the first blocks that are left, with one more known
cut : (c : Coding) (numbers : List ℕ) (q zeros room : ℕ) (t : Bool) → zeros < room → q + zeros < block_count c (length numbers)
    → is_zero (block_at c numbers (q + zeros)) ≡ t
    → zero_blocks (take (room - zeros) (drop (q + zeros) (blocks_of c numbers)))
    ≡ cond t (zero_blocks (take (room - (zeros + 1)) (drop (q + (zeros + 1)) (blocks_of c numbers))) + 1) 0
cut c numbers q zeros room t less within is =
    let all = blocks_of c numbers in
    let first = block_at c numbers (q + zeros) in
    let one : room - zeros ≡ suc (room - (zeros + 1)) = omega (arith, less) in
    let place : q + zeros + 1 ≡ q + (zeros + 1) = omega arith in
    ap₂ (λ (n : ℕ) (bs : List (List Told)). zero_blocks (take n bs)) one (next_block c numbers (q + zeros) within)
    ∙ ap₂ (λ (z : Bool) (p : ℕ). cond z (zero_blocks (take (room - (zeros + 1)) (drop p all)) + 1) 0) is place

pub one_zero_more : (c : Coding) (numbers : List ℕ) (q zeros : ℕ) → Zeros c numbers q zeros → zeros < run_room c (q % c.interval)
    → q + zeros < block_count c (length numbers) → is_zero (block_at c numbers (q + zeros)) ≡ true → Zeros c numbers q (zeros + 1)
one_zero_more c numbers q zeros so less within is = record {
  some = omega (arith, less);
  is = omega (arith, so.is, cut c numbers q zeros (run_room c (q % c.interval)) true less within is);
}

pub no_more : (c : Coding) (numbers : List ℕ) (q zeros : ℕ) → Zeros c numbers q zeros → zeros < run_room c (q % c.interval)
    → q + zeros < block_count c (length numbers) → is_zero (block_at c numbers (q + zeros)) ≡ false
    → run_length c (q % c.interval) (drop q (blocks_of c numbers)) ≡ zeros
no_more c numbers q zeros so less within is = omega (arith, so.is, cut c numbers q zeros (run_room c (q % c.interval)) false less within is)

pub at_the_end : (c : Coding) (numbers : List ℕ) (q zeros : ℕ) → Zeros c numbers q zeros
    → min (run_room c (q % c.interval)) (block_count c (length numbers) - q) ≤ zeros
    → run_length c (q % c.interval) (drop q (blocks_of c numbers)) ≡ zeros
at_the_end c numbers q zeros so end = elim (cases_lt zeros (run_room c (q % c.interval))) [
  | inl less ↦
      let all = blocks_of c numbers in
      let room = run_room c (q % c.interval) in
      let none : drop (q + zeros) all ≡ [] =
      drop_all (q + zeros) all (omega (arith, end, less, length-pieces c.block (block_count c (length numbers)) (all_told c numbers))) in
      let left : zero_blocks (take (room - zeros) (drop (q + zeros) all)) ≡ 0 =
      let one : room - zeros ≡ suc (room - zeros - 1) = omega (arith, less) in
      ap₂ (λ (n : ℕ) (bs : List (List Told)). zero_blocks (take n bs)) one none in
      omega (arith, so.is, left)
  | inr more ↦
      let all = blocks_of c numbers in
      let room = run_room c (q % c.interval) in
      let full : room - zeros ≡ 0 = omega (arith, more) in
      let left : zero_blocks (take (room - zeros) (drop (q + zeros) all)) ≡ 0 = ap (λ (n : ℕ). zero_blocks (take n (drop (q + zeros) all))) full in
      omega (arith, so.is, left)
]

pub most_blocks : (c : Coding) (numbers : List ℕ) (q interval room count most : ℕ) → interval ≡ c.interval → room ≡ run_room c (q % interval)
    → count ≡ block_count c (length numbers) → most ≡ min room (count - q)
    → most ≡ min (run_room c (q % c.interval)) (block_count c (length numbers) - q)
most_blocks c numbers q interval room count most is room_is count_is most_is =
    let whole : room ≡ run_room c (q % c.interval) = room_is ∙ ap (λ (n : ℕ). run_room c (q % n)) is in
    omega (arith, whole, count_is, most_is)

-- ---- codes behind which zeros stand

pub filled : (c : Coding) (numbers : List ℕ) (q : ℕ) (front these old : List ℕ) → 1 ≤ c.block → 1 ≤ c.interval → q < block_count c (length numbers)
    → these ≡ numbers_of c numbers q → old ≡ replicate c.block 0
    → front ≡ cond (is_mapped c) (codes_after (greatest c) (base_of c numbers q) (numbers_of c numbers q)) (numbers_of c numbers q)
    → front ++ drop (length these) old ≡ codes_of (block_at c numbers q)
unfolding codes_at
filled c numbers q front these old some interval within is zeros codes =
    let left : drop (length these) old ≡ replicate (c.block - length (numbers_of c numbers q)) 0 =
    ap₂ (λ (xs ys : List ℕ). drop (length xs) ys) is zeros ∙ drop-replicate (length (numbers_of c numbers q)) c.block 0 in
    ap₂ ◌++◌ codes left ∙ sym ((shape c numbers q some interval within).codes)

pub filled-within : (c : Coding) (front these old : List ℕ) → old ≡ replicate c.block 0 → All (λ n. n ≤ greatest c) front
    → All (λ n. n ≤ greatest c) (front ++ drop (length these) old)
filled-within c front these old zeros all =
    let P : List ℕ → Type 0 = λ (xs : List ℕ). All (λ n. n ≤ greatest c) xs in
    All-append (λ n. n ≤ greatest c) front (drop (length these) old) all
    (All-drop (λ n. n ≤ greatest c) (length these) old
    (subst P (sym zeros) (All-replicate (λ n. n ≤ greatest c) c.block 0 (omega arith))))

pub these-within : (c : Coding) (numbers these : List ℕ) (q : ℕ) → these ≡ numbers_of c numbers q → All (λ n. n ≤ greatest c) numbers
    → All (λ n. n ≤ greatest c) these
these-within c numbers these q is all =
    let P : List ℕ → Type 0 = λ (xs : List ℕ). All (λ n. n ≤ greatest c) xs in
    subst P (sym is) (All-take (λ n. n ≤ greatest c) c.block (drop (q * c.block) numbers) (All-drop (λ n. n ≤ greatest c) (q * c.block) numbers all))

pub mapped_front : (c : Coding) (numbers : List ℕ) (q most base : ℕ) (front these : List ℕ) (t : Bool) → t ≡ is_mapped c → t ≡ true
    → most ≡ greatest c → base ≡ base_of c numbers q → these ≡ numbers_of c numbers q → front ≡ codes_after most base these
    → front ≡ cond (is_mapped c) (codes_after (greatest c) (base_of c numbers q) (numbers_of c numbers q)) (numbers_of c numbers q)
mapped_front c numbers q most base front these t mapped yes' most_is base_is is codes =
    codes ∙ (ap₂ (λ (m b : ℕ). codes_after m b these) most_is base_is
    ∙ (ap (codes_after (greatest c) (base_of c numbers q)) is
    ∙ ap (λ (b : Bool). cond b (codes_after (greatest c) (base_of c numbers q) (numbers_of c numbers q)) (numbers_of c numbers q))
    (sym yes' ∙ mapped)))

pub plain_front : (c : Coding) (numbers : List ℕ) (q : ℕ) (front these : List ℕ) (t : Bool) → t ≡ is_mapped c → t ≡ false
    → these ≡ numbers_of c numbers q → front ≡ these
    → front ≡ cond (is_mapped c) (codes_after (greatest c) (base_of c numbers q) (numbers_of c numbers q)) (numbers_of c numbers q)
plain_front c numbers q front these t mapped no' is codes =
    codes ∙ (is ∙ ap (λ (b : Bool). cond b (codes_after (greatest c) (base_of c numbers q) (numbers_of c numbers q)) (numbers_of c numbers q))
    (sym no' ∙ mapped))
