-- All that is written is read back.
use Rattle.std.proofs.Common.{lit<, inl, inr, ◌≡◌, ℕ, zero, suc, ◌+◌, ◌-◌, ◌*◌, ◌/◌, ◌%◌, ◌<◌, ◌≤◌, Bool, true, false, cond, ◌&&◌, ◌||◌, ◌==◌, List, [], ◌∷◌, ◌++◌, map, get_or, take, drop, replicate, length, Option, Some, None, refl, sym, ap, ap₂, ◌∙◌, subst, arith, append-nil, append_assoc}
use Rattle.std.specs.List.{All}
use Rattle.std.proofs.Math.Nat.{mul-le-mul_left}
use Rattle.std.proofs.lemmas.Nat.{mod_below}
use Rattle.std.proofs.lemmas.Bool.{cases_lt, cases_eq, cases_Bool}
use Rattle.std.proofs.lemmas.List.{take_at, drop-replicate}
use Rattle.std.proofs.lemmas.List.Elements.{All-replicate, All-get_or, All-append}
use Rattle.grib_coding.specs.declared.coding.Coding.{Coding}
use Rattle.grib_coding.specs.Coding.{Fits, block_count, is_mapped, is_padded, greatest}
use Rattle.grib_coding.specs.declared.fault.BlockFault.{BlockFault}
use Rattle.grib_coding.specs.Items.{Item, IsItem, Run, covered}
use Rattle.grib_coding.specs.Numbers.{Told, Reference, Code, told_after}
use Rattle.grib_coding.specs.Reading.{Front, Found, Coded, Decoded, decoded, read_as, ended_by, item_fault, entries_of, front_item, items_from, is_over, is_too_long, skipped, behind as with_behind, coded_of}
use Rattle.grib_coding.specs.Mapped.{codes_after}
use Rattle.grib_coding.specs.Runs.{run_room, run_number}
use Rattle.grib_coding.specs.Choices.{chosen}
use Rattle.grib_coding.proofs.Lists.{tells_within}
use Rattle.grib_coding.specs.Blocks.{all_told, blocks_of, codes_of, reference_of}
use Rattle.grib_block_writing.specs.Steps.{block_at, numbers_of, base_of}
use Rattle.grib_coding.specs.Written.{run_length, number_of, coded_bits, chosen_item, bits_from, skip_of, written}
use Rattle.grib_block_writing.proofs.Shapes.{Shape, shape, told_block, reference_at, codes_at, length-told, within_blocks}
use Rattle.grib_block_writing.proofs.Zeros.{fits_block, base-within, these-within}
use Rattle.grib_block_writing.proofs.Runs.{run_bits, block_bits, number_is}
use Rattle.grib_block_writing.proofs.Back.{chosen_is_item, chosen_short, one_covered, block_not_over, no_fault, front_back, block_entries}
use Rattle.grib_block_writing.proofs.Read.{Back, back_nothing, back_more, back_end, back_same, ended, step, block_and_rest, block_tells, length-block, all_gone, RunOf, run_of, whole_run, more_zeros, Covers, covers}

-- the codes of a block are at most the greatest number
codes_within : (c : Coding) (numbers : List ℕ) (q : ℕ) → 1 ≤ c.block → 1 ≤ c.interval → q < block_count c (length numbers)
    → All (λ n. n ≤ greatest c) numbers → All (λ n. n ≤ greatest c) (codes_of (block_at c numbers q))
unfolding codes_at
codes_within c numbers q some interval within all =
    let these = numbers_of c numbers q in
    let base = base_of c numbers q in
    let k = c.block - length these in
    let P : List ℕ → Type 0 = λ (xs : List ℕ). All (λ n. n ≤ greatest c) xs in
    let these_within : P these = these-within c numbers these q refl all in
    let codes_small : P (cond (is_mapped c) (codes_after (greatest c) base these) these) = elim (cases_Bool (is_mapped c)) [
      | inl is ↦ subst (λ (m : Bool). P (cond m (codes_after (greatest c) base these) these)) (sym is)
          (tells_within (greatest c) base (codes_after (greatest c) base these) these (base-within c numbers q some within all) these_within refl)
      | inr is ↦ subst (λ (m : Bool). P (cond m (codes_after (greatest c) base these) these)) (sym is) these_within
    ] in
    subst P (sym ((shape c numbers q some interval within).codes))
    (All-append (λ n. n ≤ greatest c) (cond (is_mapped c) (codes_after (greatest c) base these) these) (replicate k 0) codes_small
    (All-replicate (λ n. n ≤ greatest c) k 0 (omega arith)))

-- whether a block begins with a reference, and which
begins : Coding → ℕ → Bool
begins c q = (q % c.interval == 0) && is_mapped c

and-comm : (a b : Bool) → (a && b) ≡ (b && a)
and-comm true true = refl
and-comm true false = refl
and-comm false true = refl
and-comm false false = refl

reference_is : (c : Coding) (numbers : List ℕ) (q : ℕ) → 1 ≤ c.block → 1 ≤ c.interval → q < block_count c (length numbers)
    → reference_of (block_at c numbers q) ≡ cond (begins c q) (Some (get_or numbers (q * c.block) 0)) None
unfolding reference_at begins
reference_is c numbers q some interval within =
    (shape c numbers q some interval within).reference
    ∙ ap (λ (t : Bool). cond t (Some (get_or numbers (q * c.block) 0)) None) (and-comm (is_mapped c) (q % c.interval == 0))

skip_is : (t : Bool) (number : ℕ) → skip_of (cond t (Some number) None) ≡ skipped t
skip_is true number = refl
skip_is false number = refl

-- an item of a block is read back
front : (c : Coding) (numbers : List ℕ) (q : ℕ) (item : Item) (behind : List Bool) → 1 ≤ c.block → 1 ≤ c.interval → q < block_count c (length numbers)
    → All (λ n. n ≤ greatest c) numbers → IsItem c (skip_of (reference_of (block_at c numbers q))) item
    → front_item c (begins c q) (coded_bits c (coded_of (reference_of (block_at c numbers q)) item) ++ behind)
    ≡ Found (coded_of (reference_of (block_at c numbers q)) item) behind
front c numbers q item behind some interval within all is =
    let number = get_or numbers (q * c.block) 0 in
    let t = begins c q in
    let reference = reference_is c numbers q some interval within in
    let fits = within_blocks c (length numbers) q some within in
    let is' : IsItem c (skipped t) item =
    subst (λ (n : ℕ). IsItem c n item) (ap skip_of reference ∙ skip_is t number) is in
    ap (λ (r : Option ℕ). front_item c t (coded_bits c (coded_of r item) ++ behind)) reference
    ∙ (front_back c t number item behind (All-get_or (λ n. n ≤ greatest c) numbers (q * c.block) 0 (fits.0) all) is'
    ∙ ap (λ (r : Option ℕ). Found (coded_of r item) behind) (sym reference))

skip_small : (reference : Option ℕ) → skip_of reference ≤ 1
skip_small None = omega arith
skip_small (Some number) = omega arith

-- what is read from a block on
pub FromHere : Coding → List ℕ → List Bool → ℕ → ℕ → Type 0
FromHere c numbers rest most q =
    Back (items_from most c (length numbers) q (bits_from c q (drop q (blocks_of c numbers)) ++ rest)) (drop (q * c.block) (all_told c numbers))

pub read_block : (c : Coding) (numbers : List ℕ) (rest : List Bool) (most q : ℕ) → Fits c → is_padded c ≡ false → All (λ n. n ≤ greatest c) numbers
    → q < block_count c (length numbers) → run_length c (q % c.interval) (drop q (blocks_of c numbers)) ≡ 0
    → FromHere c numbers rest most (q + 1) → FromHere c numbers rest (suc most) q
unfolding FromHere begins
read_block c numbers rest most q fits unpadded all within none next =
    let block = block_at c numbers q in
    let reference = reference_of block in
    let codes = codes_of block in
    let item = chosen_item c reference codes in
    let one = coded_of reference item in
    let place = q % c.interval in
    let B = fits_block c fits in
    let behind = bits_from c (q + 1) (drop (q + 1) (blocks_of c numbers)) ++ rest in
    let long = length-block c numbers q B.0 within in
    let even : length codes % 2 ≡ 0 = ap (λ (n : ℕ). n % 2) long ∙ B.2 in
    let small = codes_within c numbers q B.0 fits.some_blocks within all in
    let is : IsItem c (skip_of reference) item = chosen_is_item c (skip_of reference) codes long (omega (arith, skip_small reference, B.0)) small in
    let covers_one : covered c place item ≡ 1 = one_covered c place (skip_of reference) codes (chosen c (skip_of reference) codes) in
    let entries = block_entries c place reference codes even in
    let place_small : place < c.interval = mod_below q c.interval fits.some_blocks in
    let fault : item_fault c (length numbers) q one ≡ None =
    no_fault c (length numbers) q one (omega (arith, covers_one, place_small)) (chosen_short c (skip_of reference) codes even (B.1) small)
    (subst (λ (es : List Told). All (λ e. is_over c e ≡ false) es) (sym entries) (block_not_over c reference codes small)) in
    let bits : bits_from c q (drop q (blocks_of c numbers)) ++ rest ≡ coded_bits c one ++ behind =
    ap (λ (xs : List Bool). xs ++ rest) (block_bits c numbers q reference codes within none refl refl)
    ∙ append_assoc (coded_bits c one) (bits_from c (q + 1) (drop (q + 1) (blocks_of c numbers))) rest in
    back_same _ _ _ (ap (items_from (suc most) c (length numbers) q) bits
    ∙ (step most c (length numbers) q (coded_bits c one ++ behind) behind one within unpadded
    (front c numbers q item behind B.0 fits.some_blocks within all is) fault
    ∙ ap₂ (λ (es : List Told) (n : ℕ). with_behind es (items_from most c (length numbers) (q + n) behind)) entries covers_one))
    (back_more _ (told_block reference codes) _ _ next
    (block_and_rest c numbers q ∙ ap (λ (xs : List Told). xs ++ drop ((q + 1) * c.block) (all_told c numbers)) (block_tells c numbers q B.0 fits.some_blocks within)))

-- what a run tells as it is read
run_entries : (c : Coding) (place number : ℕ) (reference : Option ℕ)
    → entries_of c place (coded_of reference (Run number)) ≡ told_block reference (replicate (c.block * covered c place (Run number)) 0)
unfolding told_block
run_entries c place number None =
    let all = c.block * covered c place (Run number) in
    let same : all - 0 ≡ all = omega arith in
    ap (λ (n : ℕ). map Code (replicate n 0)) same
run_entries c place number (Some first) =
    let all = c.block * covered c place (Run number) in
    ap (λ (cs : List ℕ). Reference first ∷ map Code cs) (sym (drop-replicate 1 all 0))

pub read_run : (c : Coding) (numbers : List ℕ) (rest : List Bool) (most q count : ℕ) → Fits c → is_padded c ≡ false → All (λ n. n ≤ greatest c) numbers
    → q < block_count c (length numbers) → count ≡ run_length c (q % c.interval) (drop q (blocks_of c numbers)) → 0 < count
    → FromHere c numbers rest most (q + count) → FromHere c numbers rest (suc most) q
unfolding FromHere begins
read_run c numbers rest most q count fits unpadded all within is some next =
    let reference = reference_of (block_at c numbers q) in
    let place = q % c.interval in
    let B = fits_block c fits in
    let blocks = block_count c (length numbers) in
    let ends = count == run_room c place || (count == blocks - q) in
    let number = run_number count ends in
    let one = coded_of reference (Run number) in
    let k = covered c place (Run number) in
    let behind = bits_from c (q + count) (drop (q + count) (blocks_of c numbers)) ++ rest in
    let run : RunOf c numbers q count = subst (λ (n : ℕ). RunOf c numbers q n) (sym is) (run_of c numbers q within) in
    let reads : Covers c numbers q count k = covers c numbers q count run some in
    let place_small : place < c.interval = mod_below q c.interval fits.some_blocks in
    let entries = run_entries c place number reference in
    let zero_codes : All (λ n. n ≤ greatest c) (replicate (c.block * k) 0) = All-replicate (λ n. n ≤ greatest c) (c.block * k) 0 (omega arith) in
    let fault : item_fault c (length numbers) q one ≡ None =
    no_fault c (length numbers) q one (omega (arith, reads.room, place_small)) refl
    (subst (λ (es : List Told). All (λ e. is_over c e ≡ false) es) (sym entries) (block_not_over c reference (replicate (c.block * k) 0) zero_codes)) in
    let bits : bits_from c q (drop q (blocks_of c numbers)) ++ rest ≡ coded_bits c one ++ behind =
    ap (λ (xs : List Bool). xs ++ rest) (run_bits c numbers q count number reference within is some refl (number_is c numbers q count ends is refl))
    ∙ append_assoc (coded_bits c one) (bits_from c (q + count) (drop (q + count) (blocks_of c numbers))) rest in
    let told = whole_run c numbers q count B.0 fits.some_blocks run some in
    let read = ap (items_from (suc most) c (length numbers) q) bits
    ∙ step most c (length numbers) q (coded_bits c one ++ behind) behind one within unpadded
    (front c numbers q (Run number) behind B.0 fits.some_blocks within all tt) fault in
    elim reads.end [
      | inl same ↦
          back_same _ _ _ (read
          ∙ ap₂ (λ (es : List Told) (n : ℕ). with_behind es (items_from most c (length numbers) (q + n) behind))
          (entries ∙ ap (λ (n : ℕ). told_block reference (replicate (c.block * n) 0)) same) same)
          (back_more _ (told_block reference (replicate (c.block * count) 0)) _ _ next told)
      | inr last ↦
          let more = k - count in
          let sum : c.block * k ≡ c.block * count + c.block * more =
          let cut : k ≡ count + more = omega (arith, reads.least) in
          let product : c.block * (count + more) ≡ c.block * count + c.block * more = omega arith in
          ap (λ (n : ℕ). c.block * n) cut ∙ product in
          let least : c.block * 1 ≤ c.block * count = mul-le-mul_left c.block (omega (arith, some)) in
          let gone = all_gone c numbers (q + count) B.0 (omega (arith, last)) in
          let front_told : drop (q * c.block) (all_told c numbers) ≡ told_block reference (replicate (c.block * count) 0) =
          told ∙ (ap (λ (xs : List Told). told_block reference (replicate (c.block * count) 0) ++ xs) gone
          ∙ append-nil (told_block reference (replicate (c.block * count) 0))) in
          back_same _ _ _ (read
          ∙ ap₂ with_behind entries (ended most c (length numbers) (q + k) behind (omega (arith, last, reads.least))))
          (back_end (told_block reference (replicate (c.block * k) 0)) _ (replicate (c.block * more) (Code 0))
          (ap (λ (n : ℕ). told_block reference (replicate n 0)) sum
          ∙ (more_zeros reference (c.block * count) (c.block * more) (omega (arith, least, B.0))
          ∙ ap (λ (xs : List Told). xs ++ replicate (c.block * more) (Code 0)) (sym front_told))))
    ]

pub all_back : (c : Coding) (numbers : List ℕ) (rest : List Bool) (most q : ℕ) → Fits c → is_padded c ≡ false → All (λ n. n ≤ greatest c) numbers
    → block_count c (length numbers) ≤ q + most → FromHere c numbers rest most q
unfolding FromHere
all_back c numbers rest zero q fits unpadded all enough =
    let end : block_count c (length numbers) ≤ q = omega (arith, enough) in
    back_same _ _ _ (ended zero c (length numbers) q (bits_from c q (drop q (blocks_of c numbers)) ++ rest) end) (back_nothing _ (all_gone c numbers q ((fits_block c fits).0) end))
all_back c numbers rest (suc most) q fits unpadded all enough = elim (cases_lt q (block_count c (length numbers))) [
  | inl within ↦ elim (cases_eq (run_length c (q % c.interval) (drop q (blocks_of c numbers))) 0) [
    | inl none ↦ read_block c numbers rest most q fits unpadded all within none
        (all_back c numbers rest most (q + 1) fits unpadded all (omega (arith, enough)))
    | inr some ↦
        let count = run_length c (q % c.interval) (drop q (blocks_of c numbers)) in
        let more : 0 < count = omega (arith, some) in
        read_run c numbers rest most q count fits unpadded all within refl more
        (all_back c numbers rest most (q + count) fits unpadded all (omega (arith, enough, more)))
  ]
  | inr end ↦ back_same _ _ _ (ended (suc most) c (length numbers) q (bits_from c q (drop q (blocks_of c numbers)) ++ rest) end) (back_nothing _ (all_gone c numbers q ((fits_block c fits).0) end))
]

decoded_as : List Told → Option BlockFault → Decoded
decoded_as entries fault = record { entries = entries; fault = fault }

pub read_back : (c : Coding) (numbers : List ℕ) (rest : List Bool) → Fits c → is_padded c ≡ false → All (λ n. n ≤ greatest c) numbers
    → decoded c (length numbers) (written c numbers ++ rest) ≡ read_as c numbers
unfolding FromHere decoded_as
read_back c numbers rest fits unpadded all =
    let blocks = block_count c (length numbers) in
    let read = items_from blocks c (length numbers) 0 (written c numbers ++ rest) in
    let told = told_after c 0 0 numbers in
    let zeros = replicate (c.block * blocks - length numbers) (Code 0) in
    let none : 0 * c.block ≡ 0 = omega arith in
    let b : Back read (drop (0 * c.block) (all_told c numbers)) = all_back c numbers rest blocks 0 fits unpadded all (omega arith) in
    let entries : take (length numbers) read.entries ≡ told =
    ap (take (length numbers)) (b.entries ∙ (ap (λ (n : ℕ). drop n (all_told c numbers) ++ b.extra) none ∙ append_assoc told zeros b.extra))
    ∙ take_at told (zeros ++ b.extra) (length numbers) (length-told c 0 0 numbers) in
    ap₂ decoded_as entries b.fault
