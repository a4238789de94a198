-- What is written is read back, item after item.
use Rattle.std.proofs.Common.{lit<, inl, inr, min, ◌⊎◌, ◌≡◌, ℕ, zero, suc, ◌+◌, ◌-◌, ◌*◌, ◌/◌, ◌%◌, ◌<◌, ◌≤◌, Bool, true, false, cond, ◌&&◌, ◌||◌, ◌==◌, nat_le, nat_lt, List, [], ◌∷◌, ◌++◌, map, get_or, take, drop, replicate, length, Option, Some, None, refl, sym, ap, ap₂, ◌∙◌, subst, arith, length-drop, length-take, length-append, append_assoc, append-nil, take-append-drop}
use Rattle.std.specs.List.{All, list_all}
use Rattle.std.proofs.Math.Nat.{mul-le-mul_left, mul-le-mul_right}
use Rattle.std.proofs.lemmas.Nat.{div-add-mod', mod-mul-add, mod_below}
use Rattle.std.proofs.lemmas.Bool.{cases_lt, cases_eq, cases_Bool, le-leb, lt-leb, ne_eqb, eq-eqb}
use Rattle.std.proofs.lemmas.Bool.Decides.{nat_tests}
use Rattle.std.proofs.lemmas.List.{drop-drop, drop_all, drop-replicate, get_or-take, get_or-drop, length-map, length-replicate, map-append, replicate-append-replicate, take_at}
use Rattle.std.proofs.lemmas.List.Elements.{All-replicate}
use Rattle.grib_coding.specs.declared.coding.Coding.{Coding}
use Rattle.grib_coding.specs.Coding.{Fits, block_count, is_mapped, is_padded, greatest}
use Rattle.grib_coding.specs.declared.fault.BlockFault.{BlockFault}
use Rattle.grib_coding.specs.Items.{Item, Run, covered}
use Rattle.grib_coding.specs.Numbers.{Told, Reference, Code, told_after}
use Rattle.grib_coding.specs.Reading.{Front, Found, Coded, Decoded, decoded, read_as, ended_by, unless_ended, unless_fault, after_item, padded, item_fault, entries_of, front_item, items_from, is_over, skipped, behind as with_behind, coded_of}
use Rattle.grib_coding.specs.Runs.{run_room, run_number}
use Rattle.grib_coding.specs.Blocks.{all_told, pieces, blocks_of, code_of, codes_of, reference_of, is_zero, zero_blocks}
use Rattle.grib_block_writing.specs.Steps.{block_at}
use Rattle.grib_coding.specs.Written.{run_length, number_of, coded_bits, chosen_item, bits_from, skip_of, written}
use Rattle.grib_block_writing.proofs.Shapes.{Shape, shape, told_block, reference_at, codes_at, piece_at, length-pieces, length-told, within_blocks, and-false}

-- ---- one step of reading

pub ended : (most : ℕ) (c : Coding) (count q : ℕ) (bits : List Bool) → block_count c count ≤ q → items_from most c count q bits ≡ ended_by None
ended zero c count q bits end = refl
ended (suc most) c count q bits end =
    let first = q % c.interval == 0 in
    ap (λ (t : Bool). unless_ended t (λ (_ : ℕ). after_item c count q (λ (block' : ℕ) (rest : List Bool). items_from most c count block' rest)
    (front_item c (first && is_mapped c) (padded c first bits)))) (le-leb (block_count c count) q end)

pub step : (most : ℕ) (c : Coding) (count q : ℕ) (bits behind : List Bool) (item : Coded) → q < block_count c count → is_padded c ≡ false
    → front_item c ((q % c.interval == 0) && is_mapped c) bits ≡ Found item behind → item_fault c count q item ≡ None
    → items_from (suc most) c count q bits
    ≡ with_behind (entries_of c (q % c.interval) item) (items_from most c count (q + covered c (q % c.interval) item.item) behind)
step most c count q bits behind item within unpadded front fault =
    let first = q % c.interval == 0 in
    let next : ℕ → List Bool → Decoded = λ (block' : ℕ) (rest : List Bool). items_from most c count block' rest in
    ap (λ (t : Bool). unless_ended t (λ (_ : ℕ). after_item c count q next (front_item c (first && is_mapped c) (padded c first bits))))
    (lt-leb (block_count c count) q within)
    ∙ (ap (λ (p : Bool). after_item c count q next (front_item c (first && is_mapped c) (cond (p && first) (drop (length bits % 8) bits) bits))) unpadded
    ∙ (ap (after_item c count q next) front
    ∙ ap (λ (o : Option BlockFault). unless_fault o (entries_of c (q % c.interval) item)
    (λ (_ : ℕ). next (q + covered c (q % c.interval) item.item) behind)) fault))

-- these entries come first, and nothing is wrong
pub record Back (read : Decoded) (told : List Told) : Type 0 where
  pub fault : read.fault ≡ None
  pub extra : List Told
  pub entries : read.entries ≡ told ++ extra

pub back_nothing : (told : List Told) → told ≡ [] → Back (ended_by None) told
back_nothing told none = record { fault = refl; extra = []; entries = ap (λ (xs : List Told). xs ++ []) (sym none) }

pub back_more : (read : Decoded) (entries rest told : List Told) → Back read rest → told ≡ entries ++ rest → Back (with_behind entries read) told
back_more read entries rest told b is = record {
  fault = b.fault;
  extra = b.extra;
  entries = ap (λ (xs : List Told). entries ++ xs) b.entries
      ∙ (sym (append_assoc entries rest b.extra) ∙ ap (λ (xs : List Told). xs ++ b.extra) (sym is));
}

-- more entries than are told, and then the end
pub back_end : (entries told more : List Told) → entries ≡ told ++ more → Back (with_behind entries (ended_by None)) told
back_end entries told more is = record { fault = refl; extra = more; entries = append-nil entries ∙ is }

pub back_same : (one other : Decoded) (told : List Told) → one ≡ other → Back other told → Back one told
back_same one other told same b = subst (λ (d : Decoded). Back d told) (sym same) b

-- ---- the list of all that is told

pub length-all : (c : Coding) (numbers : List ℕ) → 1 ≤ c.block → length (all_told c numbers) ≡ c.block * block_count c (length numbers)
length-all c numbers some =
    let count = length numbers in
    let sum = count + c.block - 1 in
    let cut : sum / c.block * c.block + sum % c.block ≡ sum = div-add-mod' sum c.block in
    let small : sum % c.block < c.block = mod_below sum c.block some in
    let zeros = c.block * block_count c count - count in
    omega (
      arith,
      cut,
      small,
      length-append (told_after c 0 0 numbers) (replicate zeros (Code 0)),
      length-told c 0 0 numbers,
      length-replicate zeros (Code 0),
    )

-- a block and what follows it
pub block_and_rest : (c : Coding) (numbers : List ℕ) (q : ℕ)
    → drop (q * c.block) (all_told c numbers) ≡ block_at c numbers q ++ drop ((q + 1) * c.block) (all_told c numbers)
block_and_rest c numbers q =
    let all = all_told c numbers in
    let next : q * c.block + c.block ≡ (q + 1) * c.block = omega arith in
    sym (take-append-drop c.block (drop (q * c.block) all))
    ∙ ap (λ (xs : List Told). block_at c numbers q ++ xs) (drop-drop c.block (q * c.block) all ∙ ap (λ (n : ℕ). drop n all) next)

pub length-block : (c : Coding) (numbers : List ℕ) (q : ℕ) → 1 ≤ c.block → q < block_count c (length numbers)
    → length (codes_of (block_at c numbers q)) ≡ c.block
length-block c numbers q some within =
    let fits = within_blocks c (length numbers) q some within in
    omega (
      arith,
      length-map (block_at c numbers q) code_of,
      length-take c.block (drop (q * c.block) (all_told c numbers)),
      length-drop (q * c.block) (all_told c numbers),
      length-all c numbers some,
      fits.1,
    )

pub all_gone : (c : Coding) (numbers : List ℕ) (q : ℕ) → 1 ≤ c.block → block_count c (length numbers) ≤ q
    → drop (q * c.block) (all_told c numbers) ≡ []
all_gone c numbers q some end =
    let most : block_count c (length numbers) * c.block ≤ q * c.block = mul-le-mul_right c.block end in
    drop_all (q * c.block) (all_told c numbers) (omega (arith, length-all c numbers some, most))

pub block_tells : (c : Coding) (numbers : List ℕ) (q : ℕ) → 1 ≤ c.block → 1 ≤ c.interval → q < block_count c (length numbers)
    → block_at c numbers q ≡ told_block (reference_of (block_at c numbers q)) (codes_of (block_at c numbers q))
block_tells c numbers q some interval within =
    let s = shape c numbers q some interval within in
    s.tells ∙ ap₂ told_block (sym s.reference) (sym s.codes)

-- ---- runs

zeros_are : (codes : List ℕ) → list_all (λ code. code == 0) codes ≡ true → codes ≡ replicate (length codes) 0
zeros_are [] all = refl
zeros_are (code ∷ codes) all = elim (cases_eq code 0) [
  | inl none ↦ ap₂ (λ (c : ℕ) (cs : List ℕ). c ∷ cs) none
      (zeros_are codes (ap (λ (t : Bool). t && list_all (λ code. code == 0) codes) (sym (eq-eqb code 0 none)) ∙ all))
  | inr some ↦ let no : false ≡ true = ap (λ (t : Bool). t && list_all (λ code. code == 0) codes) (sym (ne_eqb code 0 some)) ∙ all in cc
]

zero_in_front : (blocks : List (List Told)) (i : ℕ) → i < zero_blocks blocks → is_zero (get_or blocks i []) ≡ true
zero_in_front [] i less = absurd (omega arith)
zero_in_front (block ∷ blocks) zero less = elim (cases_Bool (is_zero block)) [
  | inl here ↦ here
  | inr not_here ↦
      let none : zero_blocks (block ∷ blocks) ≡ 0 = ap (λ (t : Bool). cond t (zero_blocks blocks + 1) 0) not_here in
      absurd (omega (arith, none, less))
]
zero_in_front (block ∷ blocks) (suc i) less = elim (cases_Bool (is_zero block)) [
  | inl here ↦
      let more : zero_blocks (block ∷ blocks) ≡ zero_blocks blocks + 1 = ap (λ (t : Bool). cond t (zero_blocks blocks + 1) 0) here in
      zero_in_front blocks i (omega (arith, more, less))
  | inr not_here ↦
      let none : zero_blocks (block ∷ blocks) ≡ 0 = ap (λ (t : Bool). cond t (zero_blocks blocks + 1) 0) not_here in
      absurd (omega (arith, none, less))
]

zeros_few : (blocks : List (List Told)) → zero_blocks blocks ≤ length blocks
zeros_few [] = omega arith
zeros_few (block ∷ blocks) = elim (cases_Bool (is_zero block)) [
  | inl here ↦
      let more : zero_blocks (block ∷ blocks) ≡ zero_blocks blocks + 1 = ap (λ (t : Bool). cond t (zero_blocks blocks + 1) 0) here in
      omega (arith, more, zeros_few blocks)
  | inr not_here ↦
      let none : zero_blocks (block ∷ blocks) ≡ 0 = ap (λ (t : Bool). cond t (zero_blocks blocks + 1) 0) not_here in
      omega (arith, none)
]

-- the blocks of a run
pub record RunOf (c : Coding) (numbers : List ℕ) (q zeros : ℕ) : Type 0 where
  pub room : zeros ≤ run_room c (q % c.interval)
  pub within : q + zeros ≤ block_count c (length numbers)
  pub zero_each : (i : ℕ) → i < zeros → is_zero (block_at c numbers (q + i)) ≡ true

pub run_of : (c : Coding) (numbers : List ℕ) (q : ℕ) → q < block_count c (length numbers)
    → RunOf c numbers q (run_length c (q % c.interval) (drop q (blocks_of c numbers)))
run_of c numbers q within =
    let all = blocks_of c numbers in
    let room = run_room c (q % c.interval) in
    let front = take room (drop q all) in
    let few = zeros_few front in
    let long : length front ≡ min room (block_count c (length numbers) - q) =
    length-take room (drop q all) ∙ ap (min room) (length-drop q all
    ∙ ap (λ (n : ℕ). n - q) (length-pieces c.block (block_count c (length numbers)) (all_told c numbers))) in
    record {
      room = omega (arith, few, long);
      within = omega (arith, few, long, within);
      zero_each = λ i less.
          let same : get_or front i [] ≡ block_at c numbers (q + i) =
          get_or-take room (drop q all) i [] (omega (arith, less, few, long))
          ∙ (get_or-drop q all i []
          ∙ piece_at c.block (block_count c (length numbers)) (all_told c numbers) (q + i) (omega (arith, less, few, long))) in
          ap is_zero (sym same) ∙ zero_in_front front i less;
    }

-- a block of zeros tells its reference and zeros
zeros_told : (c : Coding) (numbers : List ℕ) (q : ℕ) → 1 ≤ c.block → 1 ≤ c.interval → q < block_count c (length numbers)
    → is_zero (block_at c numbers q) ≡ true
    → block_at c numbers q ≡ told_block (reference_of (block_at c numbers q)) (replicate c.block 0)
zeros_told c numbers q some interval within zero_one =
    let block = block_at c numbers q in
    block_tells c numbers q some interval within
    ∙ ap (told_block (reference_of block)) (zeros_are (codes_of block) zero_one
    ∙ ap (λ (n : ℕ). replicate n 0) (length-block c numbers q some within))

later_place : (c : Coding) (q i : ℕ) → 1 ≤ c.interval → q % c.interval + i < c.interval → (q + i) % c.interval ≡ q % c.interval + i
later_place c q i some less =
    let a = q / c.interval in
    let b = q % c.interval in
    let cut : a * c.interval + b ≡ q = div-add-mod' q c.interval in
    let both : q + i ≡ a * c.interval + (b + i) = omega (arith, cut) in
    ap (λ (n : ℕ). n % c.interval) both ∙ mod-mul-add a c.interval (b + i) less

-- within an interval there is no reference
no_reference_later : (c : Coding) (numbers : List ℕ) (q i : ℕ) → 1 ≤ c.block → 1 ≤ c.interval → q + i < block_count c (length numbers)
    → q % c.interval + i < c.interval → 1 ≤ i → reference_of (block_at c numbers (q + i)) ≡ None
unfolding reference_at
no_reference_later c numbers q i some interval within less more =
    let place : (q + i) % c.interval ≡ 0 → ⊥ = λ (e : (q + i) % c.interval ≡ 0). omega (arith, e, later_place c q i interval less, more) in
    let no : (is_mapped c && ((q + i) % c.interval == 0)) ≡ false =
    ap (λ (t : Bool). is_mapped c && t) (ne_eqb ((q + i) % c.interval) 0 place) ∙ and-false (is_mapped c) in
    (shape c numbers (q + i) some interval within).reference
    ∙ ap (λ (t : Bool). cond t (Some (get_or numbers ((q + i) * c.block) 0)) None) no

zero_codes : (n : ℕ) → map Code (replicate n 0) ≡ replicate n (Code 0)
zero_codes zero = refl
zero_codes (suc n) = ap (λ (ts : List Told). Code 0 ∷ ts) (zero_codes n)

-- zeros behind zeros
pub more_zeros : (reference : Option ℕ) (a b : ℕ) → 1 ≤ a
    → told_block reference (replicate (a + b) 0) ≡ told_block reference (replicate a 0) ++ replicate b (Code 0)
unfolding told_block
more_zeros None a b some =
    zero_codes (a + b) ∙ (sym (replicate-append-replicate a b (Code 0)) ∙ ap (λ (ts : List Told). ts ++ replicate b (Code 0)) (sym (zero_codes a)))
more_zeros (Some number) a b some =
    let less : a + b - 1 ≡ a - 1 + b = omega (arith, some) in
    let one : map Code (drop 1 (replicate (a + b) 0)) ≡ replicate (a + b - 1) (Code 0) =
    ap (map Code) (drop-replicate 1 (a + b) 0) ∙ zero_codes (a + b - 1) in
    let other : map Code (drop 1 (replicate a 0)) ≡ replicate (a - 1) (Code 0) = ap (map Code) (drop-replicate 1 a 0) ∙ zero_codes (a - 1) in
    ap (λ (ts : List Told). Reference number ∷ ts)
    (one ∙ (ap (λ (n : ℕ). replicate n (Code 0)) less ∙ (sym (replicate-append-replicate (a - 1) b (Code 0))
    ∙ ap (λ (ts : List Told). ts ++ replicate b (Code 0)) (sym other))))

no_told : (n : ℕ) → told_block None (replicate n 0) ≡ replicate n (Code 0)
unfolding told_block
no_told n = zero_codes n

-- the first blocks of a run tell its reference and zeros
run_told : (c : Coding) (numbers : List ℕ) (q count n : ℕ) → 1 ≤ c.block → 1 ≤ c.interval → RunOf c numbers q count → n < count
    → drop (q * c.block) (all_told c numbers)
    ≡ told_block (reference_of (block_at c numbers q)) (replicate (c.block * (n + 1)) 0) ++ drop ((q + (n + 1)) * c.block) (all_told c numbers)
run_told c numbers q count zero some interval run less =
    let all = all_told c numbers in
    let here : q + 0 ≡ q = omega arith in
    let zero_one : is_zero (block_at c numbers q) ≡ true = ap (λ (n : ℕ). is_zero (block_at c numbers n)) (sym here) ∙ run.zero_each 0 less in
    let whole : c.block ≡ c.block * (0 + 1) = omega arith in
    let next : q + 1 ≡ q + (0 + 1) = omega arith in
    block_and_rest c numbers q
    ∙ ap₂ (λ (xs : List Told) (m : ℕ). xs ++ drop (m * c.block) all)
    (zeros_told c numbers q some interval (omega (arith, run.within, less)) zero_one
    ∙ ap (λ (m : ℕ). told_block (reference_of (block_at c numbers q)) (replicate m 0)) whole) next
run_told c numbers q count (suc n) some interval run less =
    let all = all_told c numbers in
    let at = q + (n + 1) in
    let reference = reference_of (block_at c numbers q) in
    let within : at < block_count c (length numbers) = omega (arith, run.within, less) in
    let inside : q % c.interval + (n + 1) < c.interval = omega (arith, run.room, less) in
    let none = no_reference_later c numbers q (n + 1) some interval within inside (omega arith) in
    let block : block_at c numbers at ≡ replicate c.block (Code 0) =
    zeros_told c numbers at some interval within (run.zero_each (n + 1) (omega (arith, less)))
    ∙ (ap (λ (r : Option ℕ). told_block r (replicate c.block 0)) none ∙ no_told c.block) in
    let before = run_told c numbers q count n some interval run (omega (arith, less)) in
    let sum : c.block * (n + 1) + c.block ≡ c.block * (suc n + 1) = omega arith in
    let next : at + 1 ≡ q + (suc n + 1) = omega arith in
    let front = told_block reference (replicate (c.block * (n + 1)) 0) in
    let least : c.block * 1 ≤ c.block * (n + 1) = mul-le-mul_left c.block (omega arith) in
    before
    ∙ (ap (λ (xs : List Told). front ++ xs) (block_and_rest c numbers at ∙ ap₂ (λ (xs : List Told) (m : ℕ). xs ++ drop (m * c.block) all) block next)
    ∙ (sym (append_assoc front (replicate c.block (Code 0)) (drop ((q + (suc n + 1)) * c.block) all))
    ∙ ap (λ (xs : List Told). xs ++ drop ((q + (suc n + 1)) * c.block) all)
    (sym (more_zeros reference (c.block * (n + 1)) c.block (omega (arith, least, some))) ∙ ap (λ (m : ℕ). told_block reference (replicate m 0)) sum)))

pub whole_run : (c : Coding) (numbers : List ℕ) (q zeros : ℕ) → 1 ≤ c.block → 1 ≤ c.interval → RunOf c numbers q zeros → 0 < zeros
    → drop (q * c.block) (all_told c numbers)
    ≡ told_block (reference_of (block_at c numbers q)) (replicate (c.block * zeros) 0) ++ drop ((q + zeros) * c.block) (all_told c numbers)
whole_run c numbers q zeros some interval run more =
    let last : zeros - 1 + 1 ≡ zeros = omega (arith, more) in
    run_told c numbers q zeros (zeros - 1) some interval run (omega (arith, more))
    ∙ ap (λ (n : ℕ). told_block (reference_of (block_at c numbers q)) (replicate (c.block * n) 0) ++ drop ((q + n) * c.block) (all_told c numbers)) last

-- how many blocks a run covers as it is read: those that it was written for, or more behind the last block
pub record Covers (c : Coding) (numbers : List ℕ) (q zeros blocks : ℕ) : Type 0 where
  pub least : zeros ≤ blocks
  pub room : blocks ≤ run_room c (q % c.interval)
  pub end : (blocks ≡ zeros) ⊎ (q + zeros ≡ block_count c (length numbers))

numbered : (c : Coding) (place n : ℕ) → 1 ≤ n → covered c place (Run (run_number n false)) ≡ n
numbered c place n some = grind (arith, nat_tests)

few_covered : (c : Coding) (place n : ℕ) (t : Bool) → 1 ≤ n → n ≤ 4 → covered c place (Run (run_number n t)) ≡ n
few_covered c place n t some few = grind (arith, nat_tests)

to_the_end : (c : Coding) (place n : ℕ) → 4 < n → covered c place (Run (run_number n true)) ≡ run_room c place
to_the_end c place n more = grind (arith, nat_tests)

pub covers : (c : Coding) (numbers : List ℕ) (q zeros : ℕ) → RunOf c numbers q zeros → 0 < zeros
    → Covers c numbers q zeros (covered c (q % c.interval) (Run (run_number zeros
    (zeros == run_room c (q % c.interval) || (zeros == block_count c (length numbers) - q)))))
covers c numbers q zeros run some =
    let place = q % c.interval in
    let room = run_room c place in
    let left = block_count c (length numbers) - q in
    let n : Bool → ℕ = λ (t : Bool). covered c place (Run (run_number zeros t)) in
    let P : ℕ → Type 0 = λ (k : ℕ). Covers c numbers q zeros k in
    let exact : P zeros = record { least = omega arith; room = run.room; end = inl refl } in
    elim (cases_lt 4 zeros) [
      | inr few ↦ subst P (sym (few_covered c place zeros (zeros == room || (zeros == left)) (omega (arith, some)) few)) exact
      | inl many ↦ elim (cases_eq zeros room) [
        | inl full ↦
            let yes_full : n (zeros == room || (zeros == left)) ≡ zeros =
            ap (λ (t : Bool). n (t || (zeros == left))) (eq-eqb zeros room full) ∙ (to_the_end c place zeros many ∙ sym full) in
            subst P (sym yes_full) exact
        | inr not_full ↦ elim (cases_eq zeros left) [
          | inl last ↦
              let yes_last : n (zeros == room || (zeros == left)) ≡ room =
              ap₂ (λ (t u : Bool). n (t || u)) (ne_eqb zeros room not_full) (eq-eqb zeros left last) ∙ to_the_end c place zeros many in
              subst P (sym yes_last) (record { least = run.room; room = omega arith; end = inr (omega (arith, last, run.within, some)) })
          | inr not_last ↦
              let none : n (zeros == room || (zeros == left)) ≡ zeros =
              ap₂ (λ (t u : Bool). n (t || u)) (ne_eqb zeros room not_full) (ne_eqb zeros left not_last)
              ∙ numbered c place zeros (omega (arith, some)) in
              subst P (sym none) exact
        ]
      ]
    ]
