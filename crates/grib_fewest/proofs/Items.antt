-- An item against the block that it tells: what it tells of the block, and how many bits it takes at least.
use Rattle.std.proofs.Common.{inl, inr, ◌≡◌, ℕ, ◌+◌, ◌-◌, ◌*◌, ◌/◌, ◌%◌, ◌^◌, ◌<◌, ◌≤◌, Bool, true, ◌&&◌, ◌==◌, List, [], ◌∷◌, ◌++◌, map, take, drop, replicate, length, Option, Some, None, sum, refl, sym, ap, ap₂, ◌∙◌, subst, arith, length-drop}
use Rattle.std.specs.List.{All}
use Rattle.std.proofs.Math.Nat.{mul-le-mul_left, mul-le-mul_right}
use Rattle.std.proofs.lemmas.Bool.{cases_lt}
use Rattle.std.proofs.lemmas.Bool.Decides.{nat_tests}
use Rattle.std.proofs.lemmas.List.{length-map, length-replicate, drop-append-le, drop-drop, drop-take, take-take, drop_at, drop_all}
use Rattle.std.proofs.lemmas.List.Sums.{sum_by-cons}
use Rattle.std.proofs.lemmas.List.Elements.{All-cons, All-head, All-tail, All-replicate, All-map, All-take, All-drop}
use Rattle.grib_coding.specs.declared.coding.Coding.{Coding}
use Rattle.grib_coding.specs.Coding.{block_count}
use Rattle.grib_coding.specs.Items.{Item, Run, Second, Split, Plain, IsItem, covered, item_codes, codes_of_pairs, joined}
use Rattle.grib_coding.specs.Numbers.{Told, Reference, Code, told_after}
use Rattle.grib_coding.specs.Reading.{coded_of, entries_with}
use Rattle.grib_coding.specs.declared.choice.Choice.TheVariants.{Plain as AsPlain, Second as AsSecond, Split as AsSplit}
use Rattle.grib_coding.specs.Choices.{bits_as, high_sum, pair_sum, chosen}
use Rattle.grib_block_writing.proofs.Chosen.{chosen-least}
use Rattle.grib_coding.specs.Blocks.{all_told, code_of, codes_of, reference_of, is_zero}
use Rattle.grib_block_writing.specs.Steps.{block_at}
use Rattle.grib_coding.specs.Written.{coded_bits, skip_of}
use Rattle.grib_block_writing.proofs.Shapes.{length-told, within_blocks}
use Rattle.grib_fewest.proofs.Sizes.{head_size, size-second, size-plain, size-split}
use Rattle.grib_fewest.proofs.Below.{IsBelow, front_below, front_reference, high-le, pairs-le, pairs-sum, first-less, highs-sum, length-joined, length-pairs}

-- an item that is no run
abbrev pub IsBlock : Item → Type 0
IsBlock (Run number) = ⊥
IsBlock (Second pairs) = Unit {0}
IsBlock (Split k high low) = Unit {0}
IsBlock (Plain codes) = Unit {0}

pub covers_one : (c : Coding) (place : ℕ) (item : Item) → IsBlock item → covered c place item ≡ 1
covers_one c place (Run number) is = absurd is
covers_one c place (Second pairs) is = refl
covers_one c place (Split k high low) is = refl
covers_one c place (Plain codes) is = refl

run_some : (c : Coding) (place number : ℕ) → place < c.interval → 1 ≤ covered c place (Run number)
run_some c place number within = grind (arith, nat_tests)

pub covers_some : (c : Coding) (place : ℕ) (item : Item) → place < c.interval → 1 ≤ covered c place item
covers_some c place (Run number) within = run_some c place number within
covers_some c place (Second pairs) within = omega arith
covers_some c place (Split k high low) within = omega arith
covers_some c place (Plain codes) within = omega arith

-- ---- what an item tells

codes_back : (codes : List ℕ) → codes_of (map Code codes) ≡ codes
codes_back [] = refl
codes_back (code ∷ codes) = ap (λ (cs : List ℕ). code ∷ cs) (codes_back codes)

none_first : (codes : List ℕ) → reference_of (map Code codes) ≡ None
none_first [] = refl
none_first (code ∷ codes) = refl

pub entries-reference : (c : Coding) (place : ℕ) (reference : Option ℕ) (item : Item) → reference_of (entries_with c place reference item) ≡ reference
entries-reference c place None item = none_first (item_codes c place 0 item)
entries-reference c place (Some number) item = refl

length-codes : (c : Coding) (place skip : ℕ) (item : Item) → skip ≤ 1 → 1 ≤ c.block → c.block % 2 ≡ 0 → 1 ≤ covered c place item
    → IsItem c skip item → length (item_codes c place skip item) + skip ≡ c.block * covered c place item
length-codes c place skip (Run number) few some even more is =
    let n = covered c place (Run number) in
    let least : c.block * 1 ≤ c.block * n = mul-le-mul_left c.block more in
    omega (arith, length-replicate {A = ℕ} (c.block * n - skip) 0, least, few, some)
length-codes c place skip (Second pairs) few some even more is =
    omega (arith, length-drop skip (codes_of_pairs pairs), length-pairs pairs, is, even, few, some)
length-codes c place skip (Split k high low) few some even more is =
    omega (arith, length-joined k high low (omega (arith, is.1, is.2)), is.1)
length-codes c place skip (Plain codes) few some even more is = omega (arith, is.0)

pub length-entries : (c : Coding) (place : ℕ) (reference : Option ℕ) (item : Item) → 1 ≤ c.block → c.block % 2 ≡ 0 → 1 ≤ covered c place item
    → IsItem c (skip_of reference) item → length (entries_with c place reference item) ≡ c.block * covered c place item
length-entries c place None item some even more is =
    omega (arith, length-map (item_codes c place 0 item) Code, length-codes c place 0 item (omega arith) some even more is)
length-entries c place (Some number) item some even more is =
    omega (arith, length-map (item_codes c place 1 item) Code, length-codes c place 1 item (omega arith) some even more is)

-- a run tells codes of 0
pub run_zeros : (c : Coding) (place number : ℕ) (reference : Option ℕ) → All (λ e. code_of e ≡ 0) (entries_with c place reference (Run number))
run_zeros c place number None =
    All-map (λ e. code_of e ≡ 0) Code (item_codes c place 0 (Run number))
    (All-replicate (λ n. n ≡ 0) (c.block * covered c place (Run number) - 0) 0 refl)
run_zeros c place number (Some first) =
    All-cons (λ e. code_of e ≡ 0) (Reference first) (map Code (item_codes c place 1 (Run number))) refl
    (All-map (λ e. code_of e ≡ 0) Code (item_codes c place 1 (Run number))
    (All-replicate (λ n. n ≡ 0) (c.block * covered c place (Run number) - 1) 0 refl))

-- ---- the blocks that an item tells

-- what is told from a block on, by what other items tell
from_block : (c : Coding) (numbers : List ℕ) (q : ℕ) (entries : List Told) → 1 ≤ c.block → q < block_count c (length numbers)
    → take (length numbers - q * c.block) entries ≡ drop (q * c.block) (told_after c 0 0 numbers)
    → drop (q * c.block) (all_told c numbers)
    ≡ take (length numbers - q * c.block) entries ++ replicate (c.block * block_count c (length numbers) - length numbers) (Code 0)
from_block c numbers q entries some within told =
    let filling = replicate (c.block * block_count c (length numbers) - length numbers) (Code 0) in
    let fits = within_blocks c (length numbers) q some within in
    drop-append-le (q * c.block) (told_after c 0 0 numbers) filling (omega (arith, fits.0, length-told c 0 0 numbers))
    ∙ ap (λ (xs : List Told). xs ++ filling) (sym told)

pub blocks_below : (c : Coding) (numbers : List ℕ) (q : ℕ) (entries rest : List Told) → 1 ≤ c.block → q < block_count c (length numbers)
    → take (length numbers - q * c.block) (entries ++ rest) ≡ drop (q * c.block) (told_after c 0 0 numbers)
    → IsBelow (take (length entries) (drop (q * c.block) (all_told c numbers))) entries
blocks_below c numbers q entries rest some within told =
    subst (λ (xs : List Told). IsBelow (take (length entries) xs) entries)
    (sym (from_block c numbers q (entries ++ rest) some within told))
    (front_below entries rest (length numbers - q * c.block) (c.block * block_count c (length numbers) - length numbers))

pub same_reference : (c : Coding) (numbers : List ℕ) (q : ℕ) (entries rest : List Told) → 1 ≤ c.block → q < block_count c (length numbers)
    → 1 ≤ length entries → take (length numbers - q * c.block) (entries ++ rest) ≡ drop (q * c.block) (told_after c 0 0 numbers)
    → reference_of (block_at c numbers q) ≡ reference_of entries
same_reference c numbers q entries rest some within more told =
    let fits = within_blocks c (length numbers) q some within in
    ap (λ (xs : List Told). reference_of (take c.block xs)) (from_block c numbers q (entries ++ rest) some within told)
    ∙ front_reference entries rest (length numbers - q * c.block) (c.block * block_count c (length numbers) - length numbers) c.block
    more (omega (arith, fits.0)) some

-- what is told behind an item
pub told_behind : (c : Coding) (numbers : List ℕ) (q n : ℕ) (entries rest : List Told) → length entries ≡ c.block * n
    → take (length numbers - q * c.block) (entries ++ rest) ≡ drop (q * c.block) (told_after c 0 0 numbers)
    → take (length numbers - (q + n) * c.block) rest ≡ drop ((q + n) * c.block) (told_after c 0 0 numbers)
told_behind c numbers q n entries rest long told =
    let V = length numbers in
    let all = told_after c 0 0 numbers in
    let start = q * c.block in
    let m = V - (q + n) * c.block in
    let sum : start + c.block * n ≡ (q + n) * c.block = omega arith in
    let later : drop (c.block * n) (drop start all) ≡ drop ((q + n) * c.block) all =
    drop-drop (c.block * n) start all ∙ ap (λ (i : ℕ). drop i all) sum in
    elim (cases_lt (V - start) (c.block * n)) [
      | inl short ↦
          let none : m ≡ 0 = omega (arith, short, sum) in
          ap (λ (i : ℕ). take i rest) none ∙ sym (drop_all ((q + n) * c.block) all (omega (arith, short, sum, length-told c 0 0 numbers)))
      | inr enough ↦
          let cut : V - start ≡ c.block * n + m = omega (arith, enough, sum) in
          ap (take m) (sym (drop_at entries rest (c.block * n) long))
          ∙ (sym (drop-take (c.block * n) m (entries ++ rest))
          ∙ (ap (λ (i : ℕ). drop (c.block * n) (take i (entries ++ rest))) (sym cut)
          ∙ (ap (drop (c.block * n)) told ∙ later)))
    ]

-- blocks that a run covers are zero blocks
zero_is : (block : List Told) → All (λ e. code_of e ≡ 0) block → is_zero block ≡ true
zero_is [] all = refl
zero_is (entry ∷ block) all =
    ap₂ (λ (n : ℕ) (t : Bool). (n == 0) && t) (All-head (λ e. code_of e ≡ 0) entry block all)
    (zero_is block (All-tail (λ e. code_of e ≡ 0) entry block all))

pub run_is_zero : (c : Coding) (numbers : List ℕ) (q n i : ℕ) → i < n
    → All (λ e. code_of e ≡ 0) (take (c.block * n) (drop (q * c.block) (all_told c numbers)))
    → is_zero (block_at c numbers (q + i)) ≡ true
run_is_zero c numbers q n i less all =
    let P : Told → Type 0 = λ (e : Told). code_of e ≡ 0 in
    let told = all_told c numbers in
    let start = q * c.block in
    let m = c.block * n - i * c.block in
    let next : (i + 1) * c.block ≤ n * c.block = mul-le-mul_right c.block (omega (arith, less)) in
    let cut : c.block * n ≡ i * c.block + m = omega (arith, next) in
    let enough : c.block ≤ m = omega (arith, next) in
    let place : start + i * c.block ≡ (q + i) * c.block = omega arith in
    let same : take c.block (drop (i * c.block) (take (c.block * n) (drop start told))) ≡ block_at c numbers (q + i) =
    ap (λ (k : ℕ). take c.block (drop (i * c.block) (take k (drop start told)))) cut
    ∙ (ap (take c.block) (drop-take (i * c.block) m (drop start told))
    ∙ (take-take c.block m (drop (i * c.block) (drop start told)) enough
    ∙ ap (take c.block) (drop-drop (i * c.block) start told ∙ ap (λ (k : ℕ). drop k told) place))) in
    zero_is (block_at c numbers (q + i)) (subst (λ (xs : List Told). All P xs) same
    (All-take P c.block (drop (i * c.block) (take (c.block * n) (drop start told)))
    (All-drop P (i * c.block) (take (c.block * n) (drop start told)) all)))

-- ---- how many bits an item has at least

pairs_few : (c : Coding) (place : ℕ) (reference : Option ℕ) (pairs : List ℕ) (block : List Told)
    → IsBelow block (entries_with c place reference (Second pairs)) → pair_sum (codes_of block) ≤ sum pairs
pairs_few c place None pairs block below =
    omega (
      arith,
      pairs-le block (map Code (codes_of_pairs pairs)) below,
      ap pair_sum (codes_back (codes_of_pairs pairs)),
      pairs-sum pairs,
    )
pairs_few c place (Some number) pairs block below =
    let rest = drop 1 (codes_of_pairs pairs) in
    omega (
      arith,
      pairs-le block (Reference number ∷ map Code rest) below,
      ap (λ (cs : List ℕ). pair_sum (0 ∷ cs)) (codes_back rest),
      first-less pairs,
    )

highs_few : (c : Coding) (place k : ℕ) (reference : Option ℕ) (high low : List ℕ) (block : List Told) → length high ≡ length low
    → All (λ l. l < 2 ^ k) low → IsBelow block (entries_with c place reference (Split k high low)) → high_sum k (codes_of block) ≤ sum high
highs_few c place k None high low block same all below =
    omega (
      arith,
      high-le k block (map Code (joined k high low)) below,
      ap (high_sum k) (codes_back (joined k high low)),
      highs-sum k high low same all,
    )
highs_few c place k (Some number) high low block same all below =
    let codes = joined k high low in
    let none : 0 / 2 ^ k ≡ 0 = omega arith in
    omega (
      arith,
      high-le k block (Reference number ∷ map Code codes) below,
      ap (λ (cs : List ℕ). high_sum k (0 ∷ cs)) (codes_back codes),
      sum_by-cons (λ n. n / 2 ^ k) 0 codes,
      none,
      highs-sum k high low same all,
    )

-- an item has no fewer bits than the one that is chosen for a block of which no code is more
pub chosen-fewest : (c : Coding) (place : ℕ) (reference : Option ℕ) (item : Item) (block : List Told) → IsBlock item
    → IsItem c (skip_of reference) item → IsBelow block (entries_with c place reference item)
    → head_size c reference + bits_as c (skip_of reference) (codes_of block) (chosen c (skip_of reference) (codes_of block))
    ≤ length (coded_bits c (coded_of reference item))
chosen-fewest c place reference (Run number) block is_block is below = absurd is_block
chosen-fewest c place reference (Second pairs) block is_block is below =
    let s = skip_of reference in
    omega (
      arith,
      chosen-least c s (codes_of block) AsSecond tt,
      size-second c reference pairs,
      pairs_few c place reference pairs block below,
      is,
    )
chosen-fewest c place reference (Split k high low) block is_block is below =
    let s = skip_of reference in
    let kept : c.block - s ≡ length high = omega (arith, is.1) in
    let same : length high ≡ length low = omega (arith, is.1, is.2) in
    let first : (c.block - s) * (k + 1) ≡ length high * (k + 1) = ap (λ (n : ℕ). n * (k + 1)) kept in
    let second : length low * k ≡ length high * k = ap (λ (n : ℕ). n * k) (sym same) in
    omega (
      arith,
      chosen-least c s (codes_of block) (AsSplit k) is.0,
      size-split c reference k high low,
      highs_few c place k reference high low block same is.3 below,
      first,
      second,
    )
chosen-fewest c place reference (Plain codes) block is_block is below =
    let s = skip_of reference in
    let kept : c.block - s ≡ length codes = omega (arith, is.0) in
    let bits : (c.block - s) * c.bits ≡ length codes * c.bits = ap (λ (n : ℕ). n * c.bits) kept in
    omega (arith, chosen-least c s (codes_of block) AsPlain tt, size-plain c reference codes, bits)

-- and at least five behind its head
pub five_bits : (c : Coding) (reference : Option ℕ) (item : Item) → 8 ≤ c.block → 1 ≤ c.bits → skip_of reference ≤ 1 → IsBlock item
    → IsItem c (skip_of reference) item → head_size c reference + 5 ≤ length (coded_bits c (coded_of reference item))
five_bits c reference (Run number) block bits skip is_block is = absurd is_block
five_bits c reference (Second pairs) block bits skip is_block is = omega (arith, size-second c reference pairs, is, block)
five_bits c reference (Split k high low) block bits skip is_block is = omega (arith, size-split c reference k high low, is.1, skip, block)
five_bits c reference (Plain codes) block bits skip is_block is =
    let least : length codes * 1 ≤ length codes * c.bits = mul-le-mul_left (length codes) bits in
    omega (arith, size-plain c reference codes, is.0, skip, block, least)
