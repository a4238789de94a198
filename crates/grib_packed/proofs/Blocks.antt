-- How many bits the blocks of numbers have.
use Rattle.std.proofs.Common.{◌≡◌, ℕ, zero, suc, ◌+◌, ◌-◌, ◌*◌, ◌/◌, ◌%◌, ◌≤◌, Bool, true, false, cond, ◌||◌, ◌==◌, List, [], ◌∷◌, length, take, drop, Option, Some, None, refl, sym, ap, ap₂, ◌∙◌, arith, length-append, length-drop, length-take}
use Rattle.std.specs.List.{All, flat_map}
use Rattle.std.proofs.Math.Nat.{mul-le-mul_left, mul-le-mul_right, mul-div-le}
use Rattle.std.proofs.lemmas.Bool.Decides.{nat_tests}
use Rattle.std.proofs.lemmas.List.{length-map}
use Rattle.std.proofs.lemmas.List.Elements.{All-nil, All-cons, All-head, All-tail}
use Rattle.grib_bits.proofs.Numbers.{length-bits_of}
use Rattle.grib_coding.specs.declared.coding.Coding.{Coding}
use Rattle.grib_coding.specs.Coding.{block_count, identifier_width}
use Rattle.grib_coding.specs.Items.{Run}
use Rattle.grib_coding.specs.Numbers.{Told}
use Rattle.grib_coding.specs.Reading.{coded_of}
use Rattle.grib_coding.specs.declared.choice.Choice.TheVariants.{Plain}
use Rattle.grib_coding.specs.Runs.{run_room, run_number}
use Rattle.grib_coding.specs.Blocks.{all_told, blocks_of, code_of, codes_of, is_zero, pieces, reference_of, zero_blocks}
use Rattle.grib_coding.specs.Written.{chosen_item, coded_bits, first_item, items_of, number_of, reference_bits, run_length, skip_of, written}
use Rattle.grib_block_writing.proofs.Heads.{most_width}
use Rattle.grib_block_writing.proofs.Least.{least_block}
use Rattle.grib_block_writing.proofs.Lengths.{first_zero, length-coded, length-run, skip_few}
use Rattle.grib_block_writing.proofs.Read.{length-all}
use Rattle.grib_block_writing.proofs.Shapes.{length-pieces}

-- Blocks of 8 or more numbers, an even count, of at least one bit each.
pub record AreSome (c : Coding) : Type 0 where
  pub eight : 8 ≤ c.block
  pub even : c.block % 2 ≡ 0
  pub some_bits : 1 ≤ c.bits

-- the bits of a plain block, whose reference stands for a code
abbrev pub plain_bits : Coding → ℕ
plain_bits c = identifier_width c + c.block * c.bits

-- ---- one item

reference_and_codes : (c : Coding) (reference : Option ℕ) → 1 ≤ c.block
    → (c.block - skip_of reference) * c.bits + length (reference_bits c reference) ≡ c.block * c.bits
reference_and_codes c None some =
    let whole : c.block - 0 ≡ c.block = omega arith in
    let product : (c.block - 0) * c.bits ≡ c.block * c.bits = ap (λ (n : ℕ). n * c.bits) whole in
    omega (arith, product)
reference_and_codes c (Some number) some =
    let whole : c.block ≡ 1 + (c.block - 1) = omega (arith, some) in
    let product : c.block * c.bits ≡ (1 + (c.block - 1)) * c.bits = ap (λ (n : ℕ). n * c.bits) whole in
    omega (arith, product, length-bits_of c.bits number)

reference_few : (c : Coding) (reference : Option ℕ) → length (reference_bits c reference) ≤ c.bits
reference_few c None = omega arith
reference_few c (Some number) = omega (arith, length-bits_of c.bits number)

-- an item of the fewest bits has no more than a plain block
block_few : (c : Coding) (block : List Told) → AreSome c → length block ≡ c.block
    → length (coded_bits c (coded_of (reference_of block) (chosen_item c (reference_of block) (codes_of block)))) ≤ plain_bits c
block_few c block some long =
    let reference = reference_of block in
    let codes = codes_of block in
    let codes_long : length codes ≡ c.block = length-map block code_of ∙ long in
    let codes_even : length codes % 2 ≡ 0 = ap (λ (n : ℕ). n % 2) codes_long ∙ some.even in
    let one : 1 ≤ c.block = omega (arith, some.eight) in
    let least = least_block c reference codes Plain codes_long some.even one (first_zero block) tt in
    let plain = length-coded c reference (skip_of reference) codes Plain codes_long codes_even (skip_few reference) (omega (arith, skip_few reference, one)) (first_zero block) in
    omega (arith, least, plain, reference_and_codes c reference one)

number_few : (blocks : ℕ) (ends : Bool) → run_number blocks ends ≤ blocks
number_few blocks ends = grind (arith, nat_tests)

-- more blocks than none take more bits plain than as a run
run_or_plain : (w n j run : ℕ) → 1 ≤ n → 8 ≤ j → 1 ≤ run → w + n + run + 2 ≤ run * (w + j * n)
run_or_plain w n j run some eight one =
    let wide : 8 * n ≤ j * n = mul-le-mul_right n eight in
    let less : run * (w + 8 * n) ≤ run * (w + j * n) = mul-le-mul_left run (omega (arith, wide)) in
    let runs : run ≡ 1 + (run - 1) = omega (arith, one) in
    let bits : n ≡ 1 + (n - 1) = omega (arith, some) in
    let product : run * (w + 8 * n) ≡ (1 + (run - 1)) * (w + 8 * (1 + (n - 1))) = ap₂ (λ (r b : ℕ). r * (w + 8 * b)) runs bits in
    omega (arith, less, product, some, one)

run_few : (c : Coding) (reference : Option ℕ) (number run : ℕ) → AreSome c → 1 ≤ run → number ≤ run
    → length (coded_bits c (coded_of reference (Run number))) ≤ run * plain_bits c
run_few c reference number run some one few =
    omega (
      arith,
      length-run c reference number,
      reference_few c reference,
      few,
      run_or_plain (identifier_width c) c.bits c.block run some.some_bits some.eight one,
    )

-- an item has no more bits than plain ones of the blocks that it covers
first_few : (c : Coding) (place : ℕ) (block : List Told) (blocks : List (List Told)) → AreSome c → length block ≡ c.block
    → (run : ℕ) → run ≡ run_length c place (block ∷ blocks) → (none : Bool) → (run == 0) ≡ none
    → length (coded_bits c (coded_of (reference_of block)
    (cond none (chosen_item c (reference_of block) (codes_of block)) (Run (number_of c place (block ∷ blocks))))))
    ≤ (1 + (run - 1)) * plain_bits c
first_few c place block blocks some long run is true none =
    let no : run ≡ 0 = grind (arith, nat_tests) in
    let product : (1 + (run - 1)) * plain_bits c ≡ 1 * plain_bits c = ap (λ (r : ℕ). (1 + (r - 1)) * plain_bits c) no in
    omega (arith, product, block_few c block some long)
first_few c place block blocks some long run is false none =
    let one : 1 ≤ run = grind (arith, nat_tests) in
    let ends = (run == run_room c place) || (run == length (block ∷ blocks)) in
    let number : number_of c place (block ∷ blocks) ≡ run_number run ends =
    ap (λ (r : ℕ). run_number r ((r == run_room c place) || (r == length (block ∷ blocks)))) (sym is) in
    let whole : 1 + (run - 1) ≡ run = omega (arith, one) in
    let product : (1 + (run - 1)) * plain_bits c ≡ run * plain_bits c = ap (λ (r : ℕ). r * plain_bits c) whole in
    omega (arith, product, run_few c (reference_of block) (number_of c place (block ∷ blocks)) run some one (omega (arith, number, number_few run ends)))

-- ---- all items

zeros_few : (blocks : List (List Told)) → zero_blocks blocks ≤ length blocks
zeros_few [] = omega arith
zeros_few (block ∷ blocks) = either (is_zero block) (zero_blocks blocks) (length blocks) (zeros_few blocks)
  where
    either : (is_one : Bool) (some count : ℕ) → some ≤ count → cond is_one (some + 1) 0 ≤ suc count
    either true some count few = omega (arith, few)
    either false some count few = omega arith

run_within : (c : Coding) (place : ℕ) (blocks : List (List Told)) → run_length c place blocks ≤ length blocks
run_within c place blocks = omega (arith, zeros_few (take (run_room c place) blocks), length-take (run_room c place) blocks)

abbrev AreWhole : Coding → List (List Told) → Type 0
AreWhole c blocks = All (λ block. length block ≡ c.block) blocks

items_few : (c : Coding) → AreSome c → (number more : ℕ) (blocks : List (List Told)) → AreWhole c blocks
    → length (flat_map (coded_bits c) (items_of c number more blocks)) ≤ (length blocks - more) * plain_bits c
items_few c some number more [] whole = omega arith
items_few c some number (suc more) (block ∷ blocks) whole =
    let rest = items_few c some (number + 1) more blocks (All-tail (λ b. length b ≡ c.block) block blocks whole) in
    let same : length (block ∷ blocks) - suc more ≡ length blocks - more = omega arith in
    let product : (length (block ∷ blocks) - suc more) * plain_bits c ≡ (length blocks - more) * plain_bits c = ap (λ (n : ℕ). n * plain_bits c) same in
    omega (arith, rest, product)
items_few c some number zero (block ∷ blocks) whole =
    let place = number % c.interval in
    let run = run_length c place (block ∷ blocks) in
    let item = coded_of (reference_of block) (first_item c place block blocks) in
    let later = flat_map (coded_bits c) (items_of c (number + 1) (run - 1) blocks) in
    let rest : length later ≤ (length blocks - (run - 1)) * plain_bits c =
    items_few c some (number + 1) (run - 1) blocks (All-tail (λ b. length b ≡ c.block) block blocks whole) in
    let here : length (coded_bits c item) ≤ (1 + (run - 1)) * plain_bits c =
    first_few c place block blocks some (All-head (λ b. length b ≡ c.block) block blocks whole) run refl (run == 0) refl in
    let within : run ≤ length (block ∷ blocks) = run_within c place (block ∷ blocks) in
    let total : (1 + (run - 1)) + (length blocks - (run - 1)) ≡ length (block ∷ blocks) - 0 = omega (arith, within) in
    let product : ((1 + (run - 1)) + (length blocks - (run - 1))) * plain_bits c ≡ (length (block ∷ blocks) - 0) * plain_bits c =
    ap (λ (n : ℕ). n * plain_bits c) total in
    omega (arith, length-append (coded_bits c item) later, rest, here, product)

pieces_whole : (size count : ℕ) (told : List Told) → count * size ≤ length told → All (λ block. length block ≡ size) (pieces size count told)
pieces_whole size zero told enough = All-nil (λ block. length block ≡ size)
pieces_whole size (suc count) told enough =
    let first : length (take size told) ≡ size = omega (arith, length-take size told, enough) in
    All-cons (λ block. length block ≡ size) (take size told) (pieces size count (drop size told)) first
    (pieces_whole size count (drop size told) (omega (arith, length-drop size told, enough)))

-- what is written has the bits of plain blocks at most
plain_few : (c : Coding) (numbers : List ℕ) → AreSome c → length (written c numbers) ≤ block_count c (length numbers) * plain_bits c
plain_few c numbers some =
    let count = block_count c (length numbers) in
    let enough : count * c.block ≤ length (all_told c numbers) = omega (arith, length-all c numbers (omega (arith, some.eight))) in
    let long = length-pieces c.block count (all_told c numbers) in
    let same : length (blocks_of c numbers) - 0 ≡ count = omega (arith, long) in
    let product : (length (blocks_of c numbers) - 0) * plain_bits c ≡ count * plain_bits c = ap (λ (n : ℕ). n * plain_bits c) same in
    omega (arith, items_few c some 0 0 (blocks_of c numbers) (pieces_whole c.block count (all_told c numbers) enough), product)

-- blocks of 64 numbers of 32 bits have the most bits
blocks_few : (n j w bits : ℕ) → 8 ≤ j → j ≤ 64 → w ≤ 5 → bits ≤ 32
    → (n + j - 1) / j * (w + j * bits) ≤ 5 * ((n + 63) / 8) + 32 * (n + 63)
blocks_few n j w bits eight most narrow few =
    let blocks = (n + j - 1) / j in
    let within : j * blocks ≤ n + j - 1 = mul-div-le (n + j - 1) j in
    let eights : 8 * blocks ≤ j * blocks = mul-le-mul_right blocks eight in
    let heads : blocks * w ≤ blocks * 5 = mul-le-mul_left blocks narrow in
    let values : (j * blocks) * bits ≤ (j * blocks) * 32 = mul-le-mul_left (j * blocks) few in
    let product : blocks * (w + j * bits) ≡ blocks * w + (j * blocks) * bits = omega arith in
    omega (arith, within, eights, heads, values, product, most)

pub written_few : (c : Coding) (numbers : List ℕ) → AreSome c → c.block ≤ 64 → c.bits ≤ 32
    → length (written c numbers) ≤ 5 * ((length numbers + 63) / 8) + 32 * (length numbers + 63)
written_few c numbers some most few =
    let width = most_width c in
    omega (arith, plain_few c numbers some, blocks_few (length numbers) c.block (identifier_width c) c.bits some.eight most width.1 few)
