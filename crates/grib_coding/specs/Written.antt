-- The items that are written of numbers, and their bits (CCSDS 121.0-B, which leaves the choice of the items to the coder;
-- WMO-No. 306, Volume I.2, FM 92 GRIB edition 2, data template 7.42).
use Rattle.std.specs.Prelude.{◌≡◌, ◌≤◌, ℕ, zero, suc, ◌+◌, ◌-◌, ◌/◌, ◌%◌, ◌^◌, Bool, false, cond, ◌||◌, ◌==◌, List, [], ◌∷◌, ◌++◌, length, map, take, drop, Option, Some, None}
use Rattle.std.specs.List.{flat_map}
use Rattle.grib_bits.specs.Bits.{bits_of}
use Rattle.grib_bits.specs.Written.{Written}
use Rattle.grib_coding.specs.declared.coding.Coding.{Coding}
use Rattle.grib_coding.specs.Coding.{greatest, identifier_width}
use Rattle.grib_coding.specs.Items.{Item, Run, Second, Split, Plain, item_bits, pair_number}
use Rattle.grib_coding.specs.Numbers.{Told}
use Rattle.grib_coding.specs.Reading.{Coded, coded_of}
use Rattle.grib_coding.specs.declared.choice.Choice.{Choice}
use Rattle.grib_coding.specs.declared.choice.Choice.TheVariants.{Plain as AsPlain, Second as AsSecond, Split as AsSplit}
use Rattle.grib_coding.specs.Choices.{chosen}
use Rattle.grib_coding.specs.Runs.{run_room, run_number}
use Rattle.grib_coding.specs.Blocks.{blocks_of, codes_of, reference_of, zero_blocks}

-- how many codes of its block a reference stands for
abbrev pub skip_of : Option ℕ → ℕ
skip_of None = 0
skip_of (Some number) = 1

abbrev pub pair_numbers : List ℕ → List ℕ
pair_numbers [] = []
pair_numbers (first ∷ []) = []
pair_numbers (first ∷ second ∷ codes) = pair_number first second ∷ pair_numbers codes

-- what codes are divided by 2 ^ k, and the k bits that are left of each
abbrev pub highs : ℕ → List ℕ → List ℕ
highs k codes = map (λ code. code / 2 ^ k) codes

abbrev pub lows : ℕ → List ℕ → List ℕ
lows k codes = map (λ code. code % 2 ^ k) codes

-- a block of these codes, of which a reference stands for the first `skip`, as it was chosen to be told
abbrev pub item_as : Choice → ℕ → List ℕ → Item
item_as AsPlain skip codes = Plain (drop skip codes)
item_as AsSecond skip codes = Second (pair_numbers codes)
item_as (AsSplit k) skip codes = Split k (highs k (drop skip codes)) (lows k (drop skip codes))

-- and as it is to be told: by the item of the fewest bits
abbrev pub chosen_item : Coding → Option ℕ → List ℕ → Item
chosen_item c reference codes = let skip = skip_of reference in item_as (chosen c skip codes) skip codes

-- how many blocks the run covers that begins with the first of these, at this place in its interval: zero blocks of one
-- segment are one run, as long as possible
abbrev pub run_length : Coding → ℕ → List (List Told) → ℕ
run_length c place blocks = zero_blocks (take (run_room c place) blocks)

-- the number of that run, which may end with its segment, its interval or the last block
abbrev pub number_of : Coding → ℕ → List (List Told) → ℕ
number_of c place blocks =
    let length_of = run_length c place blocks in
    run_number length_of (length_of == run_room c place || (length_of == length blocks))

-- the item that begins with the first of these blocks
abbrev pub first_item : Coding → ℕ → List Told → List (List Told) → Item
first_item c place block blocks =
    cond (run_length c place (block ∷ blocks) == 0) (chosen_item c (reference_of block) (codes_of block))
    (Run (number_of c place (block ∷ blocks)))

-- the items of these blocks, of which the first has this number and a run before it covers the first `more`
abbrev pub items_of : Coding → ℕ → ℕ → List (List Told) → List Coded
items_of c number more [] = []
items_of c number (suc more) (block ∷ blocks) = items_of c (number + 1) more blocks
items_of c number zero (block ∷ blocks) =
    let place = number % c.interval in
    coded_of (reference_of block) (first_item c place block blocks)
    ∷ items_of c (number + 1) (run_length c place (block ∷ blocks) - 1) blocks

abbrev pub reference_bits : Coding → Option ℕ → List Bool
reference_bits c None = []
reference_bits c (Some number) = bits_of c.bits number

abbrev pub coded_bits : Coding → Coded → List Bool
coded_bits c coded = item_bits c (reference_bits c coded.reference) coded.item

-- the bits of these blocks from one with this number on
abbrev pub bits_from : Coding → ℕ → List (List Told) → List Bool
bits_from c number blocks = flat_map (coded_bits c) (items_of c number 0 blocks)

-- what is written of numbers
abbrev pub written : Coding → List ℕ → List Bool
written c numbers = bits_from c 0 (blocks_of c numbers)
