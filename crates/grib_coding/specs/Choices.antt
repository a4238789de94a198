-- The item that a block of codes takes the fewest bits as (CCSDS 121.0-B leaves the choice to the coder).
use Rattle.std.specs.Prelude.{◌≡◌, ℕ, zero, suc, ◌+◌, ◌-◌, ◌*◌, ◌/◌, ◌^◌, ◌≤◌, ◌<◌, ◌⊎◌, cond, nat_lt, List, [], ◌∷◌, ◌++◌, map, sum_by}
use Rattle.std.specs.List.{range_with_len}
use Rattle.grib_coding.specs.declared.coding.Coding.{Coding}
use Rattle.grib_coding.specs.Coding.{identifier_width}
use Rattle.grib_coding.specs.Items.{pair_number}
use Rattle.grib_coding.specs.declared.choice.Choice.{Choice}
use Rattle.grib_coding.specs.declared.choice.Choice.TheVariants.{Plain, Second, Split}

-- the sum of codes divided by 2 ^ k, each rounded down
abbrev pub high_sum : ℕ → List ℕ → ℕ
high_sum k codes = sum_by (λ code. code / 2 ^ k) codes

-- the sum of the numbers of pairs of codes
abbrev pub pair_sum : List ℕ → ℕ
pair_sum [] = 0
pair_sum (first ∷ []) = 0
pair_sum (first ∷ second ∷ codes) = pair_number first second + pair_sum codes

-- The bits of a block in an item, but for its identifier and its reference, where `skip` codes stand in that. With the
-- bit behind the identifier a second extension has one bit more for each pair than the number of the pair.
abbrev pub bits_as : Coding → ℕ → List ℕ → Choice → ℕ
bits_as c skip codes Plain = (c.block - skip) * c.bits
bits_as c skip codes Second = 1 + c.block / 2 + pair_sum codes
bits_as c skip codes (Split k) = (c.block - skip) * (k + 1) + high_sum k codes

-- the items of a block but Plain, in the order in which one of several with the same bits is chosen
abbrev pub others : Coding → List Choice
others c = Second ∷ map Split (range_with_len 0 (2 ^ identifier_width c - 2))

-- the first of the fewest bits, among these and the best before them
abbrev pub fewest_of : (Choice → ℕ) → Choice → List Choice → Choice
fewest_of bits best [] = best
fewest_of bits best (choice ∷ rest) = fewest_of bits (cond (nat_lt (bits choice) (bits best)) choice best) rest

-- the item of fewest bits: Plain before Second, Second before Split, and the least k
abbrev pub chosen : Coding → ℕ → List ℕ → Choice
chosen c skip codes = fewest_of (bits_as c skip codes) Plain (others c)

-- the items that a block can be
abbrev pub IsOption : Coding → Choice → Type 0
IsOption c Plain = Unit {0}
IsOption c Second = Unit {0}
IsOption c (Split k) = k + 3 ≤ 2 ^ identifier_width c
