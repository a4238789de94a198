-- The items that coded bits are a list of (CCSDS 121.0-B, coded data sets).
use Rattle.std.specs.Prelude.{◌≡◌, ℕ, zero, suc, ◌+◌, ◌-◌, ◌*◌, ◌/◌, ◌%◌, ◌^◌, ◌<◌, ◌≤◌, min, Bool, true, false, cond, nat_lt, ◌==◌, List, [], ◌∷◌, ◌++◌, length, drop, replicate, All}
use Rattle.grib_bits.specs.Bits.{bits_of}
use Rattle.grib_coding.specs.declared.coding.Coding.{Coding}
use Rattle.grib_coding.specs.Coding.{identifier_width}

-- An item: a run of zero blocks, by the number that counts them; a block as numbers that count pairs of its codes;
-- a block as its codes divided by 2 ^ k, and the k bits that are left of each; a block as its codes.
pub data Item : Type 0 where
  Run : ℕ → Item
  Second : List ℕ → Item
  Split : ℕ → List ℕ → List ℕ → Item
  Plain : List ℕ → Item

-- so many zero bits and a one bit
abbrev pub sequence : ℕ → List Bool
sequence number = replicate number false ++ true ∷ []

-- the bits of numbers one after another
abbrev pub all_bits : (ℕ → List Bool) → List ℕ → List Bool
all_bits bits [] = []
all_bits bits (number ∷ numbers) = bits number ++ all_bits bits numbers

-- The bits of an item behind those of its identifier; its reference, if it has one, is told as bits.
abbrev pub item_bits : Coding → List Bool → Item → List Bool
item_bits c reference (Run number) = bits_of (identifier_width c) 0 ++ (false ∷ (reference ++ sequence number))
item_bits c reference (Second pairs) = bits_of (identifier_width c) 0 ++ (true ∷ (reference ++ all_bits sequence pairs))
item_bits c reference (Split k high low) =
    bits_of (identifier_width c) (k + 1) ++ (reference ++ (all_bits sequence high ++ all_bits (bits_of k) low))
item_bits c reference (Plain codes) =
    bits_of (identifier_width c) (2 ^ identifier_width c - 1) ++ (reference ++ all_bits (bits_of c.bits) codes)

-- How many numbers an item has, and which, where the first `skip` codes of its block stand in a reference.
abbrev pub IsItem : Coding → ℕ → Item → Type 0
IsItem c skip (Run number) = Unit {0}
IsItem c skip (Second pairs) = length pairs ≡ c.block / 2
IsItem c skip (Split k high low) = (k + 3 ≤ 2 ^ identifier_width c) × (length high + skip ≡ c.block)
    × (length low + skip ≡ c.block) × All (λ number. number < 2 ^ k) low
IsItem c skip (Plain codes) = (length codes + skip ≡ c.block) × All (λ code. code < 2 ^ c.bits) codes

-- how many blocks an item covers whose first one has this place in its interval, from 0
abbrev pub covered : Coding → ℕ → Item → ℕ
covered c place (Run number) =
    cond (number == 4) (min (c.interval - place) (64 - place % 64)) (cond (nat_lt number 4) (number + 1) number)
covered c place (Second pairs) = 1
covered c place (Split k high low) = 1
covered c place (Plain codes) = 1

-- Pairs of codes are counted by their sum, and those of one sum by the second code.
pub record Pair : Type 0 where
  pub first : ℕ
  pub second : ℕ

abbrev pub next_pair : ℕ → ℕ → Pair
next_pair zero second = record { first = second + 1; second = 0 }
next_pair (suc first) second = record { first = first; second = second + 1 }

-- the pair with this number, counted from 0
abbrev pub pair_of : ℕ → Pair
pair_of zero = record { first = 0; second = 0 }
pair_of (suc number) = let pair = pair_of number in next_pair pair.first pair.second

-- and the number of a pair
abbrev pub pair_number : ℕ → ℕ → ℕ
pair_number first second = (first + second) * (first + second + 1) / 2 + second

abbrev pub codes_of_pairs : List ℕ → List ℕ
codes_of_pairs [] = []
codes_of_pairs (number ∷ numbers) = let pair = pair_of number in pair.first ∷ pair.second ∷ codes_of_pairs numbers

-- codes from what each is divided by 2 ^ k, and what is left
abbrev pub joined : ℕ → List ℕ → List ℕ → List ℕ
joined k [] low = []
joined k (h ∷ high) [] = []
joined k (h ∷ high) (l ∷ low) = (h * 2 ^ k + l) ∷ joined k high low

-- the codes of an item, but for the first `skip` ones of its first block
abbrev pub item_codes : Coding → ℕ → ℕ → Item → List ℕ
item_codes c place skip (Run number) = replicate (c.block * covered c place (Run number) - skip) 0
item_codes c place skip (Second pairs) = drop skip (codes_of_pairs pairs)
item_codes c place skip (Split k high low) = joined k high low
item_codes c place skip (Plain codes) = codes
