-- What is read of an item that began.
use Rattle.std.specs.Prelude.{◌≡◌, ℕ, ◌+◌, ◌-◌, ◌/◌, ◌^◌, ◌==◌, ◌<◌, ◌≤◌, Bool, true, List, ◌∷◌, ◌++◌, map, take, drop, All, Option, Some, None}
use Rattle.grib_coding.specs.declared.coding.Coding.{Coding}
use Rattle.grib_coding.specs.Coding.{identifier_width}
use Rattle.grib_coding.specs.Items.{Item, Run, Second, Split, Plain, joined}
use Rattle.grib_coding.specs.Reading.{Front, Found, Coded, coded_of, and_then, front_number, front_sequence, front_list, front_reference, front_zero, front_kind, front_item, skipped}
use Rattle.grib_block_reading.specs.declared.item.Kind.{Kind}
use Rattle.grib_block_reading.specs.ItemRead.{HasReference, IsOfKind}
use Rattle.grib_block_feeding.specs.declared.half.Shape.{Shape}
use Rattle.grib_block_feeding.specs.declared.half.Shape.TheVariants.{ZeroBlocks, SecondExtension, SplitSamples, NoCompression}
use Rattle.grib_block_feeding.specs.declared.half.Part.{Part}
use Rattle.grib_block_feeding.specs.declared.half.Part.TheVariants.{Padding, Identifier, Extension, Reference, Count, Pairs, High, Low, Codes}
use Rattle.grib_block_feeding.specs.declared.half.Half.{Half}
use Rattle.grib_block_feeding.specs.Pending.{saturated, front_pending, IsNumber, IsSequence}

-- An item as it is kept: no count or code of it is greater than a word can hold, and split codes stand as they are.
-- Each code over the greatest number stays over it, so that it covers the same blocks and is at fault by the same.
abbrev pub capped_item : Item → Item
capped_item (Run number) = Run (saturated number)
capped_item (Second pairs) = Second (map saturated pairs)
capped_item (Split k high low) = Plain (map saturated (joined k high low))
capped_item (Plain codes) = Plain codes

abbrev pub capped : Front Coded → Front Coded
capped front = and_then front (λ coded rest. Found (coded_of coded.reference (capped_item coded.item)) rest)

-- how many codes of the block do not stand in a reference
abbrev pub count_of : Coding → Half → ℕ
count_of c half = c.block - skipped half.with_reference

-- what follows a reference
abbrev pub front_shape : Coding → Bool → Shape → Option ℕ → List Bool → Front Coded
front_shape c s ZeroBlocks reference bits = and_then (front_sequence bits) (λ number rest. Found (coded_of reference (Run number)) rest)
front_shape c s SecondExtension reference bits =
    and_then (front_list front_sequence (c.block / 2) bits) (λ pairs rest. Found (coded_of reference (Second pairs)) rest)
front_shape c s (SplitSamples k) reference bits =
    and_then (front_list front_sequence (c.block - skipped s) bits) (λ high rest.
    and_then (front_list (front_number k) (c.block - skipped s) rest) (λ low rest'. Found (coded_of reference (Split k high low)) rest'))
front_shape c s NoCompression reference bits =
    and_then (front_list (front_number c.bits) (c.block - skipped s) bits) (λ codes rest. Found (coded_of reference (Plain codes)) rest)

-- a reference, if there is one, and what follows it
abbrev pub front_from : Coding → Bool → Shape → List Bool → Front Coded
front_from c s shape bits = and_then (front_reference c s bits) (λ reference rest. front_shape c s shape reference rest)

-- ---- what follows a number of an item that began

abbrev pub after_count : Half → ℕ → List Bool → Front Coded
after_count half number rest = Found (coded_of half.reference (Run number)) rest

abbrev pub after_pairs : Coding → Half → ℕ → List Bool → Front Coded
after_pairs c half number bits =
    and_then (front_list front_sequence (c.block / 2 - half.place - 1) bits) (λ pairs rest.
    Found (coded_of half.reference (Second (take half.place half.numbers ++ number ∷ map saturated pairs))) rest)

-- the low bits of codes
abbrev pub low_front : Coding → Half → ℕ → List ℕ → List Bool → Front Coded
low_front c half k high bits =
    and_then (front_list (front_number k) (count_of c half) bits) (λ low rest.
    Found (coded_of half.reference (Plain (map saturated (joined k high low)))) rest)

abbrev pub after_high : Coding → Half → ℕ → ℕ → List Bool → Front Coded
after_high c half k number bits =
    and_then (front_list front_sequence (count_of c half - half.place - 1) bits) (λ high rest.
    low_front c half k (take half.place half.numbers ++ number ∷ map saturated high) rest)

abbrev pub after_low : Coding → Half → ℕ → ℕ → List Bool → Front Coded
after_low c half k number bits =
    and_then (front_list (front_number k) (count_of c half - half.place - 1) bits) (λ low rest.
    Found (coded_of half.reference (Plain (take half.place half.numbers
    ++ map saturated (joined k (drop half.place (take (count_of c half) half.numbers)) (number ∷ low))))) rest)

abbrev pub after_codes : Coding → Half → ℕ → List Bool → Front Coded
after_codes c half number bits =
    and_then (front_list (front_number c.bits) (count_of c half - half.place - 1) bits) (λ codes rest.
    Found (coded_of half.reference (Plain (take half.place half.numbers ++ number ∷ codes))) rest)

-- a number of a part, and what follows it
abbrev pub after_part : Coding → Half → Part → ℕ → List Bool → Front Coded
after_part c half Padding number bits = capped (front_item c half.with_reference bits)
after_part c half Identifier number bits = capped (front_kind c half.with_reference (number + 1 == 2 ^ identifier_width c) number bits)
after_part c half Extension number bits = capped (front_zero c half.with_reference number bits)
after_part c half (Reference shape) number bits = capped (front_shape c half.with_reference shape (Some number) bits)
after_part c half Count number bits = after_count half number bits
after_part c half Pairs number bits = after_pairs c half number bits
after_part c half (High k) number bits = after_high c half k number bits
after_part c half (Low k) number bits = after_low c half k number bits
after_part c half Codes number bits = after_codes c half number bits

-- what the next bits make of an item that began
abbrev pub front_half : Coding → Half → List Bool → Front Coded
front_half c half bits = and_then (front_pending half.pending bits) (λ number rest. after_part c half half.part number rest)

-- ---- items that began as they can be

abbrev pub ShapeFits : Shape → Type 0
ShapeFits ZeroBlocks = Unit {0}
ShapeFits SecondExtension = Unit {0}
ShapeFits (SplitSamples k) = k ≤ 29
ShapeFits NoCompression = Unit {0}

-- A number of codes of a block is not the last one.
abbrev pub IsAmong : Coding → Half → Type 0
IsAmong c half = HasReference c half.with_reference half.reference × (half.place < count_of c half)

-- A part can be read whose numbers, if they stand in so many bits, or if they are sequences, are these.
abbrev pub Stands : Coding → Half → Part → (ℕ → Type 0) → Type 0 → Type 0
Stands c half Padding of_bits of_zeros = of_bits 7
Stands c half Identifier of_bits of_zeros = of_bits (identifier_width c)
Stands c half Extension of_bits of_zeros = of_bits 1
Stands c half (Reference shape) of_bits of_zeros = of_bits c.bits × (half.with_reference ≡ true) × ShapeFits shape
Stands c half Count of_bits of_zeros = of_zeros × HasReference c half.with_reference half.reference
Stands c half Pairs of_bits of_zeros = of_zeros × HasReference c half.with_reference half.reference × (half.place < c.block / 2)
Stands c half (High k) of_bits of_zeros =
    of_zeros × IsAmong c half × (k ≤ 29) × All (λ number. number ≤ 18446744073709551615) (take half.place half.numbers)
Stands c half (Low k) of_bits of_zeros = of_bits k × IsAmong c half × (k ≤ 29) × (1 ≤ k)
Stands c half Codes of_bits of_zeros = of_bits c.bits × IsAmong c half

abbrev pub IsHalf : Coding → Half → Type 0
IsHalf c half = Stands c half half.part (λ width. IsNumber width half.pending) (IsSequence half.pending)

-- What stands at the front of bits is an item that is whole, of this kind, whose codes are among the numbers.
pub record WholeItem (c : Coding) (front : List Bool → Front Coded) (kind : Kind) (half : Half) : Type 0 where
  pub item : Item
  pub found : (rest : List Bool) → front rest ≡ Found (coded_of half.reference item) rest
  pub kind_is : IsOfKind c (skipped half.with_reference) kind item (take (count_of c half) half.numbers)
  pub reference_is : HasReference c half.with_reference half.reference

-- Such an item was at the front of bits, and these are behind it.
pub record IsFront (c : Coding) (front : Front Coded) (rest : List Bool) (kind : Kind) (half : Half) : Type 0 where
  pub item : Item
  pub found : front ≡ Found (coded_of half.reference item) rest
  pub kind_is : IsOfKind c (skipped half.with_reference) kind item (take (count_of c half) half.numbers)
  pub reference_is : HasReference c half.with_reference half.reference

-- It is what the next bits make of an item that began.
pub record GoesOn (c : Coding) (front : List Bool → Front Coded) (half : Half) : Type 0 where
  pub half_is : IsHalf c half
  pub same : (bits : List Bool) → front bits ≡ front_half c half bits

abbrev pub Gone : Coding → (List Bool → Front Coded) → Option Kind → Half → Type 0
Gone c front None half = GoesOn c front half
Gone c front (Some kind) half = WholeItem c front kind half
