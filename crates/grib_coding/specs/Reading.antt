-- Coded bits as they are read: item after item, each whole, up to the block that has the last value or to the first
-- item that is at fault.
use Rattle.std.specs.Prelude.{ℕ, zero, suc, ◌+◌, ◌-◌, ◌*◌, ◌/◌, ◌%◌, ◌^◌, ◌≤◌, Bool, true, false, cond, nat_lt, nat_le, ◌&&◌, ◌||◌, ◌==◌, List, [], ◌∷◌, ◌++◌, length, map, take, drop, Option, Some, None}
use Rattle.std.specs.List.{list_any, position}
use Rattle.grib_bits.specs.Bits.{num}
use Rattle.grib_coding.specs.declared.coding.Coding.{Coding}
use Rattle.grib_coding.specs.declared.fault.BlockFault.{BlockFault}
use Rattle.grib_coding.specs.declared.fault.BlockFault.TheVariants.{Short, Block, Value}
use Rattle.grib_coding.specs.Coding.{identifier_width, is_mapped, is_padded, greatest, block_count}
use Rattle.grib_coding.specs.Items.{Item, Run, Second, Split, Plain, covered, item_codes}
use Rattle.grib_coding.specs.Numbers.{Told, Reference, Code, told_after}

-- what stands at the front of bits, and the bits behind it, or that the bits end before it does
pub data Front (A : Type 0) : Type 0 where
  Ended : Front A
  Found : A → List Bool → Front A

abbrev pub and_then : {A B : Type 0} → Front A → (A → List Bool → Front B) → Front B
and_then Ended next = Ended
and_then (Found x rest) next = next x rest

-- a number of so many bits
abbrev pub front_number : ℕ → List Bool → Front ℕ
front_number width bits = cond (nat_le width (length bits)) (Found (num (take width bits)) (drop width bits)) Ended

-- zero bits up to a one bit
abbrev pub front_sequence : List Bool → Front ℕ
front_sequence [] = Ended
front_sequence (true ∷ rest) = Found 0 rest
front_sequence (false ∷ rest) = and_then (front_sequence rest) (λ number rest'. Found (suc number) rest')

-- so many of them
abbrev pub front_list : (List Bool → Front ℕ) → ℕ → List Bool → Front (List ℕ)
front_list front zero bits = Found [] bits
front_list front (suc count) bits =
    and_then (front bits) (λ number rest. and_then (front_list front count rest) (λ numbers rest'. Found (number ∷ numbers) rest'))

-- an item and its reference, if it has one
pub record Coded : Type 0 where
  pub reference : Option ℕ
  pub item : Item

abbrev pub coded_of : Option ℕ → Item → Coded
coded_of reference item = record { reference = reference; item = item }

-- A reference is a number that can be.
abbrev pub IsWithin : Coding → Option ℕ → Type 0
IsWithin c None = Unit {0}
IsWithin c (Some number) = number ≤ greatest c

-- a reference where there is one
abbrev pub front_reference : Coding → Bool → List Bool → Front (Option ℕ)
front_reference c false bits = Found None bits
front_reference c true bits = and_then (front_number c.bits bits) (λ number rest. Found (Some number) rest)

-- where there is a reference the first code of the block does not stand
abbrev pub skipped : Bool → ℕ
skipped false = 0
skipped true = 1

-- what follows the identifier 0 and the bit behind it
abbrev pub front_zero : Coding → Bool → ℕ → List Bool → Front Coded
front_zero c with_reference zero bits =
    and_then (front_reference c with_reference bits) (λ reference rest.
    and_then (front_sequence rest) (λ number rest'. Found (record { reference = reference; item = Run number }) rest'))
front_zero c with_reference (suc other) bits =
    and_then (front_reference c with_reference bits) (λ reference rest.
    and_then (front_list front_sequence (c.block / 2) rest) (λ pairs rest'. Found (record { reference = reference; item = Second pairs }) rest'))

-- what follows the greatest identifier
abbrev pub front_plain : Coding → Bool → List Bool → Front Coded
front_plain c with_reference bits =
    and_then (front_reference c with_reference bits) (λ reference rest.
    and_then (front_list (front_number c.bits) (c.block - skipped with_reference) rest) (λ codes rest'.
    Found (record { reference = reference; item = Plain codes }) rest'))

-- what follows the identifier k + 1
abbrev pub front_split : Coding → Bool → ℕ → List Bool → Front Coded
front_split c with_reference k bits =
    let count = c.block - skipped with_reference in
    and_then (front_reference c with_reference bits) (λ reference rest.
    and_then (front_list front_sequence count rest) (λ high rest'.
    and_then (front_list (front_number k) count rest') (λ low rest''.
    Found (record { reference = reference; item = Split k high low }) rest'')))

-- what follows an identifier
abbrev pub front_kind : Coding → Bool → Bool → ℕ → List Bool → Front Coded
front_kind c with_reference greatest_one zero bits =
    and_then (front_number 1 bits) (λ bit rest. front_zero c with_reference bit rest)
front_kind c with_reference true (suc k) bits = front_plain c with_reference bits
front_kind c with_reference false (suc k) bits = front_split c with_reference k bits

-- an item
abbrev pub front_item : Coding → Bool → List Bool → Front Coded
front_item c with_reference bits =
    and_then (front_number (identifier_width c) bits) (λ identifier rest.
    front_kind c with_reference (identifier + 1 == 2 ^ identifier_width c) identifier rest)

-- what an item tells of its values, where its first block has this place in its interval
abbrev pub entries_with : Coding → ℕ → Option ℕ → Item → List Told
entries_with c place None item = map Code (item_codes c place 0 item)
entries_with c place (Some number) item = Reference number ∷ map Code (item_codes c place 1 item)

abbrev pub entries_of : Coding → ℕ → Coded → List Told
entries_of c place coded = entries_with c place coded.reference coded.item

-- a sequence of a second extension is at most 90
abbrev pub is_too_long : Item → Bool
is_too_long (Run number) = false
is_too_long (Second pairs) = list_any (λ number. nat_lt 90 number) pairs
is_too_long (Split k high low) = false
is_too_long (Plain codes) = false

-- a code is at most the greatest number
abbrev pub is_over : Coding → Told → Bool
is_over c (Reference number) = false
is_over c (Code code) = nat_lt (greatest c) code

-- the first code over it of values from this place on, from 1
abbrev pub value_fault : ℕ → Option ℕ → Option BlockFault
value_fault before None = None
value_fault before (Some place) = Some (Value (before + place + 1))

-- What is wrong with an item that is there as a whole, whose first block is this one, from 0, of `count` values: a run
-- goes past the end of its interval, a sequence is too long, or the code of a value is over the greatest number.
abbrev pub item_fault : Coding → ℕ → ℕ → Coded → Option BlockFault
item_fault c count block coded =
    let place = block % c.interval in
    cond (nat_lt c.interval (place + covered c place coded.item) || is_too_long coded.item) (Some (Block (block + 1)))
    (value_fault (block * c.block) (position (is_over c) (take (count - block * c.block) (entries_of c place coded))))

-- what is told of the values up to the first item at fault, and what is wrong with it
pub record Decoded : Type 0 where
  pub entries : List Told
  pub fault : Option BlockFault

-- no item more
abbrev pub ended_by : Option BlockFault → Decoded
ended_by fault = record { entries = []; fault = fault }

abbrev pub behind : List Told → Decoded → Decoded
behind entries rest = record { entries = entries ++ rest.entries; fault = rest.fault }

-- an item, and then what follows it, unless it is at fault
abbrev pub unless_fault : Option BlockFault → List Told → (ℕ → Decoded) → Decoded
unless_fault (Some fault) entries next = ended_by (Some fault)
unless_fault None entries next = behind entries (next 0)

abbrev pub after_item : Coding → ℕ → ℕ → (ℕ → List Bool → Decoded) → Front Coded → Decoded
after_item c count block next Ended = ended_by (Some Short)
after_item c count block next (Found coded rest) =
    let place = block % c.interval in
    unless_fault (item_fault c count block coded) (entries_of c place coded)
    (λ _. next (block + covered c place coded.item) rest)

-- the bits of the first item of an interval, which may begin at a whole octet: the last bit ends one
abbrev pub padded : Coding → Bool → List Bool → List Bool
padded c first bits = cond (is_padded c && first) (drop (length bits % 8) bits) bits

abbrev pub unless_ended : Bool → (ℕ → Decoded) → Decoded
unless_ended true next = ended_by None
unless_ended false next = next 0

-- The items from a block on. The first argument bounds how many there are.
abbrev pub items_from : ℕ → Coding → ℕ → ℕ → List Bool → Decoded
items_from zero c count block bits = ended_by None
items_from (suc most) c count block bits =
    unless_ended (nat_le (block_count c count) block) (λ _.
    let first = block % c.interval == 0 in
    after_item c count block (λ block' rest. items_from most c count block' rest)
    (front_item c (first && is_mapped c) (padded c first bits)))

-- what `count` values are coded by, from the beginning of bits; codes of no value are left out
abbrev pub decoded : Coding → ℕ → List Bool → Decoded
decoded c count bits =
    let all = items_from (block_count c count) c count 0 bits in
    record { entries = take count all.entries; fault = all.fault }

abbrev pub fault_of : Decoded → Option BlockFault
fault_of read = read.fault

-- what is read where these numbers are, and nothing is wrong
abbrev pub read_as : Coding → List ℕ → Decoded
read_as c numbers = record { entries = told_after c 0 0 numbers; fault = None }
