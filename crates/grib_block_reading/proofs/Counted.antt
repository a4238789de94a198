-- As many values are told as there are, where no item is at fault.
use Rattle.std.proofs.Common.{◌≡◌, ℕ, zero, suc, ◌+◌, ◌-◌, ◌*◌, ◌/◌, ◌%◌, ◌<◌, ◌≤◌, min, Bool, true, false, cond, ◌&&◌, ◌==◌, Option, Some, None, List, [], ◌∷◌, ◌++◌, length, map, take, drop, replicate, refl, sym, ap, ◌∙◌, arith, subst, inl, inr, nat_le, leb-true, div-add-mod'}
use Rattle.std.proofs.Math.Nat.{mul-le-mul_left}
use Rattle.std.proofs.lemmas.Nat.{mod_below}
use Rattle.std.proofs.lemmas.List.{length-append, length-take, length-drop, length-replicate, length-map}
use Rattle.grib_coding.specs.declared.coding.Coding.{Coding}
use Rattle.grib_coding.specs.declared.fault.BlockFault.{BlockFault}
use Rattle.grib_coding.specs.Coding.{Fits, block_count, is_mapped, identifier_width}
use Rattle.grib_coding.specs.Items.{Item, Run, Second, Split, Plain, covered, item_codes, codes_of_pairs, joined}
use Rattle.grib_coding.specs.Numbers.{Told, Reference, Code}
use Rattle.grib_coding.specs.Reading.{Front, Ended, Found, Coded, and_then, front_list, front_number, front_sequence, front_reference, front_item, front_kind, front_zero, front_plain, front_split, skipped, entries_with, entries_of, Decoded, items_from, after_item, unless_fault, unless_ended, ended_by, behind, decoded, padded, item_fault}
use Rattle.grib_block_reading.proofs.Shown.{some_blocks}

-- what is found by one reading and then another was found by each
pub record Both {A B : Type 0} (front : Front A) (next : A → List Bool → Front B) (y : B) (end : List Bool) : Type 0 where
  pub x : A
  pub rest : List Bool
  pub first : front ≡ Found x rest
  pub then : next x rest ≡ Found y end

pub both : {A B : Type 0} (front : Front A) (next : A → List Bool → Front B) (y : B) (end : List Bool) → and_then front next ≡ Found y end → Both front next y end
both Ended next y end e = cc
both (Found x rest) next y end e = record { x = x; rest = rest; first = refl; then = e }

length-list : (front : List Bool → Front ℕ) (count : ℕ) (bits rest : List Bool) (numbers : List ℕ) → front_list front count bits ≡ Found numbers rest → length numbers ≡ count
length-list front zero bits rest numbers e = let none : numbers ≡ [] = cc in ap length none
length-list front (suc count) bits rest numbers e =
    let one = both (front bits) (λ number rest'. and_then (front_list front count rest') (λ numbers' rest''. Found (number ∷ numbers') rest'')) numbers rest e in
    let two = both (front_list front count one.rest) (λ numbers' rest''. Found (one.x ∷ numbers') rest'') numbers rest one.then in
    let is : one.x ∷ two.x ≡ numbers = cc in
    ap length (sym is) ∙ ap suc (length-list front count one.rest two.rest two.x two.first)

-- how many numbers an item has
abbrev IsLong : Coding → ℕ → Item → Type 0
IsLong c skip (Run number) = Unit {0}
IsLong c skip (Second pairs) = length pairs ≡ c.block / 2
IsLong c skip (Split k high low) = (length high ≡ c.block - skip) × (length low ≡ c.block - skip)
IsLong c skip (Plain codes) = length codes ≡ c.block - skip

abbrev HasOne : Bool → Option ℕ → Type 0
HasOne false None = Unit {0}
HasOne false (Some number) = ⊥
HasOne true None = ⊥
HasOne true (Some number) = Unit {0}

abbrev IsWhole : Coding → Bool → Coded → Type 0
IsWhole c w coded = HasOne w coded.reference × IsLong c (skipped w) coded.item

reference_is : (c : Coding) (w : Bool) (bits rest : List Bool) (reference : Option ℕ) → front_reference c w bits ≡ Found reference rest → HasOne w reference
reference_is c false bits rest None e = tt
reference_is c false bits rest (Some number) e = cc
reference_is c true bits rest (Some number) e = tt
reference_is c true bits rest None e =
    let one = both (front_number c.bits bits) (λ number rest'. Found (Some number) rest') None rest e in
    let never : Found (Some one.x) one.rest ≡ Found None rest = one.then in cc

module _ (c : Coding) (w : Bool) where
  zero_is : (bit : ℕ) (bits rest : List Bool) (coded : Coded) → front_zero c w bit bits ≡ Found coded rest → IsWhole c w coded
  zero_is zero bits rest coded e =
      let one = both (front_reference c w bits) _ coded rest e in
      let two = both (front_sequence one.rest) _ coded rest one.then in
      let is : record { reference = one.x; item = Run two.x } ≡ coded = cc in
      subst (IsWhole c w) is (reference_is c w bits one.rest one.x one.first, tt)
  zero_is (suc other) bits rest coded e =
      let one = both (front_reference c w bits) _ coded rest e in
      let two = both (front_list front_sequence (c.block / 2) one.rest) _ coded rest one.then in
      let is : record { reference = one.x; item = Second two.x } ≡ coded = cc in
      subst (IsWhole c w) is (reference_is c w bits one.rest one.x one.first, length-list front_sequence (c.block / 2) one.rest two.rest two.x two.first)

  plain_is : (bits rest : List Bool) (coded : Coded) → front_plain c w bits ≡ Found coded rest → IsWhole c w coded
  plain_is bits rest coded e =
      let one = both (front_reference c w bits) _ coded rest e in
      let two = both (front_list (front_number c.bits) (c.block - skipped w) one.rest) _ coded rest one.then in
      let is : record { reference = one.x; item = Plain two.x } ≡ coded = cc in
      subst (IsWhole c w) is (reference_is c w bits one.rest one.x one.first, length-list (front_number c.bits) (c.block - skipped w) one.rest two.rest two.x two.first)

  split_is : (k : ℕ) (bits rest : List Bool) (coded : Coded) → front_split c w k bits ≡ Found coded rest → IsWhole c w coded
  split_is k bits rest coded e =
      let n = c.block - skipped w in
      let one = both (front_reference c w bits) _ coded rest e in
      let two = both (front_list front_sequence n one.rest) _ coded rest one.then in
      let three = both (front_list (front_number k) n two.rest) _ coded rest two.then in
      let is : record { reference = one.x; item = Split k two.x three.x } ≡ coded = cc in
      subst (IsWhole c w) is (
        reference_is c w bits one.rest one.x one.first,
        (length-list front_sequence n one.rest two.rest two.x two.first, length-list (front_number k) n two.rest three.rest three.x three.first),
      )

  kind_is : (greatest_one : Bool) (identifier : ℕ) (bits rest : List Bool) (coded : Coded) → front_kind c w greatest_one identifier bits ≡ Found coded rest → IsWhole c w coded
  kind_is greatest_one zero bits rest coded e =
      let one = both (front_number 1 bits) (λ bit rest'. front_zero c w bit rest') coded rest e in
      zero_is one.x one.rest rest coded one.then
  kind_is true (suc k) bits rest coded e = plain_is bits rest coded e
  kind_is false (suc k) bits rest coded e = split_is k bits rest coded e

  -- an item that was found has its numbers
  pub item_is : (bits rest : List Bool) (coded : Coded) → front_item c w bits ≡ Found coded rest → IsWhole c w coded
  item_is bits rest coded e =
      let one = both (front_number (identifier_width c) bits) _ coded rest e in
      kind_is _ one.x one.rest rest coded one.then

length-pairs : (numbers : List ℕ) → length (codes_of_pairs numbers) ≡ 2 * length numbers
length-pairs [] = refl
length-pairs (number ∷ numbers) = let more = length-pairs numbers in omega (arith, more)

length-joined : (k : ℕ) (high low : List ℕ) → length low ≡ length high → length (joined k high low) ≡ length high
length-joined k [] low e = refl
length-joined k (h ∷ high) [] e = cc
length-joined k (h ∷ high) (l ∷ low) e = ap suc (length-joined k high low (omega (arith, e)))

skip_at_most : (b : Bool) → skipped b ≤ 1
skip_at_most true = omega arith
skip_at_most false = omega arith

-- how many values an item tells
codes_long : (c : Coding) (w : Bool) (place : ℕ) (item : Item) → 2 ≤ c.block → c.block % 2 ≡ 0 → IsLong c (skipped w) item → place < c.interval
    → length (item_codes c place (skipped w) item) + skipped w ≡ c.block * covered c place item
codes_long c w place (Run number) some even is less =
    let one : 1 ≤ covered c place (Run number) = some_blocks c place number (Run number) less refl in
    let product : c.block * 1 ≤ c.block * covered c place (Run number) = mul-le-mul_left c.block one in
    omega (arith, length-replicate {A = ℕ} (c.block * covered c place (Run number) - skipped w) 0, product, skip_at_most w, some)
codes_long c w place (Second pairs) some even is less =
    let pairs_long = length-pairs pairs in
    omega (arith, length-drop (skipped w) (codes_of_pairs pairs), pairs_long, is, skip_at_most w, some, even)
codes_long c w place (Split k high low) some even is less =
    let long = length-joined k high low (is.1 ∙ sym is.0) in
    omega (arith, long, is.0, skip_at_most w, some)
codes_long c w place (Plain codes) some even is less = omega (arith, is, skip_at_most w, some)

pub entries_long : (c : Coding) (w : Bool) (place : ℕ) (coded : Coded) → 2 ≤ c.block → c.block % 2 ≡ 0 → IsWhole c w coded → place < c.interval
    → length (entries_of c place coded) ≡ c.block * covered c place coded.item
entries_long c w place coded some even is less = by_reference w coded.reference is.0 is.1 where
  by_reference : (w : Bool) (reference : Option ℕ) → HasOne w reference → IsLong c (skipped w) coded.item → length (entries_with c place reference coded.item) ≡ c.block * covered c place coded.item
  by_reference false None has long =
      let told = codes_long c false place coded.item some even long less in
      omega (arith, told, length-map (item_codes c place 0 coded.item) Code)
  by_reference true (Some number) has long =
      let told = codes_long c true place coded.item some even long less in
      omega (arith, told, length-map (item_codes c place 1 coded.item) Code)
  by_reference false (Some number) has long = absurd has
  by_reference true None has long = absurd has

-- some blocks are covered
pub covers_some : (c : Coding) (place : ℕ) (item : Item) → place < c.interval → 1 ≤ covered c place item
covers_some c place (Run number) less = some_blocks c place number (Run number) less refl
covers_some c place (Second pairs) less = omega arith
covers_some c place (Split k high low) less = omega arith
covers_some c place (Plain codes) less = omega arith

module _ (c : Coding) (count : ℕ) (some : 2 ≤ c.block) (even : c.block % 2 ≡ 0) (intervals : 1 ≤ c.interval) where
  -- the values before a block, and those that the items from it on tell
  abbrev Enough : ℕ → Decoded → Type 0
  Enough block read = read.fault ≡ None → count ≤ block * c.block + length read.entries

  past : (block : ℕ) → block_count c count ≤ block → count ≤ block * c.block
  past block e =
      let sum = count + c.block - 1 in
      let product : c.block * block_count c count ≤ c.block * block = mul-le-mul_left c.block e in
      let cut : sum / c.block * c.block + sum % c.block ≡ sum = div-add-mod' sum c.block in
      let small : sum % c.block < c.block = mod_below sum c.block (omega (arith, some)) in
      omega (arith, product, cut, small)

  unless_none : (fault : Option BlockFault) (entries : List Told) (next : ℕ → Decoded) (block covers : ℕ) → length entries ≡ c.block * covers
      → Enough (block + covers) (next 0) → Enough block (unless_fault fault entries next)
  unless_none (Some fault) entries next block covers long more none = cc
  unless_none None entries next block covers long more none =
      let rest = more none in
      omega (arith, rest, long, length-append entries (next 0).entries)

  after_front : (w : Bool) (bits : List Bool) (block : ℕ) (next : ℕ → List Bool → Decoded) (front : Front Coded) → front_item c w bits ≡ front
      → ((block' : ℕ) (rest : List Bool) → block < block' → Enough block' (next block' rest)) → Enough block (after_item c count block next front)
  after_front w bits block next Ended e more none = cc
  after_front w bits block next (Found coded rest) e more none =
      let place = block % c.interval in
      let less : place < c.interval = mod_below block c.interval intervals in
      let one = covers_some c place coded.item less in
      unless_none (item_fault c count block coded) (entries_of c place coded) (λ _. next (block + covered c place coded.item) rest) block (covered c place coded.item)
      (entries_long c w place coded some even (item_is c w bits rest coded e) less) (more (block + covered c place coded.item) rest (omega (arith, one))) none

  -- where the blocks from one on are walked
  step : (most block : ℕ) (bits : List Bool) (ended : Bool) → nat_le (block_count c count) block ≡ ended
      → ((block' : ℕ) (rest : List Bool) → block < block' → Enough block' (items_from most c count block' rest))
      → let first = block % c.interval == 0 in
      Enough block (unless_ended ended (λ _. after_item c count block (λ block' rest. items_from most c count block' rest) (front_item c (first && is_mapped c) (padded c first bits))))
  step most block bits true e later = λ none. let all = past block (leb-true (block_count c count) block e) in omega (arith, all)
  step most block bits false e later =
      let first = block % c.interval == 0 in
      after_front (first && is_mapped c) (padded c first bits) block (λ block' rest. items_from most c count block' rest) (front_item c (first && is_mapped c) (padded c first bits)) refl later

  walk : (most block : ℕ) (bits : List Bool) → block_count c count ≤ block + most → Enough block (items_from most c count block bits)
  walk zero block bits enough = λ none. let all = past block (omega (arith, enough)) in omega (arith, all)
  walk (suc most) block bits enough =
      step most block bits (nat_le (block_count c count) block) refl (λ block' rest later. walk most block' rest (omega (arith, later, enough)))

  pub counted : (bits : List Bool) → (decoded c count bits).fault ≡ None → length (decoded c count bits).entries ≡ count
  counted bits none =
      let all = items_from (block_count c count) c count 0 bits in
      let enough = walk (block_count c count) 0 bits (omega arith) none in
      omega (arith, enough, length-take count all.entries)

pub all_told : (c : Coding) (count : ℕ) (bits : List Bool) → Fits c → (decoded c count bits).fault ≡ None → length (decoded c count bits).entries ≡ count
all_told c count bits fits none = elim fits.block [
  | inl is ↦ counted c count (omega (arith, is)) (omega (arith, is)) fits.some_blocks bits none
  | inr (inl is) ↦ counted c count (omega (arith, is)) (omega (arith, is)) fits.some_blocks bits none
  | inr (inr (inl is)) ↦ counted c count (omega (arith, is)) (omega (arith, is)) fits.some_blocks bits none
  | inr (inr (inr is)) ↦ counted c count (omega (arith, is)) (omega (arith, is)) fits.some_blocks bits none
]
