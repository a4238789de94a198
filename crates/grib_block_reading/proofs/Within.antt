-- What is told where no item is at fault tells numbers that can be.
use Rattle.std.proofs.Common.{◌≡◌, ℕ, zero, suc, ◌+◌, ◌-◌, ◌*◌, ◌/◌, ◌%◌, ◌^◌, ◌<◌, ◌≤◌, Bool, true, false, cond, ◌&&◌, ◌||◌, ◌==◌, Option, Some, None, List, [], ◌∷◌, ◌++◌, length, map, take, drop, refl, sym, ap, ◌∙◌, arith, subst, nat_le, nat_lt, leb-true}
use Rattle.std.specs.List.{All, position}
use Rattle.std.proofs.lemmas.Bool.Decides.{nat_tests}
use Rattle.std.proofs.lemmas.Nat.{mod_below}
use Rattle.std.proofs.lemmas.List.{length-take-le}
use Rattle.std.proofs.lemmas.List.Elements.{All-nil, All-cons, All-head, All-tail}
use Rattle.grib_bits.specs.Bits.{num}
use Rattle.grib_bits.proofs.Numbers.{num-lt}
use Rattle.grib_coding.specs.Mapped.{unmapped}
use Rattle.grib_coding.specs.declared.coding.Coding.{Coding}
use Rattle.grib_coding.specs.declared.fault.BlockFault.{BlockFault}
use Rattle.grib_coding.specs.declared.fault.BlockFault.TheVariants.{Block}
use Rattle.grib_coding.specs.Coding.{block_count, greatest, is_mapped, identifier_width}
use Rattle.grib_coding.specs.Items.{Item, Run, Second, Split, Plain, covered, item_codes}
use Rattle.grib_coding.specs.Numbers.{Told, Reference, Code, number_told, numbers_told}
use Rattle.grib_coding.specs.Reading.{Front, Ended, Found, Coded, front_list, front_number, front_sequence, front_reference, front_item, front_kind, front_zero, front_plain, front_split, skipped, entries_with, entries_of, Decoded, items_from, after_item, unless_fault, unless_ended, decoded, padded, item_fault, value_fault, is_over, is_too_long, IsWithin}
use Rattle.grib_block_reading.proofs.Counted.{both, covers_some, entries_long, item_is}
use Rattle.grib_block_reading.proofs.Shown.{behind_reference, none_over, one_later, position-codes}

-- ---- a reference or a code that is at most the greatest number

abbrev IsFit : Coding → Told → Type 0
IsFit c (Reference number) = number ≤ greatest c
IsFit c (Code code) = code ≤ greatest c

-- each of the first n
abbrev AreFit : Coding → ℕ → List Told → Type 0
AreFit c zero entries = Unit {0}
AreFit c (suc n) [] = Unit {0}
AreFit c (suc n) (entry ∷ entries) = IsFit c entry × AreFit c n entries

fit-none : (c : Coding) (n : ℕ) → AreFit c n []
fit-none c zero = tt
fit-none c (suc n) = tt

fit-append : (c : Coding) (n : ℕ) (xs ys : List Told) → AreFit c n xs → AreFit c (n - length xs) ys → AreFit c n (xs ++ ys)
fit-append c zero xs ys some more = tt
fit-append c (suc n) [] ys some more = let same : suc n - length {A = Told} [] ≡ suc n = omega arith in subst (λ (m : ℕ). AreFit c m ys) same more
fit-append c (suc n) (x ∷ xs) ys some more =
    let same : suc n - length (x ∷ xs) ≡ n - length xs = omega arith in
    (some.0, fit-append c n xs ys some.1 (subst (λ (m : ℕ). AreFit c m ys) same more))

fit-codes : (c : Coding) (n : ℕ) (codes : List ℕ) → All (λ code. code ≤ greatest c) (take n codes) → AreFit c n (map Code codes)
fit-codes c zero codes all = tt
fit-codes c (suc n) [] all = tt
fit-codes c (suc n) (code ∷ codes) all =
    (All-head (λ code. code ≤ greatest c) code (take n codes) all, fit-codes c n codes (All-tail (λ code. code ≤ greatest c) code (take n codes) all))

-- ---- tells a number that is at most that

unmapped_within : (most before code : ℕ) → before ≤ most → code ≤ most → unmapped most before code ≤ most
unmapped_within most before code b within = grind (arith, nat_tests)

number_within : (c : Coding) (last : ℕ) (entry : Told) → last ≤ greatest c → IsFit c entry → number_told c last entry ≤ greatest c
number_within c last (Reference number) l fit = fit
number_within c last (Code code) l fit = by_mapping (is_mapped c) where
  by_mapping : (b : Bool) → cond b (unmapped (greatest c) last code) code ≤ greatest c
  by_mapping true = unmapped_within (greatest c) last code l fit
  by_mapping false = fit

numbers_within : (c : Coding) (n last : ℕ) (entries : List Told) → last ≤ greatest c → AreFit c n entries
    → All (λ number. number ≤ greatest c) (numbers_told c last (take n entries))
numbers_within c zero last entries l fit = All-nil (λ number. number ≤ greatest c)
numbers_within c (suc n) last [] l fit = All-nil (λ number. number ≤ greatest c)
numbers_within c (suc n) last (entry ∷ entries) l fit =
    let number = number_told c last entry in
    let here = number_within c last entry l fit.0 in
    All-cons (λ number. number ≤ greatest c) number (numbers_told c number (take n entries)) here (numbers_within c n number entries here fit.1)

-- ---- the reference of an item that was found

number_small : (width : ℕ) (bits rest : List Bool) (number : ℕ) → front_number width bits ≡ Found number rest → number < 2 ^ width
number_small width bits rest number e = by_length (nat_le width (length bits)) refl e where
  by_length : (b : Bool) → nat_le width (length bits) ≡ b → cond b (Found (num (take width bits)) (drop width bits)) Ended ≡ Found number rest → number < 2 ^ width
  by_length true is e =
      let same : num (take width bits) ≡ number = cc in
      let long : length (take width bits) ≡ width = length-take-le width bits (leb-true width (length bits) is) in
      let below : num (take width bits) < 2 ^ width = subst (λ (w : ℕ). num (take width bits) < 2 ^ w) long (num-lt (take width bits)) in
      subst (λ (n : ℕ). n < 2 ^ width) same below
  by_length false is e = absurd (cc)

reference_within : (c : Coding) (w : Bool) (bits rest : List Bool) (reference : Option ℕ) → front_reference c w bits ≡ Found reference rest → IsWithin c reference
reference_within c w bits rest None e = tt
reference_within c false bits rest (Some number) e = absurd (cc)
reference_within c true bits rest (Some number) e =
    let one = both (front_number c.bits bits) (λ number rest'. Found (Some number) rest') (Some number) rest e in
    let is : Found (Some one.x) one.rest ≡ Found (Some number) rest = one.then in
    let same : one.x ≡ number = cc in
    omega (arith, same, number_small c.bits bits one.rest one.x one.first)

module _ (c : Coding) (w : Bool) where
  zero_within : (bit : ℕ) (bits rest : List Bool) (coded : Coded) → front_zero c w bit bits ≡ Found coded rest → IsWithin c coded.reference
  zero_within zero bits rest coded e =
      let one = both (front_reference c w bits) _ coded rest e in
      let two = both (front_sequence one.rest) _ coded rest one.then in
      let is : record { reference = one.x; item = Run two.x } ≡ coded = cc in
      subst (λ (x : Coded). IsWithin c x.reference) is (reference_within c w bits one.rest one.x one.first)
  zero_within (suc other) bits rest coded e =
      let one = both (front_reference c w bits) _ coded rest e in
      let two = both (front_list front_sequence (c.block / 2) one.rest) _ coded rest one.then in
      let is : record { reference = one.x; item = Second two.x } ≡ coded = cc in
      subst (λ (x : Coded). IsWithin c x.reference) is (reference_within c w bits one.rest one.x one.first)

  plain_within : (bits rest : List Bool) (coded : Coded) → front_plain c w bits ≡ Found coded rest → IsWithin c coded.reference
  plain_within bits rest coded e =
      let one = both (front_reference c w bits) _ coded rest e in
      let two = both (front_list (front_number c.bits) (c.block - skipped w) one.rest) _ coded rest one.then in
      let is : record { reference = one.x; item = Plain two.x } ≡ coded = cc in
      subst (λ (x : Coded). IsWithin c x.reference) is (reference_within c w bits one.rest one.x one.first)

  split_within : (k : ℕ) (bits rest : List Bool) (coded : Coded) → front_split c w k bits ≡ Found coded rest → IsWithin c coded.reference
  split_within k bits rest coded e =
      let n = c.block - skipped w in
      let one = both (front_reference c w bits) _ coded rest e in
      let two = both (front_list front_sequence n one.rest) _ coded rest one.then in
      let three = both (front_list (front_number k) n two.rest) _ coded rest two.then in
      let is : record { reference = one.x; item = Split k two.x three.x } ≡ coded = cc in
      subst (λ (x : Coded). IsWithin c x.reference) is (reference_within c w bits one.rest one.x one.first)

  kind_within : (greatest_one : Bool) (identifier : ℕ) (bits rest : List Bool) (coded : Coded) → front_kind c w greatest_one identifier bits ≡ Found coded rest
      → IsWithin c coded.reference
  kind_within greatest_one zero bits rest coded e =
      let one = both (front_number 1 bits) (λ bit rest'. front_zero c w bit rest') coded rest e in
      zero_within one.x one.rest rest coded one.then
  kind_within true (suc k) bits rest coded e = plain_within bits rest coded e
  kind_within false (suc k) bits rest coded e = split_within k bits rest coded e

  item_within : (bits rest : List Bool) (coded : Coded) → front_item c w bits ≡ Found coded rest → IsWithin c coded.reference
  item_within bits rest coded e =
      let one = both (front_number (identifier_width c) bits) _ coded rest e in
      kind_within _ one.x one.rest rest coded one.then

-- ---- an item of which no value is at fault

take-codes : (n : ℕ) (codes : List ℕ) → take n (map Code codes) ≡ map Code (take n codes)
take-codes zero codes = refl
take-codes (suc n) [] = refl
take-codes (suc n) (code ∷ codes) = ap (λ (xs : List Told). Code code ∷ xs) (take-codes n codes)

codes_fit : (c : Coding) (n : ℕ) (codes : List ℕ) → position (is_over c) (take n (map Code codes)) ≡ None → AreFit c n (map Code codes)
codes_fit c n codes none =
    fit-codes c n codes
    (none_over (greatest c) (take n codes) (sym (position-codes c (take n codes)) ∙ ap (position (is_over c)) (sym (take-codes n codes)) ∙ none))

none_later : (place : Option ℕ) → one_later place ≡ None → place ≡ None
none_later None none = refl
none_later (Some place) none = absurd (cc)

entries_fit : (c : Coding) (place n : ℕ) (reference : Option ℕ) (item : Item) → IsWithin c reference
    → position (is_over c) (take n (entries_with c place reference item)) ≡ None → AreFit c n (entries_with c place reference item)
entries_fit c place n None item within none = codes_fit c n (item_codes c place 0 item) none
entries_fit c place zero (Some number) item within none = tt
entries_fit c place (suc n) (Some number) item within none =
    let codes = item_codes c place 1 item in
    let later : position (is_over c) (take n (map Code codes)) ≡ None =
    none_later (position (is_over c) (take n (map Code codes))) (sym (behind_reference c number (take n (map Code codes))) ∙ none) in
    (within, codes_fit c n codes later)

value_none : (before : ℕ) (place : Option ℕ) → value_fault before place ≡ None → place ≡ None
value_none before None none = refl
value_none before (Some place) none = absurd (cc)

not_first : (b : Bool) (first : BlockFault) (later : Option BlockFault) → cond b (Some first) later ≡ None → later ≡ None
not_first true first later none = absurd (cc)
not_first false first later none = none

item_fit : (c : Coding) (count block : ℕ) (coded : Coded) → IsWithin c coded.reference → item_fault c count block coded ≡ None
    → AreFit c (count - block * c.block) (entries_of c (block % c.interval) coded)
item_fit c count block coded within none =
    let place = block % c.interval in
    let n = count - block * c.block in
    let shown = take n (entries_of c place coded) in
    entries_fit c place n coded.reference coded.item within
    (value_none (block * c.block) (position (is_over c) shown)
    (not_first (nat_lt c.interval (place + covered c place coded.item) || is_too_long coded.item) (Block (block + 1)) (value_fault (block * c.block) (position (is_over c) shown)) none))

-- ---- item after item

module _ (c : Coding) (count : ℕ) (some : 2 ≤ c.block) (even : c.block % 2 ≡ 0) (intervals : 1 ≤ c.interval) where
  -- what is told of the values from a block on
  abbrev Fit : ℕ → Decoded → Type 0
  Fit block read = read.fault ≡ None → AreFit c (count - block * c.block) read.entries

  unless_none : (fault : Option BlockFault) (entries : List Told) (next : ℕ → Decoded) (block covers : ℕ) → length entries ≡ c.block * covers
      → (fault ≡ None → AreFit c (count - block * c.block) entries) → Fit (block + covers) (next 0) → Fit block (unless_fault fault entries next)
  unless_none (Some fault) entries next block covers long here more none = absurd (cc)
  unless_none None entries next block covers long here more none =
      let left : count - (block + covers) * c.block ≡ count - block * c.block - length entries = omega (arith, long) in
      fit-append c (count - block * c.block) entries (next 0).entries (here refl) (subst (λ (n : ℕ). AreFit c n (next 0).entries) left (more none))

  after_front : (w : Bool) (bits : List Bool) (block : ℕ) (next : ℕ → List Bool → Decoded) (front : Front Coded) → front_item c w bits ≡ front
      → ((block' : ℕ) (rest : List Bool) → Fit block' (next block' rest)) → Fit block (after_item c count block next front)
  after_front w bits block next Ended e more none = absurd (cc)
  after_front w bits block next (Found coded rest) e more none =
      let place = block % c.interval in
      let less : place < c.interval = mod_below block c.interval intervals in
      let within = item_within c w bits rest coded e in
      unless_none (item_fault c count block coded) (entries_of c place coded) (λ _. next (block + covered c place coded.item) rest) block (covered c place coded.item)
      (entries_long c w place coded some even (item_is c w bits rest coded e) less) (item_fit c count block coded within)
      (more (block + covered c place coded.item) rest) none

  walk : (most block : ℕ) (bits : List Bool) → Fit block (items_from most c count block bits)
  walk zero block bits none = fit-none c (count - block * c.block)
  walk (suc most) block bits none =
      let first = block % c.interval == 0 in
      by_end (nat_le (block_count c count) block) (after_item c count block (λ block' rest. items_from most c count block' rest) (front_item c (first && is_mapped c) (padded c first bits)))
      (after_front (first && is_mapped c) (padded c first bits) block (λ block' rest. items_from most c count block' rest) (front_item c (first && is_mapped c) (padded c first bits)) refl
      (λ block' rest. walk most block' rest))
      none
    where
      by_end : (b : Bool) (later : Decoded) → Fit block later → Fit block (unless_ended b (λ _. later))
      by_end true later more none = fit-none c (count - block * c.block)
      by_end false later more none = more none

  -- the numbers that are told where no item is at fault
  pub told_within : (bits : List Bool) → (decoded c count bits).fault ≡ None → All (λ number. number ≤ greatest c) (numbers_told c 0 (decoded c count bits).entries)
  told_within bits none =
      let all = items_from (block_count c count) c count 0 bits in
      let start : count - 0 * c.block ≡ count = omega arith in
      numbers_within c count 0 all.entries (omega arith) (subst (λ (n : ℕ). AreFit c n all.entries) start (walk (block_count c count) 0 bits none))
