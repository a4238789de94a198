-- An item of a block tells the codes of the block, and nothing is wrong with it.
use Rattle.std.proofs.Common.{lit<, inl, inr, ◌≡◌, ℕ, zero, suc, ◌+◌, ◌-◌, ◌*◌, ◌/◌, ◌%◌, ◌^◌, ◌<◌, ◌≤◌, Bool, true, false, cond, ◌&&◌, ◌||◌, ◌==◌, nat_le, nat_lt, List, [], ◌∷◌, ◌++◌, map, get_or, take, drop, replicate, length, Option, Some, None, refl, sym, ap, ap₂, ◌∙◌, subst, arith, length-drop, length-append}
use Rattle.std.specs.List.{All, list_any, position, position_or_len}
use Rattle.std.proofs.Math.Nat.{mul-le-mul_left, mul-le-mul_right, mod-lt, pow-le-pow_right}
use Rattle.std.proofs.lemmas.Nat.{pow_pos, div-add-mod', mod_below}
use Rattle.std.proofs.lemmas.Bool.{cases_lt, cases_eq, le-ltb, le-leb, lt-leb}
use Rattle.std.proofs.lemmas.Bool.Decides.{nat_tests}
use Rattle.std.proofs.lemmas.List.{length-map}
use Rattle.std.proofs.lemmas.List.Folds.{list_any_none}
use Rattle.std.proofs.lemmas.List.Sums.{sum_by-cons, position_or_len_is}
use Rattle.std.proofs.lemmas.List.Elements.{All-nil, All-cons, All-head, All-tail, All-take, All-drop}
use Rattle.grib_bits.specs.Bits.{bits_of}
use Rattle.grib_coding.specs.declared.coding.Coding.{Coding}
use Rattle.grib_coding.specs.Coding.{Fits, identifier_width, greatest, is_restricted}
use Rattle.grib_coding.specs.Items.{Item, IsItem, item_codes, covered, joined, codes_of_pairs, pair_of, pair_number, Run as ARun, Second as ASecond, Split as ASplit, Plain as APlain}
use Rattle.grib_coding.specs.declared.fault.BlockFault.{BlockFault}
use Rattle.grib_coding.specs.declared.fault.BlockFault.TheVariants.{Block}
use Rattle.grib_coding.specs.Numbers.{Told, Reference, Code}
use Rattle.grib_coding.specs.Reading.{Front, Found, Coded, is_too_long, is_over, item_fault, value_fault, entries_of, entries_with, front_item, skipped, coded_of}
use Rattle.grib_coding.proofs.Pairs.{pair_of-number}
use Rattle.grib_coding.proofs.Fronts.{item_back, no_reference, some_reference}
use Rattle.grib_coding.specs.declared.choice.Choice.{Choice}
use Rattle.grib_coding.specs.declared.choice.Choice.TheVariants.{Plain, Second, Split}
use Rattle.grib_coding.specs.Choices.{bits_as, high_sum, pair_sum, chosen, IsOption}
use Rattle.grib_block_writing.proofs.Chosen.{chosen-least, wide}
use Rattle.grib_block_writing.proofs.PairSums.{pair_sum-more}
use Rattle.grib_coding.specs.Written.{coded_bits, chosen_item, item_as, skip_of, pair_numbers, highs, lows}
use Rattle.grib_block_writing.proofs.Options.{chosen-option}
use Rattle.grib_block_writing.proofs.Heads.{all_below, below_power}
use Rattle.grib_block_writing.proofs.Shapes.{told_block}

-- ---- the codes of an item

pairs_back : (codes : List ℕ) → length codes % 2 ≡ 0 → codes_of_pairs (pair_numbers codes) ≡ codes
pairs_back [] even = refl
pairs_back (one ∷ []) even = absurd (omega arith)
pairs_back (one ∷ other ∷ codes) even =
    ap (λ p. p.first ∷ p.second ∷ codes_of_pairs (pair_numbers codes)) (pair_of-number one other)
    ∙ ap (λ (cs : List ℕ). one ∷ other ∷ cs) (pairs_back codes (omega (arith, even)))

joined_back : (k : ℕ) (codes : List ℕ) → joined k (highs k codes) (lows k codes) ≡ codes
joined_back k [] = refl
joined_back k (code ∷ codes) = ap₂ (λ (c : ℕ) (cs : List ℕ). c ∷ cs) (div-add-mod' code (2 ^ k)) (joined_back k codes)

pub codes_back : (c : Coding) (place skip : ℕ) (codes : List ℕ) (choice : Choice) → length codes % 2 ≡ 0
    → item_codes c place skip (item_as choice skip codes) ≡ drop skip codes
codes_back c place skip codes Plain even = refl
codes_back c place skip codes Second even = ap (drop skip) (pairs_back codes even)
codes_back c place skip codes (Split k) even = joined_back k (drop skip codes)

pub one_covered : (c : Coding) (place skip : ℕ) (codes : List ℕ) (choice : Choice) → covered c place (item_as choice skip codes) ≡ 1
one_covered c place skip codes Plain = refl
one_covered c place skip codes Second = refl
one_covered c place skip codes (Split k) = refl

-- ---- an item has the numbers that it should have

length-pairs : (codes : List ℕ) → length (pair_numbers codes) ≡ length codes / 2
length-pairs [] = refl
length-pairs (one ∷ []) = refl
length-pairs (one ∷ other ∷ codes) = omega (arith, length-pairs codes)

low_parts : (k : ℕ) (codes : List ℕ) → All (λ l. l < 2 ^ k) (lows k codes)
low_parts k [] = All-nil (λ l. l < 2 ^ k)
low_parts k (code ∷ codes) = All-cons (λ l. l < 2 ^ k) (code % 2 ^ k) (lows k codes) (mod_below code (2 ^ k) (pow_pos k)) (low_parts k codes)

is_item : (c : Coding) (skip : ℕ) (codes : List ℕ) (choice : Choice) → length codes ≡ c.block → skip ≤ c.block
    → All (λ code. code ≤ greatest c) codes → IsOption c choice → IsItem c skip (item_as choice skip codes)
is_item c skip codes Plain long small all option =
    (omega (arith, length-drop skip codes, long, small), all_below c.bits (drop skip codes) (All-drop (λ code. code ≤ greatest c) skip codes all))
is_item c skip codes Second long small all option = length-pairs codes ∙ ap (λ (n : ℕ). n / 2) long
is_item c skip codes (Split k) long small all option = (
  option,
  omega (arith, length-map (drop skip codes) (λ code. code / 2 ^ k), length-drop skip codes, long, small),
  omega (arith, length-map (drop skip codes) (λ code. code % 2 ^ k), length-drop skip codes, long, small),
  low_parts k (drop skip codes),
)

pub chosen_is_item : (c : Coding) (skip : ℕ) (codes : List ℕ) → length codes ≡ c.block → skip ≤ c.block
    → All (λ code. code ≤ greatest c) codes → IsItem c skip (item_as (chosen c skip codes) skip codes)
chosen_is_item c skip codes long small all = is_item c skip codes (chosen c skip codes) long small all (chosen-option c skip codes)

-- ---- no sequence is too long

pair_number-more : (first second : ℕ) → first + second ≤ pair_number first second
pair_number-more zero zero = omega arith
pair_number-more zero (suc c) =
    let one : 1 ≤ suc c = omega arith in
    omega (arith, mul-le-mul_left (suc c) one)
pair_number-more (suc a) c =
    let one : 1 ≤ suc a + c = omega arith in
    omega (arith, mul-le-mul_left (suc a + c) one)

few_bits : (first second : ℕ) → pair_number first second ≤ first + second + 31 → pair_number first second ≤ 90
few_bits first second few = elim (cases_lt (first + second) 10) [
  | inl less ↦ omega (arith, few, less)
  | inr more ↦
      let least : 10 * (first + second + 1) ≤ (first + second) * (first + second + 1) = mul-le-mul_right (first + second + 1) more in
      absurd (omega (arith, few, least, more))
]

small_codes : (first second : ℕ) → first ≤ 3 → second ≤ 3 → pair_number first second ≤ 90
small_codes first second a b =
    let six : first + second ≤ 6 = omega (arith, a, b) in
    let most : (first + second) * (first + second + 1) ≤ 6 * (first + second + 1) = mul-le-mul_right (first + second + 1) six in
    omega (arith, most, a, b)

few_pairs : (codes : List ℕ) → length codes % 2 ≡ 0 → pair_sum codes ≤ high_sum 0 codes + 31 → All (λ m. m ≤ 90) (pair_numbers codes)
few_pairs [] even few = All-nil (λ m. m ≤ 90)
few_pairs (one ∷ []) even few = absurd (omega arith)
few_pairs (one ∷ other ∷ codes) even few =
    let rest_even : length codes % 2 ≡ 0 = omega (arith, even) in
    let first = sum_by-cons (λ c. c / 2 ^ 0) one (other ∷ codes) in
    let second = sum_by-cons (λ c. c / 2 ^ 0) other codes in
    let rest = pair_sum-more codes rest_even in
    let more = pair_number-more one other in
    All-cons (λ m. m ≤ 90) (pair_number one other) (pair_numbers codes)
    (few_bits one other (omega (arith, few, first, second, rest)))
    (few_pairs codes rest_even (omega (arith, few, first, second, more)))

small_pairs : (codes : List ℕ) → All (λ code. code ≤ 3) codes → All (λ m. m ≤ 90) (pair_numbers codes)
small_pairs [] all = All-nil (λ m. m ≤ 90)
small_pairs (one ∷ []) all = All-nil (λ m. m ≤ 90)
small_pairs (one ∷ other ∷ codes) all =
    let rest = All-tail (λ c. c ≤ 3) one (other ∷ codes) all in
    All-cons (λ m. m ≤ 90) (pair_number one other) (pair_numbers codes)
    (small_codes one other (All-head (λ c. c ≤ 3) one (other ∷ codes) all) (All-head (λ c. c ≤ 3) other codes rest))
    (small_pairs codes (All-tail (λ c. c ≤ 3) other codes rest))

two_bits : (c : Coding) → identifier_width c ≡ 1 → c.bits ≤ 2
two_bits c one = grind (arith, nat_tests)

pairs_bound : (c : Coding) (skip : ℕ) (codes : List ℕ) → length codes % 2 ≡ 0 → c.block ≤ 64 → All (λ code. code ≤ greatest c) codes
    → chosen c skip codes ≡ Second → All (λ m. m ≤ 90) (pair_numbers codes)
pairs_bound c skip codes even block all chose = elim (cases_eq (identifier_width c) 1) [
  | inl one ↦
      let power : 2 ^ c.bits ≤ 2 ^ 2 = pow-le-pow_right {n = 2} (lit< tt) (two_bits c one) in
      small_pairs codes (λ k d within. omega (arith, all k d within, power))
  | inr more ↦
      let option : IsOption c (Split 0) = omega (arith, wide c more) in
      let least = chosen-least c skip codes (Split 0) option in
      let as_pairs : bits_as c skip codes (chosen c skip codes) ≡ bits_as c skip codes Second = ap (bits_as c skip codes) chose in
      few_pairs codes even (omega (arith, least, as_pairs, block))
]

not_long : (numbers : List ℕ) → All (λ m. m ≤ 90) numbers → list_any (λ m. nat_lt 90 m) numbers ≡ false
not_long numbers all = list_any_none (λ m. nat_lt 90 m) numbers (λ k d within. le-ltb 90 (get_or numbers k d) (all k d within))

short_as : (c : Coding) (skip : ℕ) (codes : List ℕ) (choice : Choice) → length codes % 2 ≡ 0 → c.block ≤ 64 → All (λ code. code ≤ greatest c) codes
    → chosen c skip codes ≡ choice → is_too_long (item_as choice skip codes) ≡ false
short_as c skip codes Plain even block all chose = refl
short_as c skip codes Second even block all chose = not_long (pair_numbers codes) (pairs_bound c skip codes even block all chose)
short_as c skip codes (Split k) even block all chose = refl

pub chosen_short : (c : Coding) (skip : ℕ) (codes : List ℕ) → length codes % 2 ≡ 0 → c.block ≤ 64 → All (λ code. code ≤ greatest c) codes
    → is_too_long (item_as (chosen c skip codes) skip codes) ≡ false
chosen_short c skip codes even block all = short_as c skip codes (chosen c skip codes) even block all refl

-- ---- no code is over the greatest number

none_over : (c : Coding) (entries : List Told) → All (λ e. is_over c e ≡ false) entries → position_or_len (is_over c) entries ≡ length entries
none_over c entries all =
    position_or_len_is (is_over c) entries (length entries) (Code 0) (omega arith) (λ k below. all k (Code 0) below)
    (λ less. absurd (omega (arith, less)))

no_place : (c : Coding) (entries : List Told) → All (λ e. is_over c e ≡ false) entries → position (is_over c) entries ≡ None
no_place c entries all =
    ap (λ (n : ℕ). cond (nat_lt n (length entries)) (Some n) None) (none_over c entries all)
    ∙ ap (λ (t : Bool). cond t (Some (length entries)) None) (le-ltb (length entries) (length entries) (omega arith))

codes_not_over : (c : Coding) (codes : List ℕ) → All (λ code. code ≤ greatest c) codes → All (λ e. is_over c e ≡ false) (map Code codes)
codes_not_over c [] all = All-nil (λ e. is_over c e ≡ false)
codes_not_over c (code ∷ codes) all =
    All-cons (λ e. is_over c e ≡ false) (Code code) (map Code codes)
    (le-ltb (greatest c) code (All-head (λ n. n ≤ greatest c) code codes all))
    (codes_not_over c codes (All-tail (λ n. n ≤ greatest c) code codes all))

pub block_not_over : (c : Coding) (reference : Option ℕ) (codes : List ℕ) → All (λ code. code ≤ greatest c) codes
    → All (λ e. is_over c e ≡ false) (told_block reference codes)
unfolding told_block
block_not_over c None codes all = codes_not_over c codes all
block_not_over c (Some number) codes all =
    All-cons (λ e. is_over c e ≡ false) (Reference number) (map Code (drop 1 codes)) refl
    (codes_not_over c (drop 1 codes) (All-drop (λ n. n ≤ greatest c) 1 codes all))

pub no_fault : (c : Coding) (count q : ℕ) (item : Coded) → q % c.interval + covered c (q % c.interval) item.item ≤ c.interval
    → is_too_long item.item ≡ false → All (λ e. is_over c e ≡ false) (entries_of c (q % c.interval) item)
    → item_fault c count q item ≡ None
no_fault c count q item within short all =
    let place = q % c.interval in
    let entries = take (count - q * c.block) (entries_of c place item) in
    let here : nat_lt c.interval (place + covered c place item.item) ≡ false = le-ltb c.interval (place + covered c place item.item) within in
    ap₂ (λ (a : Bool) (o : Option ℕ). cond (a || is_too_long item.item) (Some (Block (q + 1))) (value_fault (q * c.block) o)) here
    (no_place c entries (All-take (λ e. is_over c e ≡ false) (count - q * c.block) (entries_of c place item) all))
    ∙ ap (λ (b : Bool). cond b (Some (Block (q + 1))) None) short

-- ---- an item is read back

pub front_back : (c : Coding) (t : Bool) (number : ℕ) (item : Item) (behind : List Bool) → number ≤ greatest c → IsItem c (skipped t) item
    → front_item c t (coded_bits c (coded_of (cond t (Some number) None) item) ++ behind) ≡ Found (coded_of (cond t (Some number) None) item) behind
front_back c true number item behind within is =
    item_back c true (bits_of c.bits number) (Some number) item behind (some_reference c number (below_power c.bits number within)) is
front_back c false number item behind within is = item_back c false [] None item behind (no_reference c) is

-- what a block's item tells
pub block_entries : (c : Coding) (place : ℕ) (reference : Option ℕ) (codes : List ℕ) → length codes % 2 ≡ 0
    → entries_of c place (coded_of reference (chosen_item c reference codes)) ≡ told_block reference codes
unfolding told_block
block_entries c place None codes even = ap (map Code) (codes_back c place 0 codes (chosen c 0 codes) even)
block_entries c place (Some number) codes even =
    ap (λ (cs : List ℕ). Reference number ∷ map Code cs) (codes_back c place 1 codes (chosen c 1 codes) even)
