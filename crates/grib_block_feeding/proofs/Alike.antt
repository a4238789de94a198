-- Items that are kept with no number greater than a word can hold.
use Rattle.std.proofs.Common.{◌≡◌, inl, inr, ℕ, zero, suc, ◌+◌, ◌-◌, ◌*◌, ◌%◌, ◌^◌, ◌<◌, ◌≤◌, Bool, true, false, cond, not, ◌||◌, nat_lt, List, [], ◌∷◌, ◌++◌, length, map, take, Option, Some, None, refl, sym, ap, ap₂, ◌∙◌, arith, pow_mono}
use Rattle.std.specs.List.{list_any, position, position_or_len}
use Rattle.std.proofs.Math.Seq.{take-append-add}
use Rattle.std.proofs.lemmas.Bool.{cases_lt, lt-ltb}
use Rattle.std.proofs.lemmas.Bool.Decides.{nat_tests}
use Rattle.std.proofs.lemmas.List.{append-nil, take-append-le, take_all}
use Rattle.grib_coding.specs.declared.coding.Coding.{Coding}
use Rattle.grib_coding.specs.declared.fault.BlockFault.{BlockFault}
use Rattle.grib_coding.specs.declared.fault.BlockFault.TheVariants.{Block}
use Rattle.grib_coding.specs.Coding.{greatest, Fits}
use Rattle.grib_coding.specs.Items.{Item, Run, Second, Split, Plain, covered, joined}
use Rattle.grib_coding.specs.Numbers.{Told, Code}
use Rattle.grib_coding.specs.Reading.{Front, Ended, Found, Coded, coded_of, Decoded, is_over, value_fault, entries_with, item_fault, unless_fault, after_item, behind}
use Rattle.grib_block_reading.proofs.Shown.{block_fault, long_fault}
use Rattle.grib_block_reading.proofs.Whole.{fault_by}
use Rattle.grib_block_feeding.specs.Pending.{saturated}
use Rattle.grib_block_feeding.specs.Half.{capped, capped_item}
use Rattle.grib_block_feeding.specs.Feeding.{cut}

-- ---- the first values of some

pub take_two : {A : Type 0} (n : ℕ) (xs ys : List A) → take n (xs ++ ys) ≡ take n xs ++ take (n - length xs) ys
take_two n xs ys = elim (cases_lt n (length xs)) [
  | inl less ↦
      let none : n - length xs ≡ 0 = omega (arith, less) in
      take-append-le n xs ys (omega (arith, less)) ∙ (sym (append-nil (take n xs)) ∙ ap (λ m. take n xs ++ take m ys) (sym none))
  | inr more ↦
      let sum : n ≡ length xs + (n - length xs) = omega (arith, more) in
      ap (λ m. take m (xs ++ ys)) sum ∙ (take-append-add xs ys (n - length xs) ∙ ap (λ zs. zs ++ take (n - length xs) ys) (sym (take_all n xs more)))
]

behind_same : (n : ℕ) (one two : List Told) (d : Decoded) → take n one ≡ take n two → length one ≡ length two → cut n (behind one d) ≡ cut n (behind two d)
behind_same n one two d same long =
    ap (λ es. record { entries = es; fault = d.fault })
    (take_two n one d.entries ∙ (ap₂ (λ es m. es ++ take (n - m) d.entries) same long ∙ sym (take_two n two d.entries)))

-- what follows entries matters as far as there are values
pub cut_behind : (count : ℕ) (entries : List Told) (one two : Decoded) (n : ℕ) → n ≡ count - length entries → cut n one ≡ cut n two → cut count (behind entries one) ≡ cut count (behind entries two)
cut_behind count entries one two n is same =
    let by : (d : Decoded) → cut count (behind entries d) ≡ (let e = cut n d in record { entries = take count entries ++ e.entries; fault = e.fault }) =
    λ d. ap (λ es. record { entries = es; fault = d.fault }) (take_two count entries d.entries ∙ ap (λ m. take count entries ++ take m d.entries) (sym is)) in
    by one ∙ (ap (λ (e : Decoded). record { entries = take count entries ++ e.entries; fault = e.fault }) same ∙ sym (by two))

-- ---- entries that are the same, or both over the greatest number

pub record AlikeOne (c : Coding) (x y : Told) : Type 0 where
  pub over : is_over c x ≡ is_over c y
  pub same : is_over c x ≡ false → x ≡ y

abbrev pub Alike : Coding → List Told → List Told → Type 0
Alike c [] [] = Unit {0}
Alike c [] (y ∷ ys) = ⊥
Alike c (x ∷ xs) [] = ⊥
Alike c (x ∷ xs) (y ∷ ys) = AlikeOne c x y × Alike c xs ys

alike_take : (c : Coding) (n : ℕ) (xs ys : List Told) → Alike c xs ys → Alike c (take n xs) (take n ys)
alike_take c zero [] [] is = tt
alike_take c zero [] (y ∷ ys) is = absurd is
alike_take c zero (x ∷ xs) [] is = absurd is
alike_take c zero (x ∷ xs) (y ∷ ys) is = tt
alike_take c (suc n) [] [] is = tt
alike_take c (suc n) [] (y ∷ ys) is = absurd is
alike_take c (suc n) (x ∷ xs) [] is = absurd is
alike_take c (suc n) (x ∷ xs) (y ∷ ys) is = (is.0, alike_take c n xs ys is.1)

alike_length : (c : Coding) (xs ys : List Told) → Alike c xs ys → length xs ≡ length ys
alike_length c [] [] is = refl
alike_length c [] (y ∷ ys) is = absurd is
alike_length c (x ∷ xs) [] is = absurd is
alike_length c (x ∷ xs) (y ∷ ys) is = ap suc (alike_length c xs ys is.1)

alike_first : (c : Coding) (xs ys : List Told) → Alike c xs ys → position_or_len (is_over c) xs ≡ position_or_len (is_over c) ys
alike_first c [] [] is = refl
alike_first c [] (y ∷ ys) is = absurd is
alike_first c (x ∷ xs) [] is = absurd is
alike_first c (x ∷ xs) (y ∷ ys) is = ap₂ (λ b n. cond (not b) (1 + n) 0) is.0.over (alike_first c xs ys is.1)

alike_position : (c : Coding) (xs ys : List Told) → Alike c xs ys → position (is_over c) xs ≡ position (is_over c) ys
alike_position c xs ys is = ap₂ (λ n m. cond (nat_lt n m) (Some n) None) (alike_first c xs ys is) (alike_length c xs ys is)

one_less : (a b : ℕ) → nat_lt (1 + a) (suc b) ≡ nat_lt a b
one_less a b = grind (arith, nat_tests)

tail_by : (a b : ℕ) (t : Bool) → nat_lt a b ≡ t → cond t (Some (1 + a)) None ≡ None → cond (nat_lt a b) (Some a) None ≡ None
tail_by a b true is none = absurd (cc)
tail_by a b false is none = ap (λ t. cond t (Some a) None) is

head_by : (c : Coding) (x : Told) (xs : List Told) (b : Bool) → is_over c x ≡ b → position (is_over c) (x ∷ xs) ≡ None → (is_over c x ≡ false) × (position (is_over c) xs ≡ None)
head_by c x xs true is none =
    let p = position_or_len (is_over c) xs in
    let first : position (is_over c) (x ∷ xs) ≡ Some 0 =
    ap (λ b. let n = cond (not b) (1 + p) 0 in cond (nat_lt n (suc (length xs))) (Some n) None) is
    ∙ ap (λ t. cond t (Some 0) None) (lt-ltb 0 (suc (length xs)) (omega arith)) in
    absurd (cc)
head_by c x xs false is none =
    let p = position_or_len (is_over c) xs in
    let later : position (is_over c) (x ∷ xs) ≡ cond (nat_lt p (length xs)) (Some (1 + p)) None =
    ap (λ b. let n = cond (not b) (1 + p) 0 in cond (nat_lt n (suc (length xs))) (Some n) None) is
    ∙ ap (λ t. cond t (Some (1 + p)) None) (one_less p (length xs)) in
    (is, tail_by p (length xs) (nat_lt p (length xs)) refl (sym later ∙ none))

alike_same : (c : Coding) (xs ys : List Told) → Alike c xs ys → position (is_over c) xs ≡ None → xs ≡ ys
alike_same c [] [] is none = refl
alike_same c [] (y ∷ ys) is none = absurd is
alike_same c (x ∷ xs) [] is none = absurd is
alike_same c (x ∷ xs) (y ∷ ys) is none =
    let h = head_by c x xs (is_over c x) refl none in
    ap₂ (λ (z : Told) (zs : List Told). z ∷ zs) (is.0.same h.0) (alike_same c xs ys is.1 h.1)

-- ---- codes

over_saturated : (most code : ℕ) → most < 18446744073709551615 → nat_lt most code ≡ nat_lt most (saturated code)
over_saturated most code small = elim (cases_lt 18446744073709551615 code) [
  | inl more ↦
      let same : saturated code ≡ 18446744073709551615 = omega (arith, more) in
      lt-ltb most code (omega (arith, small, more)) ∙ sym (lt-ltb most (saturated code) (omega (arith, small, same)))
  | inr less ↦
      let same : saturated code ≡ code = omega (arith, less) in
      ap (nat_lt most) (sym same)
]

not_over : (most code : ℕ) → nat_lt most code ≡ false → code ≤ most
not_over most code is = grind (arith, nat_tests)

code_alike : (c : Coding) (code : ℕ) → greatest c < 18446744073709551615 → AlikeOne c (Code code) (Code (saturated code))
code_alike c code small = record {
  over = over_saturated (greatest c) code small;
  same = λ is. let within : code ≤ greatest c = not_over (greatest c) code is in
      let same : code ≡ saturated code = omega (arith, within, small) in
      ap Code same;
}

codes_alike : (c : Coding) (codes : List ℕ) → greatest c < 18446744073709551615 → Alike c (map Code codes) (map Code (map saturated codes))
codes_alike c [] small = tt
codes_alike c (code ∷ codes) small = (code_alike c code small, codes_alike c codes small)

split_alike : (c : Coding) (place k : ℕ) (reference : Option ℕ) (high low : List ℕ) → greatest c < 18446744073709551615
    → Alike c (entries_with c place reference (Split k high low)) (entries_with c place reference (Plain (map saturated (joined k high low))))
split_alike c place k None high low small = codes_alike c (joined k high low) small
split_alike c place k (Some number) high low small = (record { over = refl; same = λ is. refl }, codes_alike c (joined k high low) small)

-- ---- items

unless_by : (n : ℕ) (one two : List Told) (next : ℕ → Decoded) (b : ℕ) (fault : BlockFault) (t : Bool) (p : Option ℕ) → (p ≡ None → take n one ≡ take n two) → length one ≡ length two
    → cut n (unless_fault (cond t (Some fault) (value_fault b p)) one next) ≡ cut n (unless_fault (cond t (Some fault) (value_fault b p)) two next)
unless_by n one two next b fault true p same long = refl
unless_by n one two next b fault false None same long = behind_same n one two (next 0) (same refl) long
unless_by n one two next b fault false (Some place) same long = refl

unless_alike : (c : Coding) (n : ℕ) (one two : List Told) (next : ℕ → Decoded) (b : ℕ) (fault : BlockFault) (t : Bool) → Alike c one two
    → cut n (unless_fault (cond t (Some fault) (value_fault b (position (is_over c) (take n one)))) one next)
    ≡ cut n (unless_fault (cond t (Some fault) (value_fault b (position (is_over c) (take n two)))) two next)
unless_alike c n one two next b fault t is =
    let first = alike_take c n one two is in
    unless_by n one two next b fault t (position (is_over c) (take n one)) (λ none. alike_same c (take n one) (take n two) first none) (alike_length c one two is)
    ∙ ap (λ p. cut n (unless_fault (cond t (Some fault) (value_fault b p)) two next)) (alike_position c (take n one) (take n two) first)

over_run : (c : Coding) (place number : ℕ) → c.interval ≤ 4096 → 18446744073709551615 ≤ number → c.interval < place + covered c place (Run number)
over_run c place number few more = grind (arith, nat_tests)

run_fault : (c : Coding) (count block number : ℕ) (reference : Option ℕ) → c.interval ≤ 4096 → 18446744073709551615 ≤ number
    → item_fault c count block (coded_of reference (Run number)) ≡ Some (Block (block + 1))
run_fault c count block number reference few more =
    block_fault c count block reference (Run number) (covered c (block % c.interval) (Run number)) refl (over_run c (block % c.interval) number few more)

or_by : (a b : Bool) → (a || b) ≡ false → (a ≡ false) × (b ≡ false)
or_by true b is = (is, cc)
or_by false b is = (refl, is)

short_pairs : (pairs : List ℕ) → list_any (λ number. nat_lt 90 number) pairs ≡ false → map saturated pairs ≡ pairs
short_pairs [] short = refl
short_pairs (x ∷ xs) short =
    let both = or_by (nat_lt 90 x) (list_any (λ number. nat_lt 90 number) xs) short in
    let small : x ≤ 90 = not_over 90 x both.0 in
    let same : saturated x ≡ x = omega (arith, small) in
    ap₂ (λ (y : ℕ) (ys : List ℕ). y ∷ ys) same (short_pairs xs both.1)

long_pairs : (pairs : List ℕ) → list_any (λ number. nat_lt 90 number) pairs ≡ list_any (λ number. nat_lt 90 number) (map saturated pairs)
long_pairs [] = refl
long_pairs (x ∷ xs) = ap₂ (λ a b. a || b) (over_saturated 90 x (omega arith)) (long_pairs xs)

second_by : (c : Coding) (count block : ℕ) (next : ℕ → List Bool → Decoded) (reference : Option ℕ) (pairs : List ℕ) (rest : List Bool) (t : Bool) → list_any (λ number. nat_lt 90 number) pairs ≡ t
    → cut (count - block * c.block) (after_item c count block next (Found (coded_of reference (Second pairs)) rest))
    ≡ cut (count - block * c.block) (after_item c count block next (Found (coded_of reference (Second (map saturated pairs))) rest))
second_by c count block next reference pairs rest true is =
    let one = fault_by c count block next (Found (coded_of reference (Second pairs)) rest) (Block (block + 1)) (long_fault c count block reference (Second pairs) is) in
    let two = fault_by c count block next (Found (coded_of reference (Second (map saturated pairs))) rest) (Block (block + 1))
    (long_fault c count block reference (Second (map saturated pairs)) (sym (long_pairs pairs) ∙ is)) in
    ap (cut (count - block * c.block)) (one ∙ sym two)
second_by c count block next reference pairs rest false is =
    ap (λ ps. cut (count - block * c.block) (after_item c count block next (Found (coded_of reference (Second ps)) rest))) (sym (short_pairs pairs is))

-- the same is read of an item as it is kept
item_by : (c : Coding) (count block : ℕ) (next : ℕ → List Bool → Decoded) (reference : Option ℕ) (item : Item) (rest : List Bool) → greatest c < 18446744073709551615 → c.interval ≤ 4096
    → cut (count - block * c.block) (after_item c count block next (Found (coded_of reference item) rest))
    ≡ cut (count - block * c.block) (after_item c count block next (Found (coded_of reference (capped_item item)) rest))
item_by c count block next reference (Run number) rest small few = elim (cases_lt 18446744073709551615 number) [
  | inl more ↦
      let one = fault_by c count block next (Found (coded_of reference (Run number)) rest) (Block (block + 1)) (run_fault c count block number reference few (omega (arith, more))) in
      let two = fault_by c count block next (Found (coded_of reference (Run (saturated number))) rest) (Block (block + 1)) (run_fault c count block (saturated number) reference few (omega (arith, more))) in
      ap (cut (count - block * c.block)) (one ∙ sym two)
  | inr less ↦
      let same : number ≡ saturated number = omega (arith, less) in
      ap (λ n. cut (count - block * c.block) (after_item c count block next (Found (coded_of reference (Run n)) rest))) same
]
item_by c count block next reference (Second pairs) rest small few = second_by c count block next reference pairs rest (list_any (λ number. nat_lt 90 number) pairs) refl
item_by c count block next reference (Split k high low) rest small few =
    unless_alike c (count - block * c.block) (entries_with c (block % c.interval) reference (Split k high low)) (entries_with c (block % c.interval) reference (Plain (map saturated (joined k high low))))
    (λ _. next (block + 1) rest) (block * c.block) (Block (block + 1)) (nat_lt c.interval (block % c.interval + 1) || false) (split_alike c (block % c.interval) k reference high low small)
item_by c count block next reference (Plain codes) rest small few = refl

small_greatest : (c : Coding) → Fits c → greatest c < 18446744073709551615
small_greatest c fits =
    let power : 2 ^ c.bits ≤ 2 ^ 32 = pow_mono fits.most_bits in
    omega (arith, power)

pub capped_same : (c : Coding) (count block : ℕ) (next : ℕ → List Bool → Decoded) (front : Front Coded) → Fits c
    → cut (count - block * c.block) (after_item c count block next front) ≡ cut (count - block * c.block) (after_item c count block next (capped front))
capped_same c count block next Ended fits = refl
capped_same c count block next (Found coded rest) fits = item_by c count block next coded.reference coded.item rest (small_greatest c fits) fits.most_blocks
