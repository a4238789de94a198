-- What an item shows of the values.
use Rattle.std.proofs.Common.{◌≡◌, ℕ, zero, suc, ◌+◌, ◌-◌, ◌*◌, ◌%◌, ◌/◌, ◌<◌, ◌≤◌, inl, inr, min, Bool, true, false, cond, not, ◌&&◌, ◌||◌, List, [], ◌∷◌, ◌++◌, length, take, map, replicate, refl, sym, ap, ap₂, subst, ◌∙◌, arith, nat_lt, ◌==◌, Option, Some, None}
use Rattle.std.specs.List.{All, position, position_or_len}
use Rattle.std.proofs.lemmas.Bool.{cases_lt, lt-ltb, eq-eqb, ne_eqb, eqb-true, false≢true}
use Rattle.std.proofs.Math.Nat.{mul-le-mul_right, mul-le-mul_left}
use Rattle.std.proofs.lemmas.Nat.{mod-mul-add}
use Rattle.std.proofs.lemmas.Bool.Decides.{nat_tests}
use Rattle.std.proofs.lemmas.List.{length-map, length-append, length-replicate, take-map, length-take, take_all, take-replicate}
use Rattle.std.proofs.lemmas.List.Elements.{All-nil, All-cons}
use Rattle.std.proofs.lemmas.List.Folds.{prefix_len-replicate}
use Rattle.grib_packing.specs.declared.column.Point.{Point}
use Rattle.grib_coding.specs.declared.coding.Coding.{Coding}
use Rattle.grib_coding.specs.declared.fault.BlockFault.{BlockFault}
use Rattle.grib_coding.specs.declared.fault.BlockFault.TheVariants.{Block, Value}
use Rattle.grib_coding.specs.Coding.{greatest, is_mapped, Fits}
use Rattle.grib_coding.specs.Items.{Item, Run, covered, item_codes}
use Rattle.grib_coding.specs.Numbers.{Told, Reference, Code, is_reference}
use Rattle.grib_coding.specs.Reading.{is_over, item_fault, is_too_long, value_fault, entries_of, entries_with, skipped, IsWithin, coded_of}
use Rattle.grib_block_reading.specs.ItemRead.{HasReference, IsBlock}
use Rattle.grib_block_reading.specs.Kept.{reference_entries, IsKept, StandsAt, NoReference}
use Rattle.grib_block_reading.specs.Taking.{with_reference, ItemPassed}

-- ---- places of references

-- a place within an interval
pub place_in_interval : (block r j x : ℕ) → 0 < r → block % r * j + x < r * j → (block * j + x) % (j * r) ≡ block % r * j + x
place_in_interval block r j x some less =
    let q = block / r in
    let p = block % r in
    let whole : r * q + p ≡ block = omega arith in
    let spread : block * j + x ≡ q * (j * r) + (p * j + x) = ap (λ b. b * j + x) (sym whole) ∙ omega arith in
    let below : p * j + x < j * r = omega (arith, less) in
    ap (λ n. n % (j * r)) spread ∙ mod-mul-add q (j * r) (p * j + x) below

and_false : (b : Bool) → (b && false) ≡ false
and_false true = refl
and_false false = refl

both : (a b : Bool) → (a && b) ≡ true → (a ≡ true) × (b ≡ true)
both true true is = (refl, refl)
both true false is = (refl, is)
both false b is = (is, cc)

-- the number of a place behind the first one of an interval
behind : (c : Coding) (block x blocks : ℕ) → 0 < c.interval → 0 < block % c.interval * c.block + x → x < c.block * blocks → block % c.interval + blocks ≤ c.interval
    → is_reference c (block * c.block + x) ≡ false
behind c block x blocks some more within inside =
    let p = block % c.interval in
    let most : (p + blocks) * c.block ≤ c.interval * c.block = mul-le-mul_right c.block inside in
    let less : p * c.block + x < c.interval * c.block = omega (arith, most, within) in
    let place = place_in_interval block c.interval c.block x some less in
    let apart : ((block * c.block + x) % (c.block * c.interval) == 0) ≡ false = ne_eqb ((block * c.block + x) % (c.block * c.interval)) 0 (λ e. omega (arith, place, e, more)) in
    ap (λ b. is_mapped c && b) apart ∙ and_false (is_mapped c)

positive : (n : ℕ) → (n ≡ 0 → ⊥) → 0 < n
positive n nonzero = omega (arith, nonzero)

some_behind : (c : Coding) (block skip k : ℕ) (first mapped : Bool) → is_mapped c ≡ mapped → (block % c.interval == 0) ≡ first → skip ≡ skipped (first && mapped) → mapped ≡ true → 0 < c.block
    → 0 < block % c.interval * c.block + (skip + k)
some_behind c block skip k true true m f is on some = omega (arith, is)
some_behind c block skip k false true m f is on some =
    let more : 0 < block % c.interval = positive (block % c.interval) (λ e. false≢true (sym f ∙ eq-eqb (block % c.interval) 0 e)) in
    let product : 1 * c.block ≤ block % c.interval * c.block = mul-le-mul_right c.block more in
    omega (arith, product, some)
some_behind c block skip k first false m f is on some = cc

no_reference_by : (c : Coding) (block skip k blocks : ℕ) (mapped : Bool) → is_mapped c ≡ mapped → 0 < c.interval → 0 < c.block → skip ≡ skipped (with_reference c block) → skip + k < c.block * blocks → block % c.interval + blocks ≤ c.interval
    → is_reference c (block * c.block + (skip + k)) ≡ false
no_reference_by c block skip k blocks false m some some_values is within inside = ap (λ b. b && ((block * c.block + (skip + k)) % (c.block * c.interval) == 0)) m
no_reference_by c block skip k blocks true m some some_values is within inside =
    let is_here : skip ≡ skipped ((block % c.interval == 0) && true) = is ∙ ap (λ b. skipped ((block % c.interval == 0) && b)) m in
    behind c block (skip + k) blocks some (some_behind c block skip k (block % c.interval == 0) true m refl is_here refl some_values) within inside

pub no_reference : (c : Coding) (block skip n blocks : ℕ) → 0 < c.interval → 0 < c.block → skip ≡ skipped (with_reference c block) → skip + n ≤ c.block * blocks → block % c.interval + blocks ≤ c.interval
    → NoReference c (block * c.block + skip) n
no_reference c block skip n blocks some some_values is within inside k less =
    let sum : block * c.block + (skip + k) ≡ block * c.block + skip + k = omega arith in
    ap (is_reference c) (sym sum) ∙ no_reference_by c block skip k blocks (is_mapped c) refl some some_values is (omega (arith, within, less)) inside

stands_by : (c : Coding) (block number : ℕ) (b : Bool) → with_reference c block ≡ b → 0 < c.interval → 0 < c.block → HasReference c b (Some number) → (is_reference c (block * c.block) ≡ true) × (number ≤ greatest c)
stands_by c block number false is some some_values has = absurd has
stands_by c block number true is some some_values has =
    let (first, mapped) = both (block % c.interval == 0) (is_mapped c) is in
    let none : block % c.interval ≡ 0 = eqb-true (block % c.interval) 0 first in
    let product : 1 * c.block ≤ c.interval * c.block = mul-le-mul_right c.block some in
    let zero_product : block % c.interval * c.block ≡ 0 = ap (λ n. n * c.block) none ∙ omega arith in
    let place = place_in_interval block c.interval c.block 0 some (omega (arith, product, zero_product, some_values)) in
    let sum : block * c.block + 0 ≡ block * c.block = omega arith in
    let here : block * c.block % (c.block * c.interval) ≡ 0 = ap (λ n. n % (c.block * c.interval)) (sym sum) ∙ (place ∙ omega (arith, zero_product)) in
    (ap₂ (λ a b. a && b) mapped (eq-eqb (block * c.block % (c.block * c.interval)) 0 here), has)

pub stands : (c : Coding) (block : ℕ) (reference : Option ℕ) → 0 < c.interval → 0 < c.block → HasReference c (with_reference c block) reference → StandsAt c (block * c.block) reference
stands c block None some some_values has = tt
stands c block (Some number) some some_values has = stands_by c block number (with_reference c block) refl some some_values has

length_by : (c : Coding) (b : Bool) (reference : Option ℕ) → HasReference c b reference → length (reference_entries reference) ≡ skipped b
length_by c false None has = refl
length_by c true None has = absurd has
length_by c false (Some number) has = absurd has
length_by c true (Some number) has = refl

-- ---- faults

pub block_fault : (c : Coding) (count block : ℕ) (reference : Option ℕ) (item : Item) (blocks : ℕ) → blocks ≡ covered c (block % c.interval) item
    → c.interval < block % c.interval + blocks → item_fault c count block (coded_of reference item) ≡ Some (Block (block + 1))
block_fault c count block reference item blocks is over =
    let e : nat_lt c.interval (block % c.interval + covered c (block % c.interval) item) ≡ true = lt-ltb c.interval (block % c.interval + covered c (block % c.interval) item) (omega (arith, is)) in
    ap (λ b. cond (b || is_too_long item) (Some (Block (block + 1)))
    (value_fault (block * c.block) (position (is_over c) (take (count - block * c.block) (entries_of c (block % c.interval) (coded_of reference item)))))) e

or_true : (b : Bool) → (b || true) ≡ true
or_true true = refl
or_true false = refl

pub long_fault : (c : Coding) (count block : ℕ) (reference : Option ℕ) (item : Item) → is_too_long item ≡ true
    → item_fault c count block (coded_of reference item) ≡ Some (Block (block + 1))
long_fault c count block reference item long =
    let none = value_fault (block * c.block) (position (is_over c) (take (count - block * c.block) (entries_of c (block % c.interval) (coded_of reference item)))) in
    ap (λ b. cond (nat_lt c.interval (block % c.interval + covered c (block % c.interval) item) || b) (Some (Block (block + 1))) none) long
    ∙ ap (λ b. cond b (Some (Block (block + 1))) none) (or_true (nat_lt c.interval (block % c.interval + covered c (block % c.interval) item)))

not_over : (a b : ℕ) → a ≤ b → nat_lt b a ≡ false
not_over a b less = grind (arith, nat_tests)

-- what the values of an item that is no such one are at fault by
pub value_faults : (c : Coding) (count block : ℕ) (reference : Option ℕ) (item : Item) (blocks : ℕ) (shown : List Told) → blocks ≡ covered c (block % c.interval) item
    → block % c.interval + blocks ≤ c.interval → is_too_long item ≡ false
    → take (count - block * c.block) (entries_with c (block % c.interval) reference item) ≡ shown
    → item_fault c count block (coded_of reference item) ≡ value_fault (block * c.block) (position (is_over c) shown)
value_faults c count block reference item blocks shown is inside short are =
    let values : List Told → Option BlockFault = λ es. value_fault (block * c.block) (position (is_over c) es) in
    let e : nat_lt c.interval (block % c.interval + covered c (block % c.interval) item) ≡ false =
    not_over (block % c.interval + covered c (block % c.interval) item) c.interval (omega (arith, is, inside)) in
    ap₂ (λ a b. cond (a || b) (Some (Block (block + 1))) (values (take (count - block * c.block) (entries_with c (block % c.interval) reference item)))) e short
    ∙ ap values are

-- ---- the first code that is over the greatest number

over_codes : (c : Coding) (codes : List ℕ) → position_or_len (is_over c) (map Code codes) ≡ position_or_len (λ code. nat_lt (greatest c) code) codes
over_codes c [] = refl
over_codes c (code ∷ codes) = ap (λ n. cond (not (nat_lt (greatest c) code)) (1 + n) 0) (over_codes c codes)

pub position-codes : (c : Coding) (codes : List ℕ) → position (is_over c) (map Code codes) ≡ position (λ code. nat_lt (greatest c) code) codes
position-codes c codes =
    ap₂ (λ n m. cond (nat_lt n m) (Some n) None) (over_codes c codes) (length-map codes Code)

one_on : (a b : ℕ) → nat_lt (1 + a) (suc b) ≡ nat_lt a b
one_on a b = grind (arith, nat_tests)

abbrev pub one_later : Option ℕ → Option ℕ
one_later None = None
one_later (Some place) = Some (place + 1)

later_by : (a b : ℕ) (t : Bool) → nat_lt a b ≡ t → cond (nat_lt (1 + a) (suc b)) (Some (1 + a)) None ≡ one_later (cond (nat_lt a b) (Some a) None)
later_by a b true is =
    let e : 1 + a ≡ a + 1 = omega arith in
    ap (λ t. cond t (Some (1 + a)) None) (one_on a b ∙ is) ∙ (ap Some e ∙ sym (ap (λ t. one_later (cond t (Some a) None)) is))
later_by a b false is =
    ap (λ t. cond t (Some (1 + a)) None) (one_on a b ∙ is) ∙ sym (ap (λ t. one_later (cond t (Some a) None)) is)

pub behind_reference : (c : Coding) (number : ℕ) (entries : List Told) → position (is_over c) (Reference number ∷ entries) ≡ one_later (position (is_over c) entries)
behind_reference c number entries =
    later_by (position_or_len (is_over c) entries) (length entries) (nat_lt (position_or_len (is_over c) entries) (length entries)) refl

-- ---- what is told of the values of an item

-- the entries of an item, from its codes
entries_are : (c : Coding) (place : ℕ) (s : Bool) (reference : Option ℕ) (item : Item) (codes : List ℕ) → HasReference c s reference → item_codes c place (skipped s) item ≡ codes
    → entries_with c place reference item ≡ reference_entries reference ++ map Code codes
entries_are c place false None item codes has is = ap (map Code) is
entries_are c place true None item codes has is = absurd has
entries_are c place false (Some number) item codes has is = absurd has
entries_are c place true (Some number) item codes has is = ap (λ cs. Reference number ∷ map Code cs) is

take_same : (codes : List ℕ) (left n : ℕ) → n ≡ min (length codes) left → take left codes ≡ take n codes
take_same codes left n is = elim (cases_lt left (length codes)) [
  | inl less ↦ ap (λ m. take m codes) (omega (arith, is, less))
  | inr more ↦ take_all left codes more ∙ sym (take_all n codes (omega (arith, is, more)))
]

take_shown : (c : Coding) (s : Bool) (reference : Option ℕ) (codes : List ℕ) (left n : ℕ) → HasReference c s reference → 1 ≤ left → n ≡ min (length codes + skipped s) left - skipped s
    → take left (reference_entries reference ++ map Code codes) ≡ reference_entries reference ++ map Code (take n codes)
take_shown c false None codes left n has some is = take-map Code left codes ∙ ap (map Code) (take_same codes left n (omega (arith, is)))
take_shown c true None codes left n has some is = absurd has
take_shown c false (Some number) codes left n has some is = absurd has
take_shown c true (Some number) codes left n has some is =
    let one : left ≡ suc (left - 1) = omega arith in
    ap (λ m. take m (Reference number ∷ map Code codes)) one
    ∙ ap (λ es. Reference number ∷ es) (take-map Code (left - 1) codes ∙ ap (map Code) (take_same codes (left - 1) n (omega (arith, is))))

all_zeros : (n : ℕ) → map Code (replicate n 0) ≡ replicate n (Code 0)
all_zeros zero = refl
all_zeros (suc n) = ap (λ es. Code 0 ∷ es) (all_zeros n)

no_zero_over : (c : Coding) (n : ℕ) → position (is_over c) (map Code (replicate n 0)) ≡ None
no_zero_over c n =
    let first : position_or_len (λ code. nat_lt (greatest c) code) (replicate n 0) ≡ n = prefix_len-replicate (λ code. not (nat_lt (greatest c) code)) n 0 (ap not (not_over 0 (greatest c) (omega arith))) in
    let long : length (replicate n 0) ≡ n = length-replicate {A = ℕ} n 0 in
    position-codes c (replicate n 0)
    ∙ (ap₂ (λ a b. cond (nat_lt a b) (Some a) None) first long
    ∙ ap (λ t. cond t (Some n) None) (not_over n n (omega arith)))

behind_references : (c : Coding) (s : Bool) (reference : Option ℕ) (entries : List Told) → HasReference c s reference → position (is_over c) entries ≡ None
    → position (is_over c) (reference_entries reference ++ entries) ≡ None
behind_references c s None entries has is = is
behind_references c s (Some number) entries has is = behind_reference c number entries ∙ ap one_later is

-- the parts of what is shown of an item
pub record Shows (c : Coding) (count block : ℕ) (reference : Option ℕ) (item : Item) (blocks : ℕ) (codes : List ℕ) : Type 0 where
  pub shown : take (count - block * c.block) (entries_with c (block % c.interval) reference item) ≡ reference_entries reference ++ map Code codes
  pub long : length (entries_with c (block % c.interval) reference item) ≡ c.block * blocks

pub shows : (c : Coding) (count block : ℕ) (reference : Option ℕ) (item : Item) (blocks n : ℕ) (codes : List ℕ) → HasReference c (with_reference c block) reference
    → block * c.block < count → item_codes c (block % c.interval) (skipped (with_reference c block)) item ≡ codes → length codes + skipped (with_reference c block) ≡ c.block * blocks
    → n ≡ min (c.block * blocks) (count - block * c.block) - skipped (with_reference c block)
    → Shows c count block reference item blocks (take n codes)
shows c count block reference item blocks n codes has some is long number =
    let s = with_reference c block in
    let left = count - block * c.block in
    let entries = entries_are c (block % c.interval) s reference item codes has is in
    let count_is : n ≡ min (length codes + skipped s) left - skipped s = number ∙ ap (λ m. min m left - skipped s) (sym long) in
    record {
      shown = ap (take left) entries ∙ take_shown c s reference codes left n has (omega arith) count_is;
      long = ap length entries
          ∙ (length-append (reference_entries reference) (map Code codes)
          ∙ omega (arith, length-map codes Code, length_by c s reference has, long));
    }

within_reference : (c : Coding) (s : Bool) (reference : Option ℕ) → HasReference c s reference → IsWithin c reference
within_reference c false None has = tt
within_reference c true None has = absurd has
within_reference c false (Some number) has = absurd has
within_reference c true (Some number) has = has

pub is_within : (c : Coding) (block : ℕ) (reference : Option ℕ) → HasReference c (with_reference c block) reference → IsWithin c reference
is_within c block reference has = within_reference c (with_reference c block) reference has

-- what an item passes where no code of its values is over the greatest number
passed : {S : Type 0} (kept : S → List Point → S → Type 0) (c : Coding) (count block : ℕ) (reference : Option ℕ) (item : Item) (blocks : ℕ) (codes : List ℕ)
    (last : ℕ) (before : S) (last_one : ℕ) (after : S)
    → 0 < c.interval → 0 < c.block → HasReference c (with_reference c block) reference → Shows c count block reference item blocks codes
    → blocks ≡ covered c (block % c.interval) item → block % c.interval + blocks ≤ c.interval → is_too_long item ≡ false
    → length codes + skipped (with_reference c block) ≤ c.block * blocks
    → position (is_over c) (map Code codes) ≡ None
    → ((place : ℕ) → StandsAt c place reference → NoReference c (place + length (reference_entries reference)) (length codes)
    → IsKept kept c place last (reference_entries reference ++ map Code codes) before last_one after)
    → ItemPassed kept c count block (coded_of reference item) last before blocks last_one after
passed {S} kept c count block reference item blocks codes last before last_one after some some_values has shown is inside short few none goes =
    let s = with_reference c block in
    let entries = reference_entries reference ++ map Code codes in
    let refs : length (reference_entries reference) ≡ skipped s = length_by c s reference has in
    let free : NoReference c (block * c.block + length (reference_entries reference)) (length codes) =
    no_reference c block (length (reference_entries reference)) (length codes) blocks some some_values refs (omega (arith, refs, few)) inside in
    record {
      no_fault = value_faults c count block reference item blocks entries is inside short shown.shown
          ∙ ap (value_fault (block * c.block)) (behind_references c s reference (map Code codes) has none);
      blocks_are = is;
      inside = inside;
      long = shown.long;
      kept_are = subst (λ (es : List Told). IsKept kept c (block * c.block) last es before last_one after) (sym shown.shown)
          (goes (block * c.block) (stands c block reference some some_values has) free);
    }

some_covered : (c : Coding) (place number : ℕ) → place < c.interval → 1 ≤ covered c place (Run number)
some_covered c place number less = grind (arith, nat_tests)

pub some_blocks : (c : Coding) (place number : ℕ) (item : Item) → place < c.interval → item ≡ Run number → 1 ≤ covered c place item
some_blocks c place number item less is = subst (λ (i : Item). 1 ≤ covered c place i) (sym is) (some_covered c place number less)

skip_at_most : (b : Bool) → skipped b ≤ 1
skip_at_most true = omega arith
skip_at_most false = omega arith

pub zeros_passed : {S : Type 0} (kept : S → List Point → S → Type 0) (c : Coding) (count block : ℕ) (reference : Option ℕ) (item : Item) (number blocks values : ℕ)
    (last : ℕ) (before : S) (last_one : ℕ) (after : S)
    → 0 < c.interval → 0 < c.block → block * c.block < count → HasReference c (with_reference c block) reference → item ≡ Run number
    → blocks ≡ covered c (block % c.interval) item → block % c.interval + blocks ≤ c.interval
    → values ≡ min (c.block * blocks) (count - block * c.block) - skipped (with_reference c block)
    → ((place : ℕ) → StandsAt c place reference → NoReference c (place + length (reference_entries reference)) values
    → IsKept kept c place last (reference_entries reference ++ replicate values (Code 0)) before last_one after)
    → ItemPassed kept c count block (coded_of reference item) last before blocks last_one after
zeros_passed {S} kept c count block reference item number blocks values last before last_one after some some_values more has run is inside values_are goes =
    let s = with_reference c block in
    let place = block % c.interval in
    let whole = c.block * blocks - skipped s in
    let one : 1 ≤ blocks = omega (arith, is, some_blocks c place number item (omega arith) run) in
    let product : c.block * 1 ≤ c.block * blocks = mul-le-mul_left c.block one in
    let fits : skipped s ≤ c.block * blocks = omega (arith, skip_at_most s, product, some_values) in
    let same : c.block * covered c place (Run number) - skipped s ≡ whole = ap (λ n. c.block * n - skipped s) (ap (covered c place) (sym run) ∙ sym is) in
    let codes : item_codes c place (skipped s) item ≡ replicate whole 0 =
    ap (item_codes c place (skipped s)) run ∙ ap (λ n. replicate n 0) same in
    let long : length (replicate whole 0) + skipped s ≡ c.block * blocks = omega (arith, length-replicate {A = ℕ} whole 0, fits) in
    let cut : take values (replicate whole 0) ≡ replicate values 0 = take-replicate values whole 0 (omega (arith, values_are)) in
    let shown : Shows c count block reference item blocks (replicate values 0) =
    subst (λ (codes : List ℕ). Shows c count block reference item blocks codes) cut
    (shows c count block reference item blocks values (replicate whole 0) has more codes long values_are) in
    passed kept c count block reference item blocks (replicate values 0) last before last_one after some some_values has shown is inside
    (ap is_too_long run) (omega (arith, length-replicate {A = ℕ} values 0, values_are, fits)) (no_zero_over c values)
    (λ at st free. subst (λ (es : List Told). IsKept kept c at last (reference_entries reference ++ es) before last_one after) (sym (all_zeros values))
    (goes at st (subst (λ (n : ℕ). NoReference c (at + length (reference_entries reference)) n) (length-replicate {A = ℕ} values 0) free)))

-- the codes of a block, as far as they are of values
pub block_shows : (c : Coding) (count block : ℕ) (reference : Option ℕ) (item : Item) (blocks values : ℕ) (codes : List ℕ)
    → HasReference c (with_reference c block) reference → block * c.block < count → IsBlock c (skipped (with_reference c block)) item codes
    → length codes + skipped (with_reference c block) ≡ c.block → blocks ≡ 1
    → values ≡ min (c.block * blocks) (count - block * c.block) - skipped (with_reference c block)
    → Shows c count block reference item blocks (take values codes)
block_shows c count block reference item blocks values codes has more is long one values_are =
    let product : c.block * blocks ≡ c.block = ap (λ n. c.block * n) one ∙ omega arith in
    shows c count block reference item blocks values codes has more (is.codes_are (block % c.interval)) (omega (arith, long, product)) values_are

pub codes_passed : {S : Type 0} (kept : S → List Point → S → Type 0) (c : Coding) (count block : ℕ) (reference : Option ℕ) (item : Item) (blocks values : ℕ) (codes : List ℕ)
    (last : ℕ) (before : S) (last_one : ℕ) (after : S)
    → 0 < c.interval → 0 < c.block → block * c.block < count → HasReference c (with_reference c block) reference → IsBlock c (skipped (with_reference c block)) item codes
    → length codes + skipped (with_reference c block) ≡ c.block → blocks ≡ 1 → block % c.interval + blocks ≤ c.interval
    → values ≡ min (c.block * blocks) (count - block * c.block) - skipped (with_reference c block)
    → position (λ code. nat_lt (greatest c) code) (take values codes) ≡ None
    → ((place : ℕ) → StandsAt c place reference → NoReference c (place + length (reference_entries reference)) (length (take values codes))
    → IsKept kept c place last (reference_entries reference ++ map Code (take values codes)) before last_one after)
    → ItemPassed kept c count block (coded_of reference item) last before blocks last_one after
codes_passed kept c count block reference item blocks values codes last before last_one after some some_values more has is long one inside values_are none goes =
    let s = with_reference c block in
    let product : c.block * blocks ≡ c.block = ap (λ n. c.block * n) one ∙ omega arith in
    let shown = block_shows c count block reference item blocks values codes has more is long one values_are in
    let cut : length (take values codes) ≤ length codes = omega (arith, length-take values codes) in
    passed kept c count block reference item blocks (take values codes) last before last_one after some some_values has shown (one ∙ sym (is.one (block % c.interval))) inside
    is.short (omega (arith, cut, long, product)) (position-codes c (take values codes) ∙ none) goes

over_behind : (c : Coding) (s : Bool) (reference : Option ℕ) (entries : List Told) (place : ℕ) → position (is_over c) entries ≡ Some place
    → position (is_over c) (reference_entries reference ++ entries) ≡ Some (length (reference_entries reference) + place)
over_behind c s None entries place is = let e : place ≡ 0 + place = omega arith in is ∙ ap Some e
over_behind c s (Some number) entries place is = let e : place + 1 ≡ 1 + place = omega arith in behind_reference c number entries ∙ (ap one_later is ∙ ap Some e)

pub codes_fault : (c : Coding) (count block : ℕ) (reference : Option ℕ) (item : Item) (blocks values place : ℕ) (codes : List ℕ)
    → block * c.block < count → HasReference c (with_reference c block) reference → IsBlock c (skipped (with_reference c block)) item codes
    → length codes + skipped (with_reference c block) ≡ c.block → blocks ≡ 1 → block % c.interval + blocks ≤ c.interval
    → values ≡ min (c.block * blocks) (count - block * c.block) - skipped (with_reference c block)
    → position (λ code. nat_lt (greatest c) code) (take values codes) ≡ Some place
    → item_fault c count block (coded_of reference item) ≡ Some (Value (block * c.block + length (reference_entries reference) + place + 1))
codes_fault c count block reference item blocks values place codes more has is long one inside values_are found =
    let shown = block_shows c count block reference item blocks values codes has more is long one values_are in
    let sum : block * c.block + (length (reference_entries reference) + place) + 1 ≡ block * c.block + length (reference_entries reference) + place + 1 = omega arith in
    value_faults c count block reference item blocks (reference_entries reference ++ map Code (take values codes)) (one ∙ sym (is.one (block % c.interval))) inside is.short shown.shown
    ∙ (ap (value_fault (block * c.block)) (over_behind c (with_reference c block) reference (map Code (take values codes)) place (position-codes c (take values codes) ∙ found))
    ∙ ap (λ n. Some (Value n)) sum)

-- a test of a list's first place, by whether the first passes
first_over : (most code : ℕ) (codes : List ℕ) → nat_lt most code ≡ true → position (λ x. nat_lt most x) (code ∷ codes) ≡ Some 0
first_over most code codes is =
    ap (λ t. cond (nat_lt (cond (not t) (1 + position_or_len (λ x. nat_lt most x) codes) 0) (suc (length codes))) (Some (cond (not t) (1 + position_or_len (λ x. nat_lt most x) codes) 0)) None) is
    ∙ ap (λ t. cond t (Some 0) None) (lt-ltb 0 (suc (length codes)) (omega arith))

later_over : (most code : ℕ) (codes : List ℕ) → nat_lt most code ≡ false → position (λ x. nat_lt most x) (code ∷ codes) ≡ one_later (position (λ x. nat_lt most x) codes)
later_over most code codes is =
    let n = position_or_len (λ x. nat_lt most x) codes in
    ap (λ t. cond (nat_lt (cond (not t) (1 + n) 0) (suc (length codes))) (Some (cond (not t) (1 + n) 0)) None) is
    ∙ later_by n (length codes) (nat_lt n (length codes)) refl

some_none : (n : ℕ) → Some n ≡ None → ⊥
some_none n is = cc

no_one_later : (r : Option ℕ) → one_later r ≡ None → r ≡ None
no_one_later None is = refl
no_one_later (Some n) is = cc

not_less : (most code : ℕ) → nat_lt most code ≡ false → code ≤ most
not_less most code is = grind (arith, nat_tests)

none_by : (most code : ℕ) (codes : List ℕ) (t : Bool) → nat_lt most code ≡ t → position (λ x. nat_lt most x) (code ∷ codes) ≡ None
    → (position (λ x. nat_lt most x) codes ≡ None → All (λ x. x ≤ most) codes) → All (λ x. x ≤ most) (code ∷ codes)
none_by most code codes true is none rest = let e : Some 0 ≡ None = sym (first_over most code codes is) ∙ none in absurd (some_none 0 e)
none_by most code codes false is none rest =
    All-cons (λ x. x ≤ most) code codes (not_less most code is) (rest (no_one_later (position (λ x. nat_lt most x) codes) (sym (later_over most code codes is) ∙ none)))

-- where no code is over it, each is at most the greatest number
pub none_over : (most : ℕ) (codes : List ℕ) → position (λ code. nat_lt most code) codes ≡ None → All (λ code. code ≤ most) codes
none_over most [] none = All-nil (λ code. code ≤ most)
none_over most (code ∷ codes) none = none_by most code codes (nat_lt most code) refl none (λ rest. none_over most codes rest)

pub values_are : (c : Coding) (block : ℕ) (reference : Option ℕ) (n whole : ℕ) → HasReference c (with_reference c block) reference
    → n ≡ whole - length (reference_entries reference) → n ≡ whole - skipped (with_reference c block)
values_are c block reference n whole has is = is ∙ ap (λ m. whole - m) (length_by c (with_reference c block) reference has)

pub some_block : (c : Coding) → Fits c → 0 < c.block
some_block c fits = elim fits.block [
  | inl e ↦ omega (arith, e)
  | inr more ↦ elim more [ inl e ↦ omega (arith, e) | inr most ↦ elim most [ inl e ↦ omega (arith, e) | inr e ↦ omega (arith, e) ] ]
]

pub inside_of : (r block blocks one other left : ℕ) → 0 < r → one ≡ r → other ≡ r → left ≡ other - block % one → blocks ≤ left → block % r + blocks ≤ r
inside_of r block blocks one other left some is is_other left_is within =
    let same : block % one ≡ block % r = ap (λ n. block % n) is in
    omega (arith, same, is_other, left_is, within)
