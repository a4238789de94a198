-- The bits of a list of items are read as these items.
use Rattle.std.proofs.Common.{◌≡◌, ℕ, zero, suc, ◌+◌, ◌-◌, ◌*◌, ◌%◌, ◌≤◌, Bool, true, false, cond, ◌&&◌, ◌||◌, ◌==◌, nat_lt, List, [], ◌∷◌, ◌++◌, get_or, take, drop, length, Option, Some, None, refl, sym, ap, ap₂, ◌∙◌, subst, arith, append_assoc}
use Rattle.std.specs.List.{All, position, position_or_len}
use Rattle.std.proofs.lemmas.Nat.{mod_below}
use Rattle.std.proofs.lemmas.Bool.{le-ltb}
use Rattle.std.proofs.lemmas.List.Elements.{All-nil, All-cons, All-head, All-tail, All-take, All-drop, All-get_or}
use Rattle.std.proofs.lemmas.List.Sums.{position_or_len_is}
use Rattle.grib_coding.specs.Mapped.{mapped}
use Rattle.grib_coding.proofs.Folds.{mapped-within}
use Rattle.grib_coding.specs.declared.coding.Coding.{Coding}
use Rattle.grib_coding.specs.Coding.{Fits, block_count, is_mapped, is_padded, greatest}
use Rattle.grib_coding.specs.declared.fault.BlockFault.{BlockFault}
use Rattle.grib_coding.specs.declared.fault.BlockFault.TheVariants.{Block}
use Rattle.grib_coding.specs.Items.{Item, IsItem, covered}
use Rattle.grib_coding.specs.Numbers.{Told, Reference, Code, is_reference, told, told_after}
use Rattle.grib_coding.specs.Reading.{Found, Coded, Decoded, coded_of, decoded, read_as, entries_of, entries_with, front_item, is_over, is_too_long, item_fault, items_from, skipped, value_fault, behind as with_behind}
use Rattle.grib_coding.specs.Written.{coded_bits, skip_of}
use Rattle.grib_block_writing.proofs.Back.{front_back}
use Rattle.grib_block_writing.proofs.Read.{ended, step}
use Rattle.grib_block_writing.proofs.Shapes.{reference_as, within_blocks}
use Rattle.grib_block_writing.proofs.Zeros.{fits_block}
use Rattle.grib_fewest.specs.Lists.{AreReadable, Cover, Tells, block_after, list_bits, told_by}
use Rattle.grib_fewest.proofs.At.{At, long, reference_at}
use Rattle.grib_fewest.proofs.Items.{covers_some, told_behind}

-- ---- no code is over the greatest number

abbrev NotOver : Coding → Told → Type 0
NotOver c entry = is_over c entry ≡ false

one_told : (c : Coding) (last number : ℕ) (referred mapped_ones : Bool) → last ≤ greatest c → number ≤ greatest c
    → NotOver c (cond referred (Reference number) (Code (cond mapped_ones (mapped (greatest c) last number) number)))
one_told c last number true mapped_ones l n = refl
one_told c last number false true l n = le-ltb (greatest c) (mapped (greatest c) last number) (mapped-within (greatest c) last number l n)
one_told c last number false false l n = le-ltb (greatest c) number n

pub told_within : (c : Coding) (place last : ℕ) (numbers : List ℕ) → last ≤ greatest c → All (λ n. n ≤ greatest c) numbers
    → All (λ e. is_over c e ≡ false) (told_after c place last numbers)
told_within c place last [] l all = All-nil (λ e. is_over c e ≡ false)
told_within c place last (number ∷ numbers) l all =
    let here : number ≤ greatest c = All-head (λ n. n ≤ greatest c) number numbers all in
    All-cons (λ e. is_over c e ≡ false) (told c place last number) (told_after c (place + 1) number numbers)
    (one_told c last number (is_reference c place) (is_mapped c) l here)
    (told_within c (place + 1) number numbers here (All-tail (λ n. n ≤ greatest c) number numbers all))

none_over : (c : Coding) (entries : List Told) → All (λ e. is_over c e ≡ false) entries → position_or_len (is_over c) entries ≡ length entries
none_over c entries all =
    position_or_len_is (is_over c) entries (length entries) (Code 0) (omega arith) (λ k below. all k (Code 0) below)
    (λ less. absurd (omega (arith, less)))

no_place : (c : Coding) (entries : List Told) → All (λ e. is_over c e ≡ false) entries → position (is_over c) entries ≡ None
no_place c entries all =
    ap (λ (n : ℕ). cond (nat_lt n (length entries)) (Some n) None) (none_over c entries all)
    ∙ ap (λ (t : Bool). cond t (Some (length entries)) None) (le-ltb (length entries) (length entries) (omega arith))

no_fault : (c : Coding) (count q : ℕ) (item : Coded) → q % c.interval + covered c (q % c.interval) item.item ≤ c.interval
    → is_too_long item.item ≡ false → All (λ e. is_over c e ≡ false) (take (count - q * c.block) (entries_of c (q % c.interval) item))
    → item_fault c count q item ≡ None
no_fault c count q item within short all =
    let place = q % c.interval in
    let entries = take (count - q * c.block) (entries_of c place item) in
    let here : nat_lt c.interval (place + covered c place item.item) ≡ false = le-ltb c.interval (place + covered c place item.item) within in
    ap₂ (λ (a : Bool) (o : Option ℕ). cond (a || is_too_long item.item) (Some (Block (q + 1))) (value_fault (q * c.block) o)) here
    (no_place c entries all)
    ∙ ap (λ (b : Bool). cond b (Some (Block (q + 1))) None) short

take_both : (front rest : List Told) (n : ℕ) → take (length front) (take n (front ++ rest)) ≡ take n front
take_both [] rest zero = refl
take_both [] rest (suc n) = refl
take_both (entry ∷ front) rest zero = refl
take_both (entry ∷ front) rest (suc n) = ap (λ (xs : List Told). entry ∷ xs) (take_both front rest n)

-- ---- one item

skip_is : (t : Bool) (number : ℕ) → skip_of (cond t (Some number) None) ≡ skipped t
skip_is true number = refl
skip_is false number = refl

and-comm : (a b : Bool) → (a && b) ≡ (b && a)
and-comm true true = refl
and-comm true false = refl
and-comm false true = refl
and-comm false false = refl

front : (c : Coding) (numbers : List ℕ) (q : ℕ) (reference : Option ℕ) (item : Item) (rest : List Told) (behind : List Bool)
    → At c numbers q reference item rest → All (λ n. n ≤ greatest c) numbers
    → front_item c ((q % c.interval == 0) && is_mapped c) (coded_bits c (coded_of reference item) ++ behind) ≡ Found (coded_of reference item) behind
front c numbers q reference item rest behind at all =
    let number = get_or numbers (q * c.block) 0 in
    let t = (q % c.interval == 0) && is_mapped c in
    let B = fits_block c at.fits in
    let is : reference ≡ cond t (Some number) None =
    reference_at c numbers q reference item rest at
    ∙ sym (reference_as c numbers q t B.0 at.fits.some_blocks at.within (and-comm (q % c.interval == 0) (is_mapped c))) in
    let fits = within_blocks c (length numbers) q B.0 at.within in
    let is_item : IsItem c (skipped t) item = subst (λ (n : ℕ). IsItem c n item) (ap skip_of is ∙ skip_is t number) at.is in
    ap (λ (r : Option ℕ). front_item c t (coded_bits c (coded_of r item) ++ behind)) is
    ∙ (front_back c t number item behind (All-get_or (λ n. n ≤ greatest c) numbers (q * c.block) 0 (fits.0) all) is_item
    ∙ ap (λ (r : Option ℕ). Found (coded_of r item) behind) (sym is))

sound : (c : Coding) (numbers : List ℕ) (q : ℕ) (reference : Option ℕ) (item : Item) (rest : List Told) → At c numbers q reference item rest
    → All (λ n. n ≤ greatest c) numbers → q % c.interval + covered c (q % c.interval) item ≤ c.interval → is_too_long item ≡ false
    → item_fault c (length numbers) q (coded_of reference item) ≡ None
sound c numbers q reference item rest at all within short =
    let entries = entries_with c (q % c.interval) reference item in
    let n = length numbers - q * c.block in
    let P : Told → Type 0 = λ (e : Told). is_over c e ≡ false in
    let told_all : All P (drop (q * c.block) (told_after c 0 0 numbers)) =
    All-drop P (q * c.block) (told_after c 0 0 numbers) (told_within c 0 0 numbers (omega arith) all) in
    let both : All P (take n (entries ++ rest)) = subst (λ (xs : List Told). All P xs) (sym at.told) told_all in
    no_fault c (length numbers) q (coded_of reference item) within short
    (subst (λ (xs : List Told). All P xs) (take_both entries rest n) (All-take P (length entries) (take n (entries ++ rest)) both))

-- ---- all items

decoded_as : List Told → Option BlockFault → Decoded
decoded_as entries fault = record { entries = entries; fault = fault }

reads : (c : Coding) (numbers : List ℕ) (most q : ℕ) (items : List Coded) (rest : List Bool) → Fits c → is_padded c ≡ false
    → All (λ n. n ≤ greatest c) numbers → block_count c (length numbers) ≤ q + most → Cover c (block_count c (length numbers)) q items
    → AreReadable c q items → take (length numbers - q * c.block) (told_by c q items) ≡ drop (q * c.block) (told_after c 0 0 numbers)
    → items_from most c (length numbers) q (list_bits c items ++ rest) ≡ decoded_as (told_by c q items) None
unfolding decoded_as
reads c numbers most q [] rest fits unpadded all enough cover readable told = ended most c (length numbers) q rest cover
reads c numbers zero q (coded ∷ items) rest fits unpadded all enough cover readable told = absurd (omega (arith, enough, cover.0))
reads c numbers (suc most) q (coded ∷ items) rest fits unpadded all enough cover readable told =
    let place = q % c.interval in
    let next = block_after c q coded in
    let later = told_by c next items in
    let behind = list_bits c items ++ rest in
    let at : At c numbers q coded.reference coded.item later = record { fits = fits; within = cover.0; is = cover.1; told = told } in
    let some = covers_some c place coded.item (mod_below q c.interval fits.some_blocks) in
    let told_later = told_behind c numbers q (covered c place coded.item) (entries_with c place coded.reference coded.item) later
    (long c numbers q coded.reference coded.item later at) told in
    let is = front c numbers q coded.reference coded.item later behind at all in
    let fault = sound c numbers q coded.reference coded.item later at all readable.0 readable.1 in
    ap (items_from (suc most) c (length numbers) q) (append_assoc (coded_bits c coded) (list_bits c items) rest)
    ∙ (step most c (length numbers) q (coded_bits c coded ++ behind) behind coded cover.0 unpadded is fault
    ∙ ap (with_behind (entries_of c place coded))
    (reads c numbers most next items rest fits unpadded all (omega (arith, enough, some)) cover.2 readable.2 told_later))

pub all_read : (c : Coding) (numbers : List ℕ) (items : List Coded) (rest : List Bool) → Fits c → is_padded c ≡ false
    → All (λ n. n ≤ greatest c) numbers → Tells c numbers items → AreReadable c 0 items
    → decoded c (length numbers) (list_bits c items ++ rest) ≡ read_as c numbers
unfolding decoded_as
all_read c numbers items rest fits unpadded all tells readable =
    let blocks = block_count c (length numbers) in
    let none : 0 * c.block ≡ 0 = omega arith in
    let whole : length numbers - 0 * c.block ≡ length numbers = omega arith in
    let told : take (length numbers - 0 * c.block) (told_by c 0 items) ≡ drop (0 * c.block) (told_after c 0 0 numbers) =
    ap (λ (n : ℕ). take n (told_by c 0 items)) whole ∙ (tells.told ∙ ap (λ (n : ℕ). drop n (told_after c 0 0 numbers)) (sym none)) in
    ap (λ (d : Decoded). decoded_as (take (length numbers) d.entries) d.fault)
    (reads c numbers blocks 0 items rest fits unpadded all (omega arith) tells.whole readable told)
    ∙ ap (λ (es : List Told). decoded_as es None) tells.told
