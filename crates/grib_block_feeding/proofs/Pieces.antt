-- Items whose bits come in pieces.
use Rattle.std.proofs.Common.{◌≡◌, ℕ, suc, ◌+◌, ◌-◌, ◌*◌, ◌%◌, ◌^◌, ◌==◌, ◌<◌, ◌≤◌, Bool, true, false, List, [], ◌∷◌, ◌++◌, length, take, drop, get_or, add-one, Option, Some, Result, Ok, Err, MatchResult, refl, sym, ap, ap₂, subst, ◌∙◌, arith, append_assoc, eqb}
use Rattle.std.proofs.lemmas.List.{append-nil, length-append, take_all}
use Rattle.std.proofs.Math.Seq.{take-add, drop-cons}
use Rattle.grib_bits.specs.Bits.{bits, num, digit}
use Rattle.grib_packing.specs.declared.column.Point.{Point}
use Rattle.grib_coding.specs.declared.coding.Coding.{Coding}
use Rattle.grib_coding.specs.declared.fault.BlockFault.{BlockFault}
use Rattle.grib_coding.specs.declared.fault.BlockFault.TheVariants.{Short}
use Rattle.grib_coding.specs.Coding.{Fits, block_count, identifier_width}
use Rattle.grib_coding.specs.Numbers.{Told, told_after}
use Rattle.grib_coding.specs.Reading.{Front, Ended, Found, Coded, coded_of, Decoded, decoded, fault_of, and_then, front_item, padded, items_from, after_item, ended_by, behind, item_fault, entries_of, skipped}
use Rattle.grib_coding.specs.Items.{Item, Run, Second, Split, Plain, covered}
use Rattle.grib_block_reading.specs.declared.item.Kind.{Kind}
use Rattle.grib_block_reading.specs.ItemRead.{IsOfKind}
use Rattle.grib_block_reading.proofs.Shown.{some_block, some_blocks}
use Rattle.std.proofs.Math.Nat.{mul-le-mul_left}
use Rattle.grib_block_reading.specs.Kept.{IsKept, AreKept}
use Rattle.grib_block_reading.specs.Taking.{with_reference, front_at, ItemPassed}
use Rattle.grib_block_reading.proofs.Keeping.{kept_none, kept_more}
use Rattle.grib_block_reading.proofs.Whole.{take_none, one_more, fault_by, found_by, behind_behind, take_behind, within_count}
use Rattle.grib_block_feeding.specs.declared.half.Half.{Half}
use Rattle.grib_block_feeding.specs.declared.reading.Reading.{Reading}
use Rattle.grib_block_feeding.specs.declared.reading.Stage.{Stage}
use Rattle.grib_block_feeding.specs.declared.reading.Stage.TheVariants.{Items, Over}
use Rattle.grib_block_feeding.specs.Half.{capped, count_of, front_half, after_part, Stands}
use Rattle.grib_block_feeding.specs.Feeding.{cut, left_by, left_in, left_at, Going, IsAtStage, IsReading, BlocksAgree}
use Rattle.grib_block_feeding.specs.declared.pending.Pending.{Pending}
use Rattle.grib_block_feeding.specs.declared.pending.Pending.TheVariants.{Bits, Sequence}
use Rattle.grib_block_feeding.specs.declared.half.Part.{Part}
use Rattle.grib_block_feeding.specs.declared.half.Part.TheVariants.{Padding, Identifier, Extension, Reference, Count, Pairs, High, Low, Codes}
use Rattle.grib_block_feeding.specs.declared.feeding.FedBlocks.{FedBlocks}
use Rattle.grib_block_feeding.specs.Pending.{front_pending, IsNumber, IsSequence}
use Rattle.grib_block_feeding.proofs.Bitwise.{number_ended}
use Rattle.grib_bits.proofs.OctetBits.{length-bits, bits-append}
use Rattle.grib_block_feeding.proofs.Alike.{capped_same, cut_behind}

-- ---- the beginning of an item

pub begun : (c : Coding) (count block most padding : ℕ) (s : Bool) (half : Half) (rest : List Bool) → Fits c → block_count c count ≤ block + most → block < block_count c count
    → s ≡ with_reference c block → padded c (block % c.interval == 0) rest ≡ drop padding rest → front_half c half rest ≡ capped (front_item c s (drop padding rest))
    → cut (count - block * c.block) (items_from most c count block rest) ≡ cut (count - block * c.block) (left_by c count block (front_half c half) (most - 1) rest)
begun c count block most padding s half rest fits enough less is skips reads =
    let n = count - block * c.block in
    let m = most - 1 in
    let next : ℕ → List Bool → Decoded = λ block' rest'. items_from m c count block' rest' in
    let one : most ≡ suc m = omega (arith, enough, less) in
    let front_is : capped (front_at c block rest) ≡ front_half c half rest =
    ap₂ (λ r xs. capped (front_item c r xs)) (sym is) skips ∙ sym reads in
    ap (λ k. cut n (items_from k c count block rest)) one
    ∙ (ap (cut n) (one_more c count block m rest less)
    ∙ (capped_same c count block next (front_at c block rest) fits
    ∙ ap (λ f. cut n (after_item c count block next f)) front_is))

-- ---- one bit more

pub going_bit : {S : Type 0} (kept : S → List Point → S → Type 0) (c : Coding) (count block : ℕ) (start : List Bool) (first : S) (bit : Bool) (before after : ℕ)
    (left next : ℕ → List Bool → Decoded) (last : ℕ) (now : S) → after ≤ 7 → before ≡ (after + 1) % 8
    → ((most : ℕ) (rest : List Bool) → left most (bit ∷ rest) ≡ next most rest)
    → Going kept c count block start first before left last now → Going kept c count block (start ++ bit ∷ []) first after next last now
going_bit kept c count block start first bit before after left next last now small is same so = record {
  entries = so.entries;
  most = so.most;
  enough = so.enough;
  whole = λ rest long.
      let one : length (bit ∷ rest) % 8 ≡ before = omega (arith, long, is) in
      ap (λ xs. cut count (items_from (block_count c count) c count 0 xs)) (append_assoc start (bit ∷ []) rest)
      ∙ (so.whole (bit ∷ rest) one ∙ ap (λ d. cut count (behind so.entries d)) (same so.most rest));
  long = so.long;
  kept_are = so.kept_are;
}

-- ---- an item that is whole

pub going_fault : {S : Type 0} (kept : S → List Point → S → Type 0) (c : Coding) (count block : ℕ) (start : List Bool) (first : S) (after : ℕ)
    (front : List Bool → Front Coded) (coded : Coded) (fault : BlockFault) (last : ℕ) (now : S)
    → ((rest : List Bool) → front rest ≡ Found coded rest) → item_fault c count block coded ≡ Some fault
    → Going kept c count block start first after (left_by c count block front) last now
    → Going kept c count block start first after (λ most rest. ended_by (Some fault)) last now
going_fault kept c count block start first after front coded fault last now found is so = record {
  entries = so.entries;
  most = so.most;
  enough = so.enough;
  whole = λ rest long.
      let next : ℕ → List Bool → Decoded = λ block' rest'. items_from so.most c count block' rest' in
      so.whole rest long
      ∙ (ap (λ f. cut count (behind so.entries (after_item c count block next f))) (found rest)
      ∙ ap (λ d. cut count (behind so.entries d)) (fault_by c count block next (Found coded rest) fault is));
  long = so.long;
  kept_are = so.kept_are;
}

pub going_item : {S : Type 0} (kept : S → List Point → S → Type 0)
    (joined : (before between after : S) (points more_points : List Point) → kept before points between → kept between more_points after → kept before (points ++ more_points) after)
    (c : Coding) (count block : ℕ) (start : List Bool) (first : S) (after : ℕ)
    (front : List Bool → Front Coded) (coded : Coded) (last : ℕ) (now : S) (blocks next_last : ℕ) (then_now : S) (next : ℕ → List Bool → Decoded)
    → 1 ≤ blocks → block * c.block < count
    → ((rest : List Bool) → front rest ≡ Found coded rest) → ItemPassed kept c count block coded last now blocks next_last then_now
    → ((most : ℕ) (rest : List Bool) → length rest % 8 ≡ after → block_count c count ≤ block + blocks + most
    → cut (count - (block + blocks) * c.block) (items_from most c count (block + blocks) rest) ≡ cut (count - (block + blocks) * c.block) (next (most - 1) rest))
    → Going kept c count block start first after (left_by c count block front) last now
    → Going kept c count (block + blocks) start first after next next_last then_now
going_item {S} kept joined c count block start first after front coded last now blocks next_last then_now next some within found passed begins so =
    let new = entries_of c (block % c.interval) coded in
    let long : length so.entries ≡ block * c.block = so.long in
    let all : take count so.entries ≡ so.entries = take_all count so.entries (omega (arith, long, within)) in
    let taken : take count (so.entries ++ new) ≡ take count so.entries ++ take (count - block * c.block) new =
    take_behind count so.entries new (omega (arith, long, within)) ∙ ap₂ (λ a n. a ++ take (count - n) new) (sym all) long in
    let place : block * c.block ≡ 0 + length (take count so.entries) = sym (ap length all ∙ long) ∙ omega arith in
    let longer : length (so.entries ++ new) ≡ (block + blocks) * c.block = length-append so.entries new ∙ (ap₂ (λ a b. a + b) long passed.long ∙ omega arith) in
    let enough : block_count c count ≤ block + blocks + so.most = omega (arith, so.enough, some) in
    record {
      entries = so.entries ++ new;
      most = so.most - 1;
      enough = omega (arith, enough);
      whole = λ rest is.
          let following : ℕ → List Bool → Decoded = λ block' rest'. items_from so.most c count block' rest' in
          so.whole rest is
          ∙ (ap (λ f. cut count (behind so.entries (after_item c count block following f))) (found rest)
          ∙ (ap (λ d. cut count (behind so.entries d)) (found_by c count block blocks following coded rest passed.no_fault passed.blocks_are)
          ∙ (ap (cut count) (behind_behind so.entries new (items_from so.most c count (block + blocks) rest))
          ∙ cut_behind count (so.entries ++ new) (items_from so.most c count (block + blocks) rest) (next (so.most - 1) rest) (count - (block + blocks) * c.block)
          (ap (λ n. count - n) (sym longer)) (begins so.most rest is enough))));
      long = longer;
      kept_are = subst (λ (es : List Told). IsKept kept c 0 0 es first next_last then_now) (sym taken)
          (kept_more kept joined c 0 0 last next_last (block * c.block) (take count so.entries) (take (count - block * c.block) new) first now then_now so.kept_are place passed.kept_are);
    }

-- ---- the beginning and the end

pub going_start : {S : Type 0} (kept : S → List Point → S → Type 0) (none : (keeper : S) → kept keeper [] keeper) (c : Coding) (count : ℕ) (keeper : S) (next : ℕ → List Bool → Decoded)
    → ((most : ℕ) (rest : List Bool) → length rest % 8 ≡ 0 → block_count c count ≤ most → cut count (items_from most c count 0 rest) ≡ cut count (next (most - 1) rest))
    → Going kept c count 0 [] keeper 0 next 0 keeper
going_start {S} kept none c count keeper next begins = record {
  entries = [];
  most = block_count c count - 1;
  enough = omega arith;
  whole = λ rest is. begins (block_count c count) rest is (omega arith);
  long = omega arith;
  kept_are = subst (λ (es : List Told). IsKept kept c 0 0 es keeper 0 keeper) (sym (take_none count)) (kept_none kept none c 0 0 keeper (omega arith));
}

pub going_end : {S : Type 0} (kept : S → List Point → S → Type 0) (c : Coding) (count block : ℕ) (octets : List ℕ) (first : S) (left : ℕ → List Bool → Decoded) (last : ℕ) (now : S) (fault : Option BlockFault)
    → ((most : ℕ) → left most [] ≡ ended_by fault) → Going kept c count block (bits octets) first 0 left last now
    → (fault_of (decoded c count (bits octets)) ≡ fault) × AreKept kept c (decoded c count (bits octets)).entries first now
going_end kept c count block octets first left last now fault ends so =
    let whole : decoded c count (bits octets) ≡ cut count (behind so.entries (ended_by fault)) =
    ap (λ xs. cut count (items_from (block_count c count) c count 0 xs)) (sym (append-nil (bits octets)))
    ∙ (so.whole [] refl ∙ ap (λ d. cut count (behind so.entries d)) (ends so.most)) in
    let are = so.kept_are in
    let entries : (decoded c count (bits octets)).entries ≡ take count so.entries =
    ap (λ (d : Decoded). d.entries) whole ∙ ap (take count) (append-nil so.entries) in (
      ap (λ (d : Decoded). d.fault) whole,
      record {
        numbers = are.numbers;
        told = record {
          within = are.within;
          entries_stand = ap (told_after c 0 0) (sym (append-nil are.numbers)) ∙ (are.told [] ∙ (append-nil (take count so.entries) ∙ sym entries));
        };
        passed = are.passed;
      },
    )

-- ---- what is the same

pub going_same : {S : Type 0} (kept : S → List Point → S → Type 0) (c other : Coding) (count values block place : ℕ) (start : List Bool) (first : S) (after : ℕ) (left : ℕ → List Bool → Decoded) (last : ℕ) (now : S)
    → other ≡ c → values ≡ count → place ≡ block → Going kept c count block start first after left last now → Going kept other values place start first after left last now
going_same {S} kept c other count values block place start first after left last now is few here so =
    subst (λ (x : Coding). Going kept x values place start first after left last now) (sym is)
    (subst (λ (n : ℕ). Going kept c n place start first after left last now) (sym few)
    (subst (λ (n : ℕ). Going kept c count n start first after left last now) (sym here) so))

some_covered : (c : Coding) (place : ℕ) (item : Item) → place < c.interval → 1 ≤ covered c place item
some_covered c place (Run number) less = some_blocks c place number (Run number) less refl
some_covered c place (Second pairs) less = omega arith
some_covered c place (Split k high low) less = omega arith
some_covered c place (Plain codes) less = omega arith

pub some_passed : {S : Type 0} (kept : S → List Point → S → Type 0) (c : Coding) (count block : ℕ) (coded : Coded) (last : ℕ) (before : S) (blocks last_one : ℕ) (after : S)
    → 1 ≤ c.interval → ItemPassed kept c count block coded last before blocks last_one after → 1 ≤ blocks
some_passed kept c count block coded last before blocks last_one after some passed =
    omega (arith, passed.blocks_are, some_covered c (block % c.interval) coded.item (omega arith))

-- an item of a kind, where its reference and its codes are read so
pub kind_here : (c : Coding) (skip other : Bool) (kind : Kind) (item : Item) (numbers : List ℕ) (n m : ℕ) → skip ≡ other → n ≡ m
    → IsOfKind c (skipped skip) kind item (take m numbers) → IsOfKind c (skipped other) kind item (take n numbers)
kind_here c skip other kind item numbers n m same few is =
    subst (λ (b : Bool). IsOfKind c (skipped b) kind item (take n numbers)) same
    (subst (λ (k : ℕ). IsOfKind c (skipped skip) kind item (take k numbers)) (sym few) is)

pub block_small : (c : Coding) (count block : ℕ) → Fits c → count ≤ 33554432 → block < block_count c count → (block * c.block < count) × (block ≤ 33554432)
block_small c count block fits few less =
    let some : 0 < c.block = some_block c fits in
    let within : block * c.block < count = within_count c count block some less in
    let product : block * 1 ≤ block * c.block = mul-le-mul_left block some in
    (within, omega (arith, within, product, few))

-- an item that was taken, or that is at fault
pub passed_by : {S : Type 0} (kept : S → List Point → S → Type 0) (c : Coding) (count block : ℕ) (half : Half) (kind : Kind) (n last : ℕ) (before : S)
    (result : Result ℕ BlockFault) (last_one : ℕ) (after : S) (Same : Type 0) (item : Item) (blocks : ℕ) → half.with_reference ≡ with_reference c block → n ≡ count_of c half
    → ((i : Item) → IsOfKind c (skipped (with_reference c block)) kind i (take n half.numbers)
    → MatchResult result (λ bs. ItemPassed kept c count block (coded_of half.reference i) last before bs last_one after) (λ fault. (item_fault c count block (coded_of half.reference i) ≡ Some fault) × Same))
    → IsOfKind c (skipped half.with_reference) kind item (take (count_of c half) half.numbers) → result ≡ Ok blocks
    → ItemPassed kept c count block (coded_of half.reference item) last before blocks last_one after
passed_by kept c count block half kind n last before result last_one after Same item blocks referred few all is ok =
    subst (λ (r : Result ℕ BlockFault). MatchResult r (λ bs. ItemPassed kept c count block (coded_of half.reference item) last before bs last_one after)
    (λ fault. (item_fault c count block (coded_of half.reference item) ≡ Some fault) × Same)) ok
    (all item (kind_here c half.with_reference (with_reference c block) kind item half.numbers n (count_of c half) referred few is))

pub fault_here : {S : Type 0} (kept : S → List Point → S → Type 0) (c : Coding) (count block : ℕ) (half : Half) (kind : Kind) (n last : ℕ) (before : S)
    (result : Result ℕ BlockFault) (last_one : ℕ) (after : S) (Same : Type 0) (item : Item) (fault : BlockFault) → half.with_reference ≡ with_reference c block → n ≡ count_of c half
    → ((i : Item) → IsOfKind c (skipped (with_reference c block)) kind i (take n half.numbers)
    → MatchResult result (λ bs. ItemPassed kept c count block (coded_of half.reference i) last before bs last_one after) (λ f. (item_fault c count block (coded_of half.reference i) ≡ Some f) × Same))
    → IsOfKind c (skipped half.with_reference) kind item (take (count_of c half) half.numbers) → result ≡ Err fault
    → (item_fault c count block (coded_of half.reference item) ≡ Some fault) × Same
fault_here kept c count block half kind n last before result last_one after Same item fault referred few all is err =
    subst (λ (r : Result ℕ BlockFault). MatchResult r (λ bs. ItemPassed kept c count block (coded_of half.reference item) last before bs last_one after)
    (λ f. (item_fault c count block (coded_of half.reference item) ≡ Some f) × Same)) err
    (all item (kind_here c half.with_reference (with_reference c block) kind item half.numbers n (count_of c half) referred few is))

-- ---- bits of a piece

digit_is : (b : Bool) → eqb (digit b * 2 ^ 0 + 0) 1 ≡ b
digit_is false = refl
digit_is true = refl

one_bit : (x : Bool) (xs : List Bool) → eqb (num (take 1 (x ∷ xs))) 1 ≡ x
one_bit x xs = digit_is x

bit_by : (xs : List Bool) (place : ℕ) → place < length xs → drop place xs ≡ eqb (num (take 1 (drop place xs))) 1 ∷ drop (place + 1) xs
bit_by xs place within =
    let cons : drop place xs ≡ get_or xs place false ∷ drop (place + 1) xs = rw add-one (drop-cons xs place false within) in
    let same : eqb (num (take 1 (drop place xs))) 1 ≡ get_or xs place false =
    ap (λ ys. eqb (num (take 1 ys)) 1) cons ∙ one_bit (get_or xs place false) (drop (place + 1) xs) in
    cons ∙ ap (λ b. b ∷ drop (place + 1) xs) (sym same)

pub bit_there : (octets : List ℕ) (place number : ℕ) (bit : Bool) → place < 8 * length octets → number ≡ num (take 1 (drop place (bits octets))) → bit ≡ eqb number 1
    → drop place (bits octets) ≡ bit ∷ drop (place + 1) (bits octets)
bit_there octets place number bit within is one =
    bit_by (bits octets) place (omega (arith, length-bits octets, within))
    ∙ ap (λ b. b ∷ drop (place + 1) (bits octets)) (ap (λ n. eqb n 1) (sym is) ∙ sym one)

pub bits_more : (xs : List Bool) (place : ℕ) (bit : Bool) → drop place xs ≡ bit ∷ drop (place + 1) xs → take (place + 1) xs ≡ take place xs ++ bit ∷ []
bits_more xs place bit is = take-add place 1 xs ∙ ap (λ ys. take place xs ++ take 1 ys) is

-- the places of bits in their octets
pub going_left : {S : Type 0} (kept : S → List Point → S → Type 0) (c : Coding) (count block : ℕ) (start : List Bool) (place after : ℕ) (first : S) (left : ℕ → List Bool → Decoded) (last : ℕ) (now : S)
    → after ≡ 7 - place % 8 → Going kept c count block start first ((8 - place % 8) % 8) left last now → Going kept c count block start first ((after + 1) % 8) left last now
going_left kept c count block start place after first left last now is so =
    let same : (8 - place % 8) % 8 ≡ (after + 1) % 8 = omega (arith, is) in
    subst (λ (n : ℕ). Going kept c count block start first n left last now) same so

pub going_place : {S : Type 0} (kept : S → List Point → S → Type 0) (c : Coding) (count block : ℕ) (xs ys : List Bool) (place after : ℕ) (bit : Bool) (first : S) (left : ℕ → List Bool → Decoded) (last : ℕ) (now : S)
    → after ≡ 7 - place % 8 → drop place ys ≡ bit ∷ drop (place + 1) ys → Going kept c count block ((xs ++ take place ys) ++ bit ∷ []) first after left last now
    → Going kept c count block (xs ++ take (place + 1) ys) first ((8 - (place + 1) % 8) % 8) left last now
going_place {S} kept c count block xs ys place after bit first left last now is there so =
    let same : after ≡ (8 - (place + 1) % 8) % 8 = omega (arith, is) in
    let all : (xs ++ take place ys) ++ bit ∷ [] ≡ xs ++ take (place + 1) ys = append_assoc xs (take place ys) (bit ∷ []) ∙ ap (λ zs. xs ++ zs) (sym (bits_more ys place bit there)) in
    subst (λ (n : ℕ). Going kept c count block (xs ++ take (place + 1) ys) first n left last now) same
    (subst (λ (zs : List Bool). Going kept c count block zs first after left last now) all so)

-- all bits of a piece
pub going_piece : {S : Type 0} (kept : S → List Point → S → Type 0) (c : Coding) (count block : ℕ) (octets piece : List ℕ) (place : ℕ) (first : S) (left : ℕ → List Bool → Decoded) (last : ℕ) (now : S)
    → place ≡ 8 * length piece → Going kept c count block (bits octets ++ take place (bits piece)) first ((8 - place % 8) % 8) left last now
    → Going kept c count block (bits (octets ++ piece)) first 0 left last now
going_piece {S} kept c count block octets piece place first left last now is so =
    let whole : take place (bits piece) ≡ bits piece = take_all place (bits piece) (omega (arith, length-bits piece, is)) in
    let all : bits octets ++ take place (bits piece) ≡ bits (octets ++ piece) = ap (λ xs. bits octets ++ xs) whole ∙ sym (bits-append octets piece) in
    let none : (8 - place % 8) % 8 ≡ 0 = omega (arith, is) in
    subst (λ (n : ℕ). Going kept c count block (bits (octets ++ piece)) first n left last now) none
    (subst (λ (xs : List Bool). Going kept c count block xs first ((8 - place % 8) % 8) left last now) all so)

-- ---- the end

pending_ended : (width : ℕ) (p : Pending) → IsNumber width p → front_pending p [] ≡ Ended
pending_ended width (Bits value left) is = ap (λ f. and_then f (λ n r. Found (value * 2 ^ left + n) r)) (number_ended left [] (omega (arith, is.0)))
pending_ended width (Sequence zeros) is = absurd is

sequence_ended : (p : Pending) → IsSequence p → front_pending p [] ≡ Ended
sequence_ended (Bits value left) is = absurd is
sequence_ended (Sequence zeros) is = refl

stands_ended : (c : Coding) (h : Half) (part : Part) (p : Pending) → Stands c h part (λ width. IsNumber width p) (IsSequence p) → front_pending p [] ≡ Ended
stands_ended c h Padding p is = pending_ended 7 p is
stands_ended c h Identifier p is = pending_ended (identifier_width c) p is
stands_ended c h Extension p is = pending_ended 1 p is
stands_ended c h (Reference shape) p is = pending_ended c.bits p is.0
stands_ended c h Count p is = sequence_ended p is.0
stands_ended c h Pairs p is = sequence_ended p is.0
stands_ended c h (High k) p is = sequence_ended p is.0
stands_ended c h (Low k) p is = pending_ended k p is.0
stands_ended c h Codes p is = pending_ended c.bits p is.0

abbrev pub fault_in : Stage → Option BlockFault
fault_in Items = Some Short
fault_in (Over fault) = fault

left_ends : (c : Coding) (count block : ℕ) (half : Half) (stage : Stage) (most : ℕ) → IsAtStage c count block half stage → left_in c count block half stage most [] ≡ ended_by (fault_in stage)
left_ends c count block half Items most is =
    let next : ℕ → List Bool → Decoded = λ block' rest. items_from most c count block' rest in
    ap (λ f. after_item c count block next (and_then f (λ n r. after_part c half half.part n r))) (stands_ended c half half.part half.pending is.half_is)
left_ends c count block half (Over fault) most is = refl

pub ends : {S : Type 0} (kept : S → List Point → S → Type 0) (reading : Reading) (octets : List ℕ) (first : S) (last : ℕ) (now : S) → IsReading reading
    → Going kept reading.coding reading.count reading.block (bits octets) first 0 (left_at reading) last now
    → (fault_of (decoded reading.coding reading.count (bits octets)) ≡ fault_in reading.stage) × AreKept kept reading.coding (decoded reading.coding reading.count (bits octets)).entries first now
ends kept reading octets first last now is so =
    going_end kept reading.coding reading.count reading.block octets first (left_at reading) last now (fault_in reading.stage)
    (λ most. left_ends reading.coding reading.count reading.block reading.half reading.stage most is.stage_is) so

pub agree : {S : Type 0} (kept : S → List Point → S → Type 0) (c : Coding) (count : ℕ) (octets : List ℕ) (keeper : S) (fed : FedBlocks S) → Fits c → count ≤ 33554432
    → fed.reading.coding ≡ c → fed.reading.count ≡ count → IsReading fed.reading
    → Going kept fed.reading.coding fed.reading.count fed.reading.block (bits octets) keeper 0 (left_at fed.reading) fed.kept.last fed.kept.keeper
    → BlocksAgree kept c count keeper octets fed
agree {S} kept c count octets keeper fed fits few coding_is count_is is so = record {
  fits = fits;
  few = few;
  coding_is = coding_is;
  count_is = count_is;
  reading_is = is;
  going = so;
  kept_are = subst (λ (x : Coding). AreKept kept x (decoded x count (bits octets)).entries keeper fed.kept.keeper) coding_is
      (subst (λ (n : ℕ). AreKept kept fed.reading.coding (decoded fed.reading.coding n (bits octets)).entries keeper fed.kept.keeper) count_is
      (ends kept fed.reading octets keeper fed.kept.last fed.kept.keeper is so).1);
}

pub fault_is : {S : Type 0} (kept : S → List Point → S → Type 0) (c : Coding) (count : ℕ) (octets : List ℕ) (keeper : S) (fed : FedBlocks S) → BlocksAgree kept c count keeper octets fed
    → fault_of (decoded c count (bits octets)) ≡ fault_in fed.reading.stage
fault_is {S} kept c count octets keeper fed agrees =
    ap₂ (λ x n. fault_of (decoded x n (bits octets))) (sym agrees.coding_is) (sym agrees.count_is)
    ∙ (ends kept fed.reading octets keeper fed.kept.last fed.kept.keeper agrees.reading_is agrees.going).0

-- no bit of a piece
pub going_none : {S : Type 0} (kept : S → List Point → S → Type 0) (c : Coding) (count block : ℕ) (octets piece : List ℕ) (first : S) (left : ℕ → List Bool → Decoded) (last : ℕ) (now : S)
    → Going kept c count block (bits octets) first 0 left last now → Going kept c count block (bits octets ++ take 0 (bits piece)) first ((8 - 0 % 8) % 8) left last now
going_none kept c count block octets piece first left last now so =
    subst (λ (xs : List Bool). Going kept c count block xs first 0 left last now) (sym (append-nil (bits octets))) so
