-- Items that are read bit by bit.
use Rattle.std.proofs.Common.{◌≡◌, ℕ, suc, ◌+◌, ◌-◌, ◌*◌, ◌/◌, ◌^◌, ◌==◌, ◌<◌, ◌≤◌, Bool, true, false, List, [], ◌∷◌, ◌++◌, length, map, take, drop, set, get_or, Option, Some, None, ◌≢◌, append_assoc, refl, sym, ap, ap₂, subst, ◌∙◌, arith, drop-cons, add-one}
use Rattle.std.specs.List.{All}
use Rattle.std.proofs.lemmas.Bool.{ne_eqb, eq-eqb}
use Rattle.std.proofs.lemmas.List.{drop-take, drop-set-lt, length-take-le, length-append}
use Rattle.std.proofs.lemmas.List.Elements.{All-push, All-nil}
use Rattle.grib_coding.specs.declared.coding.Coding.{Coding}
use Rattle.grib_coding.specs.Coding.{identifier_width, Fits}
use Rattle.grib_coding.specs.Items.{Run, Second, Split, Plain, joined}
use Rattle.grib_coding.specs.Reading.{Front, Ended, Found, Coded, coded_of, and_then, front_number, front_sequence, front_list, front_zero, front_kind, front_item, skipped}
use Rattle.grib_block_reading.specs.declared.item.Kind.{Kind}
use Rattle.grib_block_reading.specs.declared.item.Kind.TheVariants.{Codes as codes_kind}
use Rattle.grib_block_reading.specs.ItemRead.{HasReference, IsSpread}
use Rattle.grib_block_reading.proofs.Items.{second_kind}
use Rattle.grib_block_feeding.specs.declared.pending.Pending.{Pending}
use Rattle.grib_block_feeding.specs.declared.pending.Pending.TheVariants.{Bits, Sequence}
use Rattle.grib_block_feeding.specs.declared.half.Shape.{Shape}
use Rattle.grib_block_feeding.specs.declared.half.Shape.TheVariants.{ZeroBlocks, SecondExtension, SplitSamples, NoCompression}
use Rattle.grib_block_feeding.specs.declared.half.Part.{Part}
use Rattle.grib_block_feeding.specs.declared.half.Part.TheVariants.{Padding, Identifier, Extension, Reference, Count, Pairs, High, Low, Codes}
use Rattle.grib_block_feeding.specs.declared.half.Half.{Half}
use Rattle.grib_block_feeding.specs.Pending.{saturated, front_pending}
use Rattle.grib_block_feeding.specs.Half.{capped, count_of, front_shape, front_from, low_front, after_pairs, after_high, after_low, after_codes, after_part, front_half, Gone, Stands, ShapeFits, GoesOn, WholeItem}
use Rattle.grib_block_feeding.proofs.Bitwise.{number_found}
use Rattle.grib_block_feeding.proofs.Lists.{starts_number, capped_then, same_then, sequences_on, numbers_on, fresh_sequence, fresh_bits, taken_more, one_behind, joined_none, joined_saturated, no_low}

abbrev pub half_of : Part → Pending → Bool → Option ℕ → ℕ → List ℕ → Half
half_of part pending s reference place numbers = record {
  part = part;
  pending = pending;
  with_reference = s;
  reference = reference;
  place = place;
  numbers = numbers;
}

pub goes_on : (c : Coding) (front other : List Bool → Front Coded) (half : Half) → GoesOn c front half → ((bits : List Bool) → other bits ≡ front bits) → GoesOn c other half
goes_on c front other half on same = record { half_is = on.half_is; same = λ bits. same bits ∙ on.same bits }

-- ---- identifiers

pub identifier_begun : (c : Coding) (s : Bool) (reference : Option ℕ) (place : ℕ) (numbers : List ℕ) → 1 ≤ identifier_width c
    → GoesOn c (λ bits. capped (front_item c s bits)) (half_of Identifier (Bits 0 (identifier_width c)) s reference place numbers)
identifier_begun c s reference place numbers some = record {
  half_is = (some, omega arith);
  same = λ bits. starts_number (identifier_width c) (λ i r. front_kind c s (i + 1 == 2 ^ identifier_width c) i r) bits;
}

pub extension_begun : (c : Coding) (s : Bool) (t : Bool) (reference : Option ℕ) (place : ℕ) (numbers : List ℕ)
    → GoesOn c (λ bits. capped (front_kind c s t 0 bits)) (half_of Extension (Bits 0 1) s reference place numbers)
extension_begun c s t reference place numbers = record {
  half_is = (omega arith, omega arith);
  same = λ bits. starts_number 1 (λ i r. front_zero c s i r) bits;
}

pub plain_identified : (c : Coding) (s : Bool) (identifier : ℕ) (bits : List Bool) → identifier ≢ 0 → identifier + 1 ≡ 2 ^ identifier_width c
    → capped (front_kind c s (identifier + 1 == 2 ^ identifier_width c) identifier bits) ≡ capped (front_from c s NoCompression bits)
plain_identified c s identifier bits some is =
    let more : identifier ≡ suc (identifier - 1) = omega (arith, some) in
    ap₂ (λ t i. capped (front_kind c s t i bits)) (eq-eqb (identifier + 1) (2 ^ identifier_width c) is) more

pub split_identified : (c : Coding) (s : Bool) (identifier k : ℕ) (bits : List Bool) → identifier ≢ 0 → (identifier + 1 ≡ 2 ^ identifier_width c → ⊥) → k ≡ identifier - 1
    → capped (front_kind c s (identifier + 1 == 2 ^ identifier_width c) identifier bits) ≡ capped (front_from c s (SplitSamples k) bits)
split_identified c s identifier k bits some other is =
    let more : identifier ≡ suc k = omega (arith, some, is) in
    ap₂ (λ t i. capped (front_kind c s t i bits)) (ne_eqb (identifier + 1) (2 ^ identifier_width c) other) more

pub extended : (c : Coding) (s : Bool) (bit : ℕ) (bits : List Bool) → bit ≢ 0 → capped (front_zero c s bit bits) ≡ capped (front_from c s SecondExtension bits)
extended c s bit bits some =
    let more : bit ≡ suc (bit - 1) = omega (arith, some) in
    ap (λ n. capped (front_zero c s n bits)) more

-- ---- references

reference_by : (c : Coding) (shape : Shape) (front : Front ℕ)
    → and_then (and_then front (λ n r. Found (Some n) r)) (λ reference r. front_shape c true shape reference r) ≡ and_then front (λ n r. front_shape c true shape (Some n) r)
reference_by c shape Ended = refl
reference_by c shape (Found n r) = refl

pub reference_begun : (c : Coding) (s : Bool) (shape : Shape) (reference : Option ℕ) (place : ℕ) (numbers : List ℕ) → s ≡ true → 1 ≤ c.bits → ShapeFits shape
    → GoesOn c (λ bits. capped (front_from c s shape bits)) (half_of (Reference shape) (Bits 0 c.bits) s reference place numbers)
reference_begun c s shape reference place numbers is some fits =
    let P : Bool → Type 0 = λ b. GoesOn c (λ bits. capped (front_from c b shape bits)) (half_of (Reference shape) (Bits 0 c.bits) b reference place numbers) in
    let one : P true = record {
      half_is = ((some, omega arith), refl, fits);
      same = λ bits. ap capped (reference_by c shape (front_number c.bits bits)) ∙ starts_number c.bits (λ n r. front_shape c true shape (Some n) r) bits;
    } in
    subst P (sym is) one

pub no_reference : (c : Coding) (s : Bool) (shape : Shape) (bits : List Bool) → s ≡ false → capped (front_from c s shape bits) ≡ capped (front_shape c s shape None bits)
no_reference c s shape bits is =
    let P : Bool → Type 0 = λ b. capped (front_from c b shape bits) ≡ capped (front_shape c b shape None bits) in
    subst P (sym is) refl

-- ---- what follows them

run_by : (reference : Option ℕ) (front : Front ℕ)
    → capped (and_then front (λ n r. Found (coded_of reference (Run n)) r)) ≡ and_then (and_then front (λ n r. Found (saturated n) r)) (λ n r. Found (coded_of reference (Run n)) r)
run_by reference Ended = refl
run_by reference (Found n r) = refl

pub count_begun : (c : Coding) (s : Bool) (reference : Option ℕ) (numbers : List ℕ) → HasReference c s reference
    → GoesOn c (λ bits. capped (front_shape c s ZeroBlocks reference bits)) (half_of Count (Sequence 0) s reference 0 numbers)
count_begun c s reference numbers has = record {
  half_is = (omega arith, has);
  same = λ bits. run_by reference (front_sequence bits) ∙ ap (λ f. and_then f (λ n r. Found (coded_of reference (Run n)) r)) (sym (fresh_sequence bits));
}

pub pairs_begun : (c : Coding) (s : Bool) (reference : Option ℕ) (numbers : List ℕ) → HasReference c s reference → 1 ≤ c.block / 2
    → GoesOn c (λ bits. capped (front_shape c s SecondExtension reference bits)) (half_of Pairs (Sequence 0) s reference 0 numbers)
pairs_begun c s reference numbers has some = record {
  half_is = (omega arith, has, omega (arith, some));
  same = λ bits. capped_then (front_list front_sequence (c.block / 2) bits) (λ pairs r. Found (coded_of reference (Second pairs)) r)
      ∙ sequences_on (c.block / 2) (c.block / 2 - 0 - 1) (λ pairs r. Found (coded_of reference (Second (map saturated pairs))) r)
      (λ n pairs r. Found (coded_of reference (Second (n ∷ map saturated pairs))) r) bits (omega (arith, some)) (λ x xs r. refl);
}

split_high : (c : Coding) (s : Bool) (k : ℕ) (reference : Option ℕ) (numbers : List ℕ) (bits : List Bool)
    → capped (front_shape c s (SplitSamples k) reference bits)
    ≡ and_then (front_list front_sequence (c.block - skipped s) bits) (λ high r. low_front c (half_of (High k) (Sequence 0) s reference 0 numbers) k (map saturated high) r)
split_high c s k reference numbers bits =
    let count = c.block - skipped s in
    capped_then (front_list front_sequence count bits) (λ high r. and_then (front_list (front_number k) count r) (λ low r'. Found (coded_of reference (Split k high low)) r'))
    ∙ same_then (front_list front_sequence count bits) (λ high r. capped (and_then (front_list (front_number k) count r) (λ low r'. Found (coded_of reference (Split k high low)) r')))
    (λ high r. low_front c (half_of (High k) (Sequence 0) s reference 0 numbers) k (map saturated high) r)
    (λ high r. capped_then (front_list (front_number k) count r) (λ low r'. Found (coded_of reference (Split k high low)) r')
    ∙ same_then (front_list (front_number k) count r) (λ low r'. Found (coded_of reference (Plain (map saturated (joined k high low)))) r')
    (λ low r'. Found (coded_of reference (Plain (map saturated (joined k (map saturated high) low)))) r')
    (λ low r'. ap (λ codes. Found (coded_of reference (Plain codes)) r') (sym (joined_saturated k high low))))

pub high_begun : (c : Coding) (s : Bool) (k : ℕ) (reference : Option ℕ) (numbers : List ℕ) → HasReference c s reference → 1 ≤ c.block - skipped s → k ≤ 29
    → GoesOn c (λ bits. capped (front_shape c s (SplitSamples k) reference bits)) (half_of (High k) (Sequence 0) s reference 0 numbers)
high_begun c s k reference numbers has some small = record {
  half_is = (omega arith, (has, omega (arith, some)), small, All-nil (λ n. n ≤ 18446744073709551615));
  same = λ bits. let half = half_of (High k) (Sequence 0) s reference 0 numbers in
      split_high c s k reference numbers bits
      ∙ sequences_on (c.block - skipped s) (c.block - skipped s - 0 - 1) (λ high r. low_front c half k (map saturated high) r)
      (λ n high r. low_front c half k (n ∷ map saturated high) r) bits (omega (arith, some)) (λ x xs r. refl);
}

pub codes_begun : (c : Coding) (s : Bool) (width : ℕ) (reference : Option ℕ) (numbers : List ℕ) → width ≡ c.bits → HasReference c s reference → 1 ≤ c.block - skipped s → 1 ≤ c.bits
    → GoesOn c (λ bits. capped (front_shape c s NoCompression reference bits)) (half_of Codes (Bits 0 width) s reference 0 numbers)
codes_begun c s width reference numbers is has some bits_some =
    let P : ℕ → Type 0 = λ w. GoesOn c (λ bits. capped (front_shape c s NoCompression reference bits)) (half_of Codes (Bits 0 w) s reference 0 numbers) in
    let one : P c.bits = record {
      half_is = ((bits_some, omega arith), (has, omega (arith, some)));
      same = λ bits. capped_then (front_list (front_number c.bits) (c.block - skipped s) bits) (λ codes r. Found (coded_of reference (Plain codes)) r)
          ∙ numbers_on c.bits (c.block - skipped s) (c.block - skipped s - 0 - 1) (λ codes r. Found (coded_of reference (Plain codes)) r)
          (λ n codes r. Found (coded_of reference (Plain (n ∷ codes))) r) bits (omega (arith, some)) (λ x xs r. refl);
    } in
    subst P (sym is) one

skip_most : (b : Bool) → skipped b ≤ 1
skip_most true = omega arith
skip_most false = omega arith

pub some_count : (c : Coding) (s : Bool) → Fits c → 1 ≤ c.block - skipped s
some_count c s fits = omega (arith, fits.block, skip_most s)

-- ---- a number more

pub pairs_on : (c : Coding) (h : Half) (n : ℕ) → h.part ≡ Pairs → HasReference c h.with_reference h.reference → h.place + 1 < c.block / 2 → h.place < length h.numbers
    → GoesOn c (after_pairs c h n) (half_of h.part (Sequence 0) h.with_reference h.reference (h.place + 1) (set h.numbers h.place n))
pairs_on c h n is has more within =
    let all = take (h.place + 1) (set h.numbers h.place n) in
    let P : Part → Type 0 = λ p. GoesOn c (after_pairs c h n) (half_of p (Sequence 0) h.with_reference h.reference (h.place + 1) (set h.numbers h.place n)) in
    let one : P Pairs = record {
      half_is = (omega arith, has, more);
      same = λ bits. sequences_on (c.block / 2 - h.place - 1) (c.block / 2 - (h.place + 1) - 1)
          (λ pairs r. Found (coded_of h.reference (Second (take h.place h.numbers ++ n ∷ map saturated pairs))) r)
          (λ x pairs r. Found (coded_of h.reference (Second (all ++ x ∷ map saturated pairs))) r) bits (omega (arith, more))
          (λ x xs r. ap (λ pairs. Found (coded_of h.reference (Second pairs)) r)
          (one_behind (take h.place h.numbers) (map saturated xs) n (saturated x) all (taken_more h.numbers h.place n within)));
    } in
    subst P (sym is) one

pub codes_on : (c : Coding) (h : Half) (n : ℕ) → h.part ≡ Codes → HasReference c h.with_reference h.reference → h.place + 1 < count_of c h → h.place < length h.numbers → 1 ≤ c.bits
    → GoesOn c (after_codes c h n) (half_of h.part (Bits 0 c.bits) h.with_reference h.reference (h.place + 1) (set h.numbers h.place n))
codes_on c h n is has more within some =
    let all = take (h.place + 1) (set h.numbers h.place n) in
    let P : Part → Type 0 = λ p. GoesOn c (after_codes c h n) (half_of p (Bits 0 c.bits) h.with_reference h.reference (h.place + 1) (set h.numbers h.place n)) in
    let one : P Codes = record {
      half_is = ((some, omega arith), (has, more));
      same = λ bits. numbers_on c.bits (count_of c h - h.place - 1) (count_of c h - (h.place + 1) - 1)
          (λ codes r. Found (coded_of h.reference (Plain (take h.place h.numbers ++ n ∷ codes))) r)
          (λ x codes r. Found (coded_of h.reference (Plain (all ++ x ∷ codes))) r) bits (omega (arith, more))
          (λ x xs r. ap (λ codes. Found (coded_of h.reference (Plain codes)) r)
          (one_behind (take h.place h.numbers) xs n x all (taken_more h.numbers h.place n within)));
    } in
    subst P (sym is) one

pub high_on : (c : Coding) (h : Half) (k n : ℕ) → h.part ≡ High k → HasReference c h.with_reference h.reference → h.place + 1 < count_of c h → h.place < length h.numbers → k ≤ 29
    → All (λ m. m ≤ 18446744073709551615) (take h.place h.numbers) → n ≤ 18446744073709551615
    → GoesOn c (after_high c h k n) (half_of h.part (Sequence 0) h.with_reference h.reference (h.place + 1) (set h.numbers h.place n))
high_on c h k n is has more within small all_small n_small =
    let Small : ℕ → Type 0 = λ m. m ≤ 18446744073709551615 in
    let all = take (h.place + 1) (set h.numbers h.place n) in
    let P : Part → Type 0 = λ p. GoesOn c (after_high c h k n) (half_of p (Sequence 0) h.with_reference h.reference (h.place + 1) (set h.numbers h.place n)) in
    let taken : all ≡ take h.place h.numbers ++ n ∷ [] = taken_more h.numbers h.place n within in
    let one : P (High k) = record {
      half_is = (omega arith, (has, more), small, subst (All Small) (sym taken) (All-push Small (take h.place h.numbers) n all_small n_small));
      same = λ bits. sequences_on (count_of c h - h.place - 1) (count_of c h - (h.place + 1) - 1)
          (λ high r. low_front c h k (take h.place h.numbers ++ n ∷ map saturated high) r)
          (λ x high r. low_front c h k (all ++ x ∷ map saturated high) r) bits (omega (arith, more))
          (λ x xs r. ap (λ high. low_front c h k high r)
          (one_behind (take h.place h.numbers) (map saturated xs) n (saturated x) all taken));
    } in
    subst P (sym is) one

no_list : (front : List Bool → Front ℕ) (count : ℕ) (make : List ℕ → List Bool → Front Coded) (bits : List Bool) → count ≡ 0 → and_then (front_list front count bits) make ≡ make [] bits
no_list front count make bits none = ap (λ n. and_then (front_list front n bits) make) none

pub low_begun : (c : Coding) (h : Half) (k n : ℕ) → HasReference c h.with_reference h.reference → h.place + 1 ≡ count_of c h → h.place < length h.numbers → k ≤ 29 → 1 ≤ k
    → GoesOn c (after_high c h k n) (half_of (Low k) (Bits 0 k) h.with_reference h.reference 0 (set h.numbers h.place n))
low_begun c h k n has last within small some =
    let numbers = set h.numbers h.place n in
    let all = take (count_of c h) numbers in
    let taken : take h.place h.numbers ++ n ∷ [] ≡ all = sym (taken_more h.numbers h.place n within) ∙ ap (λ m. take m numbers) last in
    record {
      half_is = ((some, omega arith), (has, omega (arith, last)), small, some);
      same = λ bits. no_list front_sequence (count_of c h - h.place - 1) (λ high r. low_front c h k (take h.place h.numbers ++ n ∷ map saturated high) r) bits (omega (arith, last))
          ∙ (ap (λ high. low_front c h k high bits) taken
          ∙ numbers_on k (count_of c h) (count_of c h - 0 - 1) (λ low r. Found (coded_of h.reference (Plain (map saturated (joined k all low)))) r)
          (λ x low r. Found (coded_of h.reference (Plain (map saturated (joined k all (x ∷ low))))) r) bits (omega (arith, last)) (λ x xs r. refl));
    }

behind_one : (xs : List ℕ) (x : ℕ) (ys all : List ℕ) → all ≡ xs ++ x ∷ [] → xs ++ x ∷ ys ≡ all ++ ys
behind_one xs x ys all is = sym (append_assoc xs (x ∷ []) ys) ∙ ap (λ zs. zs ++ ys) (sym is)

-- the codes from a place on, where the one there gets its low bits
low_codes : (k count place n : ℕ) (numbers low : List ℕ) → place < count → count ≤ length numbers
    → take place numbers ++ map saturated (joined k (drop place (take count numbers)) (n ∷ low))
    ≡ take place numbers ++ saturated (get_or numbers place 0 * 2 ^ k + n) ∷ map saturated (joined k (take (count - (place + 1)) (drop (place + 1) numbers)) low)
low_codes k count place n numbers low less within =
    let inside : place < length numbers = omega (arith, less, within) in
    let more : count - place ≡ suc (count - (place + 1)) = omega (arith, less) in
    let sum : count ≡ place + (count - place) = omega (arith, less) in
    let cons : drop place numbers ≡ get_or numbers place 0 ∷ drop (place + 1) numbers = rw add-one (drop-cons numbers place 0 inside) in
    let tail : drop place (take count numbers) ≡ get_or numbers place 0 ∷ take (count - (place + 1)) (drop (place + 1) numbers) =
    ap (λ m. drop place (take m numbers)) sum ∙ (drop-take place (count - place) numbers ∙ ap₂ take more cons) in
    ap (λ high. take place numbers ++ map saturated (joined k high (n ∷ low))) tail

low_rest : (count place n : ℕ) (numbers : List ℕ) → place < count → drop (place + 1) (take count (set numbers place n)) ≡ take (count - (place + 1)) (drop (place + 1) numbers)
low_rest count place n numbers less =
    let sum : count ≡ place + 1 + (count - (place + 1)) = omega (arith, less) in
    ap (λ m. drop (place + 1) (take m (set numbers place n))) sum ∙ drop-take (place + 1) (count - (place + 1)) (set numbers place n) ∙ ap (take (count - (place + 1))) (drop-set-lt (place + 1) numbers place n (omega arith))

pub low_on : (c : Coding) (h : Half) (k n code : ℕ) → h.part ≡ Low k → HasReference c h.with_reference h.reference → h.place + 1 < count_of c h → count_of c h ≤ length h.numbers → k ≤ 29 → 1 ≤ k
    → code ≡ saturated (get_or h.numbers h.place 0 * 2 ^ k + n)
    → GoesOn c (after_low c h k n) (half_of h.part (Bits 0 k) h.with_reference h.reference (h.place + 1) (set h.numbers h.place code))
low_on c h k n code is has more within small some code_is =
    let numbers = set h.numbers h.place code in
    let count = count_of c h in
    let all = take (h.place + 1) numbers in
    let rest = take (count - (h.place + 1)) (drop (h.place + 1) h.numbers) in
    let P : Part → Type 0 = λ p. GoesOn c (after_low c h k n) (half_of p (Bits 0 k) h.with_reference h.reference (h.place + 1) numbers) in
    let taken : all ≡ take h.place h.numbers ++ code ∷ [] = taken_more h.numbers h.place code (omega (arith, more, within)) in
    let one : P (Low k) = record {
      half_is = ((some, omega arith), (has, more), small, some);
      same = λ bits. numbers_on k (count - h.place - 1) (count - (h.place + 1) - 1)
          (λ low r. Found (coded_of h.reference (Plain (take h.place h.numbers ++ map saturated (joined k (drop h.place (take count h.numbers)) (n ∷ low))))) r)
          (λ x low r. Found (coded_of h.reference (Plain (all ++ map saturated (joined k (drop (h.place + 1) (take count numbers)) (x ∷ low))))) r) bits (omega (arith, more))
          (λ x xs r. ap (λ codes. Found (coded_of h.reference (Plain codes)) r)
          (low_codes k count h.place n h.numbers (x ∷ xs) (omega (arith, more)) within
          ∙ (ap (λ m. take h.place h.numbers ++ m ∷ map saturated (joined k rest (x ∷ xs))) (sym code_is)
          ∙ (ap (λ ys. take h.place h.numbers ++ code ∷ map saturated (joined k ys (x ∷ xs))) (sym (low_rest count h.place code h.numbers (omega (arith, more))))
          ∙ behind_one (take h.place h.numbers) code (map saturated (joined k (drop (h.place + 1) (take count numbers)) (x ∷ xs))) all taken))));
    } in
    subst P (sym is) one

-- ---- the last number

codes_item : (c : Coding) (front : List Bool → Front Coded) (half : Half) → HasReference c half.with_reference half.reference
    → ((bits : List Bool) → front bits ≡ Found (coded_of half.reference (Plain (take (count_of c half) half.numbers))) bits) → WholeItem c front codes_kind half
codes_item c front half has found = record {
  item = Plain (take (count_of c half) half.numbers);
  found = found;
  kind_is = record { one = λ place. refl; short = refl; codes_are = λ place. refl };
  reference_is = has;
}

pub codes_whole : (c : Coding) (h : Half) (n : ℕ) (part : Part) (pending : Pending) → HasReference c h.with_reference h.reference → h.place + 1 ≡ count_of c h → h.place < length h.numbers
    → WholeItem c (after_codes c h n) codes_kind (half_of part pending h.with_reference h.reference (h.place + 1) (set h.numbers h.place n))
codes_whole c h n part pending has last within =
    let numbers = set h.numbers h.place n in
    let taken : take h.place h.numbers ++ n ∷ [] ≡ take (count_of c h) numbers = sym (taken_more h.numbers h.place n within) ∙ ap (λ m. take m numbers) last in
    codes_item c (after_codes c h n) (half_of part pending h.with_reference h.reference (h.place + 1) numbers) has
    (λ bits. no_list (front_number c.bits) (count_of c h - h.place - 1) (λ codes r. Found (coded_of h.reference (Plain (take h.place h.numbers ++ n ∷ codes))) r) bits (omega (arith, last))
    ∙ ap (λ codes. Found (coded_of h.reference (Plain codes)) bits) taken)

pub high_whole : (c : Coding) (h : Half) (n : ℕ) (part : Part) (pending : Pending) → HasReference c h.with_reference h.reference → h.place + 1 ≡ count_of c h → h.place < length h.numbers
    → All (λ m. m ≤ 18446744073709551615) (take h.place h.numbers) → n ≤ 18446744073709551615
    → WholeItem c (after_high c h 0 n) codes_kind (half_of part pending h.with_reference h.reference (h.place + 1) (set h.numbers h.place n))
high_whole c h n part pending has last within all_small n_small =
    let Small : ℕ → Type 0 = λ m. m ≤ 18446744073709551615 in
    let numbers = set h.numbers h.place n in
    let xs = take h.place h.numbers ++ n ∷ [] in
    let taken : xs ≡ take (count_of c h) numbers = sym (taken_more h.numbers h.place n within) ∙ ap (λ m. take m numbers) last in
    let long : length xs ≡ count_of c h = length-append (take h.place h.numbers) (n ∷ []) ∙ omega (arith, length-take-le h.place h.numbers (omega (arith, within)), last) in
    codes_item c (after_high c h 0 n) (half_of part pending h.with_reference h.reference (h.place + 1) numbers) has
    (λ bits. no_list front_sequence (count_of c h - h.place - 1) (λ high r. low_front c h 0 (take h.place h.numbers ++ n ∷ map saturated high) r) bits (omega (arith, last))
    ∙ (no_low (count_of c h) xs (λ codes r. Found (coded_of h.reference (Plain codes)) r) bits long (All-push Small (take h.place h.numbers) n all_small n_small)
    ∙ ap (λ codes. Found (coded_of h.reference (Plain codes)) bits) taken))

pub low_whole : (c : Coding) (h : Half) (k n code : ℕ) (part : Part) (pending : Pending) → HasReference c h.with_reference h.reference → h.place + 1 ≡ count_of c h → count_of c h ≤ length h.numbers
    → code ≡ saturated (get_or h.numbers h.place 0 * 2 ^ k + n)
    → WholeItem c (after_low c h k n) codes_kind (half_of part pending h.with_reference h.reference (h.place + 1) (set h.numbers h.place code))
low_whole c h k n code part pending has last within code_is =
    let numbers = set h.numbers h.place code in
    let count = count_of c h in
    let rest = take (count - (h.place + 1)) (drop (h.place + 1) h.numbers) in
    let taken : take h.place h.numbers ++ code ∷ [] ≡ take count numbers = sym (taken_more h.numbers h.place code (omega (arith, last, within))) ∙ ap (λ m. take m numbers) last in
    codes_item c (after_low c h k n) (half_of part pending h.with_reference h.reference (h.place + 1) numbers) has
    (λ bits. no_list (front_number k) (count - h.place - 1)
    (λ low r. Found (coded_of h.reference (Plain (take h.place h.numbers ++ map saturated (joined k (drop h.place (take count h.numbers)) (n ∷ low))))) r) bits (omega (arith, last))
    ∙ ap (λ codes. Found (coded_of h.reference (Plain codes)) bits)
    (low_codes k count h.place n h.numbers [] (omega (arith, last)) within
    ∙ (ap (λ m. take h.place h.numbers ++ m ∷ map saturated (joined k rest [])) (sym code_is)
    ∙ (ap (λ ys. take h.place h.numbers ++ code ∷ map saturated ys) (joined_none k rest) ∙ taken))))

pub pairs_whole : (c : Coding) (h : Half) (n : ℕ) (part : Part) (pending : Pending) (kind : Kind) (pairs codes written : List ℕ) → HasReference c h.with_reference h.reference
    → h.place + 1 ≡ c.block / 2 → h.place < length h.numbers → pairs ≡ take (h.place + 1) (set h.numbers h.place n)
    → IsSpread (skipped h.with_reference) pairs kind codes → take (count_of c h) written ≡ codes
    → WholeItem c (after_pairs c h n) kind (half_of part pending h.with_reference h.reference (h.place + 1) written)
pairs_whole c h n part pending kind pairs codes written has last within are spread codes_are = record {
  item = Second pairs;
  found = λ bits. no_list front_sequence (c.block / 2 - h.place - 1) (λ ps r. Found (coded_of h.reference (Second (take h.place h.numbers ++ n ∷ map saturated ps))) r) bits (omega (arith, last))
      ∙ ap (λ ps. Found (coded_of h.reference (Second ps)) bits) (sym (are ∙ taken_more h.numbers h.place n within));
  kind_is = second_kind c h.with_reference pairs kind (take (count_of c h) written) (subst (IsSpread (skipped h.with_reference) pairs kind) (sym codes_are) spread);
  reference_is = has;
}

-- ---- the beginning of an item

pub padded_begun : (c : Coding) (s : Bool) (padding : ℕ) (reference : Option ℕ) (place : ℕ) (numbers : List ℕ) (bits : List Bool) → padding ≤ length bits
    → front_half c (half_of Padding (Bits 0 padding) s reference place numbers) bits ≡ capped (front_item c s (drop padding bits))
padded_begun c s padding reference place numbers bits enough =
    ap (λ f. and_then f (λ n r. capped (front_item c s r))) (fresh_bits padding bits ∙ number_found padding bits enough)

-- ---- a number that is whole

pub stands_by : (c : Coding) (h : Half) (p : Part) (q : Pending) (part : Part) (P Q : ℕ → Type 0) (R S : Type 0) → ((w : ℕ) → P w → Q w) → (R → S) → Stands c h part P R
    → Stands c (half_of p q h.with_reference h.reference h.place h.numbers) part Q S
stands_by c h p q Padding P Q R S one two is = one 7 is
stands_by c h p q Identifier P Q R S one two is = one (identifier_width c) is
stands_by c h p q Extension P Q R S one two is = one 1 is
stands_by c h p q (Reference shape) P Q R S one two is = (one c.bits is.0, is.1, is.2)
stands_by c h p q Count P Q R S one two is = (two is.0, is.1)
stands_by c h p q Pairs P Q R S one two is = (two is.0, is.1, is.2)
stands_by c h p q (High k) P Q R S one two is = (two is.0, is.1, is.2, is.3)
stands_by c h p q (Low k) P Q R S one two is = (one k is.0, is.1, is.2, is.3)
stands_by c h p q Codes P Q R S one two is = (one c.bits is.0, is.1)

-- what follows a number is not what is pending
after_same : (c : Coding) (h : Half) (p : Part) (q : Pending) (part : Part) (n : ℕ) (bits : List Bool)
    → after_part c h part n bits ≡ after_part c (half_of p q h.with_reference h.reference h.place h.numbers) part n bits
after_same c h p q Padding n bits = refl
after_same c h p q Identifier n bits = refl
after_same c h p q Extension n bits = refl
after_same c h p q (Reference shape) n bits = refl
after_same c h p q Count n bits = refl
after_same c h p q Pairs n bits = refl
after_same c h p q (High k) n bits = refl
after_same c h p q (Low k) n bits = refl
after_same c h p q Codes n bits = refl

gone_by : (c : Coding) (front other : List Bool → Front Coded) (result : Option Kind) (half : Half) → Gone c front result half → ((bits : List Bool) → other bits ≡ front bits) → Gone c other result half
gone_by c front other None half on same = goes_on c front other half on same
gone_by c front other (Some kind) half is same = record {
  item = is.item;
  found = λ bits. same bits ∙ is.found bits;
  kind_is = is.kind_is;
  reference_is = is.reference_is;
}

-- a number that was completed by a bit
pub gone_on : (c : Coding) (h after : Half) (q : Pending) (bit : Bool) (n : ℕ) (result : Option Kind) → ((bits : List Bool) → front_pending h.pending (bit ∷ bits) ≡ Found n bits)
    → Gone c (after_part c (half_of h.part q h.with_reference h.reference h.place h.numbers) h.part n) result after
    → Gone c (λ bits. front_half c h (bit ∷ bits)) result after
gone_on c h after q bit n result found gone =
    gone_by c (after_part c (half_of h.part q h.with_reference h.reference h.place h.numbers) h.part n) (λ bits. front_half c h (bit ∷ bits)) result after gone
    (λ bits. ap (λ f. and_then f (λ m r. after_part c h h.part m r)) (found bits) ∙ after_same c h h.part q h.part n bits)
