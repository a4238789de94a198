-- Items that are read back from their bits.
use Rattle.std.proofs.Common.{lit<, ◌≡◌, ℕ, zero, suc, ◌+◌, ◌-◌, ◌/◌, ◌^◌, ◌<◌, ◌≤◌, Bool, true, false, cond, List, [], ◌∷◌, ◌++◌, length, take, drop, refl, sym, ap, ap₂, ◌∙◌, arith, append_assoc, length-append, nat_le, ◌==◌, Option, Some, None}
use Rattle.std.specs.List.{All}
use Rattle.std.proofs.Math.Nat.{mod-eq_of_lt, pow-le-pow_right}
use Rattle.std.proofs.Math.Seq.{take-append_seam, drop-append_seam}
use Rattle.std.proofs.lemmas.Nat.{pow_pos}
use Rattle.std.proofs.lemmas.Bool.{le-leb, eq-eqb, ne_eqb}
use Rattle.std.proofs.lemmas.Bool.Decides.{nat_tests}
use Rattle.std.proofs.lemmas.List.Elements.{All-head, All-tail}
use Rattle.grib_bits.specs.Bits.{bits_of, num}
use Rattle.grib_bits.proofs.Numbers.{length-bits_of, num-bits_of}
use Rattle.grib_coding.specs.declared.coding.Coding.{Coding}
use Rattle.grib_coding.specs.Coding.{identifier_width}
use Rattle.grib_coding.specs.Items.{Item, Run, Second, Split, Plain, sequence, all_bits, item_bits, IsItem}
use Rattle.grib_coding.specs.Reading.{Front, Ended, Found, Coded, and_then, front_number, front_sequence, front_list, front_reference, front_zero, front_plain, front_split, front_kind, front_item, skipped}

-- ---- one number

at_front : (front rest : List Bool) (width : ℕ) → length front ≡ width → front_number width (front ++ rest) ≡ Found (num front) rest
at_front front rest width long =
    let all = front ++ rest in
    let enough : nat_le width (length all) ≡ true = le-leb width (length all) (omega (arith, long, length-append front rest)) in
    let front_is : take width all ≡ front = ap (λ w. take w all) (sym long) ∙ take-append_seam front rest in
    let rest_is : drop width all ≡ rest = ap (λ w. drop w all) (sym long) ∙ drop-append_seam front rest in
    ap (λ t. cond t (Found (num (take width all)) (drop width all)) Ended) enough
    ∙ ap₂ (λ xs ys. Found (num xs) ys) front_is rest_is

pub front_number-bits_of : (width n : ℕ) (rest : List Bool) → n < 2 ^ width → front_number width (bits_of width n ++ rest) ≡ Found n rest
front_number-bits_of width n rest fits =
    at_front (bits_of width n) rest width (length-bits_of width n)
    ∙ ap (λ m. Found m rest) (num-bits_of width n ∙ mod-eq_of_lt fits)

pub front_sequence-sequence : (zeros : ℕ) (rest : List Bool) → front_sequence (sequence zeros ++ rest) ≡ Found zeros rest
front_sequence-sequence zero rest = refl
front_sequence-sequence (suc zeros) rest =
    ap (λ front. and_then front (λ n rest'. Found (suc n) rest')) (front_sequence-sequence zeros rest)

-- ---- numbers one after another

pub front_list-all : (front : List Bool → Front ℕ) (bits : ℕ → List Bool) (P : ℕ → Type 0)
    → ((n : ℕ) (rest : List Bool) → P n → front (bits n ++ rest) ≡ Found n rest)
    → (numbers : List ℕ) (rest : List Bool) → All P numbers
    → front_list front (length numbers) (all_bits bits numbers ++ rest) ≡ Found numbers rest
front_list-all front bits P one [] rest all = refl
front_list-all front bits P one (n ∷ numbers) rest all =
    let behind = all_bits bits numbers ++ rest in
    let joined : (bits n ++ all_bits bits numbers) ++ rest ≡ bits n ++ behind = append_assoc (bits n) (all_bits bits numbers) rest in
    ap (λ xs. and_then (front xs) (λ number rest'. and_then (front_list front (length numbers) rest') (λ ns rest''. Found (number ∷ ns) rest''))) joined
    ∙ (ap (λ f. and_then f (λ number rest'. and_then (front_list front (length numbers) rest') (λ ns rest''. Found (number ∷ ns) rest'')))
    (one n behind (All-head P n numbers all))
    ∙ ap (λ f. and_then f (λ ns rest''. Found (n ∷ ns) rest''))
    (front_list-all front bits P one numbers rest (All-tail P n numbers all)))

always : (numbers : List ℕ) → All (λ n. Unit {0}) numbers
always numbers k d within = tt

pub front_sequences : (numbers : List ℕ) (rest : List Bool) (count : ℕ) → length numbers ≡ count
    → front_list front_sequence count (all_bits sequence numbers ++ rest) ≡ Found numbers rest
front_sequences numbers rest count long =
    ap (λ n. front_list front_sequence n (all_bits sequence numbers ++ rest)) (sym long)
    ∙ front_list-all front_sequence sequence (λ n. Unit {0}) (λ n r _. front_sequence-sequence n r) numbers rest (always numbers)

pub front_numbers : (width : ℕ) (numbers : List ℕ) (rest : List Bool) (count : ℕ) → length numbers ≡ count → All (λ n. n < 2 ^ width) numbers
    → front_list (front_number width) count (all_bits (bits_of width) numbers ++ rest) ≡ Found numbers rest
front_numbers width numbers rest count long fit =
    ap (λ n. front_list (front_number width) n (all_bits (bits_of width) numbers ++ rest)) (sym long)
    ∙ front_list-all (front_number width) (bits_of width) (λ n. n < 2 ^ width) (λ n r fits. front_number-bits_of width n r fits) numbers rest fit

-- ---- items

-- the bits of a reference, and that it is read back from them
pub record IsReference (c : Coding) (with_reference : Bool) (bits : List Bool) (reference : Option ℕ) : Type 0 where
  pub read : (rest : List Bool) → front_reference c with_reference (bits ++ rest) ≡ Found reference rest

pub no_reference : (c : Coding) → IsReference c false [] None
no_reference c = record { read = λ rest. refl }

pub some_reference : (c : Coding) (number : ℕ) → number < 2 ^ c.bits → IsReference c true (bits_of c.bits number) (Some number)
some_reference c number fits = record {
  read = λ rest.
      ap (λ front. and_then front (λ n rest'. Found (Some n) rest')) (front_number-bits_of c.bits number rest fits);
}

some_width : (c : Coding) → 1 ≤ identifier_width c
some_width c = grind (arith, nat_tests)

-- what follows an identifier, where it is this one
identified : (c : Coding) (s : Bool) (identifier : ℕ) (rest : List Bool) → identifier < 2 ^ identifier_width c
    → front_item c s (bits_of (identifier_width c) identifier ++ rest)
    ≡ front_kind c s (identifier + 1 == 2 ^ identifier_width c) identifier rest
identified c s identifier rest fits =
    ap (λ front. and_then front (λ i rest'. front_kind c s (i + 1 == 2 ^ identifier_width c) i rest'))
    (front_number-bits_of (identifier_width c) identifier rest fits)

-- one step of reading
chain : {A B : Type 0} (front : Front A) (next : A → List Bool → Front B) (x : A) (rest : List Bool) (end : Front B)
    → front ≡ Found x rest → next x rest ≡ end → and_then front next ≡ end
chain front next x rest end is then = ap (λ f. and_then f next) is ∙ then

run_back : (c : Coding) (s : Bool) (bits : List Bool) (reference : Option ℕ) (zeros : ℕ) (rest : List Bool)
    → IsReference c s bits reference
    → front_item c s (item_bits c bits (Run zeros) ++ rest) ≡ Found (record { reference = reference; item = Run zeros }) rest
run_back c s bits reference zeros rest r =
    let w = identifier_width c in
    let end : Front Coded = Found (record { reference = reference; item = Run zeros }) rest in
    let behind = (bits ++ sequence zeros) ++ rest in
    ap (front_item c s) (append_assoc (bits_of w 0) (false ∷ (bits ++ sequence zeros)) rest)
    ∙ (identified c s 0 (false ∷ behind) (pow_pos w)
    ∙ chain (front_number 1 (false ∷ behind)) (λ bit rest'. front_zero c s bit rest') 0 behind end
    (front_number-bits_of 1 0 behind (lit< tt))
    (ap (front_zero c s 0) (append_assoc bits (sequence zeros) rest)
    ∙ chain (front_reference c s (bits ++ (sequence zeros ++ rest)))
    (λ ref rest'. and_then (front_sequence rest') (λ z rest''. Found (record { reference = ref; item = Run z }) rest''))
    reference (sequence zeros ++ rest) end (r.read (sequence zeros ++ rest))
    (ap (λ f. and_then f (λ z rest''. Found (record { reference = reference; item = Run z }) rest''))
    (front_sequence-sequence zeros rest))))

second_back : (c : Coding) (s : Bool) (bits : List Bool) (reference : Option ℕ) (pairs : List ℕ) (rest : List Bool)
    → IsReference c s bits reference → length pairs ≡ c.block / 2
    → front_item c s (item_bits c bits (Second pairs) ++ rest) ≡ Found (record { reference = reference; item = Second pairs }) rest
second_back c s bits reference pairs rest r long =
    let w = identifier_width c in
    let end : Front Coded = Found (record { reference = reference; item = Second pairs }) rest in
    let behind = (bits ++ all_bits sequence pairs) ++ rest in
    ap (front_item c s) (append_assoc (bits_of w 0) (true ∷ (bits ++ all_bits sequence pairs)) rest)
    ∙ (identified c s 0 (true ∷ behind) (pow_pos w)
    ∙ chain (front_number 1 (true ∷ behind)) (λ bit rest'. front_zero c s bit rest') 1 behind end
    (front_number-bits_of 1 1 behind (lit< tt))
    (ap (front_zero c s 1) (append_assoc bits (all_bits sequence pairs) rest)
    ∙ chain (front_reference c s (bits ++ (all_bits sequence pairs ++ rest)))
    (λ ref rest'. and_then (front_list front_sequence (c.block / 2) rest') (λ ms rest''. Found (record { reference = ref; item = Second ms }) rest''))
    reference (all_bits sequence pairs ++ rest) end (r.read (all_bits sequence pairs ++ rest))
    (ap (λ f. and_then f (λ ms rest''. Found (record { reference = reference; item = Second ms }) rest''))
    (front_sequences pairs rest (c.block / 2) long))))

plain_back : (c : Coding) (s : Bool) (bits : List Bool) (reference : Option ℕ) (codes : List ℕ) (rest : List Bool)
    → IsReference c s bits reference → length codes + skipped s ≡ c.block → All (λ code. code < 2 ^ c.bits) codes
    → front_item c s (item_bits c bits (Plain codes) ++ rest) ≡ Found (record { reference = reference; item = Plain codes }) rest
plain_back c s bits reference codes rest r long fit =
    let w = identifier_width c in
    let end : Front Coded = Found (record { reference = reference; item = Plain codes }) rest in
    let numbers = all_bits (bits_of c.bits) codes in
    let two : 2 ^ 1 ≤ 2 ^ w = pow-le-pow_right {n = 2} (lit< tt) (some_width c) in
    let last : 2 ^ w - 1 ≡ suc (2 ^ w - 2) = omega (arith, two) in
    let greatest_one : (2 ^ w - 1 + 1 == 2 ^ w) ≡ true = eq-eqb (2 ^ w - 1 + 1) (2 ^ w) (omega (arith, two)) in
    ap (front_item c s) (append_assoc (bits_of w (2 ^ w - 1)) (bits ++ numbers) rest)
    ∙ (identified c s (2 ^ w - 1) ((bits ++ numbers) ++ rest) (omega (arith, two))
    ∙ (ap₂ (λ t i. front_kind c s t i ((bits ++ numbers) ++ rest)) greatest_one last
    ∙ (ap (front_plain c s) (append_assoc bits numbers rest)
    ∙ chain (front_reference c s (bits ++ (numbers ++ rest)))
    (λ ref rest'. and_then (front_list (front_number c.bits) (c.block - skipped s) rest') (λ xs rest''. Found (record { reference = ref; item = Plain xs }) rest''))
    reference (numbers ++ rest) end (r.read (numbers ++ rest))
    (ap (λ f. and_then f (λ xs rest''. Found (record { reference = reference; item = Plain xs }) rest''))
    (front_numbers c.bits codes rest (c.block - skipped s) (omega (arith, long)) fit)))))

split_back : (c : Coding) (s : Bool) (bits : List Bool) (reference : Option ℕ) (k : ℕ) (high low : List ℕ) (rest : List Bool)
    → IsReference c s bits reference → k + 3 ≤ 2 ^ identifier_width c → length high + skipped s ≡ c.block
    → length low + skipped s ≡ c.block → All (λ l. l < 2 ^ k) low
    → front_item c s (item_bits c bits (Split k high low) ++ rest) ≡ Found (record { reference = reference; item = Split k high low }) rest
split_back c s bits reference k high low rest r few long_high long_low fit =
    let w = identifier_width c in
    let end : Front Coded = Found (record { reference = reference; item = Split k high low }) rest in
    let highs = all_bits sequence high in
    let lows = all_bits (bits_of k) low in
    let more : k + 1 ≡ suc k = omega arith in
    let no_greatest : (k + 1 + 1 == 2 ^ w) ≡ false = ne_eqb (k + 1 + 1) (2 ^ w) (λ e. omega (arith, e)) in
    ap (front_item c s) (append_assoc (bits_of w (k + 1)) (bits ++ (highs ++ lows)) rest)
    ∙ (identified c s (k + 1) ((bits ++ (highs ++ lows)) ++ rest) (omega arith)
    ∙ (ap₂ (λ t i. front_kind c s t i ((bits ++ (highs ++ lows)) ++ rest)) no_greatest more
    ∙ (ap (front_split c s k) (append_assoc bits (highs ++ lows) rest ∙ ap (λ xs. bits ++ xs) (append_assoc highs lows rest))
    ∙ chain (front_reference c s (bits ++ (highs ++ (lows ++ rest))))
    (λ ref rest'. and_then (front_list front_sequence (c.block - skipped s) rest') (λ hs rest''.
    and_then (front_list (front_number k) (c.block - skipped s) rest'') (λ ls rest'''.
    Found (record { reference = ref; item = Split k hs ls }) rest''')))
    reference (highs ++ (lows ++ rest)) end (r.read (highs ++ (lows ++ rest)))
    (chain (front_list front_sequence (c.block - skipped s) (highs ++ (lows ++ rest)))
    (λ hs rest''. and_then (front_list (front_number k) (c.block - skipped s) rest'') (λ ls rest'''.
    Found (record { reference = reference; item = Split k hs ls }) rest'''))
    high (lows ++ rest) end (front_sequences high (lows ++ rest) (c.block - skipped s) (omega (arith, long_high)))
    (ap (λ f. and_then f (λ ls rest'''. Found (record { reference = reference; item = Split k high ls }) rest'''))
    (front_numbers k low rest (c.block - skipped s) (omega (arith, long_low)) fit))))))

pub item_back : (c : Coding) (s : Bool) (bits : List Bool) (reference : Option ℕ) (item : Item) (rest : List Bool)
    → IsReference c s bits reference → IsItem c (skipped s) item
    → front_item c s (item_bits c bits item ++ rest) ≡ Found (record { reference = reference; item = item }) rest
item_back c s bits reference (Run zeros) rest r is = run_back c s bits reference zeros rest r
item_back c s bits reference (Second pairs) rest r is = second_back c s bits reference pairs rest r is
item_back c s bits reference (Split k high low) rest r is = split_back c s bits reference k high low rest r is.0 is.1 is.2 is.3
item_back c s bits reference (Plain codes) rest r is = plain_back c s bits reference codes rest r is.0 is.1
