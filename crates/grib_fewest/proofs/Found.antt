-- What is found at the front of bits are the bits of it.
use Rattle.std.proofs.Common.{inl, inr, ◌⊎◌, ◌≡◌, ℕ, zero, suc, ◌+◌, ◌-◌, ◌/◌, ◌^◌, ◌<◌, ◌≤◌, Bool, true, false, cond, nat_le, ◌==◌, List, [], ◌∷◌, ◌++◌, take, drop, length, Option, Some, None, refl, sym, ap, ap₂, ◌∙◌, subst, arith, append_assoc, take-append-drop}
use Rattle.std.specs.List.{All}
use Rattle.std.proofs.lemmas.Bool.{cases_lt, cases_eq, le-leb, lt-leb, eq-eqb, ne_eqb}
use Rattle.std.proofs.lemmas.List.{length-take-le}
use Rattle.std.proofs.lemmas.List.Elements.{All-nil, All-cons}
use Rattle.grib_bits.specs.Bits.{bits_of, num}
use Rattle.grib_bits.proofs.Numbers.{bits_of-num, num-lt}
use Rattle.grib_coding.specs.declared.coding.Coding.{Coding}
use Rattle.grib_coding.specs.Coding.{identifier_width}
use Rattle.grib_coding.specs.Items.{Run, Second, Split, Plain, IsItem, sequence, all_bits}
use Rattle.grib_coding.specs.Reading.{Front, Ended, Found, Coded, coded_of, and_then, front_number, front_sequence, front_list, front_reference, front_zero, front_plain, front_split, front_kind, front_item, skipped}
use Rattle.grib_coding.specs.Written.{coded_bits, reference_bits, skip_of}

-- ---- parts that are found one after another

pub record IsFound {A : Type 0} (front : Front A) : Type 0 where
  pub value : A
  pub rest : List Bool
  pub is : front ≡ Found value rest

pub found_or_ended : {A : Type 0} (front : Front A) → (front ≡ Ended) ⊎ IsFound front
found_or_ended Ended = inl refl
found_or_ended (Found value rest) = inr (record { value = value; rest = rest; is = refl })

-- both parts of what was found
pub record Both {A B : Type 0} (front : Front A) (next : A → List Bool → Front B) (found : Front B) : Type 0 where
  pub value : A
  pub rest : List Bool
  pub first : front ≡ Found value rest
  pub second : next value rest ≡ found

pub parts : {A B : Type 0} (front : Front A) (next : A → List Bool → Front B) (y : B) (rest : List Bool) → and_then front next ≡ Found y rest
    → Both front next (Found y rest)
parts Ended next y rest is = cc
parts (Found x rest') next y rest is = record { value = x; rest = rest'; first = refl; second = is }

-- ---- numbers

number_found : (width : ℕ) (bits : List Bool) (n : ℕ) (rest : List Bool) → front_number width bits ≡ Found n rest
    → (bits ≡ bits_of width n ++ rest) × (n < 2 ^ width)
number_found width bits n rest is =
    let front = take width bits in
    let behind = drop width bits in
    let test : Bool → Front ℕ = λ (t : Bool). cond t (Found (num front) behind) Ended in
    elim (cases_lt (length bits) width) [
      | inl short ↦
          let none : test (nat_le width (length bits)) ≡ Ended = ap test (lt-leb width (length bits) short) in
          let no : Found n rest ≡ Ended = sym is ∙ none in cc
      | inr enough ↦
          let some : test (nat_le width (length bits)) ≡ Found (num front) behind = ap test (le-leb width (length bits) enough) in
          let both : Found (num front) behind ≡ Found n rest = sym some ∙ is in
          let number : num front ≡ n = cc in
          let left : behind ≡ rest = cc in
          let long : length front ≡ width = length-take-le width bits enough in
          let small : num front < 2 ^ length front = num-lt front in (
            sym (take-append-drop width bits)
                ∙ (ap (λ (xs : List Bool). xs ++ behind) (sym (bits_of-num front))
                ∙ (ap₂ (λ (w m : ℕ). bits_of w m ++ behind) long number
                ∙ ap (λ (xs : List Bool). bits_of width n ++ xs) left)),
            omega (arith, small, number, ap (λ (w : ℕ). 2 ^ w) long),
          )
    ]

sequence_found : (bits : List Bool) (n : ℕ) (rest : List Bool) → front_sequence bits ≡ Found n rest → bits ≡ sequence n ++ rest
sequence_found [] n rest is = cc
sequence_found (true ∷ bits) n rest is =
    let number : 0 ≡ n = cc in
    let left : bits ≡ rest = cc in
    ap₂ (λ (m : ℕ) (xs : List Bool). sequence m ++ xs) number left
sequence_found (false ∷ bits) n rest is =
    let p = parts (front_sequence bits) (λ number rest'. Found (suc number) rest') n rest is in
    let both : Found (suc p.value) p.rest ≡ Found n rest = p.second in
    let number : suc p.value ≡ n = cc in
    let left : p.rest ≡ rest = cc in
    ap (λ (xs : List Bool). false ∷ xs) (sequence_found bits p.value p.rest p.first)
    ∙ ap₂ (λ (m : ℕ) (xs : List Bool). sequence m ++ xs) number left

-- numbers one after another
record Listed (one : ℕ → List Bool) (P : ℕ → Type 0) (count : ℕ) (bits : List Bool) (numbers : List ℕ) (rest : List Bool) : Type 0 where
  pub stand : bits ≡ all_bits one numbers ++ rest
  pub long : length numbers ≡ count
  pub all : All P numbers

list_found : (front : List Bool → Front ℕ) (one : ℕ → List Bool) (P : ℕ → Type 0)
    → ((bits : List Bool) (n : ℕ) (rest : List Bool) → front bits ≡ Found n rest → (bits ≡ one n ++ rest) × P n)
    → (count : ℕ) (bits : List Bool) (numbers : List ℕ) (rest : List Bool) → front_list front count bits ≡ Found numbers rest
    → Listed one P count bits numbers rest
list_found front one P each zero bits numbers rest is =
    let none : [] ≡ numbers = cc in
    let left : bits ≡ rest = cc in
    subst (λ (ns : List ℕ). Listed one P 0 bits ns rest) none (record { stand = left; long = refl; all = All-nil P })
list_found front one P each (suc count) bits numbers rest is =
    let p = parts (front bits) (λ number rest'. and_then (front_list front count rest') (λ ns rest''. Found (number ∷ ns) rest'')) numbers rest is in
    let q = parts (front_list front count p.rest) (λ ns rest''. Found (p.value ∷ ns) rest'') numbers rest p.second in
    let both : Found (p.value ∷ q.value) q.rest ≡ Found numbers rest = q.second in
    let whole : p.value ∷ q.value ≡ numbers = cc in
    let left : q.rest ≡ rest = cc in
    let first = each bits p.value p.rest p.first in
    let later = list_found front one P each count p.rest q.value q.rest q.first in
    subst (λ (ns : List ℕ). Listed one P (suc count) bits ns rest) whole (record {
      stand = first.0 ∙ (ap (λ (xs : List Bool). one p.value ++ xs) (later.stand ∙ ap (λ (xs : List Bool). all_bits one q.value ++ xs) left)
          ∙ sym (append_assoc (one p.value) (all_bits one q.value) rest));
      long = ap suc later.long;
      all = All-cons P p.value q.value first.1 later.all;
    })

sequences_found : (count : ℕ) (bits : List Bool) (numbers : List ℕ) (rest : List Bool) → front_list front_sequence count bits ≡ Found numbers rest
    → Listed sequence (λ n. Unit {0}) count bits numbers rest
sequences_found = list_found front_sequence sequence (λ n. Unit {0}) (λ bits n rest is. (sequence_found bits n rest is, tt))

numbers_found : (width count : ℕ) (bits : List Bool) (numbers : List ℕ) (rest : List Bool)
    → front_list (front_number width) count bits ≡ Found numbers rest → Listed (bits_of width) (λ n. n < 2 ^ width) count bits numbers rest
numbers_found width = list_found (front_number width) (bits_of width) (λ n. n < 2 ^ width) (λ bits n rest is. number_found width bits n rest is)

-- ---- items

reference_found : (c : Coding) (t : Bool) (bits : List Bool) (reference : Option ℕ) (rest : List Bool)
    → front_reference c t bits ≡ Found reference rest → (bits ≡ reference_bits c reference ++ rest) × (skip_of reference ≡ skipped t)
reference_found c false bits reference rest is =
    let nothing : Option ℕ = None in
    let none : nothing ≡ reference = cc in
    let left : bits ≡ rest = cc in
    (ap₂ (λ (r : Option ℕ) (xs : List Bool). reference_bits c r ++ xs) none left, ap skip_of (sym none))
reference_found c true bits reference rest is =
    let p = parts (front_number c.bits bits) (λ number rest'. Found (Some number) rest') reference rest is in
    let both : Found (Some p.value) p.rest ≡ Found reference rest = p.second in
    let some : Some p.value ≡ reference = cc in
    let left : p.rest ≡ rest = cc in (
      (number_found c.bits bits p.value p.rest p.first).0 ∙ ap₂ (λ (r : Option ℕ) (xs : List Bool). reference_bits c r ++ xs) some left,
      ap skip_of (sym some),
    )

-- an item that is found, behind its identifier
record Behind (c : Coding) (identifier : ℕ) (bits : List Bool) (coded : Coded) (rest : List Bool) : Type 0 where
  pub stand : bits_of (identifier_width c) identifier ++ bits ≡ coded_bits c coded ++ rest
  pub is : IsItem c (skip_of coded.reference) coded.item

-- what stands behind an identifier, in two parts and in three
two_stand : (head one two bits rest₁ rest₂ rest : List Bool) → bits ≡ one ++ rest₁ → rest₁ ≡ two ++ rest₂ → rest₂ ≡ rest
    → head ++ bits ≡ (head ++ (one ++ two)) ++ rest
two_stand head one two bits rest₁ rest₂ rest first second left =
    ap (λ (xs : List Bool). head ++ xs) (first ∙ (ap (λ (xs : List Bool). one ++ xs) (second ∙ ap (λ (xs : List Bool). two ++ xs) left)
    ∙ sym (append_assoc one two rest)))
    ∙ sym (append_assoc head (one ++ two) rest)

three_stand : (head one two last bits rest₁ rest₂ rest₃ rest : List Bool) → bits ≡ one ++ rest₁ → rest₁ ≡ two ++ rest₂ → rest₂ ≡ last ++ rest₃
    → rest₃ ≡ rest → head ++ bits ≡ (head ++ (one ++ (two ++ last))) ++ rest
three_stand head one two last bits rest₁ rest₂ rest₃ rest first second third left =
    two_stand head one (two ++ last) bits rest₁ rest rest first
    (second ∙ (ap (λ (xs : List Bool). two ++ xs) (third ∙ ap (λ (xs : List Bool). last ++ xs) left) ∙ sym (append_assoc two last rest))) refl

run_found : (c : Coding) (t : Bool) (bits : List Bool) (coded : Coded) (rest : List Bool) → front_zero c t 0 bits ≡ Found coded rest
    → Behind c 0 (false ∷ bits) coded rest
run_found c t bits coded rest is =
    let p = parts (front_reference c t bits) (λ reference rest'. and_then (front_sequence rest') (λ number rest''.
    Found (coded_of reference (Run number)) rest'')) coded rest is in
    let q = parts (front_sequence p.rest) (λ number rest''. Found (coded_of p.value (Run number)) rest'') coded rest p.second in
    let both : Found (coded_of p.value (Run q.value)) q.rest ≡ Found coded rest = q.second in
    let whole : coded_of p.value (Run q.value) ≡ coded = cc in
    let left : q.rest ≡ rest = cc in
    let r = reference_found c t bits p.value p.rest p.first in
    subst (λ (co : Coded). Behind c 0 (false ∷ bits) co rest) whole (record {
      stand = two_stand (bits_of (identifier_width c) 0) (false ∷ reference_bits c p.value) (sequence q.value) (false ∷ bits) p.rest q.rest rest
          (ap (λ (xs : List Bool). false ∷ xs) r.0) (sequence_found p.rest q.value q.rest q.first) left;
      is = tt;
    })

second_found : (c : Coding) (t : Bool) (bits : List Bool) (coded : Coded) (rest : List Bool) → front_zero c t 1 bits ≡ Found coded rest
    → Behind c 0 (true ∷ bits) coded rest
second_found c t bits coded rest is =
    let p = parts (front_reference c t bits) (λ reference rest'. and_then (front_list front_sequence (c.block / 2) rest') (λ pairs rest''.
    Found (coded_of reference (Second pairs)) rest'')) coded rest is in
    let q = parts (front_list front_sequence (c.block / 2) p.rest) (λ pairs rest''. Found (coded_of p.value (Second pairs)) rest'') coded rest p.second in
    let both : Found (coded_of p.value (Second q.value)) q.rest ≡ Found coded rest = q.second in
    let whole : coded_of p.value (Second q.value) ≡ coded = cc in
    let left : q.rest ≡ rest = cc in
    let r = reference_found c t bits p.value p.rest p.first in
    let numbers = sequences_found (c.block / 2) p.rest q.value q.rest q.first in
    subst (λ (co : Coded). Behind c 0 (true ∷ bits) co rest) whole (record {
      stand = two_stand (bits_of (identifier_width c) 0) (true ∷ reference_bits c p.value) (all_bits sequence q.value) (true ∷ bits) p.rest q.rest rest
          (ap (λ (xs : List Bool). true ∷ xs) r.0) numbers.stand left;
      is = numbers.long;
    })

zero_found : (c : Coding) (t : Bool) (bit : ℕ) (bits : List Bool) (coded : Coded) (rest : List Bool) → bit < 2
    → front_zero c t bit bits ≡ Found coded rest → Behind c 0 (bits_of 1 bit ++ bits) coded rest
zero_found c t zero bits coded rest small is = run_found c t bits coded rest is
zero_found c t (suc zero) bits coded rest small is = second_found c t bits coded rest is
zero_found c t (suc (suc bit)) bits coded rest small is = absurd (omega arith)

skipped_few : (t : Bool) → skipped t ≤ 1
skipped_few true = omega arith
skipped_few false = omega arith

plain_found : (c : Coding) (t : Bool) (bits : List Bool) (coded : Coded) (rest : List Bool) → 1 ≤ c.block
    → front_plain c t bits ≡ Found coded rest → Behind c (2 ^ identifier_width c - 1) bits coded rest
plain_found c t bits coded rest some is =
    let count = c.block - skipped t in
    let p = parts (front_reference c t bits) (λ reference rest'. and_then (front_list (front_number c.bits) count rest') (λ codes rest''.
    Found (coded_of reference (Plain codes)) rest'')) coded rest is in
    let q = parts (front_list (front_number c.bits) count p.rest) (λ codes rest''. Found (coded_of p.value (Plain codes)) rest'') coded rest p.second in
    let both : Found (coded_of p.value (Plain q.value)) q.rest ≡ Found coded rest = q.second in
    let whole : coded_of p.value (Plain q.value) ≡ coded = cc in
    let left : q.rest ≡ rest = cc in
    let r = reference_found c t bits p.value p.rest p.first in
    let numbers = numbers_found c.bits count p.rest q.value q.rest q.first in
    let ones = bits_of (identifier_width c) (2 ^ identifier_width c - 1) in
    subst (λ (co : Coded). Behind c (2 ^ identifier_width c - 1) bits co rest) whole (record {
      stand = two_stand ones (reference_bits c p.value) (all_bits (bits_of c.bits) q.value) bits p.rest q.rest rest r.0 numbers.stand left;
      is = (omega (arith, numbers.long, r.1, skipped_few t, some), numbers.all);
    })

split_found : (c : Coding) (t : Bool) (k : ℕ) (bits : List Bool) (coded : Coded) (rest : List Bool) → 1 ≤ c.block
    → k + 3 ≤ 2 ^ identifier_width c → front_split c t k bits ≡ Found coded rest → Behind c (k + 1) bits coded rest
split_found c t k bits coded rest some few is =
    let count = c.block - skipped t in
    let p = parts (front_reference c t bits) (λ reference rest'. and_then (front_list front_sequence count rest') (λ high rest''.
    and_then (front_list (front_number k) count rest'') (λ low rest'''. Found (coded_of reference (Split k high low)) rest'''))) coded rest is in
    let q = parts (front_list front_sequence count p.rest) (λ high rest''.
    and_then (front_list (front_number k) count rest'') (λ low rest'''. Found (coded_of p.value (Split k high low)) rest''')) coded rest p.second in
    let u = parts (front_list (front_number k) count q.rest) (λ low rest'''. Found (coded_of p.value (Split k q.value low)) rest''') coded rest q.second in
    let both : Found (coded_of p.value (Split k q.value u.value)) u.rest ≡ Found coded rest = u.second in
    let whole : coded_of p.value (Split k q.value u.value) ≡ coded = cc in
    let left : u.rest ≡ rest = cc in
    let r = reference_found c t bits p.value p.rest p.first in
    let highs = sequences_found count p.rest q.value q.rest q.first in
    let lows = numbers_found k count q.rest u.value u.rest u.first in
    let identifier = bits_of (identifier_width c) (k + 1) in
    subst (λ (co : Coded). Behind c (k + 1) bits co rest) whole (record {
      stand = three_stand identifier (reference_bits c p.value) (all_bits sequence q.value) (all_bits (bits_of k) u.value) bits p.rest q.rest u.rest rest
          r.0 highs.stand lows.stand left;
      is = (few, omega (arith, highs.long, r.1, skipped_few t, some), omega (arith, lows.long, r.1, skipped_few t, some), lows.all);
    })

kind_found : (c : Coding) (t : Bool) (identifier : ℕ) (bits : List Bool) (coded : Coded) (rest : List Bool) → 1 ≤ c.block
    → identifier < 2 ^ identifier_width c → front_kind c t (identifier + 1 == 2 ^ identifier_width c) identifier bits ≡ Found coded rest
    → Behind c identifier bits coded rest
kind_found c t zero bits coded rest some small is =
    let p = parts (front_number 1 bits) (λ bit rest'. front_zero c t bit rest') coded rest is in
    let n = number_found 1 bits p.value p.rest p.first in
    subst (λ (xs : List Bool). Behind c 0 xs coded rest) (sym n.0) (zero_found c t p.value p.rest coded rest n.1 p.second)
kind_found c t (suc k) bits coded rest some small is =
    let power = 2 ^ identifier_width c in
    elim (cases_eq (suc k + 1) power) [
      | inl greatest_one ↦
          let as_plain : front_plain c t bits ≡ Found coded rest =
          ap (λ (b : Bool). front_kind c t b (suc k) bits) (sym (eq-eqb (suc k + 1) power greatest_one)) ∙ is in
          let same : power - 1 ≡ suc k = omega (arith, greatest_one) in
          subst (λ (n : ℕ). Behind c n bits coded rest) same (plain_found c t bits coded rest some as_plain)
      | inr other ↦
          let as_split : front_split c t k bits ≡ Found coded rest =
          ap (λ (b : Bool). front_kind c t b (suc k) bits) (sym (ne_eqb (suc k + 1) power other)) ∙ is in
          let same : k + 1 ≡ suc k = omega arith in
          subst (λ (n : ℕ). Behind c n bits coded rest) same
          (split_found c t k bits coded rest some (omega (arith, small, other)) as_split)
    ]

pub item_found : (c : Coding) (t : Bool) (bits : List Bool) (coded : Coded) (rest : List Bool) → 1 ≤ c.block
    → front_item c t bits ≡ Found coded rest → (bits ≡ coded_bits c coded ++ rest) × IsItem c (skip_of coded.reference) coded.item
item_found c t bits coded rest some is =
    let w = identifier_width c in
    let p = parts (front_number w bits) (λ identifier rest'. front_kind c t (identifier + 1 == 2 ^ w) identifier rest') coded rest is in
    let n = number_found w bits p.value p.rest p.first in
    let b = kind_found c t p.value p.rest coded rest some n.1 p.second in
    (n.0 ∙ b.stand, b.is)
