-- The bits of an item as its head and what follows that.
use Rattle.std.proofs.Common.{lit<, inl, inr, ◌≡◌, ℕ, zero, suc, ◌+◌, ◌-◌, ◌*◌, ◌/◌, ◌%◌, ◌^◌, ◌<◌, ◌≤◌, Bool, true, false, List, [], ◌∷◌, ◌++◌, length, get_or, Option, Some, None, refl, sym, ap, ◌∙◌, arith, append_assoc, append-nil, length-append}
use Rattle.grib_coding.specs.Reading.{IsWithin, coded_of}
use Rattle.std.specs.List.{All}
use Rattle.std.proofs.Math.Nat.{pow-le-pow_right}
use Rattle.std.proofs.lemmas.Nat.{one_shl, pow_pos}
use Rattle.std.proofs.lemmas.Bool.Decides.{nat_tests}
use Rattle.grib_bits.specs.Bits.{bits_of}
use Rattle.grib_bits.specs.Written.{Written}
use Rattle.grib_bits.proofs.Numbers.{bits_of-add, length-bits_of}
use Rattle.grib_coding.specs.declared.coding.Coding.{Coding}
use Rattle.grib_coding.specs.Coding.{identifier_width, greatest}
use Rattle.grib_coding.specs.Items.{Run, Second, Split, Plain, sequence, all_bits}
use Rattle.grib_coding.specs.Written.{coded_bits, reference_bits}
use Rattle.grib_block_writing.specs.Steps.{AddsBits, Leaves, head_bits}
use Rattle.grib_block_writing.proofs.Adding.{both, same_bits, number_added}

-- ---- two parts of all bits

pub first_room : (all head body : List Bool) (spare : ℕ) → all ≡ head ++ body → length all ≤ spare → length head ≤ spare
first_room all head body spare is enough = omega (arith, ap length is, length-append head body, enough)

pub second_room : (start between : Written) (all head body : List Bool) → all ≡ head ++ body → length all ≤ start.spare
    → AddsBits start between head → length body ≤ between.spare
second_room start between all head body is enough h = omega (arith, ap length is, length-append head body, enough, h.spare)

pub both_are : (start between now : Written) (all head body : List Bool) → all ≡ head ++ body → AddsBits start between head
    → AddsBits between now body → AddsBits start now all
both_are start between now all head body is h b = same_bits start now (head ++ body) all (sym is) (both start between now head body h b)

-- ---- heads

pub head_some : (start between now : Written) (c : Coding) (identifier width number wide big bits : ℕ) (reference : Option ℕ)
    → reference ≡ Some number → between.bits ≡ start.bits ++ bits_of width wide → between.spare + width ≡ start.spare → wide ≡ identifier
    → now.bits ≡ between.bits ++ bits_of bits big → now.spare + bits ≡ between.spare → big ≡ number → bits ≡ c.bits
    → AddsBits start now (head_bits c identifier width reference)
head_some start between now c identifier width number wide big bits reference is b s i b' s' i' i'' =
    same_bits start now (bits_of width wide ++ bits_of bits big) (head_bits c identifier width reference)
    (ap (λ (n : ℕ). bits_of width n ++ bits_of bits big) i ∙ (ap (λ (n : ℕ). bits_of width identifier ++ bits_of bits n) i'
    ∙ (ap (λ (n : ℕ). bits_of width identifier ++ bits_of n number) i'' ∙ ap (head_bits c identifier width) (sym is))))
    (both start between now (bits_of width wide) (bits_of bits big) (number_added start between width wide b s) (number_added between now bits big b' s'))

pub head_none : (start now : Written) (c : Coding) (identifier width wide : ℕ) (reference : Option ℕ)
    → reference ≡ None → now.bits ≡ start.bits ++ bits_of width wide → now.spare + width ≡ start.spare → wide ≡ identifier
    → AddsBits start now (head_bits c identifier width reference)
head_none start now c identifier width wide reference is b s i =
    same_bits start now (bits_of width wide) (head_bits c identifier width reference)
    (ap (bits_of width) i ∙ (sym (append-nil (bits_of width identifier)) ∙ ap (head_bits c identifier width) (sym is)))
    (number_added start now width wide b s)

pub reference_room : (c : Coding) (identifier width number spare later : ℕ) (reference : Option ℕ) → reference ≡ Some number
    → length (head_bits c identifier width reference) ≤ spare → later + width ≡ spare → c.bits ≤ later
reference_room c identifier width number spare later reference is enough s =
    omega (
      arith,
      ap (λ (r : Option ℕ). length (head_bits c identifier width r)) is,
      length-append (bits_of width identifier) (bits_of c.bits number),
      length-bits_of width identifier,
      length-bits_of c.bits number,
      enough,
      s,
    )

pub zeros_first : (width bit : ℕ) → bit < 2 → bits_of (width + 1) bit ≡ bits_of width 0 ++ bits_of 1 bit
zeros_first width bit small =
    let none : bit / 2 ^ 1 ≡ 0 = omega (arith, small) in
    bits_of-add width 1 bit ∙ ap (λ (n : ℕ). bits_of width n ++ bits_of 1 bit) none

pub run_parts : (c : Coding) (reference : Option ℕ) (number width : ℕ) → width ≡ identifier_width c
    → coded_bits c (coded_of reference (Run number)) ≡ head_bits c 0 (width + 1) reference ++ sequence number
run_parts c reference number width is =
    let w = identifier_width c in
    let r = reference_bits c reference in
    sym (append_assoc (bits_of (width + 1) 0) r (sequence number)
    ∙ (ap (λ (n : ℕ). bits_of (n + 1) 0 ++ (r ++ sequence number)) is
    ∙ (ap (λ (xs : List Bool). xs ++ (r ++ sequence number)) (zeros_first w 0 (lit< tt))
    ∙ append_assoc (bits_of w 0) (false ∷ []) (r ++ sequence number))))

pub second_parts : (c : Coding) (reference : Option ℕ) (pairs : List ℕ) (width : ℕ) → width ≡ identifier_width c
    → coded_bits c (coded_of reference (Second pairs)) ≡ head_bits c 1 (width + 1) reference ++ all_bits sequence pairs
second_parts c reference pairs width is =
    let w = identifier_width c in
    let r = reference_bits c reference in
    let rest = all_bits sequence pairs in
    sym (append_assoc (bits_of (width + 1) 1) r rest
    ∙ (ap (λ (n : ℕ). bits_of (n + 1) 1 ++ (r ++ rest)) is
    ∙ (ap (λ (xs : List Bool). xs ++ (r ++ rest)) (zeros_first w 1 (lit< tt))
    ∙ append_assoc (bits_of w 0) (true ∷ []) (r ++ rest))))

pub plain_parts : (c : Coding) (reference : Option ℕ) (codes : List ℕ) (width ones bits : ℕ) → width ≡ identifier_width c
    → ones ≡ 2 ^ identifier_width c - 1 → bits ≡ c.bits
    → coded_bits c (coded_of reference (Plain codes)) ≡ head_bits c ones width reference ++ all_bits (bits_of bits) codes
plain_parts c reference codes width ones bits is is' is'' =
    let w = identifier_width c in
    let r = reference_bits c reference in
    sym (append_assoc (bits_of width ones) r (all_bits (bits_of bits) codes)
    ∙ (ap (λ (n : ℕ). bits_of n ones ++ (r ++ all_bits (bits_of bits) codes)) is
    ∙ (ap (λ (n : ℕ). bits_of w n ++ (r ++ all_bits (bits_of bits) codes)) is'
    ∙ ap (λ (n : ℕ). bits_of w (2 ^ w - 1) ++ (r ++ all_bits (bits_of n) codes)) is'')))

pub split_parts : (c : Coding) (reference : Option ℕ) (k : ℕ) (high low : List ℕ) (width : ℕ) → width ≡ identifier_width c
    → coded_bits c (coded_of reference (Split k high low))
    ≡ (head_bits c (k + 1) width reference ++ all_bits sequence high) ++ all_bits (bits_of k) low
split_parts c reference k high low width is =
    let i = bits_of width (k + 1) in
    let r = reference_bits c reference in
    let h = all_bits sequence high in
    let l = all_bits (bits_of k) low in
    sym (ap (λ (xs : List Bool). xs ++ l) (append_assoc i r h)
    ∙ (append_assoc i (r ++ h) l ∙ (ap (λ (xs : List Bool). i ++ xs) (append_assoc r h l)
    ∙ ap (λ (n : ℕ). bits_of n (k + 1) ++ (r ++ (h ++ l))) is)))

-- an identifier of all ones, as a word of 32 bits has it
pub all_ones : (c : Coding) (width : ℕ) → width ≡ identifier_width c → width ≤ 5 → 1 * 2 ^ width % 2 ^ 32 - 1 ≡ 2 ^ identifier_width c - 1
all_ones c width is small = ap (λ n. n - 1) (one_shl width 32 (omega arith)) ∙ ap (λ w. 2 ^ w - 1) is

pub ones_fit : (width n : ℕ) → width ≤ 5 → n ≡ 1 * 2 ^ width % 2 ^ 32 → n - 1 < 2 ^ width
ones_fit width n small is =
    let one : 1 ≤ 2 ^ width = pow_pos width in
    omega (arith, one_shl width 32 (omega arith), is, one)

pub most_width : (c : Coding) → (1 ≤ identifier_width c) × (identifier_width c ≤ 5)
most_width c = (grind (arith, nat_tests), grind (arith, nat_tests))

-- k and 1 fit an identifier, and a word holds k bits
pub low_bits_few : (c : Coding) (k : ℕ) → k + 3 ≤ 2 ^ identifier_width c → (k < 32) × (k + 1 < 2 ^ identifier_width c)
low_bits_few c k few =
    let most : 2 ^ identifier_width c ≤ 2 ^ 5 = pow-le-pow_right {n = 2} (lit< tt) ((most_width c).1) in
    (omega (arith, few, most), omega (arith, few))

pub one_fits : (c : Coding) → 1 < 2 ^ (identifier_width c + 1)
one_fits c =
    let two : 1 ≤ identifier_width c + 1 = omega arith in
    let more : 2 ^ 1 ≤ 2 ^ (identifier_width c + 1) = pow-le-pow_right {n = 2} (lit< tt) two in
    omega (arith, more)

-- a number up to the greatest one has its bits
pub below_power : (bits n : ℕ) → n ≤ 2 ^ bits - 1 → n < 2 ^ bits
below_power bits n within = let one : 1 ≤ 2 ^ bits = pow_pos bits in omega (arith, within, one)

pub all_below : (bits : ℕ) (codes : List ℕ) → All (λ code. code ≤ 2 ^ bits - 1) codes → All (λ code. code < 2 ^ bits) codes
all_below bits codes all k d within = below_power bits (get_or codes k d) (all k d within)
