-- Sections that are written as bits.
use Rattle.std.proofs.Common.{◌≡◌, ℕ, ◌+◌, ◌*◌, ◌^◌, ◌<◌, ◌≤◌, inl, inr, Bool, List, [], ◌∷◌, ◌++◌, length, take, drop, All, sym, ap, ◌∙◌, arith, subst, take-append-drop}
use Rattle.std.proofs.lemmas.List.{length-append, take_at, get_or_past}
use Rattle.std.proofs.lemmas.List.Elements.{All-nil, All-cons, All-append}
use Rattle.std.proofs.lemmas.Bool.{cases_lt}
use Rattle.grib_bits.specs.Bits.{bits}
use Rattle.grib_bits.specs.Octets.{StatesItself}
use Rattle.grib_bits.proofs.OctetBits.{AreOctets, length-bits, take-bits, same_from_bits}
use Rattle.grib_bits.proofs.OctetNumbers.{AreOctets-take}
use Rattle.grib_bits.specs.Encoding.{octets_of}
use Rattle.grib_bits.proofs.Encoding.{All-octets_of, num_on-octets_of}
use Rattle.grib_packing.specs.declared.column.Column.{Column}
use Rattle.grib_packing.specs.Packed.{padded, HasContents, HasNumbers}
use Rattle.grib_packing.proofs.Fields.{segment}

pub AreOctets-all : (s : List ℕ) → All (λ octet. octet < 256) s → AreOctets s
AreOctets-all s each i = elim (cases_lt i (length s)) [
  | inl within ↦ each i 0 within
  | inr past ↦ subst (λ (x : ℕ). x < 256) (sym (get_or_past s i 0 past)) (omega arith)
]

-- octets whose bits begin with those of other octets begin with these
pub front_is : (s front : List ℕ) (after : List Bool) → All (λ octet. octet < 256) s → All (λ octet. octet < 256) front → bits s ≡ bits front ++ after
    → s ≡ front ++ drop (length front) s
front_is s front after each each_front is =
    let n = length front in
    let long : n ≤ length s = omega (arith, length-bits s, ap length is, length-append (bits front) after, length-bits front) in
    let first : bits (take n s) ≡ bits front = sym (take-bits n s long) ∙ ap (take (8 * n)) is ∙ take_at (bits front) after (8 * n) (length-bits front) in
    sym (take-append-drop n s) ∙ ap (λ (xs : List ℕ). xs ++ drop n s)
    (same_from_bits (take n s) front (AreOctets-take n s (AreOctets-all s each)) (AreOctets-all front each_front) first)

-- octets 1 to 5 of a section of n octets
abbrev pub head_of : ℕ → ℕ → List ℕ
head_of n number = octets_of 4 n ++ number ∷ []

pub All-head_of : (n number : ℕ) → number < 256 → All (λ octet. octet < 256) (head_of n number)
All-head_of n number small =
    All-append (λ octet. octet < 256) (octets_of 4 n) (number ∷ []) (All-octets_of 4 n)
    (All-cons (λ octet. octet < 256) number [] small (All-nil (λ octet. octet < 256)))

-- a section with this head states its length and its number
pub states_itself : (s rest : List ℕ) (number n : ℕ) → s ≡ head_of n number ++ rest → length s ≡ n → n < 2 ^ 32 → StatesItself number s
states_itself s rest number n is long short = subst (StatesItself number) (sym is) (record {
  length_stands = num_on-octets_of 4 n (omega arith) ∙ sym long ∙ ap length is;
  least = omega arith;
  number_stands = omega arith;
})

pub has_contents : (s : List ℕ) (number n : ℕ) (contents : List Bool) → All (λ octet. octet < 256) s → number < 256 → n < 2 ^ 32
    → 8 * n ≡ 40 + length (padded contents) → bits s ≡ bits (head_of n number) ++ padded contents → HasContents number s contents
has_contents s number n contents each small short long is =
    let head = head_of n number in
    let whole : length s ≡ n = omega (arith, length-bits s, ap length is, length-append (bits head) (padded contents), length-bits head) in
    record {
      itself = states_itself s (drop 5 s) number n (front_is s head (padded contents) each (All-head_of n number small) is) whole short;
      are_octets = each;
      contents_stand = segment s (bits head) (padded contents) 5 is (length-bits head);
    }

-- the numbers of Section 5 are those of each column with this R, E and D
pub same_numbers : (s5 : List ℕ) (head column : Column) (values template b kind : ℕ) → column.reference ≡ head.reference → column.e ≡ head.e → column.d ≡ head.d
    → HasNumbers s5 head values template b kind → HasNumbers s5 column values template b kind
same_numbers s5 head column values template b kind same_reference same_e same_d numbers = record {
  itself = numbers.itself;
  are_octets = numbers.are_octets;
  values_stand = numbers.values_stand;
  template_stands = numbers.template_stands;
  reference_stands = numbers.reference_stands ∙ sym same_reference;
  binary_scale_stands = numbers.binary_scale_stands ∙ sym same_e;
  decimal_scale_stands = numbers.decimal_scale_stands ∙ sym same_d;
  bit_width_stands = numbers.bit_width_stands;
  kind_stands = numbers.kind_stands;
}
