-- Lemmas on a writer's octets and its word of pending bits.
use Rattle.std.proofs.Common.{◌≡◌, ℕ, ◌+◌, ◌-◌, ◌*◌, ◌/◌, ◌%◌, ◌^◌, ◌<◌, ◌≤◌, Bool, List, [], ◌∷◌, ◌++◌, length, bit_and, bit_or, sym, ap, ◌∙◌, arith, append_assoc}
use Rattle.std.proofs.lemmas.List.{length-append, append-nil}
use Rattle.std.proofs.lemmas.Nat.{shr_below, and_mask}
use Rattle.std.specs.Int.{w64, to_be_bytes}
use Rattle.grib_bits.specs.Bits.{bits, bits_of}
use Rattle.grib_bits.proofs.Numbers.{length-bits_of, bits_of-add, bits_of-mod, bits_of-shl_or, shl_plus, shl_plus-lt, shl_shl_one}
use Rattle.grib_bits.proofs.OctetBits.{length-bits, bits-append, bits-to_be_bytes}

-- the bits of a writer
abbrev pub written : List ℕ → ℕ → ℕ → List Bool
written octets count word = bits octets ++ bits_of count word

pub length-written : (octets : List ℕ) (count word : ℕ) → length (written octets count word) ≡ 8 * length octets + count
length-written octets count word = omega (arith, length-append (bits octets) (bits_of count word), length-bits octets, length-bits_of count word)

-- a value behind the pending bits, where it fits into the word
pub written_behind : (octets : List ℕ) (count word width value : ℕ) → count + width ≤ 64 → value < 2 ^ width
    → written octets (count + width) (bit_or (word * 2 ^ width % 2 ^ 64) value) ≡ written octets count word ++ bits_of width value
written_behind octets count word width value within fits =
    ap (λ (xs : List Bool). bits octets ++ xs) (bits_of-shl_or count width word value within fits)
    ∙ sym (append_assoc (bits octets) (bits_of count word) (bits_of width value))

-- a value whose first bits fill the word, which becomes eight octets, and whose others are pending
pub written_over : (octets more : List ℕ) (count free word width value : ℕ) → count + free ≡ 64 → 0 < free → free ≤ width → value < 2 ^ width
    → more ≡ to_be_bytes w64 (word * 2 ^ (free - 1) % 2 ^ 64 * 2 ^ 1 % 2 ^ 64 + value / 2 ^ (width - free))
    → written (octets ++ more) (width - free) value ≡ written octets count word ++ bits_of width value
written_over octets more count free word width value filled some over fits is_full =
    let rest = width - free in
    let top = value / 2 ^ rest in
    let whole : free + rest ≡ width = omega arith in
    let below : value < 2 ^ (free + rest) = rw whole fits in
    let full = word * 2 ^ (free - 1) % 2 ^ 64 * 2 ^ 1 % 2 ^ 64 + top in
    let top_fits = shr_below value free rest below in
    let joined : full ≡ bit_or (word * 2 ^ free % 2 ^ 64) top =
    ap (λ (n : ℕ). n + top) (shl_shl_one word free some) ∙ shl_plus word free top (omega arith) top_fits in
    let word_bits : bits more ≡ bits_of count word ++ bits_of free top =
    ap bits is_full ∙ bits-to_be_bytes full (count + free) filled
    ∙ ap (bits_of (count + free)) joined
    ∙ bits_of-shl_or count free word top (omega arith) top_fits in
    let value_bits : bits_of width value ≡ bits_of free top ++ bits_of rest value =
    ap (λ (w : ℕ). bits_of w value) (sym whole) ∙ bits_of-add free rest value in
    let before = bits octets in
    ap (λ (xs : List Bool). xs ++ bits_of rest value) (bits-append octets more ∙ ap (λ (xs : List Bool). before ++ xs) word_bits)
    ∙ simp append_assoc (ap (λ (xs : List Bool). before ++ (bits_of count word ++ xs)) (sym value_bits))

-- the sum that makes the full word does not overflow
pub full-lt : (free word width value : ℕ) → 0 < free → free ≤ 64 → free ≤ width → value < 2 ^ width
    → word * 2 ^ (free - 1) % 2 ^ 64 * 2 ^ 1 % 2 ^ 64 + value / 2 ^ (width - free) < 2 ^ 64
full-lt free word width value some short over fits =
    let rest = width - free in
    let whole : free + rest ≡ width = omega arith in
    let below : value < 2 ^ (free + rest) = rw whole fits in
    let top_fits = shr_below value free rest below in
    omega (arith, shl_shl_one word free some, shl_plus-lt word free (value / 2 ^ rest) short top_fits)

-- one octet that leaves the word, as the writer is emptied
pub written_out : (octets : List ℕ) (count word : ℕ) → 8 ≤ count → written (octets ++ bit_and (word / 2 ^ (count - 8)) 255 ∷ []) (count - 8) word ≡ written octets count word
written_out octets count word h =
    let rest = count - 8 in
    let next = word / 2 ^ rest in
    let octet : bits (bit_and next 255 ∷ []) ≡ bits_of 8 next =
    ap (λ (n : ℕ). bits (n ∷ [])) (and_mask next 8) ∙ append-nil (bits_of 8 (next % 2 ^ 8)) ∙ bits_of-mod 8 next in
    let pending : bits_of count word ≡ bits_of 8 next ++ bits_of rest word =
    let whole : 8 + rest ≡ count = omega arith in
    ap (λ (w : ℕ). bits_of w word) (sym whole) ∙ bits_of-add 8 rest word in
    ap (λ (xs : List Bool). xs ++ bits_of rest word) (bits-append octets (bit_and next 255 ∷ []) ∙ ap (λ (xs : List Bool). bits octets ++ xs) octet)
    ∙ append_assoc (bits octets) (bits_of 8 next) (bits_of rest word)
    ∙ ap (λ (xs : List Bool). bits octets ++ xs) (sym pending)
