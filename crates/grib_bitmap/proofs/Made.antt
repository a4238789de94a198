-- Lemmas on words that are made of octets, or of ones.
use Rattle.std.proofs.Common.{◌≡◌, ℕ, zero, suc, ◌+◌, ◌-◌, ◌*◌, ◌/◌, ◌%◌, ◌^◌, ◌<◌, ◌≤◌, Bool, true, false, not, List, [], ◌∷◌, ◌++◌, map, length, take, drop, replicate, refl, sym, ap, ap₂, ◌∙◌, subst, arith, append_assoc}
use Rattle.std.proofs.lemmas.List.{length-drop, length-take-le, take-append-drop, take-take, drop-take, take_rest, replicate-append-replicate}
use Rattle.std.proofs.lemmas.Nat.{pow_pos, one_shl}
use Rattle.byteorder.specs.Endian.{big_number}
use Rattle.grib_bits.specs.Bits.{bits, bits_of, num}
use Rattle.grib_bits.proofs.Numbers.{num-lt, bits_of-num, bits_of-zero}
use Rattle.grib_bits.proofs.OctetBits.{AreOctets, length-bits, take-bits, drop-bits, big_from-bits}
use Rattle.grib_bits.proofs.OctetNumbers.{AreOctets-drop}
use Rattle.grib_bitmap.specs.Words.{word_bits, bits_of_words, word_padding}
use Rattle.grib_bitmap.proofs.WordBits.{word_bits-is, bits_of_words_push, bits_of-not}

-- the first n + m elements
pub take_both : (n m : ℕ) (xs : List Bool) → take (n + m) xs ≡ take n xs ++ take m (drop n xs)
take_both n m xs =
    sym (take-append-drop n (take (n + m) xs)) ∙ ap₂ ◌++◌ (take-take n (n + m) xs (omega arith)) (drop-take n m xs)

-- ---- octets

-- the word that `read_u64` gives for a slice that begins with the eight octets
word_bits-octets : (octets : List ℕ) (i word : ℕ) → AreOctets octets → 8 * i + 8 ≤ length octets
    → word ≡ big_number 8 (take (length octets - 8 * i) (drop (8 * i) octets)) → word_bits word ≡ take 64 (drop (64 * i) (bits octets))
word_bits-octets octets i word known within is_word =
    let rest = drop (8 * i) octets in
    let front = bits (take 8 rest) in
    let enough : 8 ≤ length rest = omega (arith, length-drop (8 * i) octets) in
    let value : word ≡ num front =
    is_word ∙ ap (big_number 8) (take_rest octets (8 * i)) ∙ big_from-bits 0 8 rest (AreOctets-drop (8 * i) octets known) enough in
    let long : length front ≡ 64 = length-bits (take 8 rest) ∙ ap (λ (n : ℕ). 8 * n) (length-take-le 8 rest enough) in
    let place : 8 * (8 * i) ≡ 64 * i = omega arith in
    word_bits-is (length front) word long ∙ ap (bits_of (length front)) value ∙ bits_of-num front
    ∙ sym (take-bits 8 rest enough)
    ∙ ap (take (8 * 8)) (sym (drop-bits (8 * i) octets (omega arith)) ∙ ap (λ (n : ℕ). drop n (bits octets)) place)

pub octets_more : (octets words new : List ℕ) (i word : ℕ) → AreOctets octets → 8 * i + 8 ≤ length octets
    → word ≡ big_number 8 (take (length octets - 8 * i) (drop (8 * i) octets)) → new ≡ words ++ word ∷ []
    → bits_of_words words ≡ take (64 * i) (bits octets) → bits_of_words new ≡ take (64 * (i + 1)) (bits octets)
octets_more octets words new i word known within is_word is_new before =
    let whole : 64 * i + 64 ≡ 64 * (i + 1) = omega arith in
    ap bits_of_words is_new ∙ bits_of_words_push words word
    ∙ ap₂ ◌++◌ before (word_bits-octets octets i word known within is_word)
    ∙ sym (take_both (64 * i) 64 (bits octets)) ∙ ap (λ (n : ℕ). take n (bits octets)) whole

-- the last bits, which do not fill a word
module _ (octets : List ℕ) (count index place number : ℕ) (within : count ≤ 8 * length octets) (is_index : index ≡ count / 64) (is_place : place ≡ index) (is_number : number ≡ num (take (count % 64) (drop (64 * place) (bits octets)))) where
  last_bits : List Bool
  last_bits = take (count % 64) (drop (64 * index) (bits octets))

  length-last_bits : length last_bits ≡ count % 64
  unfolding last_bits
  length-last_bits = length-take-le (count % 64) (drop (64 * index) (bits octets)) (omega (arith, length-drop (64 * index) (bits octets), length-bits octets))

  number_of_last : number ≡ num last_bits
  unfolding last_bits
  number_of_last = is_number ∙ ap (λ (n : ℕ). num (take (count % 64) (drop (64 * n) (bits octets)))) is_place

  pub last-lt : number < 2 ^ (count % 64)
  last-lt = subst (λ (n : ℕ). number < 2 ^ n) length-last_bits (subst (λ (n : ℕ). n < 2 ^ length last_bits) (sym number_of_last) (num-lt last_bits))

  pub octets_all : (words new : List Bool) → words ≡ take (64 * index) (bits octets)
      → new ≡ words ++ (bits_of (count % 64) number ++ replicate ((64 - count % 64) % 64) false)
      → new ≡ take count (bits octets) ++ replicate (word_padding count) false
  unfolding last_bits
  octets_all words new before is_new =
      let zeros = replicate (word_padding count) false in
      let whole : 64 * index + count % 64 ≡ count = omega arith in
      let last : bits_of (count % 64) number ≡ last_bits =
      ap₂ bits_of (sym length-last_bits) number_of_last ∙ bits_of-num last_bits in
      is_new ∙ ap₂ (λ xs ys. xs ++ (ys ++ zeros)) before last
      ∙ sym (append_assoc (take (64 * index) (bits octets)) last_bits zeros)
      ∙ ap (λ (xs : List Bool). xs ++ zeros) (sym (take_both (64 * index) (count % 64) (bits octets)) ∙ ap (λ (n : ℕ). take n (bits octets)) whole)

-- ---- ones

not-zeros : (n : ℕ) → map not (replicate n false) ≡ replicate n true
not-zeros zero = refl
not-zeros (suc n) = ap (λ (ys : List Bool). true ∷ ys) (not-zeros n)

bits_of-ones : (k : ℕ) → bits_of k (2 ^ k - 1) ≡ replicate k true
bits_of-ones k =
    let same : 2 ^ k - 1 ≡ 2 ^ k - 1 - 0 = omega arith in
    ap (bits_of k) same ∙ bits_of-not k 0 (pow_pos k) ∙ ap (map not) (bits_of-zero k) ∙ not-zeros k

word_bits-ones_at : (k : ℕ) → k ≡ 64 → word_bits (2 ^ 64 - 1) ≡ replicate k true
word_bits-ones_at k e = word_bits-is k (2 ^ 64 - 1) e ∙ ap (λ (j : ℕ). bits_of k (2 ^ j - 1)) (sym e) ∙ bits_of-ones k

pub ones_more : (words new : List ℕ) (index : ℕ) → new ≡ words ++ (2 ^ 64 - 1) ∷ [] → bits_of_words words ≡ replicate (64 * index) true → bits_of_words new ≡ replicate (64 * (index + 1)) true
ones_more words new index is_new before =
    let whole : 64 * index + 64 ≡ 64 * (index + 1) = omega arith in
    ap bits_of_words is_new ∙ bits_of_words_push words (2 ^ 64 - 1)
    ∙ ap₂ ◌++◌ before (word_bits-ones_at 64 refl)
    ∙ replicate-append-replicate (64 * index) 64 true ∙ ap (λ (n : ℕ). replicate n true) whole

pub ones_all : (words new : List Bool) (count index : ℕ) → index ≡ count / 64 → words ≡ replicate (64 * index) true
    → new ≡ words ++ (bits_of (count % 64) (1 * 2 ^ (count % 64) % 2 ^ 64 - 1) ++ replicate ((64 - count % 64) % 64) false)
    → new ≡ replicate count true ++ replicate (word_padding count) false
ones_all words new count index is_index before is_new =
    let zeros = replicate (word_padding count) false in
    let rest = count % 64 in
    let whole : 64 * index + rest ≡ count = omega arith in
    let last : bits_of rest (1 * 2 ^ rest % 2 ^ 64 - 1) ≡ replicate rest true =
    ap (λ (n : ℕ). bits_of rest (n - 1)) (one_shl rest 64 (omega arith)) ∙ bits_of-ones rest in
    is_new ∙ ap₂ (λ xs ys. xs ++ (ys ++ zeros)) before last
    ∙ sym (append_assoc (replicate (64 * index) true) (replicate rest true) zeros)
    ∙ ap (λ (xs : List Bool). xs ++ zeros) (replicate-append-replicate (64 * index) rest true ∙ ap (λ (n : ℕ). replicate n true) whole)
