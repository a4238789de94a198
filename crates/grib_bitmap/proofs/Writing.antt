-- Lemmas on a mask that is written word by word.
use Rattle.std.proofs.Common.{◌≡◌, ℕ, ◌+◌, ◌-◌, ◌*◌, ◌/◌, ◌%◌, ◌^◌, ◌<◌, ◌≤◌, Bool, false, List, ◌++◌, length, take, drop, get_or, replicate, refl, sym, ap, ap₂, ◌∙◌, subst, arith, append_assoc}
use Rattle.std.proofs.lemmas.List.{length-append, take_more, take-append-le}
use Rattle.std.proofs.lemmas.Nat.{shr_below}
use Rattle.grib_bits.specs.Bits.{bits_of}
use Rattle.grib_bits.specs.Written.{padding}
use Rattle.grib_bits.proofs.Numbers.{take-bits_of}
use Rattle.grib_bitmap.specs.Words.{word_bits, bits_of_words}
use Rattle.grib_bitmap.proofs.WordBits.{word_bits-is, length-word_bits, bits_of_words_push, take-bits_of_words, drop_word}
use Rattle.grib_bitmap.proofs.Made.{take_both}

pub written_more : (old out new : List Bool) (words : List ℕ) (index word k : ℕ) → k ≡ 64 → index < length words → word ≡ get_or words index 0
    → new ≡ out ++ bits_of k word → out ≡ old ++ bits_of_words (take index words) → new ≡ old ++ bits_of_words (take (index + 1) words)
written_more old out new words index word k e within is_word is_new before =
    let more : bits_of_words (take (index + 1) words) ≡ bits_of_words (take index words) ++ word_bits word =
    ap bits_of_words (take_more words index 0 within) ∙ bits_of_words_push (take index words) (get_or words index 0)
    ∙ ap (λ (w : ℕ). bits_of_words (take index words) ++ word_bits w) (sym is_word) in
    is_new ∙ ap₂ ◌++◌ before (sym (word_bits-is k word e))
    ∙ append_assoc old (bits_of_words (take index words)) (word_bits word)
    ∙ ap (λ (xs : List Bool). old ++ xs) (sym more)

-- the first bits of a word
pub front-lt : (word count : ℕ) → word < 2 ^ 64 → count < 64 → word / 2 ^ (64 - count) < 2 ^ count
front-lt word count fits short =
    let whole : count + (64 - count) ≡ 64 = omega arith in
    shr_below word count (64 - count) (subst (λ (n : ℕ). word < 2 ^ n) (sym whole) fits)

take-word_bits_at : (k word count : ℕ) → k ≡ 64 → count ≤ 64 → take count (word_bits word) ≡ bits_of count (word / 2 ^ (64 - count))
take-word_bits_at k word count e short =
    let same : k - count ≡ 64 - count = omega arith in
    ap (take count) (word_bits-is k word e) ∙ take-bits_of count k word (omega arith) ∙ ap (λ (n : ℕ). bits_of count (word / 2 ^ n)) same

-- all bits of a mask, whose last word holds a few
pub written_last : (old out new : List Bool) (words : List ℕ) (points index word : ℕ) → index ≡ points / 64 → index < length words → word ≡ get_or words index 0
    → new ≡ out ++ bits_of (points % 64) (word / 2 ^ (64 - points % 64)) → out ≡ old ++ bits_of_words (take index words)
    → new ≡ old ++ take points (bits_of_words words)
written_last old out new words points index word is_index within is_word is_new before =
    let rest = points % 64 in
    let behind = bits_of_words (drop (index + 1) words) in
    let whole : points ≡ 64 * index + rest = omega arith in
    let last : take rest (drop (64 * index) (bits_of_words words)) ≡ bits_of rest (word / 2 ^ (64 - rest)) =
    ap (take rest) (drop_word index words within)
    ∙ take-append-le rest (word_bits (get_or words index 0)) behind (omega (arith, length-word_bits (get_or words index 0)))
    ∙ ap (λ (w : ℕ). take rest (word_bits w)) (sym is_word)
    ∙ take-word_bits_at 64 word rest refl (omega arith) in
    let all : take points (bits_of_words words) ≡ bits_of_words (take index words) ++ bits_of rest (word / 2 ^ (64 - rest)) =
    ap (λ (n : ℕ). take n (bits_of_words words)) whole ∙ take_both (64 * index) rest (bits_of_words words)
    ∙ ap₂ ◌++◌ (take-bits_of_words index words (omega arith)) last in
    is_new ∙ ap (λ (xs : List Bool). xs ++ bits_of rest (word / 2 ^ (64 - rest))) before
    ∙ append_assoc old (bits_of_words (take index words)) (bits_of rest (word / 2 ^ (64 - rest)))
    ∙ ap (λ (xs : List Bool). old ++ xs) (sym all)

-- the same where whole words hold them all
pub written_whole : (old out : List Bool) (words : List ℕ) (points index : ℕ) → index ≡ points / 64 → points % 64 ≤ 0 → index ≤ length words
    → out ≡ old ++ bits_of_words (take index words) → out ≡ old ++ take points (bits_of_words words)
written_whole old out words points index is_index none within before =
    let whole : 64 * index ≡ points = omega arith in
    before ∙ ap (λ (xs : List Bool). old ++ xs) (sym (take-bits_of_words index words within) ∙ ap (λ (n : ℕ). take n (bits_of_words words)) whole)

-- the padding behind whole octets is that of the mask
pub padding-behind : (old mask out : List Bool) → length old % 8 ≡ 0 → out ≡ old ++ mask → padding out ≡ padding mask
padding-behind old mask out whole is_out = omega (arith, ap length is_out, length-append old mask)

pub written_aligned : (old mask out new : List Bool) → length old % 8 ≡ 0 → out ≡ old ++ mask → new ≡ out ++ replicate (padding out) false
    → new ≡ old ++ (mask ++ replicate (padding mask) false)
written_aligned old mask out new whole is_out is_new =
    is_new ∙ ap₂ (λ (xs : List Bool) (n : ℕ). xs ++ replicate n false) is_out (padding-behind old mask out whole is_out)
    ∙ append_assoc old mask (replicate (padding mask) false)
