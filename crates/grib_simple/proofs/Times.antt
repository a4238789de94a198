-- One number that is written many times.
use Rattle.std.proofs.Common.{◌≡◌, ℕ, zero, suc, ◌+◌, ◌-◌, ◌*◌, ◌/◌, ◌%◌, ◌^◌, ◌<◌, ◌≤◌, Bool, List, [], ◌∷◌, ◌++◌, length, replicate, bit_or, refl, sym, ap, ap₂, ◌∙◌, arith, append_assoc, add-mul}
use Rattle.std.proofs.Math.Nat.{mul-le-mul_right}
use Rattle.std.proofs.lemmas.List.{append-nil, length-append, replicate-append-replicate}
use Rattle.std.proofs.lemmas.Nat.{div-add-mod'}
use Rattle.grib_bits.specs.Bits.{bits_of}
use Rattle.grib_bits.proofs.Numbers.{bits_of-shl_or, shl_or-lt}
use Rattle.grib_packing.specs.Packed.{fields}

pub fields-append : (w : ℕ) (ms ns : List ℕ) → fields w (ms ++ ns) ≡ fields w ms ++ fields w ns
fields-append w [] ns = refl
fields-append w (m ∷ ms) ns =
    ap (λ (bs : List Bool). bits_of w m ++ bs) (fields-append w ms ns) ∙ sym (append_assoc (bits_of w m) (fields w ms) (fields w ns))

-- m times, and n times more
pub times-add : (w m n number : ℕ) → fields w (replicate (m + n) number) ≡ fields w (replicate m number) ++ fields w (replicate n number)
times-add w m n number =
    ap (fields w) (sym (replicate-append-replicate m n number)) ∙ fields-append w (replicate m number) (replicate n number)

-- ---- in a word

pub shorter : (w i count : ℕ) → i < count → count * w ≤ 64 → i * w + w ≤ 64
shorter w i count here room =
    let more : (i + 1) * w ≤ count * w = mul-le-mul_right w (omega arith) in
    omega (arith, more, room, add-mul i 1 w)

module _ (w i word number : ℕ) (room : i * w + w ≤ 64) (small : number < 2 ^ w) where
  pub once_more : bits_of (i * w) word ≡ fields w (replicate i number)
      → bits_of ((i + 1) * w) (bit_or (word * 2 ^ w % 2 ^ 64) number) ≡ fields w (replicate (i + 1) number)
  once_more before =
      let long : (i + 1) * w ≡ i * w + w = omega (arith, add-mul i 1 w) in
      let one : bits_of w number ≡ fields w (replicate 1 number) = sym (append-nil (bits_of w number)) in
      ap (λ (k : ℕ). bits_of k (bit_or (word * 2 ^ w % 2 ^ 64) number)) long
      ∙ bits_of-shl_or (i * w) w word number room small
      ∙ ap₂ ◌++◌ before one
      ∙ sym (times-add w i 1 number)

  pub once_more-lt : word < 2 ^ (i * w) → bit_or (word * 2 ^ w % 2 ^ 64) number < 2 ^ ((i + 1) * w)
  once_more-lt before =
      let long : i * w + w ≡ (i + 1) * w = omega (arith, add-mul i 1 w) in
      rw (sym long) (shl_or-lt (i * w) w word number room before small)

-- ---- word by word

-- a word with `at_once` numbers, this many times, is this many times as many numbers
pub by_words : (w at_once word number times : ℕ) → bits_of (at_once * w) word ≡ fields w (replicate at_once number)
    → fields (at_once * w) (replicate times word) ≡ fields w (replicate (times * at_once) number)
by_words w at_once word number zero is =
    let none : 0 ≡ 0 * at_once = omega arith in
    ap (λ (k : ℕ). fields w (replicate k number)) none
by_words w at_once word number (suc times) is =
    let more : at_once + times * at_once ≡ suc times * at_once = omega (arith, add-mul 1 times at_once) in
    ap₂ ◌++◌ is (by_words w at_once word number times is)
    ∙ sym (times-add w at_once (times * at_once) number)
    ∙ ap (λ (k : ℕ). fields w (replicate k number)) more

-- and the numbers that are left after whole words
pub words_and_rest : (w at_once word number count : ℕ) → bits_of (at_once * w) word ≡ fields w (replicate at_once number)
    → fields w (replicate count number) ≡ fields (at_once * w) (replicate (count / at_once) word) ++ fields w (replicate (count % at_once) number)
words_and_rest w at_once word number count is =
    ap (λ (k : ℕ). fields w (replicate k number)) (sym (div-add-mod' count at_once))
    ∙ times-add w (count / at_once * at_once) (count % at_once) number
    ∙ ap (λ (bs : List Bool). bs ++ fields w (replicate (count % at_once) number)) (sym (by_words w at_once word number (count / at_once) is))

pub length-words_and_rest : (w at_once word number count : ℕ) → bits_of (at_once * w) word ≡ fields w (replicate at_once number)
    → length (fields w (replicate count number))
    ≡ length (fields (at_once * w) (replicate (count / at_once) word)) + length (fields w (replicate (count % at_once) number))
length-words_and_rest w at_once word number count is =
    ap length (words_and_rest w at_once word number count is)
    ∙ length-append (fields (at_once * w) (replicate (count / at_once) word)) (fields w (replicate (count % at_once) number))

-- ---- one after another

pub next_time : (number count i : ℕ) → i < count → replicate (count - i) number ≡ number ∷ replicate (count - (i + 1)) number
next_time number count i here =
    let more : count - i ≡ suc (count - (i + 1)) = omega arith in
    ap (λ (k : ℕ). replicate k number) more
