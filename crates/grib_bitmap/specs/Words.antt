-- Bits that stand in words of 64, the first the most significant of the first word.
use Rattle.std.specs.Prelude.{◌≡◌, ℕ, ◌+◌, ◌-◌, ◌*◌, ◌%◌, ◌^◌, ◌<◌, Bool, false, List, [], ◌∷◌, ◌++◌, length, drop, replicate}
use Rattle.grib_bits.specs.Bits.{bits_of}

-- the bits of one word
unfoldable pub word_bits : ℕ → List Bool
word_bits word = bits_of 64 word

abbrev pub bits_of_words : List ℕ → List Bool
bits_of_words [] = []
bits_of_words (word ∷ words) = word_bits word ++ bits_of_words words

-- how many bits are missing up to the end of a word, from 0 to 63
abbrev pub word_padding : ℕ → ℕ
word_padding count = (64 - count % 64) % 64

-- The words hold `count` bits, and behind them zeros up to the end of a word.
pub record HoldBits (words : List ℕ) (count : ℕ) : Type 0 where
  pub few : count < 2 ^ 32
  pub long : 64 * length words ≡ count + word_padding count
  pub zeros : drop count (bits_of_words words) ≡ replicate (word_padding count) false
