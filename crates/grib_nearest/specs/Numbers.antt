-- Whole numbers of any size, as sums of two parts, and their words.
use Rattle.std.specs.Prelude.{ℕ, ◌*◌, ◌^◌, ℤ, pos, neg_ℤ, ◌+ℤ◌, ◌*ℤ◌, nat_abs}
use Rattle.std.specs.Int.{is_negative}
use Rattle.std.specs.Float.Ieee.{Format}
use Rattle.grib_decimal.specs.Decimal.{or_0}
use Rattle.grib_nearest.specs.declared.number.Number.{Number}
use Rattle.grib_nearest.specs.declared.number.Number.TheVariants.{Near, Far}
use Rattle.grib_nearest.specs.Nearest.{nearest_word}
use Rattle.grib_nearest.specs.Values.{signed_word}

abbrev pub number_of : Number → ℤ
number_of (Near number) = number
number_of (Far sum) = (sum.high *ℤ pos (2 ^ sum.gap)) +ℤ sum.low

-- the word nearest to number * 2 ^ exponent * 10 ^ up / 10 ^ down
abbrev pub word_of : Format → ℤ → ℤ → ℕ → ℕ → ℕ
word_of f number exponent up down =
    signed_word f (is_negative number)
    (nearest_word f (nat_abs number * (2 ^ or_0 exponent * 10 ^ up)) (2 ^ or_0 (neg_ℤ exponent) * 10 ^ down))
