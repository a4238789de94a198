-- The fields of a binary32 word (IEEE 754): 1 bit of sign, 8 of exponent, 23 of fraction.
use Rattle.std.specs.Prelude.{ℕ, ◌/◌, ◌%◌, ◌^◌}

abbrev pub ieee_sign : ℕ → ℕ
ieee_sign word = word / 2 ^ 31

abbrev pub ieee_exponent : ℕ → ℕ
ieee_exponent word = word / 2 ^ 23 % 256

abbrev pub ieee_fraction : ℕ → ℕ
ieee_fraction word = word % 2 ^ 23
